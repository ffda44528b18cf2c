-- The outcome of a call that fills a slice, by the number of its first refusal.
use Rattle.std.specs.Prelude.{◌≡◌, ℕ, zero, suc, ◌<◌, List, refl}
use Rattle.std.proofs.Common.{◌∙◌, ap, arith}
use Rattle.definition.specs.Draws.{Drawn}
use Rattle.definition.specs.Outcome.{refused, done, by_number, FillOut, FillMeets, fill_kept, fill_done}
use Rattle.draws.specs.declared.Stepped.{Stepped}
use Rattle.draws.specs.Says.{stepped, Leaves}

pub kept_meets : (number k s : ℕ) (l : List ℕ) (success : FillOut) (r : Stepped) → 0 < k → number ≡ k → r ≡ stepped s (refused k)
    → FillMeets (by_number number (fill_kept number l s) success) (record { answer = r.answer; out = l; state = r.state })
unfolding by_number fill_kept
kept_meets number zero s l success r pos e q = absurd (omega arith)
kept_meets number (suc k) s l success r pos e q =
    rw e (record { answer_is = ap (λ (x : Stepped). x.answer) q; out_is = refl; state_is = ap (λ (x : Stepped). x.state) q })

pub done-meets : (number s s' : ℕ) (l after : List ℕ) (d : Drawn) (r : Stepped) → number ≡ 0 → Leaves d l s' after → r ≡ stepped s' done
    → FillMeets (by_number number (fill_kept number l s) (fill_done d l)) (record { answer = r.answer; out = after; state = r.state })
unfolding by_number fill_done
done-meets number s s' l after d r e f q =
    rw e (record { answer_is = ap (λ (x : Stepped). x.answer) q; out_is = f.words_are; state_is = ap (λ (x : Stepped). x.state) q ∙ f.state_is })
