-- A loop with no way out that looks for an element which fails a test: `found` after i elements.
use Rattle.std.specs.Prelude.{◌≡◌, refl, Bool, true, false, not, ◌&&◌, ◌||◌, List, ℕ, ◌+◌, ◌≤◌, ◌<◌, length, get_or, drop}
use Rattle.std.proofs.Common.{sym, ap, ◌∙◌, arith}
use Rattle.std.proofs.Math.Bool.{or-false, not-not}
use Rattle.definition.specs.Lists.{each}
use Rattle.laws.specs.Members.{each_step, each_end}

pub record Looked (p : ℕ → Bool) (l : List ℕ) (i : ℕ) (found : Bool) : Type 0 where
  pub upto : i ≤ length l
  pub same : (found || not (each p (drop i l))) ≡ not (each p l)

pub look_more : (p : ℕ → Bool) (l : List ℕ) (i : ℕ) (found fails : Bool) → Looked p l i found → i < length l → fails ≡ not (p (get_or l i 0))
    → Looked p l (i + 1) (found || fails)
look_more p l i found fails w h e =
    record {
      upto = omega arith;
      same = rw e (one (p (get_or l i 0)) found (each p (drop (i + 1) l))) ∙ ap (λ (t : Bool). found || not t) (sym (each_step p l i h)) ∙ w.same;
    }
  where
    one : (t f rest : Bool) → ((f || not t) || not rest) ≡ (f || not (t && rest))
    one t true rest = refl
    one true false rest = refl
    one false false rest = refl

module _ (p : ℕ → Bool) (l : List ℕ) (i : ℕ) (found : Bool) (w : Looked p l i found) (h : length l ≤ i) where
  pub look_end : found ≡ not (each p l)
  look_end = sym (or-false found) ∙ ap (λ (t : Bool). found || not t) (sym (each_end p l i h)) ∙ w.same

  pub look_none : not found ≡ each p l
  look_none = ap not look_end ∙ not-not (each p l)
