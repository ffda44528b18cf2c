-- Demand 3, second sentence, of a lookup, over what a caller holds: `LookupHeld`.
use Rattle.std.specs.Prelude.{ℕ, ◌≤◌, ◌<◌, ◌≡◌, ◌≢◌, ◌⊎◌, not, eqb}
use Rattle.std.proofs.Common.{sym, ◌∙◌, subst, ne_eqb}
use Rattle.std.proofs.Math.Logic.{inl, inr}
use mathlib.Core.List.{List, Memᴰ as Mem}
use Rattle.definition.specs.Tables.{pad, ids}
use Rattle.definition.specs.Refusals.{SearchCall}
use Rattle.definition.specs.Outcome.{SearchOut, cleaned_call, lookup_out, LookupMeets}
use Rattle.laws.specs.Truth.{is_not}
use Rattle.laws.specs.Members.{keep_mem, mem_keep}
use Rattle.theory.specs.search.Tells.{Reachable, from_start, along, OnWay, SearchTells, Excludes}
use Rattle.accepted.specs.Checks.{count_low}
use Rattle.accepted.specs.Search.{search_accepted}
use Rattle.promises.specs.Searching.{rows_of}
use Rattle.promises.proofs.Held.{search_held}
use Rattle.promises.specs.LookingUp.{named_by, named-ids, said, LookupHeld}

-- Rows that name the same entries lead to the same entries, by the same ways
module _ (rows others : ℕ → List ℕ) (start : ℕ) (into : (i j : ℕ) → Mem j (rows i) → j ≢ pad → Mem j (others i)) where
  carried : {y : ℕ} → Reachable rows start y → Reachable others start y
  carried from_start = from_start
  carried (along way on_Row no_pad) = along (carried way) (into _ _ on_Row no_pad) no_pad

  on_carried : {y : ℕ} (way : Reachable rows start y) (e : ℕ) → OnWay (carried way) e → OnWay way e
  unfolding OnWay carried
  on_carried from_start e o = o
  on_carried (along way on_Row no_pad) e (inl q) = inl q
  on_carried (along way on_Row no_pad) e (inr o) = inr (on_carried way e o)

module _ (rows others : ℕ → List ℕ) (d : ℕ → ℕ) (start : ℕ) (answers : List ℕ) (last : ℕ)
    (into : (i j : ℕ) → Mem j (rows i) → j ≢ pad → Mem j (others i)) (back : (i j : ℕ) → Mem j (others i) → j ≢ pad → Mem j (rows i)) where
  tells_alike : (asked : ℕ) → SearchTells rows d start asked answers last → SearchTells others d start asked answers last
  tells_alike asked t =
      record {
        most = t.most;
        once = t.once;
        reachable = λ x m. carried rows others start into (t.reachable x m);
        all_if_fewer = λ h x way. t.all_if_fewer h x (carried others rows start back way);
        none_nearer = λ x y m h on_Row no_pad. t.none_nearer x y m h (back x y on_Row no_pad) no_pad;
      }

  excludes_alike : Excludes rows d start answers last → Excludes others d start answers last
  excludes_alike t y way = go (t y (carried others rows start back way))
    where
      go : Mem y answers ⊎ ((e : ℕ) × OnWay (carried others rows start back way) e × (last ≤ d e)) → Mem y answers ⊎ ((e : ℕ) × OnWay way e × (last ≤ d e))
      go (inl m) = inl m
      go (inr p) = inr (p.0, on_carried others rows start back way p.0 p.1, p.2)

pub lookup_held : (c : SearchCall) (o : SearchOut) → LookupMeets c o → o.answer.number ≡ 0 → LookupHeld c o.answer.count o.ids o.dists
unfolding lookup_out cleaned_call ids
lookup_held c o m z =
    let d = cleaned_call c in
    let low = count_low (search_accepted d (sym (said c o m) ∙ z)).nodes in
    let h = search_held d o
    (record { answer_is = m.answer_is; words_is = m.words_is; floats_is = m.floats_is; ids_are = m.ids_are; dists_are = m.dists_are }) z in
    record {
      held = h;
      tells = tells_alike _ _ _ _ _ _ (into low) (back low) _ h.tells;
      excludes = excludes_alike _ _ _ _ _ _ (into low) (back low) h.excludes;
    }
  where
    into : c.n < pad → (i j : ℕ) → Mem j (rows_of (cleaned_call c) i) → j ≢ pad → Mem j (named_by c i)
    into low i j on_Row no_pad =
        subst (λ (l : List ℕ). Mem j l) (named-ids c low i)
        (mem_keep (λ w. not (eqb w pad)) (rows_of (cleaned_call c) i) on_Row (is_not (eqb j pad) (ne_eqb j pad no_pad)))

    back : c.n < pad → (i j : ℕ) → Mem j (named_by c i) → j ≢ pad → Mem j (rows_of (cleaned_call c) i)
    back low i j on_Row no_pad = (keep_mem (λ w. not (eqb w pad)) _ (subst (λ (l : List ℕ). Mem j l) (sym (named-ids c low i)) on_Row)).0
