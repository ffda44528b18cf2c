-- The ids of a row, word by word: padding adds nothing, an id with its distance is one id more.
use mathlib.Core.Path.{◌≡◌, sym, ap, ◌∙◌}
use mathlib.Core.List.{List, [], ◌∷◌, ◌++◌, append-nil}
use Prim.Native.Nat.{ℕ, ◌+◌, ◌≤◌, ◌<◌}
use native.Mathlib.Numerals.{add-one}
use native.Mathlib.Omega.{arith}
use lib.ListN.{length, get_or, take}
use lib.Seq.{take-suc}
use Rattle.definition.specs.Lists.{keep}
use Rattle.definition.specs.Tables.{pad, ids}
use Rattle.laws.specs.Tables.{ids-append, ids-first, ids_skip}
use Rattle.laws.specs.Words.{padding}
use Rattle.batch_pool.specs.Pooled.{Pool, Pooled, Added}
use Rattle.batch_pool.proofs.Adding.{added_none, added_then}

module _ (row : List ℕ) (k : ℕ) (h : k < length row) where
  ids_next : ids (take (k + 1) row) ≡ ids (take k row) ++ ids (get_or row k 0 ∷ [])
  ids_next = ap ids (rw (add-one k) (take-suc row k 0 h)) ∙ ids-append (take k row) (get_or row k 0 ∷ [])

  ids_real : (get_or row k 0 ≡ padding → ⊥) → ids (take (k + 1) row) ≡ ids (take k row) ++ (get_or row k 0 ∷ [])
  unfolding ids keep pad
  ids_real n = ids_next ∙ ap (λ (l : List ℕ). ids (take k row) ++ l) (ids-first (get_or row k 0) [] n)

  ids-pad : get_or row k 0 ≡ padding → ids (take (k + 1) row) ≡ ids (take k row)
  unfolding ids keep pad
  ids-pad e = ids_next ∙ ap (λ (l : List ℕ). ids (take k row) ++ l) (ids_skip (get_or row k 0) [] e) ∙ append-nil (ids (take k row))

-- ---- the words of a row before place k have been added, with the distances d
pub record RowSoFar (n : ℕ) (row : List ℕ) (d : ℕ → ℕ) (before after : Pool) (k : ℕ) : Type 0 where
  pub le : k ≤ length row
  pub added : Added n before after (ids (take k row)) (λ f. f ≡ d)

module _ (n : ℕ) (row : List ℕ) (d : ℕ → ℕ) (p₀ : Pool) where
  pub row_start : Pooled n p₀ → RowSoFar n row d p₀ p₀ 0
  unfolding ids keep
  row_start h = record { le = omega arith; added = added_none (λ f. f ≡ d) h }

  module _ (p : Pool) (k : ℕ) (w : RowSoFar n row d p₀ p k) where
    module _ (h : k < length row) where
      pub row_pad : get_or row k 0 ≡ padding → RowSoFar n row d p₀ p (k + 1)
      row_pad e = record { le = omega arith; added = rw (ids-pad row k h e) w.added }

      pub row_real : (get_or row k 0 ≡ padding → ⊥) → (p₁ : Pool) (dist : ℕ) → dist ≡ d (get_or row k 0)
          → Added n p p₁ (get_or row k 0 ∷ []) (λ f. dist ≡ f (get_or row k 0)) → RowSoFar n row d p₀ p₁ (k + 1)
      row_real real p₁ dist e a =
          record {
            le = omega arith;
            added =
                rw (ids_real row k h real)
                (added_then (λ f. f ≡ d) w.added a (λ f g. g) (λ f g. e ∙ ap (λ (z : ℕ → ℕ). z (get_or row k 0)) (sym g)));
          }
