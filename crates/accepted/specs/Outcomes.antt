-- What a call leaves, by its number: 0 is success.
use Prim.Native.Nat.{ℕ, zero, suc}
use Rattle.std.proofs.Common.{arith, ◌∙◌}
use Rattle.std.specs.Prelude.{◌≡◌}
use Rattle.std.proofs.Math.Path.{refl, sym}
use Rattle.definition.specs.Outcome.{by_number}

module _ {A : Type 0} (kept done : A) where
  pub by_refusal : (k : ℕ) → (k ≡ 0 → ⊥) → by_number k kept done ≡ kept
  unfolding by_number
  by_refusal zero h = absurd (h refl)
  by_refusal (suc k) h = refl

  pub by_success : (k : ℕ) → k ≡ 0 → by_number k kept done ≡ done
  unfolding by_number
  by_success zero h = refl
  by_success (suc k) h = absurd (omega arith)

  -- a refusal says its number: what says 0 is no refusal
  pub said_zero : (says : A → ℕ) (k : ℕ) → says kept ≡ k → says (by_number k kept done) ≡ 0 → k ≡ 0
  unfolding by_number
  said_zero says zero e h = refl
  said_zero says (suc k) e h = sym e ∙ h

  -- and what says 0 of a success says the number
  pub said_number : (says : A → ℕ) (k : ℕ) → says kept ≡ k → says done ≡ 0 → says (by_number k kept done) ≡ k
  unfolding by_number
  said_number says zero e d = d
  said_number says (suc k) e d = e
