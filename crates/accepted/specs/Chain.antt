-- A number as a chain of tests: go past a test that fails, stop at one that holds. What number 0 says of the first test, and what leads to number 0.
use Rattle.std.specs.Prelude.{◌≡◌, refl, Bool, true, false, ℕ, suc}
use Rattle.std.proofs.Common.{◌∙◌, arith}
use Rattle.definition.specs.Refusals.{◌when◌else◌}

pub past : (k : ℕ) (t : Bool) (r : ℕ) → t ≡ false → (k when t else r) ≡ r
unfolding ◌when◌else◌
past k t r e = rw e refl

pub stop : (k : ℕ) (t : Bool) (r : ℕ) → t ≡ true → (k when t else r) ≡ k
unfolding ◌when◌else◌
stop k t r e = rw e refl

-- the number is 0 only if the first test fails and the later ones say 0
pub passed : (k : ℕ) (t : Bool) (r : ℕ) → (suc k when t else r) ≡ 0 → (t ≡ false) × (r ≡ 0)
unfolding ◌when◌else◌
passed k true r e = absurd (omega arith)
passed k false r e = (refl, e)

pub pass : (k : ℕ) (t : Bool) (r : ℕ) → t ≡ false → r ≡ 0 → (k when t else r) ≡ 0
pass k t r p q = past k t r p ∙ q
