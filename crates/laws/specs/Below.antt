-- What holds of every number below a bound.
use Rattle.std.specs.Prelude.{ℕ, suc, ◌<◌, ◌≡◌, ltb}
use Rattle.std.proofs.Common.{arith, subst, ltb-true, ltb-false}
use Rattle.laws.specs.Truth.{decide}

-- what holds below i, and of i, holds below i + 1
pub one_further : (P : ℕ → Type 0) (i : ℕ) → ((j : ℕ) → j < i → P j) → P i → (j : ℕ) → j < suc i → P j
one_further P i f p j h = decide (ltb j i) (λ t. f j (ltb-true j i t)) (λ t. let le = ltb-false j i t in let q : i ≡ j = omega arith in subst P q p)
