-- Two numbers less than m apart have two remainders modulo m.
use Rattle.std.specs.Prelude.{ℕ, suc, ◌+◌, ◌*◌, ◌/◌, ◌%◌, ◌≤◌, ◌<◌, ◌≡◌, ltb}
use Rattle.std.proofs.Common.{mul-le-mul_right, suc-mul, div-add-mod', arith, sym, ltb-true, ltb-false}
use Rattle.laws.specs.Truth.{decide}

-- a step of less than m leads to another remainder
pub window : (m a b : ℕ) → a < b → b < a + m → a % m ≡ b % m → ⊥
window m a b lo hi e =
    decide (ltb (a / m) (b / m))
    (λ t.
    let l : suc (a / m) ≤ b / m = ltb-true (a / m) (b / m) t in
    let k : suc (a / m) * m ≤ b / m * m = mul-le-mul_right m l in
    omega (arith, suc-mul (a / m) m, k, div-add-mod' a m, div-add-mod' b m, e))
    (λ t.
    let l : b / m ≤ a / m = ltb-false (a / m) (b / m) t in
    let k : b / m * m ≤ a / m * m = mul-le-mul_right m l in
    omega (arith, k, div-add-mod' a m, div-add-mod' b m, e))

-- so two of the m numbers from r that have one remainder are one
pub window-one : (m r a b : ℕ) → r ≤ a → a < r + m → r ≤ b → b < r + m → a % m ≡ b % m → a ≡ b
window-one m r a b la ha lb hb e =
    decide (ltb a b) (λ t. let l = ltb-true a b t in absurd (window m a b l (omega arith) e))
    (λ t. let l = ltb-false a b t in
    decide (ltb b a) (λ u. let k = ltb-true b a u in absurd (window m b a k (omega arith) (sym e))) (λ u. let k = ltb-false b a u in omega arith))
