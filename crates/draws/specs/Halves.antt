-- A number of 32 bits times another, and the range of its upper half.
use Rattle.std.specs.Prelude.{ℕ, ◌*◌, ◌/◌, ◌^◌, ◌<◌}
use Rattle.std.proofs.Common.{lt_of_le_of_lt, mul-le-mul_left, mul-lt-mul_of_pos_right, le_of_lt, arith, pow_pos}

pub below : {a b : ℕ} → a < 2 ^ 32 → b < 2 ^ 32 → a * b < 2 ^ 64
below {a} {b} ha hb = lt_of_le_of_lt (mul-le-mul_left a (le_of_lt hb)) (mul-lt-mul_of_pos_right ha (pow_pos 32))

pub quotient_lt : (x : ℕ) → x < 2 ^ 64 → x / 4294967296 < 2 ^ 32
quotient_lt x h = omega arith
