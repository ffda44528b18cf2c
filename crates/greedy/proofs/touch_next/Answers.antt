-- `touch_next`. An id is below 2 to the 32nd and a row has few words, so that where the row ends is not too large to count.
use Prim.Native.Nat.{ℕ, ◌*◌, ◌≤◌}
use native.Mathlib.Nat.{mul-le-mul}
use native.Mathlib.Omega.{arith}
use Rattle.scratch.specs.Layout.{widest}
use Rattle.greedy.proofs.touch_next.Goals as goal

-- where the row begins
small : (id width : ℕ) → id ≤ 4294967296 → width ≤ widest → id * width ≤ 4294967296 * widest
small id width h narrow = mul-le-mul h narrow

pub overflow_mul-from : goal.overflow_mul-from
overflow_mul-from c = omega (arith, small c.in-Some.next c.args.width (omega arith) c.requires.width_le_widest.0)

pub overflow_add-to : goal.overflow_add-to
overflow_add-to c = omega (arith, small c.in-Some.next c.args.width (omega arith) c.requires.width_le_widest.0)
