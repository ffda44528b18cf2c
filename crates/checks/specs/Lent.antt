-- Parts of a list, as they are lent: `take (e - a) (drop a l)` for the part from a to e.
use Rattle.std.specs.Prelude.{◌≡◌, ℕ, ◌+◌, ◌-◌, ◌≤◌, List, length, take, drop, refl}
use Rattle.std.proofs.Common.{arith, length-drop, take_all}

pub part_is : (width a : ℕ) (l : List ℕ) → take (a + width - a) (drop a l) ≡ take width (drop a l)
part_is width a l = let e : a + width - a ≡ width = omega arith in rw e refl

-- the rest of a list, as it is lent
pub rest_is : (k : ℕ) (l : List ℕ) → k ≤ length l → take (length l - k) (drop k l) ≡ drop k l
rest_is k l h = take_all (length l - k) (drop k l) (let e = length-drop k l in omega arith)
