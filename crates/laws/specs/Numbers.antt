-- Every reason for a refusal has a number, and 0 is none.
use Rattle.std.specs.Prelude.{◌≡◌, ℕ, ◌<◌}
use Rattle.std.proofs.Common.{arith}
use Rattle.definition.specs.declared.Refusal.{Refusal}
use Rattle.definition.specs.declared.Refusal.TheVariants.{Dimension, Entries, Degree, Beam, Alpha, Start, Seeds, Table, Nodes, Room, Query, Pivots, Text, Nearest}
use Rattle.definition.specs.Numbers.{number}

pub number_positive : (refusal : Refusal) → 0 < number refusal
number_positive Dimension = omega arith
number_positive Entries = omega arith
number_positive Degree = omega arith
number_positive Beam = omega arith
number_positive Alpha = omega arith
number_positive Start = omega arith
number_positive Seeds = omega arith
number_positive Table = omega arith
number_positive Nodes = omega arith
number_positive Room = omega arith
number_positive Query = omega arith
number_positive Pivots = omega arith
number_positive Text = omega arith
number_positive Nearest = omega arith

pub number_nonzero : (refusal : Refusal) → number refusal ≡ 0 → ⊥
number_nonzero refusal e = let some = number_positive refusal in omega arith
