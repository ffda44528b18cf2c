-- The reasons for a refusal, as the code calls them: each has one number, by which answers and the tests of Refusals know it.
use Rattle.std.specs.Prelude.{ℕ, Result, Ok, Err}
use Rattle.definition.specs.declared.Refusal.{Refusal}
use Rattle.definition.specs.declared.Refusal.TheVariants.{Dimension, Entries, Degree, Beam, Alpha, Start, Seeds, Table, Nodes, Room, Query, Pivots, Text, Nearest}

abbrev pub number : Refusal → ℕ
number Dimension = 1
number Entries = 2
number Degree = 3
number Beam = 4
number Alpha = 5
number Start = 6
number Seeds = 7
number Table = 8
number Nodes = 9
number Room = 10
number Query = 11
number Pivots = 12
number Text = 13
number Nearest = 14

module _ {A : Type 0} where
  -- of what a check gives: 0 where it refuses nothing
  abbrev pub number_told : Result A Refusal → ℕ
  number_told (Ok a) = 0
  number_told (Err refusal) = number refusal
