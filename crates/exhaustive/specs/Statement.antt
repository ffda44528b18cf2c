-- What an exhaustive search that is accepted leaves.
use Rattle.std.specs.Prelude.{◌≡◌, List, ℕ, min, Float}
use Rattle.definition.specs.declared.Answer.{Answer}
use Rattle.definition.specs.Refusals.{ExhaustiveCall}
use Rattle.definition.specs.Outcome.{ExhaustiveOut, exhaustive_done}

abbrev pub call_of : ℕ → ℕ → List ℕ → ℕ → List ℕ → List ℕ → List Float → ExhaustiveCall
call_of n dim vectors k query ids dists = record { n = n; dim = dim; vectors = vectors; k = k; query = query; ids = ids; dists = dists }

abbrev pub out_of : Answer → List ℕ → List Float → ExhaustiveOut
out_of a ids dists = record { answer = a; ids = ids; dists = dists }

-- an accepted exhaustive search: as many answers as are asked for, or as there are entries
pub record Exhausted (c : ExhaustiveCall) (o : ExhaustiveOut) : Type 0 where
  pub is : o ≡ exhaustive_done c
  pub count_is : o.answer.count ≡ min c.k c.n
