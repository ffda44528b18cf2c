-- `search_short` meets its contract.
use Rattle.std.proofs.Common.{arith}
use Rattle.std.proofs.lemmas.Bool.Decides.{nat_tests}
use Rattle.definition.specs.Refusals.{search_words, search_floats}
use Rattle.checks.specs.Lengths.{search_short_by}
use Rattle.checks.proofs.rooms.search_short.Goals as goal

pub returns-then-dists-most : goal.returns-then-dists-most
unfolding search_short_by search_words search_floats
returns-then-dists-most c = grind (arith, nat_tests)

pub returns-else-dists-most : goal.returns-else-dists-most
unfolding search_short_by search_words search_floats
returns-else-dists-most c = grind (arith, nat_tests)
