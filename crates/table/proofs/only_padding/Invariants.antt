-- `only_padding` meets its contract.
use Rattle.laws.specs.Looked.{Looked}
use lib.Dec.{eqb}
use Rattle.definition.specs.Tables.{pad}
use Rattle.table.proofs.only_padding.Given as goal

abbrev pub invariant-loop-word : goal.invariant-loop-word
invariant-loop-word l = Looked (λ w. eqb w pad) l.words l.word-index l.found
