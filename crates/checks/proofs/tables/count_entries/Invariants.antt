-- `count_entries` meets its contract.
use Rattle.checks.specs.Front.{Counted}
use Rattle.checks.proofs.tables.count_entries.Given as goal

abbrev pub invariant-loop-word : goal.invariant-loop-word
invariant-loop-word l = Counted l.n l.words l.word-index l.count
