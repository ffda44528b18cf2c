-- `has_foreign` meets its contract.
use Rattle.laws.specs.Looked.{Looked}
use Rattle.checks.specs.Foreign.{is_word}
use Rattle.checks.proofs.tables.has_foreign.Given as goal

abbrev pub invariant-loop-word : goal.invariant-loop-word
invariant-loop-word l = Looked (is_word l.n) l.words l.word-index l.found
