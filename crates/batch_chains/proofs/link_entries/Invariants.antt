-- `link_entries` meets its contract. The invariant: the first e entries are linked, all else is as it was.
use Rattle.batch_chains.proofs.Chaining.{Linking}
use Rattle.batch_chains.proofs.link_entries.Given as goal

abbrev pub invariant-loop-e : goal.invariant-loop-e
invariant-loop-e l = Linking l.n l.m l.initial.words l.words l.e
