-- `link_entries` meets its contract. The invariant: the first e entries are linked, all else is as it was.
use native.Mathlib.Omega.{arith}
use Rattle.batch_chains.proofs.Chaining.{linking_start, linking_on, linking_end, requires_one}
use Rattle.batch_chains.proofs.link_entries.Goals as goal

pub loop-e-init : goal.loop-e-init
loop-e-init c = linking_start c.requires.laid c.requires.by_index

pub link_entry-requires : goal.link_entry-requires
link_entry-requires c = requires_one c.requires.laid c.loop-e.invariant (omega arith)

pub loop-e-preserved : goal.loop-e-preserved
loop-e-preserved c =
    linking_on c.requires.laid c.loop-e.invariant (omega arith) c.link_entry.ensures

pub returns : goal.returns
returns c = linking_end c.requires.laid c.loop-e.invariant (λ h. omega arith)
