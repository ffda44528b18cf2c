-- `link_entry` meets its contract: what is read is the entry, and two words are set, the link and then the head.
use native.Mathlib.Omega.{arith}
use lib.ListN.{length-set}
use Rattle.batch_chains.proofs.Chaining.{one_past, one_linked}
use Rattle.batch_chains.proofs.link_entry.Goals as goal

pub returns-then-n-target : goal.returns-then-n-target
returns-then-n-target c = one_past _ _ _ c.fresh_at.ensures c.index_of-target.ensures (omega arith)

pub bounds-words-head-2 : goal.bounds-words-head-2
bounds-words-head-2 c = simp length-set (omega arith)

pub returns : goal.returns
returns c =
    one_linked _ _ _ c.fresh_at.ensures c.index_of-target.ensures
    c.links_at.ensures c.heads_at.ensures (omega arith)
