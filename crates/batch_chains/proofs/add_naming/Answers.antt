-- `add_naming` meets its contract. The invariant: what the chain has still to give, put in after what is in the list, gives all that name the node.
use Rattle.std.proofs.Math.Path.{sym, ap}
use Rattle.batch_chains.specs.Says.{place_word}
use Rattle.batch_chains.proofs.Along.{along_start, along_on, along_less, along_end}
use Rattle.batch_chains.proofs.add_naming.Goals as goal

pub loop-next-init : goal.loop-next-init
loop-next-init g c =
    along_start c.requires.node_lt_n.0 c.requires.chains c.heads_at.ensures c.index_of-own.ensures c.place_in-next.ensures c.requires.rises

pub loop-next-smaller : goal.loop-next-smaller
loop-next-smaller g c =
    along_less c.requires.node_lt_n.0 c.requires.chains c.loop-next.invariant (sym (ap place_word c.in-Some.is)) c.links_at-links.ensures
    c.place_in-next-in-Some.ensures

pub loop-next-preserved : goal.loop-next-preserved
loop-next-preserved g c =
    along_on c.requires.node_lt_n.0 c.requires.chains c.loop-next.invariant (sym (ap place_word c.in-Some.is)) c.links_at-links.ensures
    c.place_in-next-in-Some.ensures c.add_word.ensures

pub returns : goal.returns
returns g c = along_end c.requires.node_lt_n.0 c.requires.chains c.loop-next.invariant (ap place_word c.in_default.is)
