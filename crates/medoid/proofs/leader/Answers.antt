-- `leader` meets its contract. The invariant: the leader of the entries before i, against those from i on, leads to the medoid.
use Rattle.std.proofs.Common.{arith}
use Rattle.medoid.specs.Turns.{lead_start, lead_taken, lead_kept, lead_end}
use Rattle.medoid.proofs.leader.Goals as goal
use Rattle.medoid.proofs.leader.Goals.{then-s-least, else-s-least}

pub loop-i-init : goal.loop-i-init
loop-i-init c = lead_start _ _ _ _ c.requires.0 c.score-least.ensures

pub loop-i-preserved : goal.loop-i-preserved
loop-i-preserved c =
    let leads = c.loop-i.invariant in
    elim c.if-s-least.branch [
      | then-s-least w ↦ rw (w.id-is, w.least-is) (lead_taken _ _ _ _ _ _ _ (omega arith) c.score-s.ensures leads w.if-s-least.true)
      | else-s-least w ↦ rw (w.id-is, w.least-is) (lead_kept _ _ _ _ _ _ _ (omega arith) c.score-s.ensures leads w.if-s-least.false)
    ]

pub returns : goal.returns
returns c = (lead_end _ _ _ _ _ _ (omega arith) c.loop-i.invariant, c.loop-i.invariant.inside)
