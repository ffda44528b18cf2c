-- `shade_rest` meets its contract. The factors shaded from place j on are, at every turn, what they are to become.
use Prim.Native.Nat.{◌<◌}
use native.Mathlib.Omega.{arith}
use lib.ListN.{length}
use Rattle.prune.proofs.Shading.{shading_raise, shading_skip, shading_end}
use Rattle.prune.proofs.shade_rest.Goals as goal
use Rattle.prune.proofs.shade_rest.Goals.{then-not-target-factor, else-not-target-factor}

pub loop-j-preserved : goal.loop-j-preserved
loop-j-preserved c =
    let l = c.loop-j in
    let m = c.requires.measurable in
    let h : l.j < length c.args.ids.now = omega arith in
    elim c.if-not-target-factor.branch [
      | then-not-target-factor w ↦
          rw w.factors-is
          (shading_raise m l.invariant h (rw w.index_of-other.ensures at w.from_query-apart.ensures) w.if-not-target-factor.true
          (rw (← w.quotient_of.ensures) w.larger.ensures))
      | else-not-target-factor w ↦ rw w.factors-is (shading_skip m l.invariant h w.if-not-target-factor.false)
    ]

pub returns : goal.returns
returns c =
    shading_end c.requires.measurable c.loop-j.invariant (omega arith)
