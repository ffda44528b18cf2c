-- `take_rounds` meets its contract. The ids taken so far, and what the rest of this round and the rounds after it take, make up the result.
use mathlib.Core.Path.{◌∙◌}
use Prim.Native.Nat.{◌<◌}
use native.Mathlib.Omega.{arith}
use lib.ListN.{length, length-set}
use Rattle.definition.specs.Floats.{largest}
use Rattle.prune.proofs.Steps.{walk_same, going_first, walk_skip, walk_take, full, reached, again, last_round}
use Rattle.prune.proofs.take_rounds.Goals as goal
use Rattle.prune.proofs.take_rounds.Goals.{then-not-current-factors, else-not-current-factors}

pub rounds-init : goal.rounds-init
rounds-init c =
    going_first c.args.alpha c.args.factors.now c.args.row.now c.target_of-target.ensures c.requires.factors_len.0

pub loop-i-preserved : goal.loop-i-preserved
unfolding largest
loop-i-preserved c =
    let l = c.loop-i in
    let same = c.requires.measurable.same in
    let h : l.i < length c.args.ids.now = omega arith in
    let room : l.count < c.args.degree = omega arith in
    let wide = c.rounds.invariant.nr in
    elim c.if-not-current-factors.branch [
      | then-not-current-factors w ↦
          walk_same w.factors-is w.row-is w.count-is
          (walk_take same l.invariant h room w.if-not-current-factors.true (omega (arith, c.requires.factors_len.1, wide))
          (w.shade_later.auto.factors ∙ length-set l.factors l.i largest) (rw w.index_of-taken.ensures at w.shade_later.ensures))
      | else-not-current-factors w ↦
          walk_same w.factors-is w.row-is w.count-is (walk_skip same l.invariant h room w.if-not-current-factors.false)
    ]

pub rounds-preserved : goal.rounds-preserved
rounds-preserved c =
    let inv = c.rounds.invariant in
    rw c.next_alpha-current.ensures
    (again inv (omega arith) c.requires.measurable.same c.loop-i.invariant (omega arith) c.if-not-current-target.false inv.nr)

pub returns-then-degree-count : goal.returns-then-degree-count
returns-then-degree-count c =
    full c.rounds.invariant (omega arith) c.requires.measurable.same c.loop-i.invariant c.if-degree-count.true

pub returns-then-not-current-target : goal.returns-then-not-current-target
returns-then-not-current-target c =
    reached c.rounds.invariant (omega arith) c.requires.measurable.same c.loop-i.invariant (omega arith) c.if-not-current-target.true

pub returns-after-rounds : goal.returns-after-rounds
returns-after-rounds c = last_round c.rounds.invariant (omega arith)
