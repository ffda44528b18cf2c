-- `merge_rows` meets its contract. The invariant: the rows below i are the merged ones, the others are as they were.
use mathlib.Core.Path.{sym, ◌∙◌}
use native.Mathlib.Omega.{arith}
use Rattle.batch_merge.proofs.Turns.{turn_start, turn_asks, turn_merged, turn_same, all_merged}
use Rattle.batch_merge.proofs.merge_rows.Goals as goal
use Rattle.batch_merge.proofs.merge_rows.Goals.{then-is_affected, else-is_affected}

pub loop-i-init : goal.loop-i-init
loop-i-init c = turn_start c.requires.wide.size

pub is_affected-requires : goal.is_affected-requires
is_affected-requires c = record { i_lt_n = omega arith; gatherable = c.requires.gatherable }

pub merge_row-requires : goal.merge_row-requires
merge_row-requires c =
    record { row_ready = turn_asks c.requires.limits c.loop-i.invariant (omega arith) c.requires.gatherable c.requires.wide.words; most_factors_in_bounds = omega arith }

pub loop-i-preserved : goal.loop-i-preserved
loop-i-preserved c =
    let limits = c.requires.limits in
    let says = c.is_affected.ensures in
    elim c.if-is_affected.branch [
      | then-is_affected w ↦
          turn_merged limits c.loop-i.invariant c.loop-i-test.true w.wide-is (sym w.if-is_affected.true ∙ says) w.merge_row.auto.wide w.merge_row.ensures
      | else-is_affected w ↦ turn_same limits c.loop-i.invariant c.loop-i-test.true w.wide-is (sym w.if-is_affected.false ∙ says)
    ]

pub returns : goal.returns
returns c = all_merged c.loop-i.invariant (omega arith)
