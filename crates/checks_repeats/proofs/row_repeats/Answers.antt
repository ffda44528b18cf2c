-- `row_repeats` meets its contract.
use Rattle.std.proofs.Common.{refl, sym, ◌∙◌, true≢false, eq-eqb, arith}
use Rattle.checks_repeats.specs.Stamps.{stamp_start, stamp_own, stamp_among, stamp_fresh, stamp_looked, stamp_end}
use Rattle.checks_repeats.proofs.row_repeats.Goals as goal
use Rattle.checks_repeats.proofs.row_repeats.Goals.{then-x-own, else-x-own, else-marks-cell-via-then-marks-cell+else-is_among, else-marks-cell-via-else-marks-cell}

pub loop-i-init : goal.loop-i-init
loop-i-init c = stamp_start _ _ _ c.args.marks.now c.requires

pub returns-then-is_among : goal.returns-then-is_among
returns-then-is_among c =
    let o = c.loop-i in
    let a = c.args in
    elim c.if-x-own.branch [
      | then-x-own w ↦ stamp_own a.own _ a.ids.now o.i o.marks o.invariant c.loop-i-test.true _ refl w.if-x-own.true
      | else-x-own w ↦
          stamp_among a.own _ a.ids.now o.i o.marks o.invariant c.loop-i-test.true _ refl (sym w.is_among.ensures ∙ sym w.value-is ∙ c.if-is_among.true)
    ]

pub loop-i-preserved : goal.loop-i-preserved
loop-i-preserved c =
    let o = c.loop-i in
    let a = c.args in
    let h = c.loop-i-test.true in
    elim c.else-marks-cell.branch [
      | else-marks-cell-via-then-marks-cell+else-is_among w ↦
          elim w.if-x-own.branch [
            | then-x-own v ↦ absurd (true≢false (sym (eq-eqb _ _ v.if-x-own.true) ∙ sym v.value-is ∙ w.if-is_among.false))
            | else-x-own v ↦
                stamp_looked a.own _ a.ids.now o.i o.marks o.invariant h _ refl v.if-x-own.false (sym v.is_among.ensures ∙ sym v.value-is ∙ w.if-is_among.false)
          ]
      | else-marks-cell-via-else-marks-cell w ↦ stamp_fresh a.own _ a.ids.now o.i o.marks o.invariant h _ refl w.if-marks-cell.false
    ]

pub returns : goal.returns
returns c = stamp_end _ _ _ _ _ c.loop-i.invariant (omega arith)
