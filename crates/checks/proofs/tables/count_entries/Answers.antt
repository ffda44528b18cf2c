-- `count_entries` meets its contract.
use Rattle.std.proofs.Common.{sym, subst, arith}
use Rattle.checks.specs.Front.{Counted, count_one, count_other, count_end}
use Rattle.checks.proofs.tables.count_entries.Goals as goal
use Rattle.checks.proofs.tables.count_entries.Goals.{then-word-most, else-word-most}

pub loop-word-preserved : goal.loop-word-preserved
loop-word-preserved c =
    let a = c.args in
    let o = c.loop-word in
    let h = c.loop-word-test.true in
    elim c.if-word-most.branch [
      | then-word-most w ↦ subst (Counted _ _ _) (sym w.count-is) (count_one a.n a.words.now o.word-index o.count o.invariant h w.if-word-most.true)
      | else-word-most w ↦ subst (Counted _ _ _) (sym w.count-is) (count_other a.n a.words.now o.word-index o.count o.invariant h w.if-word-most.false)
    ]

pub returns : goal.returns
returns c = (count_end _ _ _ _ c.loop-word.invariant (omega arith), omega arith)
