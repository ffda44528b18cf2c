-- `gather`. The loop's invariant: what was done so far is what the words passed so far do.
use native.Mathlib.Omega.{arith}
use borrow.Author.Rules.{rules}
use Rattle.marks.proofs.Noting.{gather_none, gather_more, gather_fits, gather_end}
use Rattle.marks.proofs.gather.Goals as goal

pub loop-word-init : goal.loop-word-init
loop-word-init c = (omega arith, gather_none _ c.requires.marked)

pub note-count-requires : goal.note-count-requires
note-count-requires c =
    let g = c.loop-word.invariant.1 in
    record {
      marked = g.marked;
      count_in_bounds = omega (arith, c.requires.row_in_bounds, gather_fits c.args.row.now c.loop-word.word-index g (omega arith));
    }

pub loop-word-preserved : goal.loop-word-preserved
loop-word-preserved c =
    let g = c.loop-word.invariant.1 in
    let fits = gather_fits c.args.row.now c.loop-word.word-index g (omega arith) in
    (search rules, gather_more c.args.row.now c.loop-word.word-index g (omega arith) (omega arith) c.note-count.ensures)

pub returns : goal.returns
returns c = gather_end _ c.loop-word.word-index c.loop-word.invariant.1 (omega arith)
