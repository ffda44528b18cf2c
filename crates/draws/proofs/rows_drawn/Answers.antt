-- `rows_drawn` meets its contract: a return for each refusal, one for a single entry, one for more.
use Rattle.std.proofs.Common.{sym, refl, ◌∙◌, arith}
use Rattle.definition.specs.Outcome.{rows_out}
use Rattle.definition.specs.Refusals.{rows_number}
use Rattle.accepted.specs.Chain.{past, stop}
use Rattle.accepted.specs.Checks.{count_good, degree_good, length_good}
use Rattle.checks.specs.Lengths.{length_is}
use Rattle.draws.specs.Outcomes.{kept_meets, done-meets}
use Rattle.draws.specs.Rows.{one-row, more_rows}
use Rattle.draws.proofs.rows_drawn.Goals as goal

pub returns-then-bad_count : goal.returns-then-bad_count
unfolding rows_out rows_number
returns-then-bad_count c = kept_meets _ 2 _ _ _ _ (omega arith) (stop _ _ _ (sym c.bad_count.ensures ∙ c.if-bad_count.true)) c.kept.ensures

pub returns-then-bad_degree : goal.returns-then-bad_degree
unfolding rows_out rows_number
returns-then-bad_degree c =
    let count = sym c.bad_count.ensures ∙ c.if-bad_count.false in
    kept_meets _ 3 _ _ _ _ (omega arith)
    (past _ _ _ count ∙ stop _ _ _ (sym c.bad_degree.ensures ∙ c.if-bad_degree.true)) c.kept-then-bad_degree.ensures

pub bad_length-requires : goal.bad_length-requires
bad_length-requires c =
    let count = sym c.bad_count.ensures ∙ c.if-bad_count.false in
    let degree = sym c.bad_degree.ensures ∙ c.if-bad_degree.false in
    ((count_good _ count).1, omega (arith, degree_good _ degree))

pub returns-then-bad_length : goal.returns-then-bad_length
unfolding rows_out rows_number
returns-then-bad_length c =
    let count = sym c.bad_count.ensures ∙ c.if-bad_count.false in
    let degree = sym c.bad_degree.ensures ∙ c.if-bad_degree.false in
    let bad = sym (length_is _ _ _ _ refl) ∙ sym c.bad_length.ensures ∙ c.if-bad_length.true in
    kept_meets _ 8 _ _ _ _ (omega arith) (past _ _ _ count ∙ past _ _ _ degree ∙ stop _ _ _ bad)
    c.kept-then-bad_length.ensures

pub returns-then-n-eq1 : goal.returns-then-n-eq1
unfolding rows_out rows_number
returns-then-n-eq1 c =
    let count = sym c.bad_count.ensures ∙ c.if-bad_count.false in
    let degree = sym c.bad_degree.ensures ∙ c.if-bad_degree.false in
    let size = sym (length_is _ _ _ _ refl) ∙ sym c.bad_length.ensures ∙ c.if-bad_length.false in
    done-meets _ _ _ _ _ _ _ (past _ _ _ count ∙ past _ _ _ degree ∙ past _ _ _ size)
    (one-row _ _ _ _ _ c.if-n-eq1.true (length_good _ _ _ size) c.pad_from.ensures)
    c.filled.ensures

pub fill_rows-next-requires : goal.fill_rows-next-requires
fill_rows-next-requires c =
    let count = sym c.bad_count.ensures ∙ c.if-bad_count.false in
    let size = sym (length_is _ _ _ _ refl) ∙ sym c.bad_length.ensures ∙ c.if-bad_length.false in
    let some = count_good _ count in
    let other = c.if-n-eq1.false in
    (omega arith, some.1, length_good _ _ _ size)

pub returns : goal.returns
unfolding rows_out rows_number
returns c =
    let count = sym c.bad_count.ensures ∙ c.if-bad_count.false in
    let degree = sym c.bad_degree.ensures ∙ c.if-bad_degree.false in
    let size = sym (length_is _ _ _ _ refl) ∙ sym c.bad_length.ensures ∙ c.if-bad_length.false in
    let some = count_good _ count in
    let other = c.if-n-eq1.false in
    done-meets _ _ _ _ _ _ _ (past _ _ _ count ∙ past _ _ _ degree ∙ past _ _ _ size)
    (more_rows _ _ _ _ _ _ (omega arith) c.fill_rows-next.ensures) c.filled-2.ensures
