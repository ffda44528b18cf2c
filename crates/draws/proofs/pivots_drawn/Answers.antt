-- `pivots_drawn` meets its contract: a return for each refusal, and the draws.
use Rattle.std.proofs.Common.{◌≡◌, min, ltb, sym, ap, ◌∙◌, arith, rules, le-ltb, lt-ltb}
use Rattle.definition.specs.Outcome.{pivots_out}
use Rattle.definition.specs.Refusals.{short, pivots_number}
use Rattle.accepted.specs.Chain.{past, stop}
use Rattle.accepted.specs.Checks.{count_good}
use Rattle.draws.specs.Outcomes.{kept_meets, done-meets}
use Rattle.draws.specs.Pivots.{pivots_leaves}
use Rattle.draws.proofs.pivots_drawn.Goals as goal

pub returns-then-bad_count : goal.returns-then-bad_count
unfolding pivots_out pivots_number short
returns-then-bad_count c = kept_meets _ 2 _ _ _ _ (omega arith) (stop _ _ _ (sym c.bad_count.ensures ∙ c.if-bad_count.true)) c.kept.ensures

pub returns-then-out-many : goal.returns-then-out-many
unfolding pivots_out pivots_number short
returns-then-out-many c =
    let count = sym c.bad_count.ensures ∙ c.if-bad_count.false in
    let many : c.min-many.result ≡ min 8 c.args.n = omega (arith, c.min-many.ensures) in
    kept_meets _ 10 _ _ _ _ (omega arith)
    (past _ _ _ count ∙ stop _ _ _ (ap (ltb _) (sym many) ∙ lt-ltb _ _ c.if-out-many.true))
    c.kept-then-out-many.ensures

pub overflow_cast-n : goal.overflow_cast-n
overflow_cast-n c =
    let count = sym c.bad_count.ensures ∙ c.if-bad_count.false in
    let some = count_good _ count in search rules

pub returns : goal.returns
unfolding pivots_out pivots_number short
returns c =
    let count = sym c.bad_count.ensures ∙ c.if-bad_count.false in
    let many : c.min-many.result ≡ min 8 c.args.n = omega (arith, c.min-many.ensures) in
    done-meets _ _ _ _ _ _ _ (past _ _ _ count ∙ past _ _ _ (ap (ltb _) (sym many) ∙ le-ltb _ _ c.if-out-many.false))
    (pivots_leaves _ _ _ _ _ _ many c.fill_draws-next.ensures) c.filled.ensures
