-- `order_drawn` meets its contract: a return for each refusal, and the two parts lent for the order.
use Rattle.std.proofs.Common.{sym, ◌∙◌, arith, rules, le-ltb, lt-ltb}
use Rattle.definition.specs.Outcome.{order_out}
use Rattle.definition.specs.Refusals.{short, order_number}
use Rattle.accepted.specs.Chain.{past, stop}
use Rattle.accepted.specs.Checks.{count_good}
use Rattle.draws.specs.Outcomes.{kept_meets, done-meets}
use Rattle.draws.specs.Order.{order_leaves}
use Rattle.draws.proofs.order_drawn.Goals as goal

pub returns-then-bad_count : goal.returns-then-bad_count
unfolding order_out order_number short
returns-then-bad_count c = kept_meets _ 2 _ _ _ _ (omega arith) (stop _ _ _ (sym c.bad_count.ensures ∙ c.if-bad_count.true)) c.kept.ensures

pub returns-then-out-n : goal.returns-then-out-n
unfolding order_out order_number short
returns-then-out-n c =
    let count = sym c.bad_count.ensures ∙ c.if-bad_count.false in
    kept_meets _ 10 _ _ _ _ (omega arith) (past _ _ _ count ∙ stop _ _ _ (lt-ltb _ _ c.if-out-n.true)) c.kept-then-out-n.ensures

pub count_up-requires : goal.count_up-requires
count_up-requires c =
    let count = sym c.bad_count.ensures ∙ c.if-bad_count.false in
    let some = count_good _ count in search rules

pub shuffle-next-requires : goal.shuffle-next-requires
shuffle-next-requires c =
    let count = sym c.bad_count.ensures ∙ c.if-bad_count.false in
    let some = count_good _ count in search rules

pub returns : goal.returns
unfolding order_out order_number short
returns c =
    let count = sym c.bad_count.ensures ∙ c.if-bad_count.false in
    let s = c.shuffle-next in
    let room = c.if-out-n.false in
    done-meets _ _ _ _ _ _ _ (past _ _ _ count ∙ past _ _ _ (le-ltb _ _ room))
    (order_leaves _ _ _ _ _ _ room c.count_up.ensures s.auto.out s.ensures)
    c.filled.ensures
