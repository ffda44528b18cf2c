-- `seeds_drawn` meets its contract: a return for each refusal, and the group.
use Rattle.std.proofs.Common.{sym, ◌∙◌, arith, rules, le-ltb, lt-ltb}
use Rattle.definition.specs.Outcome.{seeds_out}
use Rattle.definition.specs.Refusals.{short, seeds_number}
use Rattle.accepted.specs.Chain.{past, stop}
use Rattle.accepted.specs.Checks.{count_good}
use Rattle.draws.specs.Outcomes.{kept_meets, done-meets}
use Rattle.draws.specs.Seeds.{seeds_leaves}
use Rattle.draws.proofs.seeds_drawn.Goals as goal

pub returns-then-bad_count : goal.returns-then-bad_count
unfolding seeds_out seeds_number short
returns-then-bad_count c = kept_meets _ 2 _ _ _ _ (omega arith) (stop _ _ _ (sym c.bad_count.ensures ∙ c.if-bad_count.true)) c.kept.ensures

pub returns-then-bad_start : goal.returns-then-bad_start
unfolding seeds_out seeds_number short
returns-then-bad_start c =
    let count = sym c.bad_count.ensures ∙ c.if-bad_count.false in
    kept_meets _ 6 _ _ _ _ (omega arith)
    (past _ _ _ count ∙ stop _ _ _ (sym c.bad_start.ensures ∙ c.if-bad_start.true)) c.kept-then-bad_start.ensures

pub returns-then-bad_extra : goal.returns-then-bad_extra
unfolding seeds_out seeds_number short
returns-then-bad_extra c =
    let count = sym c.bad_count.ensures ∙ c.if-bad_count.false in
    let begin = sym c.bad_start.ensures ∙ c.if-bad_start.false in
    let bad = sym c.bad_extra.ensures ∙ c.if-bad_extra.true in
    kept_meets _ 7 _ _ _ _ (omega arith) (past _ _ _ count ∙ past _ _ _ begin ∙ stop _ _ _ bad)
    c.kept-then-bad_extra.ensures

pub returns-then-out-extra : goal.returns-then-out-extra
unfolding seeds_out seeds_number short
returns-then-out-extra c =
    let count = sym c.bad_count.ensures ∙ c.if-bad_count.false in
    let begin = sym c.bad_start.ensures ∙ c.if-bad_start.false in
    let extra = sym c.bad_extra.ensures ∙ c.if-bad_extra.false in
    let passed = past _ _ _ count ∙ past _ _ _ begin ∙ past _ _ _ extra in
    kept_meets _ 10 _ _ _ _ (omega arith) (passed ∙ stop _ _ _ (lt-ltb _ _ c.if-out-extra.true))
    c.kept-then-out-extra.ensures

pub overflow_cast-n : goal.overflow_cast-n
overflow_cast-n c =
    let count = sym c.bad_count.ensures ∙ c.if-bad_count.false in
    let some = count_good _ count in search rules

pub fill_seeds-next-requires : goal.fill_seeds-next-requires
fill_seeds-next-requires c =
    let count = sym c.bad_count.ensures ∙ c.if-bad_count.false in
    let some = count_good _ count in (omega arith, some.1, c.if-out-extra.false)

pub returns : goal.returns
unfolding seeds_out seeds_number short
returns c =
    let count = sym c.bad_count.ensures ∙ c.if-bad_count.false in
    let begin = sym c.bad_start.ensures ∙ c.if-bad_start.false in
    let extra = sym c.bad_extra.ensures ∙ c.if-bad_extra.false in
    let room = c.if-out-extra.false in
    done-meets _ _ _ _ _ _ _
    (past _ _ _ count ∙ past _ _ _ begin ∙ past _ _ _ extra ∙ past _ _ _ (le-ltb _ _ room))
    (seeds_leaves _ _ _ _ _ _ _ c.fill_seeds-next.ensures) c.filled.ensures
