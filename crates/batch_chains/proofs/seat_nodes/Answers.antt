-- `seat_nodes` meets its contract. From the last place to the first: the invariant has the seats of the nodes from p on, so a repeated one keeps its first.
use native.Mathlib.Omega.{arith}
use Rattle.std.proofs.Common.{◌≡◌, ◌∙◌, rules, sym, subst}
use Rattle.batch_chains.proofs.Chaining.{Seating, seating_start, seating_on}
use Rattle.batch_chains.proofs.seat_nodes.Goals as goal

pub loop-p-init : goal.loop-p-init
loop-p-init c =
    let all : c.into_iter-p-iterator.result.iter.iter.rest.now ≡ c.args.nodes.now = search rules in
    (search rules, subst (Seating _ _ _) (sym all) (seating_start c.requires.by_index))

pub loop-p-preserved : goal.loop-p-preserved
loop-p-preserved c =
    let i = c.loop-p.invariant in
    let e = c.in-Some.ensures.steps in
    (e.0 ∙ i.0, seating_on c.requires.below i.1 e.1.0 (omega arith) c.index_of-own.ensures)
