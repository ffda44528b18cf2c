-- `add_visited`. The loop's invariant: the first k that were visited have been added. The pool's region is lent for each of them.
use mathlib.Core.Path.{sym, subst}
use Prim.Native.Nat.{ℕ, ◌<◌}
use native.Mathlib.Omega.{arith}
use Rattle.batch_pool.proofs.Lending.{id_kept, filled_more}
use Rattle.batch_pool.proofs.add_visited.Goals as goal

pub add_once-more-requires-clause-n_bound : goal.add_once-more-requires-clause-n_bound
add_once-more-requires-clause-n_bound c =
    let q = c.requires.n_bound in
    let h : c.loop-k.k < c.args.n = omega (arith, q.2) in
    let low = c.requires.seen_below c.loop-k.k (omega arith) in
    let kept = subst (λ (i : ℕ). i < c.args.n) (sym (id_kept _ _ _ c.loop-k.k c.loop-k.invariant h q.1)) low in
    (q.0, rw (← c.visited_at-ids_at.ensures) at kept)

pub loop-k-preserved : goal.loop-k-preserved
loop-k-preserved c =
    let q = c.requires.n_bound in
    let va = c.visited_at-ids_at.ensures in
    let vd = c.visited_dists_at-dists_at.ensures in
    let pa = c.pool_at-pool_at.ensures in
    let pe = c.pool_end-pool_end.ensures in
    let h : c.loop-k.k < c.args.n = omega (arith, q.2, c.loop-k-test.true) in
    let same = rw (pa, pe) at c.add_once-more.auto.pool in
    rw (pa, pe) (filled_more _ _ _ c.loop-k.k c.loop-k.invariant h q.1 _ same _ (simp (va, vd, pa, pe) at c.add_once-more.ensures))
