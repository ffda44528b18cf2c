-- `add_once`. An id is in the pool when its mark is the stamp; if not, there is room for it.
use native.Mathlib.Omega.{arith}
use lib.ListN.{length-set}
use Rattle.batch_pool.proofs.Adding.{pooled_room, added_seen, added_new}
use Rattle.batch_pool.proofs.add_once.Goals as goal

pub returns-then-pool-mark : goal.returns-then-pool-mark
returns-then-pool-mark c = added_seen c.requires.pooled c.args.id c.args.dist c.requires.n_bound.1 c.if-pool-mark.true

pub overflow_add-at : goal.overflow_add-at
overflow_add-at c =
    let free = pooled_room c.requires.pooled c.args.id c.args.dist c.requires.n_bound.1 c.if-pool-mark.false in
    omega (arith, free, c.requires.n_bound.0)

pub offset_bounds-pool-len : goal.offset_bounds-pool-len
offset_bounds-pool-len c =
    let free = pooled_room c.requires.pooled c.args.id c.args.dist c.requires.n_bound.1 c.if-pool-mark.false in
    omega (arith, free, c.requires.n_bound.0)

pub bounds-pool-len : goal.bounds-pool-len
bounds-pool-len c =
    let free = pooled_room c.requires.pooled c.args.id c.args.dist c.requires.n_bound.1 c.if-pool-mark.false in
    simp length-set (omega (arith, free, c.requires.pooled.size))

pub offset_bounds-pool-at : goal.offset_bounds-pool-at
offset_bounds-pool-at c =
    let free = pooled_room c.requires.pooled c.args.id c.args.dist c.requires.n_bound.1 c.if-pool-mark.false in
    omega (arith, free, c.requires.n_bound.0)

pub bounds-pool-at : goal.bounds-pool-at
bounds-pool-at c =
    let free = pooled_room c.requires.pooled c.args.id c.args.dist c.requires.n_bound.1 c.if-pool-mark.false in
    simp length-set (omega (arith, free, c.requires.pooled.size))

pub overflow_add-result : goal.overflow_add-result
overflow_add-result c =
    let free = pooled_room c.requires.pooled c.args.id c.args.dist c.requires.n_bound.1 c.if-pool-mark.false in
    omega (arith, free, c.requires.n_bound.0)

pub returns : goal.returns
returns c = added_new c.requires.pooled c.args.id c.args.dist c.requires.n_bound.1 c.if-pool-mark.false
