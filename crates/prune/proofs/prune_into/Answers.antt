-- `prune_into` meets its contract. The lent stretch came back as the row; nothing else differs.
use native.Mathlib.Omega.{arith}
use Rattle.table.specs.Rows.{stretched, stretch_length}
use Rattle.prune.proofs.prune_into.Goals as goal

pub prune_neighbors-requires : goal.prune_neighbors-requires
prune_neighbors-requires c =
    let r = c.requires in
    let l = stretch_length c.args.table.now c.args.place c.args.width r.in_bounds.2 in
    record {
      measurable = r.measurable;
      distinct = r.distinct;
      in_bounds = (r.in_bounds.0, omega (arith, l, r.in_bounds.1));
    }

pub returns : goal.returns
returns c =
    let w = c.prune_neighbors in
    stretched c.args.table.now w.new.row c.args.place c.args.width w.result _ c.requires.in_bounds.2 w.ensures
