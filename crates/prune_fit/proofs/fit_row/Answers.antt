-- `fit_row` meets its contract: ids that fit are put down as they are, others are measured and pruned.
use mathlib.Core.Path.{◌≡◌, ap}
use Prim.Native.Nat.{ℕ, ◌*◌}
use native.Mathlib.Omega.{arith}
use Rattle.prune_fit.specs.Fits.{fits_short, fits_long, node_reaches, ids_reach, as_measurable}
use Rattle.prune_fit.proofs.fit_row.Goals as goal

-- where the row begins
begins : (width place node : ℕ) → place ≡ node → place * width ≡ node * width
begins width place node e = ap (λ (k : ℕ). k * width) e

pub put_row-requires : goal.put_row-requires
put_row-requires c = omega (arith, begins c.args.width _ _ c.index_of-place.ensures)

pub returns-then-m-width : goal.returns-then-m-width
returns-then-m-width c = fits_short _ _ _ _ _ _ c.index_of-place.ensures (omega arith) c.put_row.ensures

pub measure-requires : goal.measure-requires
measure-requires c =
    let f = c.requires.fittable in
    record {
      dim_bound = omega arith;
      vector_in = node_reaches f c.index_of-place.ensures;
      by_index = ids_reach f;
    }

pub prune_into-requires : goal.prune_into-requires
prune_into-requires c =
    let f = c.requires.fittable in
    record {
      measurable = as_measurable f _ (omega arith) c.measure.ensures;
      distinct = f.apart;
      in_bounds = omega (arith, f.narrow, begins c.args.width _ _ c.index_of-place.ensures);
    }

pub returns : goal.returns
returns c = fits_long _ _ _ _ _ _ c.index_of-place.ensures (omega arith) c.measure.ensures c.prune_into.ensures
