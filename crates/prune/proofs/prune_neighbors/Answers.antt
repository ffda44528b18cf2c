-- `prune_neighbors` meets its contract. The candidates that were chosen are those of the definition.
use Prim.Native.Nat.{◌≤◌}
use native.Mathlib.Omega.{arith}
use lib.ListN.{length}
use Rattle.prune.specs.Composed.{measurable, pruned}
use Rattle.prune.proofs.prune_neighbors.Goals as goal

pub write_pruned-requires-clause-measurable : goal.write_pruned-requires-clause-measurable
write_pruned-requires-clause-measurable c =
    let r = c.requires in
    let k = c.choose-count in
    let wide_ci : 750 ≤ length k.new.ci = omega (arith, k.auto.ci) in
    let wide_cd : 750 ≤ length k.new.cd = omega (arith, k.auto.cd) in
    measurable _ _ _ _ _ r.measurable r.distinct _ _ _ k.ensures wide_ci wide_cd

pub returns : goal.returns
returns c =
    let r = c.requires in
    let k = c.choose-count in
    let wide_ci : 750 ≤ length k.new.ci = omega (arith, k.auto.ci) in
    let wide_cd : 750 ≤ length k.new.cd = omega (arith, k.auto.cd) in
    pruned _ _ _ _ _ r.measurable r.distinct _ _ _ k.ensures wide_ci wide_cd _ _ (length c.args.row.now) c.args.degree c.args.alpha c.write_pruned.ensures
