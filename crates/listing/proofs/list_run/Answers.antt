-- `list_run`. The loop's invariant: the run is listed as far as place i.
use Rattle.std.proofs.Common.{◌≡◌, ℕ, refl, ap, ◌∙◌, subst, arith, length-set}
use Rattle.definition.specs.Metric.{whole}
use Rattle.listing.specs.Listed.{pairs}
use Rattle.listing.specs.Runs.{RunListed}
use Rattle.listing.proofs.Copying.{run_none, run_more}
use Rattle.listing.proofs.list_run.Goals as goal

pub loop-i-init : goal.loop-i-init
loop-i-init c = (refl, refl, run_none _ _ _ _)

pub loop-i-preserved : goal.loop-i-preserved
unfolding whole
loop-i-preserved c =
    let a = c.args in
    let i = c.loop-i.invariant in (
      length-set c.loop-i.ids c.loop-i.i c.id_of.result ∙ i.0,
      length-set c.loop-i.dists c.loop-i.i c.nearest_u32_to_f32.result ∙ i.1,
      run_more a.keys.now a.first a.end c.loop-i.i (pairs a.ids.now a.dists.now) (pairs c.loop-i.ids c.loop-i.dists) _ _ (omega arith) i.2
          c.id_of.ensures (c.nearest_u32_to_f32.ensures ∙ ap whole c.dist_of.ensures),
    )

pub shape_of-ids : goal.shape_of-ids
shape_of-ids c = c.loop-i.invariant.0

pub shape_of-dists : goal.shape_of-dists
shape_of-dists c = c.loop-i.invariant.1

pub returns : goal.returns
returns c =
    let l = c.loop-i in
    let a = c.args in
    let e : l.i ≡ a.last = omega arith in
    subst (λ (i : ℕ). RunListed a.keys.now a.first a.end i (pairs a.ids.now a.dists.now) (pairs l.ids l.dists)) e l.invariant.2
