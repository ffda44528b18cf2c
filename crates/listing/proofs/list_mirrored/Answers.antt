-- `list_mirrored`. The loop's invariant: i answers are listed.
use Rattle.std.proofs.Common.{◌≡◌, ℕ, ◌-◌, map, get_or, take, sym, ap, ◌∙◌, arith, length-take-le, get_or-take}
use lib.ListN.{length-map}
use Rattle.definition.specs.Metric.{whole}
use Rattle.definition.specs.Beam.{Item, nobody}
use Rattle.laws.specs.Mapped.{map_at}
use Rattle.listing.specs.Listed.{mirrored_item}
use Rattle.listing.proofs.Copying.{listed-none, listed_more, listed_all}
use Rattle.listing.proofs.list_mirrored.Goals as goal

pub loop-i-init : goal.loop-i-init
loop-i-init c = listed-none _ _

pub overflow_sub-ids : goal.overflow_sub-ids
overflow_sub-ids c =
    let a = c.args in
    let size = length-take-le a.count a.keys.now (omega arith) in
    let at = get_or-take a.count a.keys.now c.loop-i.i 0 (omega arith) in
    omega (arith, rw at at c.id_of.ensures, c.requires.low_ids c.loop-i.i (omega arith))

pub loop-i-preserved : goal.loop-i-preserved
unfolding whole
loop-i-preserved c =
    let a = c.args in
    let told = mirrored_item a.n in
    let keys = take a.count a.keys.now in
    let size = length-take-le a.count a.keys.now (omega arith) in
    let at : get_or (map told keys) c.loop-i.i nobody ≡ told (get_or keys c.loop-i.i 0) = map_at told 0 nobody keys c.loop-i.i (omega arith) in
    listed_more _ _ _ _ c.loop-i.invariant _ _ (omega (arith, length-map keys told)) (omega arith) (omega arith)
    (ap (λ (i : ℕ). a.n - 1 - i) c.id_of.ensures ∙ ap (λ (x : Item). x.id) (sym at))
    (c.nearest_u32_to_f32.ensures ∙ ap whole c.dist_of.ensures ∙ ap (λ (x : Item). whole x.dist) (sym at))

pub shape_of-ids : goal.shape_of-ids
shape_of-ids c = c.loop-i.invariant.ids_size

pub shape_of-dists : goal.shape_of-dists
shape_of-dists c = c.loop-i.invariant.dists_size

pub returns : goal.returns
returns c =
    let a = c.args in
    let size = length-take-le a.count a.keys.now (omega arith) in
    listed_all _ _ _ _ c.loop-i.invariant (length-map (take a.count a.keys.now) (mirrored_item a.n) ∙ omega arith)
