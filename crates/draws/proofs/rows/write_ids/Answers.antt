-- `write_ids` meets its contract.
use Rattle.std.proofs.Common.{◌≡◌, ℕ, ◌+◌, ◌%◌, ap, ◌∙◌, mod-lt, arith}
use Rattle.definition.specs.Draws.{row_ids}
use Rattle.draws.specs.Places.{place_start, place_turn, place_end}
use Rattle.draws.specs.Rows.{id_at, step-first, step_next}
use Rattle.draws.proofs.rows.write_ids.Goals as goal

pub loop-id-init : goal.loop-id-init
loop-id-init c = let below = c.requires.3 in (step-first _ _ below, below, place_start _ _ _)

pub loop-id-preserved : goal.loop-id-preserved
loop-id-preserved c =
    let l = c.loop-id in
    let a = c.args in
    let id : c.wrapped.result ≡ id_at _ _ _ l.id-index = c.wrapped.ensures ∙ ap (λ (x : ℕ). (a.i + 1 + x) % a.n) l.invariant.0 in
    let next = c.wrapped-step.ensures in (
      next ∙ step_next _ _ _ _ l.invariant.0,
      rw next (mod-lt _ (omega arith)),
      rw id (place_turn _ _ _ _ _ l.invariant.2 (omega (arith, l.invariant.2.size)) (omega (arith, l.invariant.2.size))),
    )

pub returns : goal.returns
unfolding row_ids
returns c = let l = c.loop-id in place_end _ _ _ _ _ l.invariant.2 (omega (arith, l.invariant.2.size)) (omega (arith, l.invariant.2.size))
