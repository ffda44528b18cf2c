-- `first_free` meets its contract.
use Rattle.std.proofs.Common.{◌≡◌, ◌+◌, ◌-◌, sym, ◌∙◌, mod-lt, arith}
use Rattle.draws.specs.Seeds.{free_turn, free_here, free_end}
use Rattle.draws.proofs.seeds.first_free.Goals as goal

pub returns-then-not-is_taken : goal.returns-then-not-is_taken
returns-then-not-is_taken c =
    let l = c.loop in free_here _ _ _ _ _ l.invariant.0 l.invariant.1 (omega arith) (sym c.if-not-is_taken.true ∙ c.is_taken.ensures)

pub loop-preserved : goal.loop-preserved
loop-preserved c =
    let l = c.loop in
    let taken = sym c.if-not-is_taken.false ∙ c.is_taken.ensures in
    let next = c.wrapped-x.ensures in
    let left : c.args.n - (l.counter + 1) ≡ c.args.n - l.counter - 1 = omega arith in (
      rw next (mod-lt _ (omega arith)),
      rw (next, left) (free_turn _ _ _ _ _ l.invariant.0 l.invariant.1 (omega arith) taken),
    )

pub returns : goal.returns
returns c = let l = c.loop in free_end _ _ _ _ _ l.invariant.0 l.invariant.1 (omega arith)
