-- `pop`. The test of the stop is the definition's; if the walk goes on, the best that is open is closed in its place.
use mathlib.Core.Path.{sym, ◌∙◌}
use Prim.Native.Nat.{◌≤◌}
use native.Mathlib.Omega.{arith}
use lib.ListN.{length}
use Rattle.kept.specs.Says.{standing}
use Rattle.kept.specs.Laws.{works_fit}
use Rattle.kept.proofs.Popping.{pop_none, pop_some, pop_spent}
use Rattle.kept.proofs.pop.Goals as goal
use Rattle.kept.proofs.pop.Goals.{Start}

-- all of work stands in the keys
fits : (s : Start) → s.args.w.len ≤ length s.args.keys.now
fits s = (works_fit s.requires.is).0

pub next-requires : goal.next-requires
next-requires c = works_fit c.requires.is

pub returns-in_err-d : goal.returns-in_err-d
returns-in_err-d c = rw c.from_residual.ensures (pop_spent _ (standing c.args.keys.now c.args.w) c.in_err-d.ensures)

pub halts-requires : goal.halts-requires
halts-requires c = (fits (goal.at.halts-requires c).Start, c.in_ok-d.ensures.0)

pub returns-then-halts : goal.returns-then-halts
returns-then-halts c =
    pop_none _ (standing c.args.keys.now c.args.w) _ c.in_ok-d.ensures.1 (sym c.halts.ensures ∙ c.if-halts.true)

pub bounds-keys-d : goal.bounds-keys-d
bounds-keys-d c = let p = goal.at.bounds-keys-d c in omega (arith, c.in_ok-d.ensures.0, fits p.Start)

pub overflow_sub-keys : goal.overflow_sub-keys
overflow_sub-keys c = omega (arith, c.in_ok-d.ensures.1.odd c.in_ok-d.ensures.0)

pub bounds-keys-d-2 : goal.bounds-keys-d-2
bounds-keys-d-2 c = let p = goal.at.bounds-keys-d-2 c in omega (arith, c.in_ok-d.ensures.0, fits p.Start)

pub returns : goal.returns
returns c =
    pop_some _ (standing c.args.keys.now c.args.w) _ c.in_ok-d.ensures.1 (sym c.halts.ensures ∙ c.if-halts.false) c.in_ok-d.ensures.0
    c.id_of.result c.id_of.ensures
