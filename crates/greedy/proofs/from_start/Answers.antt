-- `from_start`, by its two cases.
use mathlib.Core.Path.{sym, subst}
use Rattle.greedy.specs.Scratch.{Ends}
use Rattle.greedy.specs.Cases.{from_none, from_some}
use Rattle.greedy.proofs.Runs.{start_ends}
use Rattle.greedy.proofs.from_start.Goals as goal

pub returns-then-p-eq0 : goal.returns-then-p-eq0
returns-then-p-eq0 c =
    let none = c.if-p-eq0.true in
    rw c.outcome.ensures (subst (Ends _ _ _ _ _ _) (sym (from_none _ _ _ _ none)) (start_ends _ _ _ c.step-s.ensures))

pub walk-requires : goal.walk-requires
walk-requires c =
    let rooms = c.requires.start_lt_n in
    record { ready = c.requires.ready; live = c.requires.live; ground = c.requires.ground; fresh_len = (rooms.1, rooms.2) }

pub returns : goal.returns
returns c =
    let some = c.if-p-eq0.false in
    subst (Ends _ _ _ _ _ _) (sym (from_some _ _ _ _ some)) c.walk.ensures
