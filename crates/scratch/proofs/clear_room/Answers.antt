-- `clear_room`: the two fronts are the room.
use Rattle.scratch.specs.Clear.{room-clear}
use Rattle.scratch.proofs.clear_room.Goals as goal

pub returns : goal.returns
returns c =
    room-clear _ _ _ _ _ _ _ c.fresh_end-w.ensures c.floats_end-f.ensures c.clear_front.ensures
