-- `wipe`. The two fronts that are cleared are the stated room.
use Rattle.search.proofs.Wiping.{wiped}
use Rattle.search.proofs.wipe.Goals as goal

pub returns : goal.returns
returns c =
    wiped _ _ _ (rw c.search_end-w.ensures at c.clear_front.ensures)
