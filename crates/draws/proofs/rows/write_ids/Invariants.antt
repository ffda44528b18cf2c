-- `write_ids` meets its contract. The invariant: step is (r + j) mod (n-1), and each word before place j is the row's id.
use Rattle.std.proofs.Common.{◌≡◌, ◌+◌, ◌-◌, ◌%◌, ◌<◌, length}
use Rattle.draws.specs.Places.{Placing}
use Rattle.draws.specs.Rows.{id_at}
use Rattle.draws.proofs.rows.write_ids.Given as goal

abbrev pub invariant-loop-id : goal.invariant-loop-id
invariant-loop-id l =
    (l.step ≡ (l.r + l.id-index) % (l.n - 1)) × (l.step < l.n - 1) × Placing (id_at l.n l.i l.r) (length l.initial.ids) l.initial.ids l.ids l.id-index
