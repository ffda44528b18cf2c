-- `first_free` meets its contract. The invariant: the search from x, with the turns that are left, leads to the same entry as the search from r.
use Rattle.std.proofs.Common.{◌≡◌, ◌<◌, ◌-◌, ◌∷◌}
use Rattle.definition.specs.Draws.{first_free}
use Rattle.draws.proofs.seeds.first_free.Given as goal

abbrev pub invariant-loop : goal.invariant-loop
invariant-loop l = (l.x < l.n) × (first_free l.n (l.start ∷ l.group) (l.n - l.counter) l.x ≡ first_free l.n (l.start ∷ l.group) l.n l.r)
