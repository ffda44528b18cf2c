-- What a medoid has that is accepted.
use Rattle.std.specs.Prelude.{◌≡◌}
use Rattle.definition.specs.Refusals.{MedoidCall, medoid_number}
use Rattle.accepted.specs.Chain.{passed}
use Rattle.accepted.specs.Checks.{Entries, entries_good, Pivots, pivots_good}

pub record MedoidAccepted (c : MedoidCall) : Type 0 where
  pub entries : Entries c.n c.dim c.vectors
  pub pivots : Pivots c.n c.pivots

pub medoid-accepted : (c : MedoidCall) → medoid_number c ≡ 0 → MedoidAccepted c
unfolding medoid_number
medoid-accepted c e =
    let p₁ = passed 0 _ _ e in
    let p₂ = passed 1 _ _ p₁.1 in
    let p₁₂ = passed 11 _ _ p₂.1 in
    record { entries = entries_good c.n c.dim c.vectors p₁.0 p₂.0; pivots = pivots_good c.n c.pivots p₁₂.0 }
