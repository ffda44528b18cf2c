-- `quotient_of` meets its contract: distances are small enough to be floats, and the quotient is the definition's, by its two cases.
use mathlib.Core.Path.{◌≡◌, refl}
use Prim.Native.Nat.{ℕ, zero, suc}
use Rattle.definition.specs.Metric.{whole}
use Rattle.definition.specs.Floats.{largest, divided}
use Rattle.definition.specs.Prune.{quotient}
use Rattle.prune.proofs.quotient_of.Goals as goal

by_none : (dist apart : ℕ) → apart ≡ 0 → largest ≡ quotient dist apart
unfolding quotient
by_none dist apart e = rw e refl

by_some : (dist apart : ℕ) → (apart ≡ 0 → ⊥) → divided (whole dist) (whole apart) ≡ quotient dist apart
unfolding quotient
by_some dist zero n = absurd (n refl)
by_some dist (suc apart) n = refl

pub returns-then-apart-eq0 : goal.returns-then-apart-eq0
unfolding largest
returns-then-apart-eq0 c = by_none _ _ c.if-apart-eq0.true

pub returns-else-apart-eq0 : goal.returns-else-apart-eq0
unfolding divided whole
returns-else-apart-eq0 c = by_some _ _ c.if-apart-eq0.false
