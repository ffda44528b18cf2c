-- The quotient of two whole numbers up to 2 ^ 24 as f32, and the test that the code makes of its divisor. Assumes nothing.
use Rattle.std.specs.Prelude.{◌≡◌, false, ℕ, ◌≤◌, ◌<◌, eqb, Float}
use Rattle.std.proofs.Common.{ap, ◌∙◌, zero-le}
use Rattle.std.specs.Float.{binary32}
use Rattle.std.specs.Float.Ieee.{round, eq}
use Rattle.definition.specs.Metric.{whole}
use Rattle.definition.specs.Floats.{nought, divided}
use Rattle.whole.specs.Whole.{limit, exact, nought-whole}
use Rattle.whole.specs.Values.{eq_values, div_values}

pub zero_test : (n : ℕ) → n ≤ limit → eq (whole n) nought ≡ eqb n 0
zero_test n h = ap (λ (z : Float). eq (whole n) z) nought-whole ∙ eq_values (whole n) (whole 0) n 0 (exact n h) (exact 0 zero-le)

-- one rounding
pub divided-whole : (a b : ℕ) → a ≤ limit → b ≤ limit → 0 < b → divided (whole a) (whole b) ≡ round binary32 false a b
unfolding divided
divided-whole a b p q h = div_values (whole a) (whole b) a b (exact a p) (exact b q) h
