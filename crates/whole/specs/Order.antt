-- Two whole numbers up to 2 ^ 24 compare as f32 the way they compare as numbers. In code `a < b` is `lt a b`, and `a == b` is `eq a b`. Assumes nothing.
use Rattle.std.specs.Prelude.{◌≡◌, ℕ, ◌≤◌, ltb, eqb}
use Rattle.std.specs.Float.Ieee.{lt, eq}
use Rattle.definition.specs.Metric.{whole}
use Rattle.whole.specs.Whole.{limit, exact}
use Rattle.whole.specs.Values.{lt_values, eq_values}

module _ (a b : ℕ) (p : a ≤ limit) (q : b ≤ limit) where
  pub lt_whole : lt (whole a) (whole b) ≡ ltb a b
  lt_whole = lt_values (whole a) (whole b) a b (exact a p) (exact b q)

  pub eq_whole : eq (whole a) (whole b) ≡ eqb a b
  eq_whole = eq_values (whole a) (whole b) a b (exact a p) (exact b q)
