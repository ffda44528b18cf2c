-- The two lent slices as one thing, at one moment of a call.
use Rattle.std.specs.Prelude.{ℕ, List, Float}

pub record Lent : Type 0 where
  pub words : List ℕ
  pub floats : List Float

abbrev pub lent : List ℕ → List Float → Lent
lent words floats = record { words = words; floats = floats }
