-- What a batch may change, at one moment of it: the wide table and the two lent slices.
use Rattle.std.specs.Prelude.{ℕ, ◌≤◌, List, Float, length}
use Rattle.laws.specs.Parts.{Within}
use Rattle.scratch.specs.Layout.{fresh_end, floats_end}
use Rattle.scratch.specs.Lent.{Lent, lent}

pub record Held : Type 0 where
  pub wide : List ℕ
  pub lent : Lent

abbrev pub held : List ℕ → List ℕ → List Float → Held
held wide words floats = record { wide = wide; lent = lent words floats }

-- the room that 01 states for a batch, close or whole build
pub record Roomy (n : ℕ) (l : Lent) : Type 0 where
  pub words : fresh_end n ≤ length l.words
  pub floats : floats_end n ≤ length l.floats

-- nothing beyond that room differs
pub record RoomKept (n : ℕ) (l₀ l : Lent) : Type 0 where
  pub words : Within 0 (fresh_end n) l₀.words l.words
  pub floats : Within 0 (floats_end n) l₀.floats l.floats
