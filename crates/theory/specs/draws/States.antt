-- The generator from draw to draw.
use Rattle.std.specs.Prelude.{ℕ, zero, suc}
use Rattle.definition.specs.Draws.{advance}

-- the state after k draws
unfoldable pub after : ℕ → ℕ → ℕ
after zero s = s
after (suc k) s = after k (advance s)
