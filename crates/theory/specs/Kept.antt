-- What is promised of rows (demand 3, first sentence), as types. The build rule of a row: "distinct ids below n, not its own, then only padding".
-- Rule proves that the test of refusal 8 says this; build.Batches, that open, a batch and close leave it so.
use Rattle.std.specs.Prelude.{ℕ, ◌-◌, ◌*◌, ◌≤◌, ◌<◌, ◌≡◌, length, replicate}
use mathlib.Core.List.{List, ◌++◌, Memᴰ as Mem, Nodup}
use Rattle.definition.specs.Tables.{pad, row}

-- the row of `own`: distinct ids below n, never its own, at most `width`, then padding
pub record RowKept (n width own : ℕ) (words : List ℕ) : Type 0 where
  pub ids : List ℕ
  pub split : words ≡ ids ++ replicate (width - length ids) pad
  pub most : length ids ≤ width
  pub below : (x : ℕ) → Mem x ids → x < n
  pub not_own : ¬ Mem own ids
  pub once : Nodup ids

pub record TableKept (n width : ℕ) (table : List ℕ) : Type 0 where
  pub size : length table ≡ n * width
  pub rows : (i : ℕ) → i < n → RowKept n width i (row width table i)
