-- A table that is searched: the test of 8 by its two parts.
use Rattle.std.specs.Prelude.{◌≡◌, ℕ, true, false, not, List, length, refl}
use Rattle.definition.specs.Tables.{search_rule}
use Rattle.definition.specs.Refusals.{bad_length, bad_searched}
use Rattle.checks.specs.Lengths.{wrong_length}

pub searched-length : (n degree : ℕ) (table : List ℕ) → wrong_length n degree (length table) ≡ true → bad_searched n degree table ≡ true
unfolding bad_searched bad_length wrong_length
searched-length n degree table e = rw e refl

pub searched_rule : (n degree : ℕ) (table : List ℕ) → wrong_length n degree (length table) ≡ false → bad_searched n degree table ≡ not (search_rule n table)
unfolding bad_searched bad_length wrong_length
searched_rule n degree table e = rw e refl
