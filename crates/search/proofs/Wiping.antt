-- Two fronts that were cleared are the stated room.
use Prim.Native.Nat.{ℕ}
use Rattle.definition.specs.Refusals.{search_words, search_floats}
use Rattle.scratch.specs.Lent.{Lent}
use Rattle.scratch.specs.Layout.{search_end, search_floats_end}
use Rattle.scratch.specs.Clear.{FrontClear}
use Rattle.search.specs.Answering.{Wiped}

pub wiped : (n : ℕ) (before after : Lent) → FrontClear (search_end n) search_floats_end before.words before.floats after.words after.floats
    → Wiped n before after
unfolding search_words search_floats
wiped n before after c = record { words_are = c.words_are; floats_are = c.floats_are }
