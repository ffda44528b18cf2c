-- The search that a text asks for is lent room enough.
use Rattle.std.specs.Prelude.{ℕ, ◌≡◌, false, List, length, replicate}
use Rattle.std.proofs.Common.{arith, le-ltb}
use Rattle.std.proofs.lemmas.List.{length-replicate}
use Rattle.definition.specs.Refusals.{short, search_short}
use Rattle.definition.specs.Seek.{seek_call}
use Rattle.laws.specs.Truth.{neither_or}

-- just enough is enough
short_replicate : {A : Type 0} (k : ℕ) (x : A) → short k (replicate k x) ≡ false
unfolding short
short_replicate k x = le-ltb (length (replicate k x)) k (omega (arith, length-replicate k x))

pub seek-room : (vs : List ℕ) → search_short (seek_call vs) ≡ false
unfolding search_short seek_call
seek-room vs = neither_or _ _ (short_replicate _ _) (neither_or _ _ (short_replicate _ _) (neither_or _ _ (short_replicate _ _) (short_replicate _ _)))
