-- Marks: some ids are marked with an epoch above every mark. Then a mark is the epoch exactly where its place is among them; so the other ids whose mark it is
-- are as many as are in both.
use Rattle.std.specs.Prelude.{ℕ, ◌<◌, ◌≡◌, List, length, get_or}
use Rattle.definition.specs.Recall.{in_both}
use Rattle.marks.specs.Marked.{Marks, Seen}

-- the ids are places of a list so long
pub record Places (ids : List ℕ) (long : ℕ) : Type 0 where
  pub inside : (j : ℕ) → j < length ids → get_or ids j 0 < long

-- every mark is below the epoch
pub record Unmarked (epoch : ℕ) (words : List ℕ) : Type 0 where
  pub below_at : (i : ℕ) → i < length words → get_or words i 0 < epoch

-- the marks of xs, and none is above the epoch
pub record MarksOf (epoch : ℕ) (xs words : List ℕ) : Type 0 where
  pub seen : Seen (length words) epoch words xs
  pub marks_le : Marks (length words) words epoch

-- r is how many of xs have the epoch as their mark: where the marks are those of ys, how many are in both
pub record Counted (epoch : ℕ) (words xs : List ℕ) (r : ℕ) : Type 0 where
  pub is : (ys : List ℕ) → Seen (length words) epoch words ys → r ≡ in_both xs ys

-- r is how many are in both, and none of the marks that are left is above the epoch
pub record CountedBoth (epoch : ℕ) (xs ys words : List ℕ) (r : ℕ) : Type 0 where
  pub is : r ≡ in_both xs ys
  pub marks_le : Marks (length words) words epoch
