-- What the first words of a walk's scratch hold: the marks of the n entries, and behind them the mark of what is no entry.
use Rattle.std.specs.Prelude.{◌≡◌, ◌||◌, cond, List, [], ◌∷◌, ◌++◌, ℕ, suc, ◌+◌, ◌≤◌, ◌<◌, min, eqb, length, get_or, take, set}
use Rattle.definition.specs.Lists.{is_in}
use Rattle.definition.specs.Tables.{pad, cleaned}
use Rattle.laws.specs.All.{All}
use Rattle.laws.specs.Parts.{Within}
use Rattle.scratch.specs.Layout.{stray_at, visited_at}

-- how many marks are e
unfoldable pub count : ℕ → List ℕ → ℕ
count e [] = 0
count e (x ∷ xs) = cond (eqb x e) (suc (count e xs)) (count e xs)

-- each mark is at most the epoch
abbrev pub Marks : ℕ → List ℕ → ℕ → Type 0
Marks n words epoch = (i : ℕ) → i < n → get_or words i 0 ≤ epoch

-- the epoch with which a call begins, past no mark; and no word but the marks differs
pub record FirstEpoch (n : ℕ) (before after : List ℕ) (r : ℕ) : Type 0 where
  pub is : r ≡ 1
  pub marks : Marks n after r
  pub kept : Within 0 n before after

-- the words of a row that are new, in their order: neither padding nor among the seen, each once
unfoldable pub news : List ℕ → List ℕ → List ℕ
news seen [] = []
news seen (w ∷ ws) = let a = news seen ws in let b = w ∷ news (seen ++ (w ∷ [])) ws in cond (eqb w pad || is_in w seen) a b

-- how many entries are marked: as many as were visited
abbrev pub visited_of : ℕ → ℕ → List ℕ → ℕ
visited_of n epoch words = count epoch (take n words)

-- what is safe to run on: no mark past the epoch, and what is no entry counts as visited
pub record Marked (n epoch : ℕ) (words : List ℕ) : Type 0 where
  pub nodes : n ≤ 65536
  pub room : stray_at n < length words
  pub stray : get_or words (stray_at n) 0 ≡ epoch
  pub marks_le : Marks n words epoch

-- an entry is marked exactly when it is one of the seen
abbrev pub Seen : ℕ → ℕ → List ℕ → List ℕ → Type 0
Seen n epoch words seen = (i : ℕ) → i < n → eqb (get_or words i 0) epoch ≡ is_in i seen

-- the place of a word's mark: all that is no entry has one
abbrev pub mark_of : ℕ → ℕ → ℕ
mark_of n w = min w (stray_at n)

-- 0 where a mark is the epoch, else 1
abbrev pub new_of : ℕ → ℕ → ℕ
new_of mark epoch = cond (eqb mark epoch) 0 1

-- one word: its mark was set, and its place written behind the first `len` ids; r are they where it was not marked before, else still `len`
pub record Notes (n epoch word : ℕ) (before after ids fresh : List ℕ) (len r : ℕ) : Type 0 where
  pub marks_are : after ≡ set before (mark_of n word) epoch
  pub fresh_are : fresh ≡ set ids len (mark_of n word)
  pub is : r ≡ len + new_of (get_or before (mark_of n word) 0) epoch

-- the new ids of a row were marked, and r of them written to the front of `fresh`. A word that is no entry counts as padding
pub record Gathers (n epoch : ℕ) (before after row fresh : List ℕ) (r : ℕ) : Type 0 where
  pub marked : Marked n epoch after
  pub grow : visited_of n epoch after ≡ visited_of n epoch before + r
  pub few : r ≤ length row
  pub fresh_are : (seen : List ℕ) → Seen n epoch before seen → take r fresh ≡ news seen (cleaned n row)
  pub seen : (seen : List ℕ) → Seen n epoch before seen → Seen n epoch after (seen ++ news seen (cleaned n row))
  pub inside : All (λ (i : ℕ). i < n) (take r fresh)
  pub kept : Within 0 (visited_at n) before after
