-- Where everything lies in the two lent slices, for n entries: each offset stands here and nowhere else. A name that ends in `At` is where a region begins,
-- one in `End` where it ends. The theorems at the end say that the regions lie apart and together are just the room that the definition states.
use Rattle.std.specs.Prelude.{◌≡◌, refl, ◌⊎◌, ℕ, ◌+◌, ◌*◌, ◌≤◌}
use Rattle.std.proofs.Common.{sym, subst, inl, inr}
use mathlib.Core.List.Memᴰ.{cases_cons as cases}
use mathlib.Core.List.Memᴰ.{not-nil}
use mathlib.Core.List.{List, [], ◌∷◌, Memᴰ as Mem}
use native.Mathlib.Omega.{arith}
use Rattle.definition.specs.Prune.{cut}
use Rattle.definition.specs.Refusals.{search_words, search_floats, build_words, build_floats, report_words, report_floats}

-- The greatest beam: as many keys a walk has
abbrev pub most_beam : ℕ
most_beam = 256

-- The slack of the greatest degree: no row of a table has more words
abbrev pub widest : ℕ
widest = 84

-- Words of a walk: the n marks from 0 on, and the mark of what is no entry. A walk that keeps what it visits, as a build's does, has two regions more: the
-- ids, and behind a few spare words their distances
abbrev pub stray_at : ℕ → ℕ
stray_at n = n

abbrev pub visited_at : ℕ → ℕ
visited_at n = n + 1

abbrev pub visited_end : ℕ → ℕ
visited_end n = 2 * n + 1

abbrev pub visited_dists_at : ℕ → ℕ
visited_dists_at n = 2 * n + 256

-- Words of a pool, beyond those of a walk: its ids, the stamps of the n entries, and its distances
abbrev pub pool_at : ℕ → ℕ
pool_at n = 3 * n + 256

abbrev pub stamps_at : ℕ → ℕ
stamps_at n = 4 * n + 256

abbrev pub pool_dists_at : ℕ → ℕ
pool_dists_at n = 5 * n + 256

abbrev pub pool_end : ℕ → ℕ
pool_end n = 6 * n + 256

-- how many factors pruning needs, from 0 on in the floats: one for each entry that the definition's cut leaves
abbrev pub most_factors : ℕ
most_factors = 750

pub factors_cut : most_factors ≡ cut
unfolding cut
factors_cut = refl

-- Words of the merge, behind the marks, where all else of walks and pools was, so that the marks last from one batch to the next: the heads of the chains,
-- the seats of the listed, and a link for each word of a fresh row
abbrev pub heads_at : ℕ → ℕ
heads_at n = n

abbrev pub seats_at : ℕ → ℕ
seats_at n = 2 * n

abbrev pub links_at : ℕ → ℕ
links_at n = 3 * n

abbrev pub links_end : ℕ → ℕ
links_end n = 3 * n + 16384

-- The fresh rows of a batch, 64 words each: they outlast walks, pools and merge
abbrev pub fresh_at : ℕ → ℕ
fresh_at n = 6 * n + 16384

abbrev pub fresh_row_at : ℕ → ℕ → ℕ
fresh_row_at n p = 6 * n + 16384 + 64 * p

abbrev pub fresh_end : ℕ → ℕ
fresh_end n = 6 * n + 32768

-- where the room of a search ends, that of a report, and the floats of a batch: what of it no region has is spare
abbrev pub search_end : ℕ → ℕ
search_end n = n + 512

abbrev pub search_floats_end : ℕ
search_floats_end = 512

abbrev pub report_end : ℕ → ℕ
report_end n = n + 1024

abbrev pub report_floats_end : ℕ
report_floats_end = 1024

abbrev pub floats_end : ℕ → ℕ
floats_end n = 4 * n + 1024

-- A region, and regions that follow on one another from a place to an end, each beginning where the one before it ends
pub record Region : Type 0 where
  pub at : ℕ
  pub size : ℕ

abbrev lies : ℕ → ℕ → Region
lies at size = record { at = at; size = size }

pub Fills : ℕ → List Region → ℕ → Type 0
Fills begin [] end = begin ≡ end
Fills begin (r ∷ rs) end = (r.at ≡ begin) × Fills (begin + r.size) rs end

-- so each ends before any later one begins
fills_from : (begin end : ℕ) (rs : List Region) → Fills begin rs end → (s : Region) → Mem s rs → begin ≤ s.at
unfolding Fills
fills_from begin end [] f s m = absurd (not-nil m)
fills_from begin end (r ∷ rs) f s m = go (fills_from (begin + r.size) end rs f.1 s) (cases m)
  where
    go : (Mem s rs → begin + r.size ≤ s.at) → (s ≡ r) ⊎ Mem s rs → begin ≤ s.at
    go later (inl e) = let q = f.0 in subst (λ (t : Region). begin ≤ t.at) (sym e) (omega arith)
    go later (inr h) = let l = later h in omega arith

pub fills_apart : (begin end : ℕ) (r : Region) (rs : List Region) → Fills begin (r ∷ rs) end → (s : Region) → Mem s rs → r.at + r.size ≤ s.at
unfolding Fills
fills_apart begin end r rs f s m = let q = f.0 in let l = fills_from (begin + r.size) end rs f.1 s m in omega arith

pub report_floats_end_lem : report_floats_end ≡ report_floats
unfolding report_floats search_floats
report_floats_end_lem = refl

module _ (n : ℕ) where
  -- marks, the mark of what is no entry, spare
  abbrev pub search_word_regions : List Region
  search_word_regions = lies 0 n ∷ lies (stray_at n) 1 ∷ lies (visited_at n) 511 ∷ []

  -- while the fresh rows are made: a walk's, the visited and, behind a few spare, their distances, the pool, its stamps, its distances, spare, the fresh rows
  abbrev pub fresh_word_regions : List Region
  fresh_word_regions =
      lies 0 n ∷ lies (stray_at n) 1 ∷ lies (visited_at n) n ∷ lies (visited_end n) 255 ∷ lies (visited_dists_at n) n
      ∷ lies (pool_at n) n ∷ lies (stamps_at n) n ∷ lies (pool_dists_at n) n ∷ lies (pool_end n) 16128 ∷ lies (fresh_at n) 16384 ∷ []

  -- the factors, spare
  abbrev pub fresh_float_regions : List Region
  fresh_float_regions = lies 0 most_factors ∷ lies most_factors (4 * n + 274) ∷ []

  -- while the rows are merged: marks, heads, seats, links, spare, the fresh rows
  abbrev pub merge_word_regions : List Region
  merge_word_regions =
      lies 0 n ∷ lies (heads_at n) n ∷ lies (seats_at n) n ∷ lies (links_at n) 16384 ∷ lies (links_end n) (3 * n) ∷ lies (fresh_at n) 16384 ∷ []

  pub search_words_filled : Fills 0 search_word_regions (search_words n)
  unfolding search_words Fills
  search_words_filled = (refl, (omega arith, (omega arith, omega arith)))

  -- a report lends its searches the front of its room, and the rest is spare
  pub report_words_end : report_end n ≡ report_words n
  unfolding report_words search_words
  report_words_end = omega arith

  pub fresh_words_filled : Fills 0 fresh_word_regions (build_words n)
  unfolding build_words Fills
  fresh_words_filled =
      (refl, (omega arith, (omega arith, (omega arith, (omega arith, (omega arith, (omega arith, (omega arith, (omega arith, (omega arith, omega arith))))))))))

  pub fresh_floats_filled : Fills 0 fresh_float_regions (build_floats n)
  unfolding build_floats Fills
  fresh_floats_filled = (refl, (refl, omega arith))

  pub merge_words_filled : Fills 0 merge_word_regions (build_words n)
  unfolding build_words Fills
  merge_words_filled = (refl, (omega arith, (omega arith, (omega arith, (omega arith, (omega arith, omega arith))))))
