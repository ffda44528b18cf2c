-- Entry by entry: no id stands twice in a fresh row, and each is an id below n or padding. And the words as a batch begins with them.
use Rattle.std.specs.Prelude.{◌≡◌, refl, Bool, ℕ, zero, suc, ◌+◌, ◌*◌, ◌-◌, ◌/◌, ◌≤◌, ◌<◌, ltb, get_or}
use Rattle.std.proofs.Common.{sym, ap, ◌∙◌}
use Rattle.std.proofs.Math.Path.{subst}
use Rattle.std.proofs.Math.Bool.{true, false}
use mathlib.Core.List.{List, Memᴰ as Mem}
use native.Mathlib.Omega.{arith}
use borrow.Author.Tests.{ltb-true, ltb-false}
use Rattle.std.proofs.Math.ListN.{length}
use Rattle.definition.specs.Tables.{pad, padded}
use Rattle.laws.specs.Listed.{fresh_width}
use Rattle.laws.specs.Members.{mem-at}
use Rattle.laws.specs.Apart.{Apart, nobody, another}
use Rattle.laws.specs.Parts.{part_at}
use Rattle.laws.specs.Tables.{padded_id, padded-pad}
use Rattle.laws.specs.Words.{padding}
use Rattle.scratch.specs.Layout.{stamps_at, fresh_at, fresh_row_at, fresh_end}
use Rattle.scratch.specs.Lent.{Lent}
use Rattle.given.specs.Given.{Given, WalkLimits}
use Rattle.given.specs.Listing.{Listing}
use Rattle.given.specs.Fresh.{entry}
use Rattle.marks.specs.Marked.{Marks}
use Rattle.greedy.specs.Scratch.{walk_end_all}
use Rattle.batch_fresh.specs.Made.{plan_of, Between, Fit, RowsMade, fresh_for, inserted}

apart-at : {xs : List ℕ} → Apart xs → (i j : ℕ) → i < j → j < length xs → get_or xs i 0 ≡ get_or xs j 0 → ⊥
apart-at nobody i j h l e = absurd (omega arith)
apart-at (another n a) i zero h l e = absurd (omega arith)
apart-at (another {x = x} {xs = xs} n a) zero (suc j) h l e = n (subst (λ (z : ℕ). Mem z xs) (sym e) (mem-at 0 xs j (omega arith)))
apart-at (another n a) (suc i) (suc j) h l e = apart-at a i j (omega arith) (omega arith) e

module _ {n own : ℕ} {xs : List ℕ} (fit : Fit n own xs) where
  -- of two equal words the later one is padding
  padded_once : n ≤ 65536 → (i j : ℕ) → i < j → j < fresh_width → get_or (padded fresh_width xs) i 0 ≡ get_or (padded fresh_width xs) j 0
      → (t : Bool) → ltb j (length xs) ≡ t → n ≤ get_or (padded fresh_width xs) j 0
  unfolding pad
  padded_once small i j h l e true t =
      let k : j < length xs = ltb-true j (length xs) t in
      absurd (apart-at fit.once i j h k (sym (padded_id fresh_width xs i (omega arith)) ∙ e ∙ padded_id fresh_width xs j k))
  padded_once small i j h l e false t = let p = padded-pad fresh_width xs j (ltb-false j (length xs) t) l in omega arith

  -- a word that is no padding is one of the ids
  padded_below : (j : ℕ) → j < fresh_width → (get_or (padded fresh_width xs) j 0 ≡ padding → ⊥) → (t : Bool) → ltb j (length xs) ≡ t
      → get_or (padded fresh_width xs) j 0 < n
  unfolding pad
  padded_below j h p true t =
      let k = ltb-true j (length xs) t in
      subst (λ (z : ℕ). z < n) (sym (padded_id fresh_width xs j k)) (fit.below (get_or xs j 0) (mem-at 0 xs j k))
  padded_below j h p false t = absurd (p (padded-pad fresh_width xs j (ltb-false j (length xs) t) h))

-- ---- the entries of the fresh rows, counted from the first word of the first row
module _ {g : Given} {wide : List ℕ} {l : Listing} {before after : Lent} {k : ℕ} (m : RowsMade g wide l before after k) where
  -- the row at place q
  abbrev row_of : ℕ → List ℕ
  row_of q = fresh_for g wide (inserted g l q)

  entry_in : (q c : ℕ) → q < k → c / fresh_width ≡ q → get_or (padded fresh_width (row_of q)) (c - fresh_width * q) 0 ≡ entry g.n after.words c
  entry_in q c h f =
      let r : fresh_row_at g.n q + (c - fresh_width * q) ≡ fresh_at g.n + c = omega arith in
      ap (λ (z : List ℕ). get_or z (c - fresh_width * q) 0) (sym (m.rows q h))
      ∙ part_at (fresh_row_at g.n q) (fresh_row_at g.n q + fresh_width) after.words (c - fresh_width * q) 0 (omega arith)
      ∙ ap (λ (z : ℕ). get_or after.words z 0) r

  pub fresh_once : g.n ≤ 65536 → (a b : ℕ) → a < b → b < k * fresh_width → a / fresh_width ≡ b / fresh_width
      → entry g.n after.words a ≡ entry g.n after.words b → g.n ≤ entry g.n after.words b
  fresh_once small a b h c d e =
      let p = b / fresh_width in
      let q : b / fresh_width < k = omega arith in
      subst (λ (z : ℕ). g.n ≤ z) (entry_in p b q refl)
      (padded_once (m.fits p q) small (a - fresh_width * p) (b - fresh_width * p) (omega arith) (omega arith)
      (entry_in p a q d ∙ e ∙ sym (entry_in p b q refl)) (ltb (b - fresh_width * p) (length (row_of p))) refl)

  pub fresh_below : (a : ℕ) → a < k * fresh_width → (entry g.n after.words a ≡ padding → ⊥) → entry g.n after.words a < g.n
  fresh_below a h p =
      let s = a / fresh_width in
      let q : a / fresh_width < k = omega arith in
      let e = entry_in s a q refl in
      subst (λ (z : ℕ). z < g.n) e
      (padded_below (m.fits s q) (a - fresh_width * s) (omega arith) (λ z. p (sym e ∙ z)) (ltb (a - fresh_width * s) (length (row_of s))) refl)

-- ---- no mark is past the epoch, and stamps are 0
pub between_start : {g : Given} {epoch : ℕ} {words : List ℕ} → WalkLimits g → fresh_end g.n ≤ length words → Marks g.n words epoch
    → ((i : ℕ) → i < g.n → get_or words (stamps_at g.n + i) 0 ≡ 0) → Between g epoch 0 words
between_start {g} limits room marks stamps =
    record {
      room = record {
        space = record { nodes = limits.limits.nodes; room = omega (arith, walk_end_all (plan_of g) refl); beam_le = limits.beam_few };
        marks = marks;
      };
      word_room = room;
      stamps = λ i h. let k = stamps i h in omega arith;
    }
