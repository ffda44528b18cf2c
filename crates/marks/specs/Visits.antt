-- The marks of a call and of a walk: at the start, where something beyond them was written, and how many they can be.
use Rattle.std.specs.Prelude.{◌≡◌, List, [], ℕ, ◌≤◌, ◌<◌, eqb, length, get_or, take, set}
use Rattle.std.proofs.Common.{sym, ap, ◌∙◌, arith, length-set, length-take-le, get_or-take, take-take, get_or-set_same, get_or-set_other}
use borrow.Author.Tests.{ne_eqb}
use Rattle.definition.specs.Lists.{is_in}
use Rattle.laws.specs.Parts.{Within, within_at, within_wider, within_trans}
use Rattle.scratch.specs.Layout.{stray_at, visited_at}
use Rattle.marks.specs.Marked.{count, visited_of, Marked, FirstEpoch, Seen}
use Rattle.marks.specs.Counting.{count_le, count_none}

-- ---- the start of a call: what it writes after its marks were cleared, it writes as one stretch with them
pub first_then : {n epoch : ℕ} {before marked after : List ℕ} → FirstEpoch n before marked epoch → (e : ℕ) → n ≤ e → Within 0 e marked after
    → Within 0 e before after
first_then {n} {epoch} {before} {marked} {after} first e h w =
    within_trans 0 e before marked after (within_wider 0 n before marked first.kept 0 e (omega arith) h) w

-- ---- the start of a walk: no mark is the epoch but that of what is no entry
module _ (n epoch : ℕ) (words : List ℕ) (below : (i : ℕ) → i < n → get_or words i 0 < epoch) where
  mark_at : (i : ℕ) → i < n → get_or (set words (stray_at n) epoch) i 0 ≡ get_or words i 0
  mark_at i h = get_or-set_other words (stray_at n) i epoch 0 (λ e. omega arith)

  unmarked : (i : ℕ) → i < n → get_or (set words (stray_at n) epoch) i 0 ≡ epoch → ⊥
  unmarked i h e = omega (arith, below i h, mark_at i h)

  pub marked_start : n ≤ 65536 → stray_at n < length words → Marked n epoch (set words (stray_at n) epoch)
  marked_start nodes room =
      record {
        nodes = nodes;
        room = omega (arith, length-set words (stray_at n) epoch);
        stray = get_or-set_same words (stray_at n) epoch 0 room;
        marks_le = λ i h. omega (arith, below i h, mark_at i h);
      }

  pub visited_start : n ≤ length words → visited_of n epoch (set words (stray_at n) epoch) ≡ 0
  visited_start room =
      count_none epoch (take n (set words (stray_at n) epoch))
      (λ i h e.
      let l = length-take-le n (set words (stray_at n) epoch) (omega (arith, length-set words (stray_at n) epoch)) in
      let k : i < n = omega arith in
      unmarked i k (sym (get_or-take n (set words (stray_at n) epoch) i 0 k) ∙ e))

  pub seen_start : Seen n epoch (set words (stray_at n) epoch) []
  unfolding is_in
  seen_start i h = ne_eqb (get_or (set words (stray_at n) epoch) i 0) epoch (unmarked i h)

pub visited_most : {n epoch : ℕ} {words : List ℕ} → Marked n epoch words → visited_of n epoch words ≤ n
visited_most {n} {epoch} {words} m = omega (arith, count_le epoch (take n words), length-take-le n words (omega (arith, m.room)))

-- ---- nothing below the visited differs
module _ (n epoch e : ℕ) {before after : List ℕ} (w : Within (visited_at n) e before after) where
  pub marked_kept : Marked n epoch before → Marked n epoch after
  marked_kept m =
      record {
        nodes = m.nodes;
        room = omega (arith, m.room, w.size);
        stray = within_at (visited_at n) e before after w (stray_at n) 0 (omega arith) ∙ m.stray;
        marks_le = λ i h. omega (arith, within_at (visited_at n) e before after w i 0 (omega arith), m.marks_le i h);
      }

  pub visited_kept : visited_of n epoch after ≡ visited_of n epoch before
  visited_kept =
      ap (count epoch)
      (sym (take-take n (visited_at n) after (omega arith)) ∙ ap (take n) w.below ∙ take-take n (visited_at n) before (omega arith))

  pub seen_kept : (seen : List ℕ) → Seen n epoch before seen → Seen n epoch after seen
  seen_kept seen s i h = ap (λ (z : ℕ). eqb z epoch) (within_at (visited_at n) e before after w i 0 (omega arith)) ∙ s i h
