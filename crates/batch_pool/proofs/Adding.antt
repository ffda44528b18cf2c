-- One id more in the pool, or none; and one stretch of ids after another. As many marks as ids: so an id that is not marked finds room.
use mathlib.Core.Path.{◌≡◌, refl, sym, ap, ap₂, ◌∙◌, subst}
use mathlib.Core.Bool.{Bool, true, false, ◌||◌, or-true, or-false}
use mathlib.Core.List.{List, [], ◌∷◌, ◌++◌, map, append-nil, Memᴰ as Mem}
use Prim.Native.Nat.{ℕ, suc, ◌+◌, ◌*◌, ◌≤◌, ◌<◌}
use native.Mathlib.Numerals.{add-one}
use native.Mathlib.Nat.{le_of_eq}
use native.Mathlib.Omega.{arith}
use borrow.Author.Tests.{eqb-true, eqb-false, eq-eqb, ne_eqb}
use lib.Dec.{eqb}
use lib.ListN.{length, get_or, take, drop, set, length-set, length-drop}
use lib.Seq.{take-suc-set, take-set-le, take-set-lt, drop-set-lt, drop-set-add, get_or-take, get_or-drop, get_or-set_same, get_or-set_other, length-take-le}
use Rattle.definition.specs.Lists.{is_in}
use Rattle.laws.specs.Apart.{Apart, apart_snoc}
use Rattle.laws.specs.Mapped.{map_snoc}
use Rattle.laws.specs.Members.{is_in-mem, is_in-none, is_in_snoc, snoc_elim, same_eq, same_absorbs, same_join}
use Rattle.marks.specs.Marked.{count}
use Rattle.marks.specs.Counting.{count_le, count_lt, count_set}
use Rattle.batch_pool.specs.Pooled.{Pool, pool_as, pool_ids, pool_marks, Pooled, Measured, Added}

pub mark_at : (n : ℕ) (p : Pool) (i : ℕ) → i < n → get_or (pool_marks n p) i 0 ≡ get_or p.words (n + i) 0
mark_at n p i k = get_or-take n (drop n p.words) i 0 k ∙ get_or-drop n p.words i 0

module _ {n : ℕ} {p : Pool} (h : Pooled n p) where
  marks_length : length (pool_marks n p) ≡ n
  marks_length = length-take-le n (drop n p.words) (omega (arith, length-drop n p.words, h.size))

  -- as many marks as ids
  pub pooled_few : p.len ≤ n
  pooled_few = omega (arith, h.counted, marks_length, count_le p.stamp (pool_marks n p))

  module _ (id dist : ℕ) (low : id < n) where
    pub added_seen : get_or p.words (n + id) 0 ≡ p.stamp → Added n p p (id ∷ []) (λ d. dist ≡ d id)
    added_seen e =
        record {
          pooled = h;
          same = same_absorbs (pool_ids p) id (is_in-mem id (pool_ids p) (sym (h.marks id low) ∙ eq-eqb (get_or p.words (n + id) 0) p.stamp e));
          measured = λ d k m. m;
        }

    module _ (new : get_or p.words (n + id) 0 ≡ p.stamp → ⊥) where
      mark_new : get_or (pool_marks n p) id 0 ≡ p.stamp → ⊥
      mark_new e = new (sym (mark_at n p id low) ∙ e)

      pub pooled_room : p.len < n
      pooled_room = omega (arith, h.counted, marks_length, count_lt p.stamp (pool_marks n p) id (omega (arith, marks_length)) mark_new)

      -- the words when the mark is set, when the id is written too, and then its distance
      abbrev marked : List ℕ
      marked = set p.words (n + id) p.stamp

      abbrev named : List ℕ
      named = set marked p.len id

      abbrev words : List ℕ
      words = set named (2 * n + p.len) dist

      -- the pool with the id
      abbrev more : Pool
      more = pool_as words p.stamp (suc p.len)

      -- its marks
      abbrev marks : List ℕ
      marks = set (pool_marks n p) id p.stamp

      size_is : length words ≡ 3 * n
      size_is = length-set named (2 * n + p.len) dist ∙ length-set marked p.len id ∙ length-set p.words (n + id) p.stamp ∙ h.size

      ids_are : pool_ids more ≡ pool_ids p ++ (id ∷ [])
      ids_are =
          take-set-le (suc p.len) named (2 * n + p.len) dist (omega (arith, pooled_room))
          ∙ take-suc-set marked p.len id (omega (arith, pooled_room, h.size, length-set p.words (n + id) p.stamp))
          ∙ ap (λ (l : List ℕ). l ++ (id ∷ [])) (take-set-le p.len p.words (n + id) p.stamp (omega (arith, pooled_room)))

      marks_are : pool_marks n more ≡ marks
      marks_are =
          let q : 2 * n + p.len ≡ n + (n + p.len) = omega arith in
          ap (λ (k : ℕ). take n (drop n (set named k dist))) q
          ∙ ap (take n) (drop-set-add n named (n + p.len) dist)
          ∙ take-set-le n (drop n named) (n + p.len) dist (omega arith)
          ∙ ap (take n) (drop-set-lt n marked p.len id pooled_room ∙ drop-set-add n p.words id p.stamp)
          ∙ take-set-lt n (drop n p.words) id p.stamp low

      -- beyond the marks only the distance was written
      beyond : drop (2 * n) words ≡ set (drop (2 * n) p.words) p.len dist
      beyond =
          drop-set-add (2 * n) named p.len dist
          ∙ ap (λ (l : List ℕ). set l p.len dist)
          (drop-set-lt (2 * n) marked p.len id (omega (arith, pooled_room)) ∙ drop-set-lt (2 * n) p.words (n + id) p.stamp (omega arith))

      mark_now : (i : ℕ) → i < n → get_or words (n + i) 0 ≡ get_or marks i 0
      mark_now i k = sym (mark_at n more i k) ∙ ap (λ (l : List ℕ). get_or l i 0) marks_are

      mark_own : get_or marks id 0 ≡ p.stamp
      mark_own = get_or-set_same (pool_marks n p) id p.stamp 0 (omega (arith, marks_length))

      mark_other : (i : ℕ) → i < n → (i ≡ id → ⊥) → get_or marks i 0 ≡ get_or p.words (n + i) 0
      mark_other i k ne = get_or-set_other (pool_marks n p) id i p.stamp 0 ne ∙ mark_at n p i k

      le_at : (i : ℕ) → i < n → (b : Bool) → eqb i id ≡ b → get_or marks i 0 ≤ p.stamp
      le_at i k true e = le_of_eq (ap (λ (z : ℕ). get_or marks z 0) (eqb-true i id e) ∙ mark_own)
      le_at i k false e = subst (λ (z : ℕ). z ≤ p.stamp) (sym (mark_other i k (eqb-false i id e))) (h.marks_le i k)

      test_at : (i : ℕ) → i < n → (b : Bool) → eqb i id ≡ b → eqb (get_or marks i 0) p.stamp ≡ (is_in i (pool_ids p) || b)
      test_at i k true e = eq-eqb _ p.stamp (ap (λ (z : ℕ). get_or marks z 0) (eqb-true i id e) ∙ mark_own) ∙ sym (or-true (is_in i (pool_ids p)))
      test_at i k false e =
          ap (λ (z : ℕ). eqb z p.stamp) (mark_other i k (eqb-false i id e)) ∙ h.marks i k ∙ sym (or-false (is_in i (pool_ids p)))

      absent : ¬ Mem id (pool_ids p)
      absent = is_in-none id (pool_ids p) (sym (h.marks id low) ∙ ne_eqb (get_or p.words (n + id) 0) p.stamp new)

      pooled_more : Pooled n more
      pooled_more =
          record {
            size = size_is;
            counted =
                ap (count p.stamp) marks_are ∙ count_set p.stamp (pool_marks n p) id (omega (arith, marks_length)) mark_new ∙ ap suc h.counted;
            marks_le = λ i k. subst (λ (z : ℕ). z ≤ p.stamp) (sym (mark_now i k)) (le_at i k (eqb i id) refl);
            marks = λ i k.
                ap (λ (z : ℕ). eqb z p.stamp) (mark_now i k) ∙ test_at i k (eqb i id) refl ∙ sym (is_in_snoc i (pool_ids p) id) ∙ ap (is_in i) (sym ids_are);
            once = subst Apart (sym ids_are) (apart_snoc id h.once absent);
            below = λ i m. snoc_elim (λ z. z < n) (pool_ids p) id h.below low i (subst (Mem i) ids_are m);
          }

      measured_more : (d : ℕ → ℕ) → dist ≡ d id → Measured n d p → Measured n d more
      measured_more d k m =
          ap (take (suc p.len)) beyond
          ∙ take-suc-set (drop (2 * n) p.words) p.len dist (omega (arith, pooled_room, length-drop (2 * n) p.words, h.size))
          ∙ ap₂ (λ (l : List ℕ) (x : ℕ). l ++ (x ∷ [])) m k
          ∙ sym (map_snoc d (pool_ids p) id)
          ∙ ap (map d) (sym ids_are)

      pub added_new : Added n p (pool_as (set (set (set p.words (n + id) p.stamp) p.len id) (2 * n + p.len) dist) p.stamp (p.len + 1)) (id ∷ [])
          (λ d. dist ≡ d id)
      added_new = rw (add-one p.len) (record { pooled = pooled_more; same = same_eq ids_are; measured = λ d k m. measured_more d k m })

-- ---- none, and one after another
pub added_none : {n : ℕ} {p : Pool} (Known : (ℕ → ℕ) → Type 0) → Pooled n p → Added n p p [] Known
added_none {n} {p} Known h = record { pooled = h; same = same_eq (sym (append-nil (pool_ids p))); measured = λ d k m. m }

pub added_then : {n : ℕ} {p₀ p₁ p₂ : Pool} {xs ys : List ℕ} {Known₁ Known₂ : (ℕ → ℕ) → Type 0} (Known : (ℕ → ℕ) → Type 0)
    → Added n p₀ p₁ xs Known₁ → Added n p₁ p₂ ys Known₂ → ((d : ℕ → ℕ) → Known d → Known₁ d) → ((d : ℕ → ℕ) → Known d → Known₂ d)
    → Added n p₀ p₂ (xs ++ ys) Known
added_then {n} {p₀} {p₁} {p₂} {xs} {ys} Known a b f g =
    record {
      pooled = b.pooled;
      same = same_join (pool_ids p₀) (pool_ids p₁) (pool_ids p₂) xs ys a.same b.same;
      measured = λ d k m. b.measured d (g d k) (a.measured d (f d k) m);
    }
