-- How many ids two lists have in common. Of the k nearest a search brings no more than there are, and no more than it answers; and it brings all where its beam
-- has room for every entry and rows lead to each: then its answers are the nearest.
use Rattle.std.specs.Prelude.{ℕ, ◌+◌, ◌≤◌, ◌<◌, min, ◌≡◌, refl, ltb, length, take}
use Rattle.std.proofs.Common.{arith, sym, ◌∙◌, subst, ltb-true, ltb-false}
use Rattle.std.proofs.Math.Path.{ap}
use mathlib.Core.List.Memᴰ.{of_map}
use mathlib.Core.List.{List, [], ◌∷◌, ◌++◌, Memᴰ as Mem}
use Rattle.std.proofs.lemmas.List.{length-map}
use Rattle.definition.specs.Lists.{is_in, sort}
use Rattle.definition.specs.Beam.{Item, item, best}
use Rattle.definition.specs.Greedy.{State, greedy}
use Rattle.definition.specs.Search.{listed_first, ranked}
use Rattle.definition.specs.Recall.{nearest, in_both}
use Rattle.laws.specs.Truth.{decide}
use Rattle.laws.specs.Members.{Same, take_mem, keep_mem, keep_all, keep_length, is_in-mem, mem-is_in}
use Rattle.laws.specs.Sums.{bit, kept_snoc}
use Rattle.laws.specs.Apart.{Apart, nodup_apart, apart_keep, apart_within, apart_full}
use Rattle.laws.specs.Sorting.{sort_mem, sort_same, ordered_apart}
use Rattle.laws.specs.Items.{ids_of, ids_elim, ids_within, listed_order, worse_order}
use Rattle.theory.specs.search.Tells.{Reachable, SearchTells}
use Rattle.theory.specs.search.Ground.{Ground}
use Rattle.theory.specs.search.Ends.{greedy_done, greedy_keeps}
use Rattle.theory.specs.search.Stopped.{stopped_tells}
use Rattle.theory.specs.search.Ranked.{work_own}
use Rattle.theory.specs.recall.Nearest.{every, every_own, in_every, every_apart, nearest_count}

-- ---- two lists

pub both_most : (xs ys : List ℕ) → in_both xs ys ≤ length xs
unfolding in_both
both_most xs ys = keep_length (λ x. is_in x ys) xs

pub both_within : (xs ys : List ℕ) → Apart xs → in_both xs ys ≤ length ys
unfolding in_both
both_within xs ys a =
    apart_within ys (apart_keep (λ x. is_in x ys) a) (λ z m. is_in-mem z ys (keep_mem (λ x. is_in x ys) xs m).1)

pub both_same : (xs : List ℕ) → in_both xs xs ≡ length xs
unfolding in_both
both_same xs = ap length (keep_all (λ x. is_in x xs) xs (λ z m. mem-is_in z xs m))

-- one more of the first
pub both_snoc : (xs ys : List ℕ) (x : ℕ) → in_both (xs ++ (x ∷ [])) ys ≡ in_both xs ys + bit (is_in x ys)
unfolding in_both
both_snoc xs ys x = kept_snoc (λ z. is_in z ys) xs x

-- ---- a search and the nearest

module _ (g : Ground) (k : ℕ) where
  open g use {d, rows, n, beam, start}

  abbrev end : State
  end = greedy d rows n beam start

  -- the first k of its work
  abbrev answered : ℕ → List Item
  answered j = take j (sort listed_first end.work)

  tells : (j : ℕ) → SearchTells rows d start (min j beam) (ids_of (answered j)) (best (answered j)).dist
  tells j = stopped_tells g end (greedy_done g) j

  pub brought_answered : in_both (ids_of (answered k)) (ids_of (nearest d n k)) ≤ min k beam
  brought_answered = omega (arith, both_most (ids_of (answered k)) (ids_of (nearest d n k)), (tells k).most)

  pub brought_nearest : in_both (ids_of (answered k)) (ids_of (nearest d n k)) ≤ min k n
  brought_nearest =
      omega (
        arith,
        both_within (ids_of (answered k)) (ids_of (nearest d n k)) (nodup_apart (tells k).once),
        length-map (nearest d n k) (λ (c : Item). c.id),
        nearest_count d n k,
      )

  module _ (room : n ≤ beam) (all : (i : ℕ) → i < n → Reachable rows start i) where
    work_ids : (i : ℕ) → i < n → Mem i (ids_of end.work)
    work_ids i h =
        ids_within (answered beam) end.work inside i
        (decide (ltb (length (ids_of (answered beam))) beam)
        (λ t. (tells beam).all_if_fewer (omega (arith, ltb-true (length (ids_of (answered beam))) beam t)) i (all i h))
        (λ f. apart_full n (nodup_apart (tells beam).once) (ids_elim (λ z. z < n) (answered beam) (λ c m. (work_own g c (inside c m)).1))
        (omega (arith, ltb-false (length (ids_of (answered beam))) beam f)) i h))
      where
        inside : (c : Item) → Mem c (answered beam) → Mem c end.work
        inside c m = sort_mem listed_first end.work (take_mem beam (sort listed_first end.work) m)

    -- two items of one id, each with its own distance
    own_same : (x y : Item) → x.dist ≡ d x.id → y.dist ≡ d y.id → x.id ≡ y.id → x ≡ y
    own_same x y p q e = λ i. record { dist = (p ∙ ap d e ∙ sym q) i; id = e i }

    work_every : Same end.work (every d n)
    work_every =
        record {
          to = λ x m. let o = work_own g x m in
              subst (λ (y : Item). Mem y (every d n)) (own_same (item (d x.id) x.id) x refl o.0 refl) (in_every d n x.id o.1);
          from = λ x m.
              let o = every_own d n x m in
              let t = of_map (λ (c : Item). c.id) end.work (work_ids x.id o.1) in
              subst (λ (y : Item). Mem y end.work) (own_same t.0 x (work_own g t.0 t.1).0 o.0 t.2) t.1;
        }

    pub all_answered : answered k ≡ nearest d n k
    unfolding nearest ranked
    all_answered =
        ap (take k) (sort_same listed_order (ordered_apart worse_order (greedy_keeps g).holding.sorted) (every_apart d n) work_every)

    pub all_brought : in_both (ids_of (answered k)) (ids_of (nearest d n k)) ≡ min k n
    all_brought =
        ap (λ (l : List Item). in_both (ids_of l) (ids_of (nearest d n k))) all_answered
        ∙ both_same (ids_of (nearest d n k)) ∙ length-map (nearest d n k) (λ (c : Item). c.id) ∙ nearest_count d n k
