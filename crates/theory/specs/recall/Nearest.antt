-- The k nearest of all n entries: as many as there are, each once with its own distance, in the answers' order; and what is left out is listed after them all.
use Prim.Native.Nat.{ℕ, ◌<◌, min, zero-le}
use Rattle.std.proofs.Common.{arith, sym, ◌∙◌, inl, inr}
use Rattle.std.specs.Prelude.{◌≡◌, refl, ◌⊎◌, true, length}
use Rattle.std.proofs.Math.Path.{ap, subst}
use mathlib.Core.List.Memᴰ.{append_cases as split}
use mathlib.Core.List.Memᴰ.{map as mem-map}
use mathlib.Core.List.Memᴰ.{of_map}
use mathlib.Core.List.{List, ◌++◌, Memᴰ as Mem}
use Rattle.std.proofs.Math.ListN.{take, drop, length-take, length-map, take-append-drop}
use Rattle.definition.specs.Lists.{sort, upto}
use Rattle.definition.specs.Beam.{Item, item}
use Rattle.definition.specs.Prune.{measured}
use Rattle.definition.specs.Search.{listed_first, ranked}
use Rattle.definition.specs.Recall.{nearest}
use Rattle.laws.specs.Members.{run-mem, mem-run, length-upto}
use Rattle.laws.specs.Apart.{Apart, apart-map, apart-run}
use Rattle.laws.specs.Sorting.{Ordered, mem_sort, length_sort, sort_ordered, ordered_apart, ordered_across, take_ordered}
use Rattle.laws.specs.Items.{ids_of, id_in, listed_order}
use Rattle.theory.specs.search.Ranked.{ranked-mem}

module _ (d : ℕ → ℕ) (n : ℕ) where
  -- every entry with its distance
  abbrev pub every : List Item
  every = measured d (upto n)

  pub every_own : (x : Item) → Mem x every → (x.dist ≡ d x.id) × (x.id < n)
  unfolding measured upto
  every_own x m =
      let t = of_map (λ (i : ℕ). item (d i) i) (upto n) m in
      subst (λ (y : Item). (y.dist ≡ d y.id) × (y.id < n)) t.2 (refl, omega (arith, run-mem 0 n t.1))

  pub in_every : (i : ℕ) → i < n → Mem (item (d i) i) every
  unfolding measured upto
  in_every i h = mem-map (λ (j : ℕ). item (d j) j) (mem-run 0 n i zero-le (omega arith))

  pub every_apart : Apart every
  unfolding measured upto
  every_apart = apart-map (λ (i : ℕ). item (d i) i) (λ i j p q e. ap (λ (c : Item). c.id) e) (apart-run 0 n)

  pub every_length : length every ≡ n
  unfolding measured
  every_length = length-map (upto n) (λ (i : ℕ). item (d i) i) ∙ length-upto n

  every_ordered : Ordered listed_first (sort listed_first every)
  every_ordered = sort_ordered listed_order every_apart

  -- two of them that have one id are one
  every_single : (x y : Item) → Mem x every → Mem y every → x.id ≡ y.id → x ≡ y
  every_single x y p q e = λ i. record { dist = ((every_own x p).0 ∙ ap d e ∙ sym (every_own y q).0) i; id = e i }

  module _ (k : ℕ) where
    abbrev sorted : List Item
    sorted = sort listed_first every

    nearest_every : {x : Item} → Mem x (nearest d n k) → Mem x every
    unfolding nearest
    nearest_every m = ranked-mem k every m

    pub nearest_count : length (nearest d n k) ≡ min k n
    unfolding nearest ranked
    nearest_count = length-take k sorted ∙ ap (min k) (length_sort listed_first every ∙ every_length)

    pub nearest_own : (x : Item) → Mem x (nearest d n k) → (x.dist ≡ d x.id) × (x.id < n)
    nearest_own x m = every_own x (nearest_every m)

    pub nearest_ordered : Ordered listed_first (nearest d n k)
    unfolding nearest ranked
    nearest_ordered = take_ordered k sorted every_ordered

    pub nearest_once : Apart (ids_of (nearest d n k))
    nearest_once =
        apart-map (λ (c : Item). c.id) (λ x y p q. every_single x y (nearest_every p) (nearest_every q)) (ordered_apart listed_order nearest_ordered)

    -- an entry that is not among them is listed after each of them
    pub nearest_before : (i : ℕ) → i < n → ¬ Mem i (ids_of (nearest d n k)) → (y : Item) → Mem y (nearest d n k) → listed_first y (item (d i) i) ≡ true
    unfolding nearest ranked
    nearest_before i h out y m =
        go (split (take k sorted) (subst (λ (l : List Item). Mem (item (d i) i) l) (sym parts) (mem_sort listed_first every (in_every i h))))
      where
        parts : take k sorted ++ drop k sorted ≡ sorted
        parts = take-append-drop k sorted

        go : Mem (item (d i) i) (take k sorted) ⊎ Mem (item (d i) i) (drop k sorted) → listed_first y (item (d i) i) ≡ true
        go (inl a) = absurd (out (id_in a))
        go (inr b) =
            ordered_across (take k sorted) (drop k sorted) (subst (λ (l : List Item). Ordered listed_first l) (sym parts) every_ordered) y
            (item (d i) i) m b
