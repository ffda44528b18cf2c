-- The groups of seeds: one group seed by seed, and their number by a division.
use Rattle.std.specs.Prelude.{◌≡◌, ℕ, zero, suc, ◌+◌, ◌*◌, ◌/◌, ◌%◌, ◌<◌, ◌≤◌, Bool, true, false, not, ◌&&◌, ◌||◌, List, [], ◌∷◌, length}
use Rattle.std.specs.Prelude.{drop, ◌==◌, ◌≢◌, nat_eq, nat_lt, slice_index, slice_index_or}
use Rattle.std.proofs.Math.Path.{refl, sym, ap}
use Rattle.std.proofs.Common.{◌∙◌, div-add-mod', mul-div_cancel, drop_of_length-le, drop-cons}
use Rattle.std.proofs.Math.Bool.{and-false}
use Rattle.std.proofs.Math.Numerals.{add-one}
use Rattle.std.proofs.Math.Nat.{mul-zero, mul-mod_left}
use native.Mathlib.Omega.{arith}
use borrow.Author.Tests.{lt-ltb, le-ltb, eq-eqb, ne_eqb}
use Rattle.definition.specs.Lists.{each, is_in, distinct, groups}
use Rattle.definition.specs.Refusals.{bad_extra, good_group, bad_seeds}

-- ---- one group, from seed i on
module _ (n start : ℕ) (group : List ℕ) (i : ℕ)
    (same : good_group n start (drop i group) ≡ good_group n start group) (h : i < length group) where
  later : Bool
  later = each (λ s. nat_lt s n && not (s == start)) (drop (i + 1) group)

  good_step : good_group n start (drop i group)
      ≡ (((nat_lt (slice_index group i) n && not (slice_index group i == start)) && later)
      && (not (is_in (slice_index group i) (drop (i + 1) group)) && distinct (drop (i + 1) group)))
  unfolding good_group each distinct later
  good_step = rw (drop-cons group i 0 h, add-one i) refl

  pub seed_far : n ≤ slice_index group i → true ≡ not (good_group n start group)
  seed_far f = let broken : good_group n start (drop i group) ≡ false = good_step ∙ rw (le-ltb (slice_index group i) n f) refl in ap not (sym broken ∙ same)

  module _ (near : slice_index_or group i 0 < n) where
    pub seed_start : slice_index_or group i 0 ≡ start → true ≡ not (good_group n start group)
    seed_start e =
        let broken : good_group n start (drop i group) ≡ false =
        good_step ∙ rw (lt-ltb (slice_index group i) n near, eq-eqb (slice_index group i) start e) refl in
        ap not (sym broken ∙ same)

    module _ (other : slice_index_or group i 0 ≡ start → ⊥) where
      pub seed_again : is_in (slice_index group i) (drop (i + 1) group) ≡ true → true ≡ not (good_group n start group)
      seed_again e =
          let broken : good_group n start (drop i group) ≡ false =
          good_step ∙ rw (lt-ltb (slice_index group i) n near, ne_eqb (slice_index group i) start other, e) (and-false later) in
          ap not (sym broken ∙ same)

      pub seed_good : is_in (slice_index group i) (drop (i + 1) group) ≡ false → good_group n start (drop (i + 1) group) ≡ good_group n start group
      unfolding good_group later
      seed_good e =
          let kept : good_group n start (drop i group) ≡ (later && distinct (drop (i + 1) group)) =
          good_step ∙ rw (lt-ltb (slice_index group i) n near, ne_eqb (slice_index group i) start other, e) refl in
          sym kept ∙ same

pub seeds_end : (n start : ℕ) (group : List ℕ) (i : ℕ) → good_group n start (drop i group) ≡ good_group n start group → length group ≤ i
    → false ≡ not (good_group n start group)
unfolding good_group each distinct
seeds_end n start group i same h = let ended : good_group n start (drop i group) ≡ true = rw (drop_of_length-le group h) refl in ap not (sym ended ∙ same)

-- ---- how many seeds there are
no_seeds : (n start count : ℕ) → each (good_group n start) (groups count 0 []) ≡ true
unfolding each groups good_group distinct
no_seeds n start zero = refl
no_seeds n start (suc count) = no_seeds n start count

module _ (n extra start count : ℕ) (seeds : List ℕ) where
  pub seeds_limit : bad_extra n extra ≡ true → true ≡ bad_seeds n extra start count seeds
  unfolding bad_seeds
  seeds_limit e = rw e refl

  module _ (limit : bad_extra n extra ≡ false) where
    pub seeds_none : extra ≡ 0 → not (length seeds == 0) ≡ bad_seeds n extra start count seeds
    unfolding bad_seeds
    seeds_none z = go seeds
      where
        product : count * extra ≡ 0
        product = ap (λ (k : ℕ). count * k) z ∙ mul-zero count

        go : (l : List ℕ) → not (length l == 0)
            ≡ (bad_extra n extra || (not (length l == count * extra) || not (each (good_group n start) (groups count extra l))))
        go [] = rw (limit, product) (ap not (sym (ap (λ (k : ℕ). each (good_group n start) (groups count k [])) z ∙ no_seeds n start count)))
        go (x ∷ xs) =
            let some : nat_eq (length (x ∷ xs)) 0 ≡ false = ne_eqb (length (x ∷ xs)) 0 (λ (e : suc (length xs) ≡ 0). omega arith) in
            rw (limit, product, some) refl

    pub seeds_wrong : (length seeds ≢ count * extra) → true ≡ bad_seeds n extra start count seeds
    unfolding bad_seeds
    seeds_wrong f = rw (limit, ne_eqb (length seeds) (count * extra) f) refl

    pub seeds_right : length seeds ≡ count * extra → not (each (good_group n start) (groups count extra seeds)) ≡ bad_seeds n extra start count seeds
    unfolding bad_seeds
    seeds_right f = rw (limit, eq-eqb (length seeds) (count * extra) f) refl

pub whole-groups : (all extra count : ℕ) → (extra ≢ 0) → (all % extra ≢ 0) → all ≢ count * extra
whole-groups all extra count some h e = h (ap (λ (k : ℕ). k % extra) e ∙ mul-mod_left count extra)

pub as_many : (all extra count : ℕ) → (extra ≢ 0) → (all / extra ≢ count) → all ≢ count * extra
as_many all extra count some h e = h (ap (λ (k : ℕ). k / extra) e ∙ mul-div_cancel count (omega arith))

pub right_many : (all extra count : ℕ) → all % extra ≡ 0 → all / extra ≡ count → all ≡ count * extra
right_many all extra count h e = let d = div-add-mod' all extra in let q = ap (λ (k : ℕ). k * extra) e in omega arith
