-- An order with its groups of seeds, cut after any number of nodes: each of the two stretches is again what 7 and 9 ask for.
use Rattle.std.specs.Prelude.{ℕ, ◌+◌, ◌-◌, ◌*◌, ◌≤◌, ◌<◌, ◌≡◌, true, leb, length, take, drop}
use Rattle.std.proofs.Common.{zero-mul, add-mul, mul-le-mul_right, arith, sym, ap, ◌∙◌, subst, leb-true, leb-false, length-drop, length-take-le, take_all}
use mathlib.Core.List.Memᴰ.{append_left as in_front}
use mathlib.Core.List.Memᴰ.{append_right as in-back}
use mathlib.Core.List.Memᴰ.{not-nil}
use mathlib.Core.List.{List, ◌++◌, Memᴰ as Mem}
use Rattle.std.proofs.Math.ListN.{drop_of_length-le}
use Rattle.definition.specs.Lists.{groups}
use Rattle.definition.specs.Refusals.{good_group}
use Rattle.laws.specs.Truth.{decide}
use Rattle.laws.specs.Members.{take_mem, drop_mem, groups_add}
use Rattle.laws.specs.Apart.{Apart, nobody, apart_take, apart_drop}

-- distinct nodes below n, with a good group of seeds each
pub record Stretch (n start extra : ℕ) (order seeds : List ℕ) : Type 0 where
  pub below : (u : ℕ) → Mem u order → u < n
  pub once : Apart order
  pub size : length seeds ≡ length order * extra
  pub good : (group : List ℕ) → Mem group (groups (length order) extra seeds) → good_group n start group ≡ true

-- each of the two has as many seeds as its nodes ask for
pub record SeedsCut (extra k : ℕ) (order seeds : List ℕ) : Type 0 where
  pub taken : length (take (k * extra) seeds) ≡ length (take k order) * extra
  pub dropped : length (drop (k * extra) seeds) ≡ length (drop k order) * extra

pub seeds_cut : (extra k : ℕ) (order seeds : List ℕ) → length seeds ≡ length order * extra → SeedsCut extra k order seeds
seeds_cut extra k order seeds size =
    decide (leb k (length order)) (λ t. within (leb-true k (length order) t)) (λ f. let l = leb-false k (length order) f in past (omega arith))
  where
    within : k ≤ length order → SeedsCut extra k order seeds
    within h =
        let e : length order ≡ k + (length order - k) = omega arith in
        let p : length order * extra ≡ k * extra + (length order - k) * extra = ap (λ (j : ℕ). j * extra) e ∙ add-mul k (length order - k) extra in
        let q : length (drop (k * extra) seeds) ≡ (length order - k) * extra = omega (arith, length-drop (k * extra) seeds) in
        record {
          taken = length-take-le (k * extra) seeds (omega arith) ∙ ap (λ (j : ℕ). j * extra) (sym (length-take-le k order h));
          dropped = q ∙ ap (λ (j : ℕ). j * extra) (sym (length-drop k order));
        }

    past : length order ≤ k → SeedsCut extra k order seeds
    past h =
        let l : length seeds ≤ k * extra = omega (arith, mul-le-mul_right extra h) in
        record {
          taken = rw (take_all k order h, take_all (k * extra) seeds l) size;
          dropped = rw (drop_of_length-le order h, drop_of_length-le seeds l) (sym (zero-mul extra));
        }

module _ (n start extra k : ℕ) (order seeds : List ℕ) (s : Stretch n start extra order seeds) where
  -- the cut lies within
  module _ (h : k ≤ length order) where
    both : groups (length order) extra seeds ≡ groups k extra (take (k * extra) seeds) ++ groups (length order - k) extra (drop (k * extra) seeds)
    both =
        let e : length order ≡ k + (length order - k) = omega arith in
        ap (λ (l : ℕ). groups l extra seeds) e ∙ groups_add k (length order - k) extra seeds

    taken : Stretch n start extra (take k order) (take (k * extra) seeds)
    taken =
        let l : length (take k order) ≡ k = length-take-le k order h in
        record {
          below = λ u m. s.below u (take_mem k order m);
          once = apart_take k s.once;
          size = (seeds_cut extra k order seeds s.size).taken;
          good = λ group m. s.good group (subst (λ (gs : List (List ℕ)). Mem group gs) (sym both)
              (in_front (groups (length order - k) extra (drop (k * extra) seeds))
              (subst (λ (j : ℕ). Mem group (groups j extra (take (k * extra) seeds))) l m)));
        }

    dropped : Stretch n start extra (drop k order) (drop (k * extra) seeds)
    dropped =
        let l : length (drop k order) ≡ length order - k = length-drop k order in
        record {
          below = λ u m. s.below u (drop_mem k order m);
          once = apart_drop k s.once;
          size = (seeds_cut extra k order seeds s.size).dropped;
          good = λ group m. s.good group (subst (λ (gs : List (List ℕ)). Mem group gs) (sym both)
              (in-back (groups k extra (take (k * extra) seeds))
              (subst (λ (j : ℕ). Mem group (groups j extra (drop (k * extra) seeds))) l m)));
        }

  -- the cut lies at or past the end
  module _ (h : length order ≤ k) where
    seeds_end : length seeds ≤ k * extra
    seeds_end = subst (λ (l : ℕ). l ≤ k * extra) (sym s.size) (mul-le-mul_right extra h)

    all_taken : Stretch n start extra (take k order) (take (k * extra) seeds)
    all_taken = rw (take_all k order h, take_all (k * extra) seeds seeds_end) s

    none_left : Stretch n start extra (drop k order) (drop (k * extra) seeds)
    unfolding groups
    none_left =
        rw (drop_of_length-le order h, drop_of_length-le seeds seeds_end)
        (record { below = λ u m. absurd (not-nil m); once = nobody; size = omega arith; good = λ group m. absurd (not-nil m) })

  pub stretch_taken : Stretch n start extra (take k order) (take (k * extra) seeds)
  stretch_taken =
      decide (leb k (length order)) (λ t. taken (leb-true k (length order) t)) (λ f. let l = leb-false k (length order) f in all_taken (omega arith))

  pub stretch_dropped : Stretch n start extra (drop k order) (drop (k * extra) seeds)
  stretch_dropped =
      decide (leb k (length order)) (λ t. dropped (leb-true k (length order) t)) (λ f. let l = leb-false k (length order) f in none_left (omega arith))
