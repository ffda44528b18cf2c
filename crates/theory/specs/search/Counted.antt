-- How many entries a greedy search visits and expands, over any distance and any rows of ids below n and padding; beam 0 included. Each is visited at most
-- once and expanded at most once; a row of w words leads to at most w that are new, and the start is the one that no row led to.
use Prim.Native.Nat.{ℕ, zero, suc, ◌+◌, ◌*◌, ◌≤◌, ◌<◌}
use Rattle.std.proofs.Common.{mul-suc, le-ltb}
use native.Mathlib.Omega.{arith}
use Rattle.std.specs.Prelude.{◌≡◌, refl}
use mathlib.Core.List.{List, [], ◌∷◌}
use Rattle.std.proofs.Math.ListN.{length, length-append}
use Rattle.std.proofs.lemmas.List.{length-map}
use Rattle.definition.specs.Lists.{place}
use Rattle.definition.specs.Beam.{Item, item, insert, insert_capped, best, beats_worst}
use Rattle.definition.specs.Greedy.{State, begin, meet, look, expand, popped, step, filled, stops, steps, greedy}
use Rattle.laws.specs.Apart.{apart_within, apart_below}
use Rattle.laws.specs.Items.{ids_of, ids_elim, best_in}
use Rattle.theory.specs.search.Ground.{Ground}
use Rattle.theory.specs.search.Steps.{step_expanded}
use Rattle.theory.specs.search.Along.{Kept, look_cases, begin_keeps}
use Rattle.theory.specs.search.Ends.{steps_keep}

module _ (g : Ground) where
  open g use {d, rows, n, beam, start}

  pub visited_most : (s : State) → Kept g s → length s.visited ≤ n
  visited_most s k =
      omega (arith, apart_below n k.seen.once (ids_elim (λ i. i < n) s.visited k.seen.below), length-map s.visited (λ (c : Item). c.id))

  pub expanded_within : (s : State) → Kept g s → length s.expanded ≤ length s.visited
  expanded_within s k =
      omega (arith, apart_within (ids_of s.visited) k.seen.expanded_once k.seen.expanded_seen, length-map s.visited (λ (c : Item). c.id))

  -- ---- along rows of at most w words

  look_adds : (s : State) (w : ℕ) → length (look d beam s w).visited ≤ suc (length s.visited)
  unfolding meet
  look_adds s w =
      look_cases g (λ t. length t.visited ≤ suc (length s.visited)) s w (λ h. omega arith)
      (λ p q. omega (arith, length-append s.visited (item (d w) w ∷ [])))

  expand_adds : (ws : List ℕ) (s : State) → length (expand d beam s ws).visited ≤ length s.visited + length ws
  unfolding expand
  expand_adds [] s = omega arith
  expand_adds (w ∷ ws) s = omega (arith, expand_adds ws (look d beam s w), look_adds s w)

  step_adds : (s : State) → length (step d rows beam s).visited ≤ length s.visited + length (rows (best s.frontier).id)
  unfolding step popped
  step_adds s = expand_adds (rows (best s.frontier).id) (popped s)

  module _ (w : ℕ) (narrow : (i : ℕ) → i < n → length (rows i) ≤ w) where
    abbrev Few : State → Type 0
    Few s = length s.visited ≤ 1 + w * length s.expanded

    step_few : (s : State) → 0 < length s.frontier → Kept g s → Few s → Few (step d rows beam s)
    step_few s some k few =
        let b = best s.frontier in
        let size = narrow b.id (k.seen.below b (k.waiting.seen b (best_in s.frontier some))) in
        rw (step_expanded d beam rows s, mul-suc w (length s.expanded)) (omega (arith, step_adds s, size))

    pub visited_few : length (greedy d rows n beam start).visited ≤ 1 + w * length (greedy d rows n beam start).expanded
    unfolding greedy begin
    visited_few = steps_keep g Few (λ s e some v few. step_few s some v.kept few) n (begin d beam start) (begin_keeps g) (omega arith)

-- ---- a beam of 1 is full with the start, which is as far as its worst: nothing is expanded, and the start is all that is visited
pub beam_one_begins : (d : ℕ → ℕ) (rows : ℕ → List ℕ) (n start : ℕ) → greedy d rows n 1 start ≡ begin d 1 start
unfolding greedy steps stops filled begin insert_capped insert place best beats_worst
beam_one_begins d rows zero start = refl
beam_one_begins d rows (suc n) start = rw (le-ltb (d start) (d start) (omega arith)) refl
