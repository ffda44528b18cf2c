-- An entry that has left a full beam is never expanded, over any distance and any rows. A full work changes only by its worst leaving for a nearer one, so
-- that it stays shut to all that it is shut to. And a step is made only while the best of the frontier is strictly nearer than the worst of a full work.
-- So a step expands one of work. The beam is not 0: with beam 0 the start is expanded although work never holds it.
use Rattle.std.specs.Prelude.{ℕ, ◌<◌, ◌≡◌, refl, ◌⊎◌, true, ◌&&◌, cond, leb, ltb, eqb, length}
use Rattle.std.proofs.Common.{arith, sym, ap, inl, inr}
use Rattle.std.proofs.Math.Path.{subst}
use Rattle.std.proofs.Math.Bool.{false, not}
use mathlib.Core.List.Memᴰ.{cases_cons as cases}
use mathlib.Core.List.Memᴰ.{head as here}
use mathlib.Core.List.Memᴰ.{tail as there}
use mathlib.Core.List.{List, [], ◌∷◌, Memᴰ as Mem}
use borrow.Author.Tests.{ltb-true, lt-ltb, le-ltb, le-leb, not-false}
use Rattle.definition.specs.Beam.{Item, item, worse, insert_capped, best, beats_worst}
use Rattle.definition.specs.Greedy.{State, admitted, meet, look, expand, popped, step, filled, stops, steps}
use Rattle.laws.specs.Truth.{branch, or_neither}
use Rattle.laws.specs.Items.{best_in, best-after}
use Rattle.laws.specs.Inserts.{capped_nearer}
use Rattle.theory.specs.search.Ground.{Ground}
use Rattle.theory.specs.search.Invariant.{Shut, shut-insert}
use Rattle.theory.specs.search.Steps.{step_expands}
use Rattle.theory.specs.search.Along.{Invariant, look_cases}
use Rattle.theory.specs.search.Ends.{on_waits, steps_keep}

module _ (g : Ground) (some : 0 < g.beam) (c : Item) where
  open g use {d, rows, beam}

  -- ---- work stays shut to c

  meet_shut : (s : State) (x : Item) → Shut beam s.work c → Shut beam (meet beam x s).work c
  unfolding meet admitted beats_worst
  meet_shut s x shut = rw (le-ltb (length s.work) beam shut.full) (go s.work shut)
    where
      go : (work : List Item) → Shut beam work c → Shut beam (cond (beats_worst x work) (insert_capped beam x work) work) c
      go [] h = h
      go (v ∷ vs) h =
          branch (λ (l : List Item). Shut beam l c) (ltb x.dist v.dist)
          (λ near. subst (λ (l : List Item). Shut beam l c) (sym (capped_nearer beam x v vs some h.full near))
          (shut-insert x c vs h.full (omega (arith, ltb-true x.dist v.dist near, h.no_farther v (here refl))) (λ u m. h.no_farther u (there m))))
          (λ far. h)

  expand_shut : (ws : List ℕ) (s : State) → Shut beam s.work c → Shut beam (expand d beam s ws).work c
  unfolding expand
  expand_shut [] s h = h
  expand_shut (w ∷ ws) s h =
      expand_shut ws (look d beam s w) (look_cases g (λ t. Shut beam t.work c) s w (λ e. h) (λ p q. meet_shut s (item (d w) w) h))

  step_shut : (s : State) → Shut beam s.work c → Shut beam (step d rows beam s).work c
  unfolding step popped
  step_shut s h = expand_shut (rows (best s.frontier).id) (popped s) h

  -- ---- and whoever is expanded is nearer than c: no step is made otherwise

  step_nearer : (s : State) → Shut beam s.work c → stops beam s ≡ false → (best s.frontier).dist < c.dist
  unfolding stops filled beats_worst
  step_nearer s shut on = go s.work shut (or_neither (eqb (length s.frontier) 0) (filled beam s) on).1
    where
      go : (work : List Item) → Shut beam work c → (leb beam (length work) && (ltb 0 (length work) && not (beats_worst (best s.frontier) work))) ≡ false
          → (best s.frontier).dist < c.dist
      go [] h e = absurd (omega (arith, h.full))
      go (v ∷ vs) h e =
          let beats = not-false _ (rw (le-leb beam (length (v ∷ vs)) h.full, lt-ltb 0 (length (v ∷ vs)) (omega arith)) at e) in
          omega (arith, ltb-true (best s.frontier).dist v.dist beats, h.no_farther v (here refl))

  -- work is shut to it, and it has not been expanded
  record Out (s : State) : Type 0 where
    shut : Shut beam s.work c
    unexpanded : ¬ Mem c.id s.expanded

  module _ (own : c.dist ≡ d c.id) where
    step_out : (s : State) → stops beam s ≡ false → 0 < length s.frontier → Invariant g s → Out s → Out (step d rows beam s)
    step_out s on waiting v o =
        record { shut = step_shut s o.shut; unexpanded = λ m. go (cases (subst (λ (l : List ℕ). Mem c.id l) (step_expands d beam rows s) m)) }
      where
        b : Item
        b = best s.frontier

        go : (c.id ≡ b.id) ⊎ Mem c.id s.expanded → ⊥
        go (inl e) =
            let far = v.kept.seen.own b (v.kept.waiting.seen b (best_in s.frontier waiting)) in
            omega (arith, step_nearer s o.shut on, far, own, ap d e)
        go (inr m) = o.unexpanded m

    -- visited or not
    pub shut_unexpanded : (s : State) → Invariant g s → Shut beam s.work c → ¬ Mem c.id s.expanded
        → (fuel : ℕ) → ¬ Mem c.id (steps d rows beam fuel s).expanded
    shut_unexpanded s v h new fuel = (steps_keep g Out step_out fuel s v (record { shut = h; unexpanded = new })).unexpanded

  -- what was visited and is not in work has left it, or never came in: work is shut to it
  pub left_unexpanded : (s : State) → Invariant g s → Mem c s.visited → ¬ Mem c s.work → ¬ Mem c.id s.expanded
      → (fuel : ℕ) → ¬ Mem c.id (steps d rows beam fuel s).expanded
  left_unexpanded s v m out new = go (v.kept.holding.out c m)
    where
      go : Mem c s.work ⊎ Shut beam s.work c → (fuel : ℕ) → ¬ Mem c.id (steps d rows beam fuel s).expanded
      go (inl held) = absurd (out held)
      go (inr h) = shut_unexpanded (v.kept.seen.own c m) s v h new

-- ---- so the unexpanded part of work is enough: a step expands the best of it

-- of what is in work and not expanded, b comes last in a beam's order
pub record BestUnexpanded (s : State) (b : Item) : Type 0 where
  pub held : Mem b s.work
  pub unexpanded : ¬ Mem b.id s.expanded
  pub last : (x : Item) → Mem x s.work → ¬ Mem x.id s.expanded → (worse x b ≡ true) ⊎ (x ≡ b)

pub step_from_work : (g : Ground) → 0 < g.beam → (s : State) → Invariant g s → stops g.beam s ≡ false → BestUnexpanded s (best s.frontier)
step_from_work g some s v on =
    record {
      held = held (v.kept.holding.out b (v.kept.waiting.seen b at_end));
      unexpanded = v.kept.waiting.fresh b at_end;
      last = λ x m new. last x new (v.kept.holding.waits x m);
    }
  where
    b : Item
    b = best s.frontier

    at_end : Mem b s.frontier
    at_end = best_in s.frontier (on_waits g s on)

    held : Mem b s.work ⊎ Shut g.beam s.work b → Mem b s.work
    held (inl m) = m
    held (inr h) = absurd (omega (arith, step_nearer g some b s h on))

    last : (x : Item) → ¬ Mem x.id s.expanded → Mem x.id s.expanded ⊎ Mem x s.frontier → (worse x b ≡ true) ⊎ (x ≡ b)
    last x new (inl m) = absurd (new m)
    last x new (inr m) = best-after s.frontier v.kept.waiting.sorted x m
