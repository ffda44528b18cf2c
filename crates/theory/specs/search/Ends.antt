-- Each step of a greedy search expands another entry, so n steps are enough for n entries: every search stops, for any beam, 0 included, over any distance
-- and any rows of ids below n and padding. So the definition's fuel never runs out, and its steps are 000's loop. And what each step keeps, the steps keep.
use Prim.Native.Nat.{ℕ, zero, suc, ◌+◌, ◌-◌, ◌≤◌, ◌<◌}
use Rattle.std.proofs.Common.{zero-add, suc-add, arith, sym, ap, ◌∙◌, true≢false}
use Rattle.std.specs.Prelude.{◌≡◌, ◌≢◌, Bool, ◌||◌}
use Rattle.std.proofs.Math.Path.{refl}
use Rattle.std.proofs.Math.Bool.{true, false, cond}
use mathlib.Core.List.{List, Memᴰ as Mem}
use borrow.Author.Tests.{eqb-false}
use Rattle.std.proofs.Math.Dec.{eqb}
use Rattle.std.proofs.Math.ListN.{length}
use Rattle.definition.specs.Tables.{pad}
use Rattle.definition.specs.Beam.{Item}
use Rattle.definition.specs.Greedy.{State, visited_ids, begin, popped, step, stops, filled, steps, greedy}
use Rattle.laws.specs.Truth.{branch}
use Rattle.laws.specs.Apart.{apart_below}
use Rattle.laws.specs.Items.{ids_elim}
use Rattle.theory.specs.search.Ground.{Ground}
use Rattle.theory.specs.search.Steps.{step_expanded}
use Rattle.theory.specs.search.Along.{Kept, Invariant, popped_keeps, step_keeps, step_stays, begin_keeps}

module _ (g : Ground) where
  open g use {d, rows, n, beam, start}

  expanded_most : (s : State) → Kept g s → length s.expanded ≤ n
  expanded_most s k = apart_below n k.seen.expanded_once (λ e m. ids_elim (λ i. i < n) s.visited k.seen.below e (k.seen.expanded_seen e m))

  -- a frontier that is not empty leaves one to expand
  one_left : (s : State) → Kept g s → 0 < length s.frontier → length s.expanded < n
  unfolding popped
  one_left s k some = expanded_most (popped s) (popped_keeps g s some k)

  -- by whether a state stops
  pub stops_cases : (P : Bool → Type 0) (s : State) → (stops beam s ≡ true → P true) → (stops beam s ≡ false → 0 < length s.frontier → P false)
      → P (stops beam s)
  unfolding stops
  stops_cases P s stop on = go (eqb (length s.frontier) 0) refl (filled beam s) refl
    where
      go : (a : Bool) → eqb (length s.frontier) 0 ≡ a → (b : Bool) → filled beam s ≡ b → P (a || b)
      go true p b q = stop (ap (λ (t : Bool). t || filled beam s) p)
      go false p true q = stop (ap (λ (t : Bool). t || filled beam s) p ∙ q)
      go false p false q =
          let some : length s.frontier ≢ 0 = eqb-false (length s.frontier) 0 p in on (ap (λ (t : Bool). t || filled beam s) p ∙ q) (omega arith)

  pub on_waits : (s : State) → stops beam s ≡ false → 0 < length s.frontier
  on_waits s on = stops_cases (λ b. b ≡ false → 0 < length s.frontier) s (λ e f. absurd (true≢false f)) (λ e some f. some) on

  -- ---- what each step keeps, any number of steps keeps: the invariant, and what was visited

  pub steps_keep : (P : State → Type 0) → ((s : State) → stops beam s ≡ false → 0 < length s.frontier → Invariant g s → P s → P (step d rows beam s))
      → (fuel : ℕ) (s : State) → Invariant g s → P s → P (steps d rows beam fuel s)
  unfolding steps
  steps_keep P keeps zero s v p = p
  steps_keep P keeps (suc fuel) s v p =
      stops_cases (λ b. P (cond b s (steps d rows beam fuel (step d rows beam s)))) s (λ e. p)
      (λ e some. steps_keep P keeps fuel (step d rows beam s) (step_keeps g s some v) (keeps s e some v p))

  pub begun_keeps : (k : ℕ) → Invariant g (steps d rows beam k (begin d beam start))
  begun_keeps k = steps_keep (Invariant g) (λ s e some v p. step_keeps g s some v) k (begin d beam start) (begin_keeps g) (begin_keeps g)

  pub steps_stay : (fuel : ℕ) (s : State) → Invariant g s → (c : Item) → Mem c s.visited → Mem c (steps d rows beam fuel s).visited
  steps_stay fuel s v c m = steps_keep (λ t. Mem c t.visited) (λ t e some k. step_stays g t c) fuel s v m

  -- ---- the end

  pub record Done (s : State) : Type 0 where
    pub invariant : Invariant g s
    pub stopped : stops beam s ≡ true

  steps_end : (fuel : ℕ) (s : State) → Invariant g s → n ≤ fuel + length s.expanded → Done (steps d rows beam fuel s)
  unfolding steps
  steps_end zero s v enough =
      record { invariant = v; stopped = stops_cases (λ b. b ≡ true) s (λ e. refl) (λ e some. absurd (omega (arith, one_left s v.kept some))) }
  steps_end (suc fuel) s v enough =
      stops_cases (λ b. Done (cond b s (steps d rows beam fuel (step d rows beam s)))) s
      (λ e. record { invariant = v; stopped = e })
      (λ e some. steps_end fuel (step d rows beam s) (step_keeps g s some v) (omega (arith, step_expanded d beam rows s)))

  pub greedy_done : Done (greedy d rows n beam start)
  unfolding greedy
  greedy_done = steps_end n (begin d beam start) (begin_keeps g) (omega arith)

  pub greedy_keeps : Kept g (greedy d rows n beam start)
  greedy_keeps = greedy_done.invariant.kept

  -- what a search collects are ids below n
  pub visited_below : (x : ℕ) → Mem x (visited_ids (greedy d rows n beam start)) → x < n
  unfolding visited_ids
  visited_below = ids_elim (λ i. i < n) (greedy d rows n beam start).visited greedy_keeps.seen.below

pub greedy_ends : (d : ℕ → ℕ) (rows : ℕ → List ℕ) (n beam start : ℕ) → start < n → ((i w : ℕ) → i < n → Mem w (rows i) → w ≢ pad → w < n)
    → stops beam (greedy d rows n beam start) ≡ true
greedy_ends d rows n beam start starts good =
    (greedy_done (record { d = d; rows = rows; n = n; beam = beam; start = start; starts = starts; good = good })).stopped

-- ---- so more steps change nothing

module _ (d : ℕ → ℕ) (rows : ℕ → List ℕ) (beam : ℕ) where
  still : (s : State) → stops beam s ≡ true → (fuel : ℕ) → steps d rows beam fuel s ≡ s
  unfolding steps
  still s e zero = refl
  still s e (suc fuel) = rw e refl

  -- k steps, and then the others
  pub steps_add : (k more : ℕ) (s : State) → steps d rows beam (k + more) s ≡ steps d rows beam more (steps d rows beam k s)
  unfolding steps
  steps_add zero more s = rw (zero-add more) refl
  steps_add (suc k) more s =
      rw (suc-add k more)
      (branch (λ (t : State). cond (stops beam s) s (steps d rows beam (k + more) (step d rows beam s)) ≡ steps d rows beam more t) (stops beam s)
      (λ e. rw e (sym (still s e more))) (λ e. rw e (steps_add k more (step d rows beam s))))

pub greedy-enough : (d : ℕ → ℕ) (rows : ℕ → List ℕ) (n beam start : ℕ) → start < n → ((i w : ℕ) → i < n → Mem w (rows i) → w ≢ pad → w < n)
    → (fuel : ℕ) → n ≤ fuel → steps d rows beam fuel (begin d beam start) ≡ greedy d rows n beam start
unfolding greedy
greedy-enough d rows n beam start starts good fuel h =
    let parts : fuel ≡ n + (fuel - n) = omega arith in
    ap (λ (k : ℕ). steps d rows beam k (begin d beam start)) parts ∙ steps_add d rows beam n (fuel - n) (begin d beam start)
    ∙ still d rows beam (greedy d rows n beam start) (greedy_ends d rows n beam start starts good) (fuel - n)
