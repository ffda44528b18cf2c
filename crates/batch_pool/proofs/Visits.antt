-- What a walk visits: entries, each with its distance, since the start and every word of a row that is no padding is one; and so the words hold them.
use mathlib.Core.Path.{◌≡◌, refl, sym, ap, ◌∙◌, subst}
use mathlib.Core.Bool.{Bool, true, false, ◌||◌, cond, true≢false}
use mathlib.Core.List.{List, [], ◌∷◌, map}
use Prim.Native.Nat.{ℕ, zero, suc, ◌+◌, ◌*◌, ◌<◌}
use native.Mathlib.Omega.{arith}
use borrow.Author.Tests.{eq-eqb}
use lib.Dec.{eqb}
use lib.ListN.{length, get_or, take, drop}
use lib.Seq.{get_or-take}
use Rattle.definition.specs.Lists.{is_in}
use Rattle.definition.specs.Tables.{pad, row}
use Rattle.definition.specs.Beam.{Item, item, nobody, best}
use Rattle.definition.specs.Greedy.{State, visited_ids, begin, meet, skipped, look, expand, popped, step, stops, steps, greedy}
use Rattle.laws.specs.All.{All, all_at, all_of, all_append, all_take, all_drop}
use Rattle.laws.specs.Cleaned.{cleaned-same}
use Rattle.laws.specs.Mapped.{map_at}
use Rattle.laws.specs.Truth.{either}
use Rattle.laws.specs.Parts.{part, part_at}
use Rattle.laws.specs.Words.{Searchable}
use Rattle.scratch.specs.Layout.{visited_at, visited_dists_at}
use Rattle.greedy.specs.declared.Plan.{Plan}
use Rattle.greedy.specs.declared.Walked.{Walked}
use Rattle.greedy.specs.Scratch.{walk_of, Logged, Walks}
use Rattle.batch_pool.specs.Regions.{seen_of, Seen, SeenBelow, wide_walk, visits}

-- P is whatever the start has, and every word of a row that is no padding
module _ (P : Item → Type 0) (d : ℕ → ℕ) (beam : ℕ) where
  abbrev Real : ℕ → Type 0
  Real w = ¬ (w ≡ pad) → P (item (d w) w)

  look_all : (s : State) (w : ℕ) → Real w → All P s.visited → All P (look d beam s w).visited
  unfolding look skipped meet
  look_all s w p a = go (eqb w pad) (is_in w (visited_ids s)) refl
    where
      go : (b c : Bool) → eqb w pad ≡ b → All P (cond (b || c) s (meet beam (item (d w) w) s)).visited
      go true c e = a
      go false true e = a
      go false false e = all_append P s.visited (item (d w) w ∷ []) a (p (λ q. true≢false (sym (eq-eqb w pad q) ∙ e)), tt)

  expand_all : (s : State) (ws : List ℕ) → All Real ws → All P s.visited → All P (expand d beam s ws).visited
  unfolding expand
  expand_all s [] p a = a
  expand_all s (w ∷ ws) p a = expand_all (look d beam s w) ws p.1 (look_all s w p.0 a)

  module _ (rows : ℕ → List ℕ) (words : (i : ℕ) → All Real (rows i)) where
    steps_all : (fuel : ℕ) (s : State) → All P s.visited → All P (steps d rows beam fuel s).visited
    unfolding steps step popped
    steps_all zero s a = a
    steps_all (suc fuel) s a =
        either (λ (t : State). All P t.visited) (stops beam s) a
        (steps_all fuel (step d rows beam s) (expand_all (popped s) (rows (best s.frontier).id) (words (best s.frontier).id) a))

    greedy_all : (n start : ℕ) → P (item (d start) start) → All P (greedy d rows n beam start).visited
    unfolding greedy begin
    greedy_all n start p = steps_all n (begin d beam start) (p, tt)

-- an entry, with its distance
abbrev Known : ℕ → (ℕ → ℕ) → Item → Type 0
Known n d c = (c.id < n) × (c.dist ≡ d c.id)

rows_known : (n beam width : ℕ) (table : List ℕ) (d : ℕ → ℕ) → Searchable n table → (i : ℕ) → All (Real (Known n d) d beam) (row width table i)
unfolding row pad
rows_known n beam width table d r i =
    all_take (Real (Known n d) d beam) width (drop (i * width) table)
    (all_drop (Real (Known n d) d beam) (i * width) table (all_of (Real (Known n d) d beam) 0 table (λ k h q. (r k h q, refl))))

module _ (p : Plan) (keeps : p.keep ≡ true) (table : List ℕ) (rule : Searchable p.n table) (d : ℕ → ℕ) (start : ℕ) (low : start < p.n) where
  abbrev n : ℕ
  n = p.n

  -- what the walk visits
  abbrev seen : List Item
  seen = (wide_walk p d table start).visited

  -- a table that keeps the search rule is walked as it is
  walk_is : walk_of p d table start ≡ wide_walk p d table start
  walk_is = ap (λ (t : List ℕ). wide_walk p d t start) (cleaned-same p.n table rule)

  visited_known : All (Known n d) seen
  visited_known = greedy_all (Known n d) d p.beam (row p.width table) (rows_known n p.beam p.width table d rule) n start (low, refl)

  module _ {epoch : ℕ} {before after keys : List ℕ} {r : Walked} (k : Walks p epoch before after keys r (walk_of p d table start)) where
    visited_count : length seen ≡ r.visited
    visited_count = ap (λ (st : State). length st.visited) (sym walk_is) ∙ k.visited_is

    logged : Logged n after seen
    logged = subst (λ (st : State). Logged n after st.visited) walk_is (k.logged keeps)

    known_at : (j : ℕ) → j < r.visited → Known n d (get_or seen j nobody)
    known_at j h = all_at (Known n d) nobody seen visited_known j (omega (arith, visited_count))

    -- a region of n words that holds f of the visited in front
    held_at : (f : Item → ℕ) (a e : ℕ) → e ≡ a + n → take (length seen) (part a e after) ≡ map f seen → (j : ℕ) → j < r.visited
        → get_or after (a + j) 0 ≡ f (get_or seen j nobody)
    held_at f a e size are j h =
        let l : j < length seen = omega (arith, visited_count) in
        sym (part_at a e after j 0 (omega (arith, k.visited_le)))
        ∙ sym (get_or-take (length seen) (part a e after) j 0 l)
        ∙ ap (λ (z : List ℕ). get_or z j 0) are
        ∙ map_at f nobody 0 seen j l

    id_at_lem : (j : ℕ) → j < r.visited → get_or after (visited_at n + j) 0 ≡ (get_or seen j nobody).id
    id_at_lem = held_at (λ (c : Item). c.id) (visited_at n) _ (omega arith) logged.ids_are

    dist_at : (j : ℕ) → j < r.visited → get_or after (visited_dists_at n + j) 0 ≡ (get_or seen j nobody).dist
    dist_at = held_at (λ (c : Item). c.dist) (visited_dists_at n) _ (omega arith) logged.dists_are

    pub seen_below : SeenBelow n after r.visited
    seen_below j h = subst (λ (i : ℕ). i < n) (sym (id_at_lem j h)) (known_at j h).0

    pub seen_known : Seen n after r.visited d
    seen_known j h = dist_at j h ∙ (known_at j h).1 ∙ ap d (sym (id_at_lem j h))

    pub seen_visits : take r.visited (seen_of n after) ≡ visits p d table start
    unfolding visits visited_ids
    seen_visits = ap (λ (m : ℕ). take m (seen_of n after)) (sym visited_count) ∙ logged.ids_are
