-- The stop, and the best of the frontier. Work in keys tells what the frontier has: the best that is open is the frontier's best, and where none is open, or
-- the worst of a full work is no farther, the definition stops too.
use mathlib.Core.Path.{◌≡◌, refl, sym, ap, ap₂, ◌∙◌, subst}
use mathlib.Core.Logic.{inl, inr}
use Rattle.std.specs.Prelude.{None, Some}
use mathlib.Core.Bool.{Bool, true, false, ◌||◌, ◌&&◌, not}
use mathlib.Core.List.{List, [], ◌∷◌, ◌++◌, append-nil}
use Prim.Native.Nat.{ℕ, suc, ◌+◌, ◌-◌, ◌%◌, ◌≤◌, ◌<◌}
use native.Mathlib.Omega.{arith}
use borrow.Author.Tests.{ltb-true, ltb-false, lt-ltb, le-leb, lt-leb, leb-true, leb-false, eq-eqb, ne_eqb}
use lib.Dec.{leb, ltb, eqb}
use lib.ListN.{length, get_or, drop, set, replicate, length-drop}
use lib.Seq.{get_or-drop, set-append_left}
use Rattle.definition.specs.Beam.{Item, nobody, best, without_best, worst, beats_worst}
use Rattle.definition.specs.Greedy.{State, popped, stops, filled}
use Rattle.laws.specs.All.{All, all_at, all_of}
use Rattle.laws.specs.Backwards.{rev, rev-set}
use Rattle.laws.specs.Truth.{decide, either_or}
use Rattle.beam.specs.Keys.{none, dist_of, id_of}
use Rattle.kept.specs.Kept.{Kept, key_of, keys_of, items, opening, Closed, Inside, Beyond}
use Rattle.kept.specs.Keyed.{shut, open_key_lem, closed_key_lem, odd_open, even_closed, key_dist, key_id, length_keys, length_front, length-items}
use Rattle.kept.specs.Says.{Standing, standing, works, bound_of, halts_k, Works, Next, Pops}
use Rattle.kept.proofs.Keeping.{opens_closed}
use Rattle.kept.proofs.Closing.{close, keys_close, items-close, all-close, closed_from, falling_close, best_is, without_is, frontier_some}
use Rattle.kept.specs.Reading.{key_at}

-- ---- tests
not_ltb : (a b : ℕ) → not (ltb a b) ≡ leb b a
not_ltb a b =
    decide (ltb a b) (λ t. ap not t ∙ sym (lt-leb b a (ltb-true a b t))) (λ f. ap not f ∙ sym (le-leb b a (ltb-false a b f)))

far_fills : (beam : ℕ) (x : Item) (work : List Item) → Beyond beam work x → (leb beam (length work) && (ltb 0 (length work) && not (beats_worst x work))) ≡ true
unfolding beats_worst worst
far_fills beam x [] b = absurd (omega (arith, b.0))
far_fills beam x (w ∷ ws) b = rw (le-leb beam (length (w ∷ ws)) b.1.0, lt-ltb 0 (length (w ∷ ws)) b.0, b.1.1) refl

-- ---- work, where the best d are walked
module _ (n beam : ℕ) (s : Standing) (st : State) (k : Works n beam s st.frontier st.work) (d : ℕ) (next : Next s.keys s.work d) where
  abbrev len : ℕ
  len = s.work.len

  abbrev ks : List Kept
  ks = k.kept

  abbrev at : ℕ → Kept
  at i = get_or ks i (opening nobody)

  key_is : (j : ℕ) → j < len → get_or s.keys j 0 ≡ key_of (at (len - 1 - j))
  key_is j h =
      ap (λ (l : List ℕ). get_or l j 0) k.keys_are ∙ key_at ks (replicate (256 - length ks) none) j (omega (arith, k.len_is))
      ∙ ap (λ (i : ℕ). key_of (at (i - 1 - j))) k.len_is

  walked : Closed (drop (len - d) ks)
  walked =
      all_of (λ (z : Kept). z.is_open ≡ false) (opening nobody) (drop (len - d) ks)
      (λ i h. rw (get_or-drop (len - d) ks i (opening nobody))
      (one (len - d + i) (omega arith) (omega (arith, length-drop (len - d) ks, k.len_is, next.to))))
    where
      old : ℕ
      old = len - s.work.done

      one : (i : ℕ) → len - d ≤ i → i < len → (at i).is_open ≡ false
      one i h l =
          decide (ltb i old)
          (λ t.
          let b : i < old = ltb-true i old t in
          let e : len - 1 - (len - 1 - i) ≡ i = omega arith in
          even_closed (at i)
          (ap (λ (z : ℕ). key_of (at z) % 2) (sym e) ∙ ap (λ (z : ℕ). z % 2) (sym (key_is (len - 1 - i) (omega arith)))
          ∙ next.walked (len - 1 - i) (omega arith) (omega (arith, next.to))))
          (λ f.
          let b : old ≤ i = ltb-false i old f in
          let e : old + (i - old) ≡ i = omega arith in
          ap (λ (z : ℕ). (at z).is_open) (sym e) ∙ ap (λ (z : Kept). z.is_open) (sym (get_or-drop old ks (i - old) (opening nobody)))
          ∙ all_at (λ (z : Kept). z.is_open ≡ false) (opening nobody) (drop old ks) k.walked (i - old) (omega (arith, length-drop old ks, k.len_is)))

  -- all of work is walked: the frontier has nothing but what was cut from it
  all_walked : len ≤ d → stops beam st ≡ true
  unfolding stops filled best
  all_walked h = go k.rest only k.beyond
    where
      only : st.frontier ≡ k.rest
      only =
          let e : len - d ≡ 0 = omega arith in
          k.frontier_is ∙ ap (λ (l : List Item). k.rest ++ l) (opens_closed ks (subst (λ (i : ℕ). Closed (drop i ks)) e walked)) ∙ append-nil k.rest

      go : (rest : List Item) → st.frontier ≡ rest → All (Beyond beam (items ks)) rest → (eqb (length st.frontier) 0 || filled beam st) ≡ true
      go [] e b = either_or (eqb (length st.frontier) 0) (filled beam st) (inl (eq-eqb (length st.frontier) 0 (ap length e)))
      go (r ∷ rest) e b =
          either_or (eqb (length st.frontier) 0) (filled beam st)
          (inr (far_fills beam (get_or st.frontier (length st.frontier - 1) nobody) st.work
          (subst (λ (l : List Item). Beyond beam l (get_or st.frontier (length st.frontier - 1) nobody)) (sym k.work_is)
          (subst (λ (l : List Item). Beyond beam (items ks) (get_or l (length l - 1) nobody)) (sym e)
          (all_at (Beyond beam (items ks)) nobody (r ∷ rest) b (length (r ∷ rest) - 1) (omega arith))))))

  -- one is open: the best of them is the best of the frontier
  module _ (l : d < len) where
    abbrev i : ℕ
    i = len - 1 - d

    within : Inside n (at i)
    within = all_at (Inside n) (opening nobody) ks k.inside i (omega (arith, k.len_is))

    low : (at i).of.id < 65536
    low = omega (arith, within.0, k.nodes)

    opened : (at i).is_open ≡ true
    opened = odd_open (at i) (ap (λ (z : ℕ). z % 2) (sym (key_is d l)) ∙ next.odd l)

    behind : Closed (drop (suc i) ks)
    behind = let e : len - d ≡ suc i = omega arith in subst (λ (j : ℕ). Closed (drop j ks)) e walked

    best_at : best st.frontier ≡ (at i).of
    best_at = best_is i ks k.rest st.frontier (omega (arith, k.len_is)) opened behind k.frontier_is

    best_id : id_of (get_or s.keys d 0) ≡ (best st.frontier).id
    best_id = ap id_of (key_is d l) ∙ key_id (at i) low ∙ ap (λ (z : Item). z.id) (sym best_at)

    -- the worst stands first among the items, and its key last
    worst_test : (us : List Kept) → ks ≡ us
        → leb (dist_of (get_or s.keys (len - 1) 0)) (dist_of (get_or s.keys d 0)) ≡ (ltb 0 (length (items us)) && not (beats_worst (at i).of (items us)))
    unfolding beats_worst
    worst_test [] e = absurd (omega (arith, ap length e, k.len_is))
    worst_test (u ∷ us) e =
        let q : len - 1 - (len - 1) ≡ 0 = omega arith in
        let first : at (len - 1 - (len - 1)) ≡ u = ap at q ∙ ap (λ (z : List Kept). get_or z 0 (opening nobody)) e in
        let own : u.of.id < n = (subst (All (Inside n)) e k.inside).0.0 in
        let last : dist_of (get_or s.keys (len - 1) 0) ≡ u.of.dist =
        ap dist_of (key_is (len - 1) (omega arith) ∙ ap key_of first) ∙ key_dist u (omega (arith, k.nodes)) in
        rw (last, ap dist_of (key_is d l) ∙ key_dist (at i) low, lt-ltb 0 (length (items (u ∷ us))) (omega arith)) (sym (not_ltb (at i).of.dist u.of.dist))

    stop_is : halts_k s.keys beam len d ≡ stops beam st
    unfolding halts_k stops filled
    stop_is =
        let some : length st.frontier ≡ 0 → ⊥ = λ e.
        omega (arith, frontier_some i ks k.rest st.frontier (omega (arith, k.len_is)) opened behind k.frontier_is) in
        rw (lt-leb len d l, ne_eqb (length st.frontier) 0 some, k.work_is, best_at)
        (ap₂ ◌&&◌ (not_ltb len beam ∙ ap (leb beam) (sym (length-items ks ∙ k.len_is))) (worst_test ks refl))

    same_length : length (close i ks) ≡ length ks
    same_length = sym (length-items (close i ks)) ∙ ap length (items-close i ks) ∙ length-items ks

    keys_closed : set s.keys d (get_or s.keys d 0 - 1) ≡ rev (keys_of (close i ks)) ++ replicate (256 - length (close i ks)) none
    keys_closed =
        let v : get_or s.keys d 0 - 1 ≡ key_of (shut (at i)) = omega (arith, key_is d l, open_key_lem (at i) opened, closed_key_lem (shut (at i)) refl) in
        ap₂ (λ (z : List ℕ) (y : ℕ). set z d y) k.keys_are v
        ∙ set-append_left (rev (keys_of ks)) (replicate (256 - length ks) none) d (key_of (shut (at i))) (omega (arith, length_front ks, k.len_is))
        ∙ ap₂ (λ (z : List ℕ) (j : ℕ). z ++ replicate (256 - j) none)
        (rev-set 0 (keys_of ks) i d (key_of (shut (at i))) (omega (arith, length_keys ks, k.len_is)) (omega (arith, length_keys ks, k.len_is))
        ∙ ap rev (sym (keys_close i ks))) (sym same_length)

    works_closed : Works n beam (standing (set s.keys d (get_or s.keys d 0 - 1)) (works len (d + 1) s.work.bound)) (without_best st.frontier)
        st.work
    works_closed =
        let e : i ≡ len - (d + 1) = omega arith in
        record {
          nodes = k.nodes;
          beam_le = k.beam_le;
          kept = close i ks;
          rest = k.rest;
          keys_are = keys_closed;
          len_is = same_length ∙ k.len_is;
          len_le = k.len_le;
          done_le = omega arith;
          bound_is = k.bound_is ∙ ap (bound_of beam) (sym (items-close i ks));
          sorted = falling_close i ks behind k.sorted;
          inside = all-close (Inside n) (λ z w. w) i ks k.inside;
          walked = subst (λ (j : ℕ). Closed (drop j (close i ks))) e (closed_from i ks behind);
          work_is = k.work_is ∙ sym (items-close i ks);
          frontier_is = without_is i ks k.rest st.frontier (omega (arith, k.len_is)) opened behind k.frontier_is;
          beyond = subst (λ (z : List Item). All (Beyond beam z) k.rest) (sym (items-close i ks)) k.beyond;
        }

  -- the code's test of the stop is the definition's
  halts_is : halts_k s.keys beam len d ≡ stops beam st
  unfolding halts_k
  halts_is =
      decide (leb len d)
      (λ t. ap (λ (z : Bool). z || (not (ltb len beam) && leb (dist_of (get_or s.keys (len - 1) 0)) (dist_of (get_or s.keys d 0)))) t
      ∙ sym (all_walked (leb-true len d t)))
      (λ f. stop_is (leb-false len d f))

-- ---- the ends of `pop`
module _ (beam : ℕ) (s : Standing) (d : ℕ) (next : Next s.keys s.work d) where
  pub pop_none : halts_k s.keys beam s.work.len d ≡ true → Pops beam s s.keys None
  pop_none h = record { found_is = λ n st k. ap not (sym h ∙ halts_is n beam s st k d next); same = refl; id_is = tt; working = tt }

  pub pop_some : halts_k s.keys beam s.work.len d ≡ false → d < s.work.len → (id : ℕ) → id ≡ id_of (get_or s.keys d 0)
      → Pops beam s (set s.keys d (get_or s.keys d 0 - 1)) (Some (record { id = id; done = d + 1 }))
  unfolding popped
  pop_some h l id e =
      record {
        found_is = λ n st k. ap not (sym h ∙ halts_is n beam s st k d next);
        same = tt;
        id_is = λ n st k.
            let b = best_id n beam s st k d next l in
            (e ∙ b, omega (arith, e, b, ap (λ (z : Item). z.id) (best_at n beam s st k d next l), (within n beam s st k d next l).0));
        working = λ n st k. works_closed n beam s st k d next l;
      }

-- all of work is walked
pub pop_spent : (beam : ℕ) (s : Standing) → Next s.keys s.work s.work.len → Pops beam s s.keys None
unfolding halts_k
pop_spent beam s next = pop_none beam s s.work.len next (rw (le-leb s.work.len s.work.len (omega arith)) refl)
