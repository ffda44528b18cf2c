-- What a search that has stopped tells, over any distance and rows.
use Prim.Native.Nat.{ℕ, ◌≤◌, ◌<◌, min}
use Rattle.std.proofs.Common.{arith, sym, ◌∙◌, take-append-drop}
use Rattle.std.specs.Prelude.{◌≡◌, ◌⊎◌, Bool, not, ◌&&◌, ◌||◌, leb, ltb, take, drop}
use Rattle.std.proofs.Math.Path.{refl, ap, subst}
use Rattle.std.proofs.Math.Logic.{inl, inr}
use Rattle.std.proofs.Math.Bool.{true, false}
use mathlib.Core.List.{List, [], ◌∷◌, Memᴰ as Mem}
use mathlib.Core.List.Memᴰ.{append_cases as split}
use mathlib.Core.List.Memᴰ.{not-nil}
use borrow.Author.Tests.{ltb-true, ltb-false, eqb-true, leb-true, not-true}
use Rattle.std.proofs.Math.Dec.{eqb}
use Rattle.std.proofs.Math.ListN.{length, length-map, length-take}
use Rattle.std.proofs.Math.Seq.{take_all}
use Rattle.definition.specs.Lists.{sort}
use Rattle.definition.specs.Beam.{Item, item, worse, best, beats_worst}
use Rattle.definition.specs.Greedy.{State, visited_ids, stops, filled}
use Rattle.definition.specs.Search.{listed_first}
use Rattle.laws.specs.Truth.{and_both, decide}
use Rattle.laws.specs.Members.{mem_length, take_mem}
use Rattle.laws.specs.Apart.{apart_nodup, apart-map}
use Rattle.laws.specs.Sorting.{Ordered, sort_mem, mem_sort, length_sort, sort_ordered, ordered_apart, ordered_across, take_ordered}
use Rattle.laws.specs.Items.{ids_of, id_in, ids_elim, ids_within, listed_order, listed_dist, worse_order, best_in, best-nearest, best_most}
use Rattle.theory.specs.search.Tells.{Reachable, from_start, along, OnWay, SearchTells, Excludes}
use Rattle.theory.specs.search.Ground.{Ground}
use Rattle.theory.specs.search.Steps.{worst-first}
use Rattle.theory.specs.search.Invariant.{Shut}
use Rattle.theory.specs.search.Along.{Kept, same_item}
use Rattle.theory.specs.search.Ends.{Done}

-- one still in the frontier: work is full, and nobody in it is farther
filled-shut : (beam : ℕ) (s : State) (c : Item) → Ordered worse s.work → (best s.frontier).dist ≤ c.dist → filled beam s ≡ true → Shut beam s.work c
unfolding filled beats_worst
filled-shut beam s c o near e =
    let p = and_both (leb beam (length s.work)) (ltb 0 (length s.work) && not (beats_worst (best s.frontier) s.work)) e in
    let q = and_both (ltb 0 (length s.work)) (not (beats_worst (best s.frontier) s.work)) p.1 in
    record {
      full = leb-true beam (length s.work) p.0;
      no_farther = go s.work o (not-true (beats_worst (best s.frontier) s.work) q.1);
    }
  where
    go : (work : List Item) → Ordered worse work → beats_worst (best s.frontier) work ≡ false → (u : Item) → Mem u work → u.dist ≤ c.dist
    go [] o f u m = absurd (not-nil m)
    go (v ∷ vs) o f u m = omega (arith, worst-first o u m, ltb-false (best s.frontier).dist v.dist f)

-- a way ends at its end
way_end : {rows : ℕ → List ℕ} {start y : ℕ} (way : Reachable rows start y) → OnWay way y
unfolding OnWay
way_end from_start = refl
way_end (along way on_Row no_pad) = inl refl

module _ (g : Ground) (s : State) (done : Done g s) where
  open g use {d, rows, beam, start}

  kept : Kept g s
  kept = done.invariant.kept

  left_over : (c : Item) → Mem c s.frontier → Shut beam s.work c
  unfolding stops
  left_over c m = go (eqb (length s.frontier) 0) refl done.stopped
    where
      go : (b : Bool) → eqb (length s.frontier) 0 ≡ b → (b || filled beam s) ≡ true → Shut beam s.work c
      go true p e = absurd (omega (arith, eqb-true (length s.frontier) 0 p, mem_length m))
      go false p e = filled-shut beam s c kept.holding.sorted (best-nearest s.frontier kept.waiting.sorted c m) e

  -- shut to an item of its own distance
  shut_own : (c : Item) → Mem c s.visited → Shut beam s.work c → Shut beam s.work (item (d c.id) c.id)
  shut_own c m h = record { full = h.full; no_farther = λ v k. omega (arith, h.no_farther v k, kept.seen.own c m) }

  -- each of work is expanded, unless work is full with nobody farther
  settled : (x : ℕ) → Mem x (ids_of s.work) → Mem x s.expanded ⊎ Shut beam s.work (item (d x) x)
  settled =
      ids_elim (λ x. Mem x s.expanded ⊎ Shut beam s.work (item (d x) x)) s.work (λ c m. go c (kept.holding.seen c m) (kept.holding.waits c m))
    where
      go : (c : Item) → Mem c s.visited → Mem c.id s.expanded ⊎ Mem c s.frontier
          → Mem c.id s.expanded ⊎ Shut beam s.work (item (d c.id) c.id)
      go c m (inl h) = inl h
      go c m (inr h) = inr (shut_own c m (left_over c h))

  -- what was visited is in work, or work is full with nobody farther
  known : (y : ℕ) → Mem y (visited_ids s) → Mem y (ids_of s.work) ⊎ Shut beam s.work (item (d y) y)
  unfolding visited_ids
  known = ids_elim (λ y. Mem y (ids_of s.work) ⊎ Shut beam s.work (item (d y) y)) s.visited (λ c m. go c m (kept.holding.out c m))
    where
      go : (c : Item) → Mem c s.visited → Mem c s.work ⊎ Shut beam s.work c
          → Mem c.id (ids_of s.work) ⊎ Shut beam s.work (item (d c.id) c.id)
      go c m (inl h) = inl (id_in h)
      go c m (inr h) = inr (shut_own c m h)

  -- work with room left is shut to nobody: it holds all that was visited, all of it expanded, and so all that rows lead to
  unshut : {P : Type 0} {c : Item} → length s.work < beam → P ⊎ Shut beam s.work c → P
  unshut room (inl p) = p
  unshut room (inr h) = absurd (omega (arith, h.full))

  all_if_fewer : length s.work < beam → {x : ℕ} → Reachable rows start x → Mem x (ids_of s.work)
  unfolding visited_ids
  all_if_fewer room from_start = unshut room (known start kept.seen.begun)
  all_if_fewer room (along {i = i} {j = j} r on_Row no_pad) =
      unshut room (known j (done.invariant.walked i j (unshut room (settled i (all_if_fewer room r))) on_Row no_pad))

  -- two of work that have one id are one
  work_single : (x y : Item) → Mem x s.work → Mem y s.work → x.id ≡ y.id → x ≡ y
  work_single x y p q e = same_item kept.seen x y (kept.holding.seen x p) (kept.holding.seen y q) e

  -- ---- the answers: work in the answers' order, cut to k

  pub stopped_ordered : Ordered listed_first (sort listed_first s.work)
  stopped_ordered = sort_ordered listed_order (ordered_apart worse_order kept.holding.sorted)

  module _ (k : ℕ) where
    unfoldable answered : List Item
    answered = take k (sort listed_first s.work)

    unfoldable last : ℕ
    last = (best answered).dist

    answered_work : (c : Item) → Mem c answered → Mem c s.work
    unfolding answered
    answered_work c m = sort_mem listed_first s.work (take_mem k (sort listed_first s.work) m)

    -- one of work that is cut off is no nearer than the last answer
    cut : (c : Item) → Mem c s.work → Mem c answered ⊎ (last ≤ c.dist)
    unfolding answered last
    cut c m = go (split answered (subst (λ (l : List Item). Mem c l) (sym (take-append-drop k xs)) (mem_sort listed_first s.work m)))
      where
        xs : List Item
        xs = sort listed_first s.work

        go : Mem c (take k xs) ⊎ Mem c (drop k xs) → Mem c answered ⊎ (last ≤ c.dist)
        go (inl h) = inl h
        go (inr h) =
            let parts = subst (λ (l : List Item). Ordered listed_first l) (sym (take-append-drop k xs)) stopped_ordered in
            inr (best_most answered c.dist (λ x m'. listed_dist x c (ordered_across (take k xs) (drop k xs) parts x c m' h)))

    -- an id that was visited is answered, or no nearer than the last answer
    visited_id : (y : ℕ) → Mem y (visited_ids s) → Mem y (ids_of answered) ⊎ (last ≤ d y)
    unfolding last
    visited_id y m = go (known y m)
      where
        at : (c : Item) → Mem c s.visited → Mem c answered ⊎ (last ≤ c.dist) → Mem c.id (ids_of answered) ⊎ (last ≤ d c.id)
        at c m (inl h) = inl (id_in h)
        at c m (inr h) = inr (omega (arith, h, kept.seen.own c m))

        go : Mem y (ids_of s.work) ⊎ Shut beam s.work (item (d y) y) → Mem y (ids_of answered) ⊎ (last ≤ d y)
        go (inl h) = ids_elim (λ i. Mem i (ids_of answered) ⊎ (last ≤ d i)) s.work (λ c k. at c (kept.holding.seen c k) (cut c k)) y h
        go (inr h) = inr (best_most answered (d y) (λ c k. h.no_farther c (answered_work c k)))

    -- an answer nearer than the last was expanded
    answer_expanded : (x : ℕ) → Mem x (ids_of answered) → d x < last → Mem x s.expanded
    unfolding last
    answer_expanded x m near = go (settled x (ids_within answered s.work answered_work x m))
      where
        go : Mem x s.expanded ⊎ Shut beam s.work (item (d x) x) → Mem x s.expanded
        go (inl h) = h
        go (inr h) =
            let some : 0 < length answered = omega (arith, mem_length m, length-map answered (λ (c : Item). c.id)) in
            absurd (omega (arith, h.no_farther (best answered) (answered_work (best answered) (best_in answered some))))

    size : length (ids_of answered) ≡ min k (length s.work)
    unfolding answered
    size =
        length-map answered (λ (c : Item). c.id) ∙ length-take k (sort listed_first s.work) ∙ ap (λ (l : ℕ). min k l) (length_sort listed_first s.work)

    all_answered : length (ids_of answered) < min k beam → {x : ℕ} → Reachable rows start x → Mem x (ids_of answered)
    unfolding answered
    all_answered room {x} r =
        let whole = take_all k (sort listed_first s.work) (omega (arith, size, length_sort listed_first s.work)) in
        subst (λ (l : List Item). Mem x (ids_of l)) (sym whole)
        (ids_within s.work (sort listed_first s.work) (λ c h. mem_sort listed_first s.work h) x (all_if_fewer (omega (arith, size)) r))

    pub stopped_tells : SearchTells rows d start (min k beam) (ids_of (take k (sort listed_first s.work))) (best (take k (sort listed_first s.work))).dist
    unfolding answered last
    stopped_tells =
        record {
          most = omega (arith, size, kept.holding.most);
          once = apart_nodup (apart-map (λ (c : Item). c.id) (λ x y p q. work_single x y (answered_work x p) (answered_work y q))
              (ordered_apart listed_order (take_ordered k (sort listed_first s.work) stopped_ordered)));
          reachable = ids_elim (Reachable rows start) answered (λ c m. kept.seen.reachable c (kept.holding.seen c (answered_work c m)));
          all_if_fewer = λ room x r. all_answered room r;
          none_nearer = λ x y m near on_Row no_pad. visited_id y (done.invariant.walked x y (answer_expanded x m near) on_Row no_pad);
        }

    -- a way to y ends at an answer, or passed one that is no nearer than the last
    behind : {y : ℕ} (way : Reachable rows start y) → Mem y (ids_of answered) ⊎ ((e : ℕ) × OnWay way e × (last ≤ d e))
    unfolding OnWay visited_ids
    behind from_start = go (visited_id start kept.seen.begun)
      where
        go : Mem start (ids_of answered) ⊎ (last ≤ d start) → Mem start (ids_of answered) ⊎ ((e : ℕ) × (e ≡ start) × (last ≤ d e))
        go (inl m) = inl m
        go (inr far) = inr (start, refl, far)
    behind (along {i = i} {j = j} way on_Row no_pad) = go (behind way)
      where
        Told : Type 0
        Told = Mem j (ids_of answered) ⊎ ((e : ℕ) × ((e ≡ j) ⊎ OnWay way e) × (last ≤ d e))

        at : Mem j (ids_of answered) ⊎ (last ≤ d j) → Told
        at (inl m) = inl m
        at (inr far) = inr (j, inl refl, far)

        go : Mem i (ids_of answered) ⊎ ((e : ℕ) × OnWay way e × (last ≤ d e)) → Told
        go (inl m) =
            decide (ltb (d i) last) (λ t. at (visited_id j (done.invariant.walked i j (answer_expanded i m (ltb-true (d i) last t)) on_Row no_pad)))
            (λ t. inr (i, inr (way_end way), ltb-false (d i) last t))
        go (inr f) = inr (f.0, inr f.1, f.2)

    pub stopped_excludes : Excludes rows d start (ids_of (take k (sort listed_first s.work))) (best (take k (sort listed_first s.work))).dist
    unfolding answered last
    stopped_excludes y way = behind way
