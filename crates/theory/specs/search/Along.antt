-- The invariant is kept: by one word of a row, by a row, by a step; and it holds at the beginning.
use Rattle.std.specs.Prelude.{ℕ, zero, suc, ◌<◌, ◌≡◌, ◌≢◌, ◌⊎◌, Bool, ◌||◌, cond, length}
use Rattle.std.proofs.Common.{zero-le, arith, sym, ap, ◌∙◌, inl, inr, eqb-true}
use Rattle.std.proofs.Math.Path.{refl, subst}
use Rattle.std.proofs.Math.Bool.{true, false}
use mathlib.Core.List.Memᴰ.{head as here}
use mathlib.Core.List.Memᴰ.{tail as there}
use mathlib.Core.List.{List, [], ◌∷◌, ◌++◌, Memᴰ as Mem}
use mathlib.Core.List.Memᴰ.{append_left as in_front}
use mathlib.Core.List.Memᴰ.{append_right as in-back}
use mathlib.Core.List.Memᴰ.{cases_cons as cases}
use mathlib.Core.List.Memᴰ.{not-nil}
use Rattle.std.proofs.lemmas.Bool.{eqb-false}
use Rattle.std.proofs.Math.Dec.{eqb}
use Rattle.definition.specs.Lists.{is_in, place}
use Rattle.definition.specs.Tables.{pad}
use Rattle.definition.specs.Beam.{Item, item, worse, insert, insert_capped, best, without_best}
use Rattle.definition.specs.Greedy.{State, visited_ids, begin, meet, skipped, look, expand, popped, step}
use Rattle.laws.specs.Truth.{not_both}
use Rattle.laws.specs.Members.{cons_elim, snoc_elim, is_in-mem, is_in-none}
use Rattle.laws.specs.Apart.{nobody, another}
use Rattle.laws.specs.Sorting.{Ordered, none, more, ordered_front, ordered_across}
use Rattle.laws.specs.Items.{ids_of, id_in, ids_elim, ids_within, ids_snoc, worse_order, best-last, best_in}
use Rattle.laws.specs.Inserts.{capped_room}
use Rattle.theory.specs.search.Tells.{Reachable, from_start}
use Rattle.theory.specs.search.Ground.{Ground}
use Rattle.theory.specs.search.Steps.{meet_cases, look_expanded, expand_expanded}
use Rattle.theory.specs.search.Invariant.{Seen, Waiting, Holding, seen_more, waiting_same, waiting_more, holding_room, holding_out, holding_full}

-- two that were visited and have one id are one
pub same_item : {g : Ground} {visited : List Item} {expanded : List ℕ} → Seen g visited expanded
    → (x y : Item) → Mem x visited → Mem y visited → x.id ≡ y.id → x ≡ y
same_item {g} s x y p q e = λ i. record { dist = (s.own x p ∙ ap g.d e ∙ sym (s.own y q)) i; id = e i }

module _ (g : Ground) where
  open g use {d, rows, n, beam, start, starts, good}

  -- along the walk of a row
  pub record Kept (s : State) : Type 0 where
    pub seen : Seen g s.visited s.expanded
    pub waiting : Waiting s.visited s.expanded s.frontier
    pub holding : Holding beam s.visited s.expanded s.frontier s.work

  -- between two steps: also, the rows of all that were expanded have been visited
  pub record Invariant (s : State) : Type 0 where
    pub kept : Kept s
    pub walked : (e w : ℕ) → Mem e s.expanded → Mem w (rows e) → w ≢ pad → Mem w (visited_ids s)

  -- ---- one word

  meet_keeps : (s : State) (c : Item) (e : ℕ) → c.dist ≡ d c.id → c.id < n → Mem e s.expanded → Mem c.id (rows e) → c.id ≢ pad
      → ¬ Mem c.id (ids_of s.visited) → Kept s → Kept (meet beam c s)
  unfolding meet
  meet_keeps s c e own below is-expanded on_Row no_pad new k =
      let vs' = s.visited in
      let es = s.expanded in
      let seen = seen_more vs' es c new g e own below is-expanded on_Row no_pad k.seen in
      let waiting = waiting_more vs' es c new k.seen.expanded_seen k.waiting in
      meet_cases (λ f w. Kept (record { frontier = f; work = w; visited = vs' ++ (c ∷ []); expanded = es })) beam c s k.holding.most k.holding.sorted
      (λ room. record { seen = seen; waiting = waiting; holding = holding_room vs' es c new beam k.holding room })
      (λ v vs is size near. record {
        seen = seen;
        waiting = waiting;
        holding = holding_full vs' es c new beam v vs (subst (λ (l : List Item). Holding beam vs' es s.frontier l) is k.holding) size near;
      })
      (λ full far. record { seen = seen; waiting = waiting_same vs' es c new k.waiting; holding = holding_out vs' es c new beam k.holding full far })

  -- by what the test of a skipped word says
  pub look_cases : (P : State → Type 0) (s : State) (w : ℕ) → ((w ≡ pad) ⊎ Mem w (visited_ids s) → P s)
      → (w ≢ pad → ¬ Mem w (visited_ids s) → P (meet beam (item (d w) w) s))
      → P (look d beam s w)
  unfolding look skipped
  look_cases P s w skip take = go (eqb w pad) refl (is_in w (visited_ids s)) refl
    where
      go : (a : Bool) → eqb w pad ≡ a → (b : Bool) → is_in w (visited_ids s) ≡ b → P (cond (a || b) s (meet beam (item (d w) w) s))
      go true p b q = skip (inl (eqb-true w pad p))
      go false p true q = skip (inr (is_in-mem w (visited_ids s) q))
      go false p false q = take (eqb-false w pad p) (is_in-none w (visited_ids s) q)

  look_stays : (s : State) (w : ℕ) (c : Item) → Mem c s.visited → Mem c (look d beam s w).visited
  unfolding meet
  look_stays s w c m = look_cases (λ t. Mem c t.visited) s w (λ h. m) (λ p q. in_front (item (d w) w ∷ []) m)

  pub look_grows : (s : State) (w i : ℕ) → Mem i (visited_ids s) → Mem i (visited_ids (look d beam s w))
  unfolding visited_ids
  look_grows s w = ids_within s.visited (look d beam s w).visited (look_stays s w)

  pub look_visits : (s : State) (w : ℕ) → w ≢ pad → Mem w (visited_ids (look d beam s w))
  unfolding meet visited_ids
  look_visits s w no_pad =
      look_cases (λ t. Mem w (visited_ids t)) s w skip
      (λ p q. subst (λ (l : List ℕ). Mem w l) (sym (ids_snoc s.visited (item (d w) w))) (in-back (ids_of s.visited) (here refl)))
    where
      skip : (w ≡ pad) ⊎ Mem w (visited_ids s) → Mem w (visited_ids s)
      skip (inl e) = absurd (no_pad e)
      skip (inr m) = m

  -- ---- a row

  expand_stays : (ws : List ℕ) (s : State) (c : Item) → Mem c s.visited → Mem c (expand d beam s ws).visited
  unfolding expand
  expand_stays [] s c m = m
  expand_stays (w ∷ ws) s c m = expand_stays ws (look d beam s w) c (look_stays s w c m)

  expand_grows : (ws : List ℕ) (s : State) (i : ℕ) → Mem i (visited_ids s) → Mem i (visited_ids (expand d beam s ws))
  unfolding visited_ids
  expand_grows ws s = ids_within s.visited (expand d beam s ws).visited (expand_stays ws s)

  expand_visits : (ws : List ℕ) (s : State) (i : ℕ) → Mem i ws → i ≢ pad → Mem i (visited_ids (expand d beam s ws))
  unfolding expand
  expand_visits [] s i m no_pad = absurd (not-nil m)
  expand_visits (w ∷ ws) s i m no_pad =
      go (λ h. expand_visits ws (look d beam s w) i h no_pad) (λ h. expand_grows ws (look d beam s w) i h) (cases m)
    where
      go : (Mem i ws → Mem i (visited_ids (expand d beam (look d beam s w) ws)))
          → (Mem i (visited_ids (look d beam s w)) → Mem i (visited_ids (expand d beam (look d beam s w) ws)))
          → (i ≡ w) ⊎ Mem i ws → Mem i (visited_ids (expand d beam (look d beam s w) ws))
      go ih grows (inl e) = grows (subst (λ (u : ℕ). Mem u (visited_ids (look d beam s w))) (sym e) (look_visits s w (λ p. no_pad (e ∙ p))))
      go ih grows (inr h) = ih h

  -- ---- a step

  -- the best of the frontier is expanded: before its row is walked
  pub popped_keeps : (s : State) → 0 < length s.frontier → Kept s → Kept (popped s)
  unfolding popped
  popped_keeps s some k =
      record {
        seen = record {
          own = k.seen.own;
          once = k.seen.once;
          below = k.seen.below;
          reachable = k.seen.reachable;
          begun = k.seen.begun;
          expanded_once = another (k.waiting.fresh b at_end) k.seen.expanded_once;
          expanded_seen = cons_elim (λ e. Mem e (ids_of s.visited)) b.id s.expanded (id_in (k.waiting.seen b at_end)) k.seen.expanded_seen;
        };
        waiting = record {
          sorted = ordered_front (without_best s.frontier) (b ∷ []) in_order;
          seen = λ c m. k.waiting.seen c (before c m);
          fresh = λ c m e. new c m (cases e);
        };
        holding = record {
          sorted = k.holding.sorted;
          seen = k.holding.seen;
          most = k.holding.most;
          waits = λ c m. waits c (k.holding.waits c m);
          out = k.holding.out;
        };
      }
    where
      b : Item
      b = best s.frontier

      parts : s.frontier ≡ without_best s.frontier ++ (b ∷ [])
      parts = best-last s.frontier some

      in_order : Ordered worse (without_best s.frontier ++ (b ∷ []))
      in_order = subst (λ (l : List Item). Ordered worse l) parts k.waiting.sorted

      before : (c : Item) → Mem c (without_best s.frontier) → Mem c s.frontier
      before c m = subst (λ (l : List Item). Mem c l) (sym parts) (in_front (b ∷ []) m)

      at_end : Mem b s.frontier
      at_end = best_in s.frontier some

      new : (c : Item) → Mem c (without_best s.frontier) → (c.id ≡ b.id) ⊎ Mem c.id s.expanded → ⊥
      new c m (inl e) =
          let is_b = same_item k.seen c b (k.waiting.seen c (before c m)) (k.waiting.seen b at_end) e in
          let ahead = ordered_across (without_best s.frontier) (b ∷ []) in_order c b m (here refl) in
          not_both (worse_order.never_own b) (ap (λ (x : Item). worse x b) (sym is_b) ∙ ahead)
      new c m (inr h) = k.waiting.fresh c (before c m) h

      waits : (c : Item) → Mem c.id s.expanded ⊎ Mem c s.frontier → Mem c.id (b.id ∷ s.expanded) ⊎ Mem c (without_best s.frontier)
      waits c (inl m) = inl (there m)
      waits c (inr m) =
          snoc_elim (λ x. Mem x.id (b.id ∷ s.expanded) ⊎ Mem x (without_best s.frontier)) (without_best s.frontier) b (λ x h. inr h)
          (inl (here refl)) c
          (subst (λ (l : List Item). Mem c l) parts m)

  look_keeps : (s : State) (w e : ℕ) → Mem e s.expanded → Mem w (rows e) → Kept s → Kept (look d beam s w)
  unfolding visited_ids
  look_keeps s w e is-expanded on_Row k =
      let e-below = ids_elim (λ i. i < n) s.visited k.seen.below e (k.seen.expanded_seen e is-expanded) in
      look_cases Kept s w (λ h. k) (λ no_pad new. meet_keeps s (item (d w) w) e refl (good e w e-below on_Row no_pad) is-expanded on_Row no_pad new k)

  expand_keeps : (ws : List ℕ) (s : State) (e : ℕ) → Mem e s.expanded → ((w : ℕ) → Mem w ws → Mem w (rows e)) → Kept s → Kept (expand d beam s ws)
  unfolding expand
  expand_keeps [] s e is-expanded on_Row k = k
  expand_keeps (w ∷ ws) s e is-expanded on_Row k =
      expand_keeps ws (look d beam s w) e (subst (λ (l : List ℕ). Mem e l) (sym (look_expanded d beam s w)) is-expanded) (λ u m. on_Row u (there m))
      (look_keeps s w e is-expanded (on_Row w (here refl)) k)

  pub step_keeps : (s : State) → 0 < length s.frontier → Invariant s → Invariant (step d rows beam s)
  unfolding step popped visited_ids
  step_keeps s some v =
      let b = (best s.frontier).id in
      record {
        kept = expand_keeps (rows b) (popped s) b (here refl) (λ w m. m) (popped_keeps s some v.kept);
        walked = λ e w m on_Row no_pad. go e w on_Row no_pad (cases (subst (λ (l : List ℕ). Mem e l) (expand_expanded d beam (rows b) (popped s)) m));
      }
    where
      go : (e w : ℕ) → Mem w (rows e) → w ≢ pad → (e ≡ (best s.frontier).id) ⊎ Mem e s.expanded
          → Mem w (visited_ids (expand d beam (popped s) (rows (best s.frontier).id)))
      go e w on_Row no_pad (inl p) = expand_visits (rows (best s.frontier).id) (popped s) w (subst (λ (i : ℕ). Mem w (rows i)) p on_Row) no_pad
      go e w on_Row no_pad (inr m) = expand_grows (rows (best s.frontier).id) (popped s) w (v.walked e w m on_Row no_pad)

  -- what was visited stays so
  pub step_stays : (s : State) (c : Item) → Mem c s.visited → Mem c (step d rows beam s).visited
  unfolding step popped
  step_stays s = expand_stays (rows (best s.frontier).id) (popped s)

  -- ---- the beginning

  pub begin_keeps : Invariant (begin d beam start)
  unfolding begin visited_ids insert_capped insert place
  begin_keeps =
      record {
        kept = record {
          seen = record {
            own = only (λ x. x.dist ≡ d x.id) refl;
            once = another not-nil nobody;
            below = only (λ x. x.id < n) starts;
            reachable = only (λ x. Reachable rows start x.id) from_start;
            begun = here refl;
            expanded_once = nobody;
            expanded_seen = λ e m. absurd (not-nil m);
          };
          waiting = record { sorted = more (λ z m. absurd (not-nil m)) none; seen = λ c m. m; fresh = λ c m e. not-nil e };
          holding = holding beam;
        };
        walked = λ e w m on_Row no_pad. absurd (not-nil m);
      }
    where
      first : Item
      first = item (d start) start

      only : (P : Item → Type 0) → P first → (x : Item) → Mem x (first ∷ []) → P x
      only P p = cons_elim P first [] p (λ y u. absurd (not-nil u))

      holding : (b : ℕ) → Holding b (first ∷ []) [] (first ∷ []) (insert_capped b first [])
      holding zero =
          record {
            sorted = none;
            seen = λ c m. absurd (not-nil m);
            most = zero-le;
            waits = λ c m. absurd (not-nil m);
            out = λ c m. inr (record { full = zero-le; no_farther = λ v u. absurd (not-nil u) });
          }
      holding (suc b) =
          subst (λ (l : List Item). Holding (suc b) (first ∷ []) [] (first ∷ []) l) (sym (capped_room (suc b) first [] (omega arith)))
          (record { sorted = more (λ z m. absurd (not-nil m)) none; seen = λ c m. m; most = omega arith; waits = λ c m. inr m; out = λ c m. inl m })
