-- What holds of a greedy search along its steps, over any distance and any rows of ids below n and padding; beam 0 included.
use Rattle.std.specs.Prelude.{ℕ, suc, ◌≤◌, ◌<◌, ◌≡◌, refl, ◌≢◌, ◌⊎◌, length}
use Rattle.std.proofs.Common.{arith, sym, ap, subst, inl, inr}
use mathlib.Core.List.Memᴰ.{head as here}
use mathlib.Core.List.Memᴰ.{tail as there}
use mathlib.Core.List.{List, [], ◌∷◌, ◌++◌, Memᴰ as Mem}
use mathlib.Core.List.Memᴰ.{append_left as in_front}
use mathlib.Core.List.Memᴰ.{append_right as in-back}
use mathlib.Core.List.Memᴰ.{cases_cons as cases}
use Rattle.definition.specs.Tables.{pad}
use Rattle.definition.specs.Beam.{Item, worse, insert}
use Rattle.laws.specs.Members.{snoc_elim}
use Rattle.laws.specs.Apart.{Apart, apart_snoc}
use Rattle.laws.specs.Sorting.{Ordered, ordered_tail, place_elim, mem_place, place_ordered}
use Rattle.laws.specs.Items.{ids_of, id_in, ids_elim, ids_snoc, worse_order}
use Rattle.laws.specs.Inserts.{length-insert}
use Rattle.theory.specs.search.Tells.{Reachable, along}
use Rattle.theory.specs.search.Ground.{Ground}
use Rattle.theory.specs.search.Steps.{worst-first}

module _ (g : Ground) where
  open g use {d, rows, n, start}

  -- what was visited, and what of it was expanded
  pub record Seen (visited : List Item) (expanded : List ℕ) : Type 0 where
    pub own : (c : Item) → Mem c visited → c.dist ≡ d c.id
    pub once : Apart (ids_of visited)
    pub below : (c : Item) → Mem c visited → c.id < n
    pub reachable : (c : Item) → Mem c visited → Reachable rows start c.id
    pub begun : Mem start (ids_of visited)
    pub expanded_once : Apart expanded
    pub expanded_seen : (e : ℕ) → Mem e expanded → Mem e (ids_of visited)

-- the frontier: in order, visited, not yet expanded
pub record Waiting (visited : List Item) (expanded : List ℕ) (frontier : List Item) : Type 0 where
  pub sorted : Ordered worse frontier
  pub seen : (c : Item) → Mem c frontier → Mem c visited
  pub fresh : (c : Item) → Mem c frontier → ¬ Mem c.id expanded

-- work is full, and nobody in it is farther than c
pub record Shut (beam : ℕ) (work : List Item) (c : Item) : Type 0 where
  pub full : beam ≤ length work
  pub no_farther : (v : Item) → Mem v work → v.dist ≤ c.dist

-- work: in order, visited, at most beam; each of it expanded or in the frontier; to all others that were visited it is shut
pub record Holding (beam : ℕ) (visited : List Item) (expanded : List ℕ) (frontier work : List Item) : Type 0 where
  pub sorted : Ordered worse work
  pub seen : (c : Item) → Mem c work → Mem c visited
  pub most : length work ≤ beam
  pub waits : (c : Item) → Mem c work → Mem c.id expanded ⊎ Mem c frontier
  pub out : (c : Item) → Mem c visited → Mem c work ⊎ Shut beam work c

-- ---- a newly visited entry

insert_elim : (P : Item → Type 0) (c : Item) (xs : List Item) → ((x : Item) → Mem x xs → P x) → P c → (x : Item) → Mem x (insert c xs) → P x
unfolding insert
insert_elim P c xs f p = place_elim worse P c xs p f

insert_new : (c : Item) (xs : List Item) → Mem c (insert c xs)
unfolding insert
insert_new c xs = mem_place worse c xs (inl refl)

insert_old : (c x : Item) (xs : List Item) → Mem x xs → Mem x (insert c xs)
unfolding insert
insert_old c x xs m = mem_place worse c xs (inr m)

-- a full work whose worst has left for c: shut to x, if neither c nor one of the others is farther
pub shut-insert : {beam : ℕ} (c x : Item) (vs : List Item) → beam ≤ suc (length vs) → c.dist ≤ x.dist → ((u : Item) → Mem u vs → u.dist ≤ x.dist)
    → Shut beam (insert c vs) x
shut-insert c x vs size near others =
    record { full = omega (arith, length-insert c vs); no_farther = insert_elim (λ u. u.dist ≤ x.dist) c vs others near }

module _ (visited : List Item) (expanded : List ℕ) (c : Item) (new : ¬ Mem c.id (ids_of visited)) where
  insert_ordered : (xs : List Item) → ((x : Item) → Mem x xs → Mem x visited) → Ordered worse xs → Ordered worse (insert c xs)
  unfolding insert
  insert_ordered xs f o = place_ordered worse_order c (λ m. new (id_in (f c m))) o

  -- c was visited along the row of an expanded one
  pub seen_more : (g : Ground) (e : ℕ) → c.dist ≡ g.d c.id → c.id < g.n → Mem e expanded → Mem c.id (g.rows e) → c.id ≢ pad
      → Seen g visited expanded → Seen g (visited ++ (c ∷ [])) expanded
  seen_more g e own below is-expanded on_Row no_pad s =
      record {
        own = snoc_elim (λ x. x.dist ≡ g.d x.id) visited c s.own own;
        once = subst Apart (sym (ids_snoc visited c)) (apart_snoc c.id s.once new);
        below = snoc_elim (λ x. x.id < g.n) visited c s.below below;
        reachable = snoc_elim (λ x. Reachable g.rows g.start x.id) visited c s.reachable
            (along (ids_elim (Reachable g.rows g.start) visited s.reachable e (s.expanded_seen e is-expanded)) on_Row no_pad);
        begun = keep g.start s.begun;
        expanded_once = s.expanded_once;
        expanded_seen = λ i m. keep i (s.expanded_seen i m);
      }
    where
      keep : (i : ℕ) → Mem i (ids_of visited) → Mem i (ids_of (visited ++ (c ∷ [])))
      keep i m = subst (λ (l : List ℕ). Mem i l) (sym (ids_snoc visited c)) (in_front (c.id ∷ []) m)

  pub waiting_same : {frontier : List Item} → Waiting visited expanded frontier → Waiting (visited ++ (c ∷ [])) expanded frontier
  waiting_same w = record { sorted = w.sorted; seen = λ x m. in_front (c ∷ []) (w.seen x m); fresh = w.fresh }

  -- c goes into a list of visited items
  insert_seen : (xs : List Item) → ((x : Item) → Mem x xs → Mem x visited) → (x : Item) → Mem x (insert c xs) → Mem x (visited ++ (c ∷ []))
  insert_seen xs f = insert_elim (λ x. Mem x (visited ++ (c ∷ []))) c xs (λ x m. in_front (c ∷ []) (f x m)) (in-back visited (here refl))

  pub waiting_more : {frontier : List Item} → ((i : ℕ) → Mem i expanded → Mem i (ids_of visited)) → Waiting visited expanded frontier
      → Waiting (visited ++ (c ∷ [])) expanded (insert c frontier)
  waiting_more {frontier} known w =
      record {
        sorted = insert_ordered frontier w.seen w.sorted;
        seen = insert_seen frontier w.seen;
        fresh = insert_elim (λ x. ¬ Mem x.id expanded) c frontier w.fresh (λ m. new (known c.id m));
      }

  module _ (beam : ℕ) {frontier work : List Item} (h : Holding beam visited expanded frontier work) where
    still : (x : Item) → Mem x work → Mem x.id expanded ⊎ Mem x (insert c frontier)
    still x m = go (h.waits x m)
      where
        go : Mem x.id expanded ⊎ Mem x frontier → Mem x.id expanded ⊎ Mem x (insert c frontier)
        go (inl k) = inl k
        go (inr k) = inr (insert_old c x frontier k)

    pub holding_room : length work < beam → Holding beam (visited ++ (c ∷ [])) expanded (insert c frontier) (insert c work)
    holding_room room =
        record {
          sorted = insert_ordered work h.seen h.sorted;
          seen = insert_seen work h.seen;
          most = omega (arith, length-insert c work);
          waits = insert_elim (λ x. Mem x.id expanded ⊎ Mem x (insert c frontier)) c work still (inr (insert_new c frontier));
          out = snoc_elim (λ x. Mem x (insert c work) ⊎ Shut beam (insert c work) x) visited c (λ x m. inside x (h.out x m)) (inl (insert_new c work));
        }
      where
        inside : (x : Item) → Mem x work ⊎ Shut beam work x → Mem x (insert c work) ⊎ Shut beam (insert c work) x
        inside x (inl m) = inl (insert_old c x work m)
        inside x (inr s) = absurd (omega (arith, s.full))

    pub holding_out : beam ≤ length work → ((u : Item) → Mem u work → u.dist ≤ c.dist) → Holding beam (visited ++ (c ∷ [])) expanded frontier work
    holding_out full far =
        record {
          sorted = h.sorted;
          seen = λ x m. in_front (c ∷ []) (h.seen x m);
          most = h.most;
          waits = h.waits;
          out = snoc_elim (λ x. Mem x work ⊎ Shut beam work x) visited c h.out (inr (record { full = full; no_farther = far }));
        }

  -- the worst, v, leaves for c
  pub holding_full : (beam : ℕ) {frontier : List Item} (v : Item) (vs : List Item) → Holding beam visited expanded frontier (v ∷ vs) → suc (length vs) ≡ beam
      → c.dist < v.dist
      → Holding beam (visited ++ (c ∷ [])) expanded (insert c frontier) (insert c vs)
  holding_full beam {frontier} v vs h size near =
      record {
        sorted = insert_ordered vs (λ x m. h.seen x (there m)) (ordered_tail h.sorted);
        seen = insert_seen vs (λ x m. h.seen x (there m));
        most = omega (arith, length-insert c vs);
        waits = insert_elim (λ x. Mem x.id expanded ⊎ Mem x (insert c frontier)) c vs (λ x m. still beam h x (there m)) (inr (insert_new c frontier));
        out = snoc_elim (λ x. Mem x (insert c vs) ⊎ Shut beam (insert c vs) x) visited c (λ x m. go x (h.out x m)) (inl (insert_new c vs));
      }
    where
      shut : (x : Item) → v.dist ≤ x.dist → Shut beam (insert c vs) x
      shut x far = shut-insert c x vs (omega arith) (omega arith) (λ u m. omega (arith, worst-first h.sorted u (there m)))

      go : (x : Item) → Mem x (v ∷ vs) ⊎ Shut beam (v ∷ vs) x → Mem x (insert c vs) ⊎ Shut beam (insert c vs) x
      go x (inl m) = at (cases m)
        where
          at : (x ≡ v) ⊎ Mem x vs → Mem x (insert c vs) ⊎ Shut beam (insert c vs) x
          at (inl e) = inr (shut x (omega (arith, ap (λ (u : Item). u.dist) e)))
          at (inr k) = inl (insert_old c x vs k)
      go x (inr s) = inr (shut x (s.no_farther v (here refl)))
