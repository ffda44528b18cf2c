-- A row: its new ids are marked, measured, kept and met, and so the scratch goes on by the definition's `expand`. s₀ is how it stood before; words₁, fresh and
-- `count` are what gathering left, ys are the distances, words₂ has the list of the visited as well, keys₂ and w are what the meeting left.
use mathlib.Core.Path.{◌≡◌, sym, ap, ◌∙◌, subst}
use mathlib.Core.Bool.{true, false, true≢false}
use mathlib.Core.List.{List, ◌++◌, map}
use Prim.Native.Nat.{ℕ, ◌+◌, ◌≤◌, ◌<◌}
use native.Mathlib.Omega.{arith}
use lib.ListN.{length, get_or, take, length-map, length-append}
use Rattle.definition.specs.Tables.{cleaned}
use Rattle.definition.specs.Beam.{Item}
use Rattle.definition.specs.Prune.{measured}
use Rattle.definition.specs.Greedy.{State, visited_ids, expand}
use Rattle.laws.specs.All.{All, all_at, all_weaker}
use Rattle.laws.specs.Backwards.{map-append}
use Rattle.laws.specs.Paired.{items_of, items-measured}
use Rattle.laws.specs.Parts.{part, Within, part-front, part_front_length, within_above, within_none, within_trans, within_wider, put, put_part, put_within}
use Rattle.scratch.specs.Layout.{visited_at, visited_end, visited_dists_at, pool_at}
use Rattle.metric.specs.Exact.{VectorIn, Distances}
use Rattle.metric.specs.Laws.{vector_in}
use Rattle.marks.specs.Marked.{news, Seen, Gathers}
use Rattle.marks.specs.Visits.{visited_most, marked_kept, visited_kept, seen_kept}
use Rattle.kept.specs.declared.Work.{Work}
use Rattle.kept.specs.Says.{standing as standing-kept, Works, Working, Met, meets}
use Rattle.kept.specs.Cases.{meets_visited}
use Rattle.greedy.specs.declared.Plan.{Plan}
use Rattle.greedy.specs.Scratch.{Measures, Standing, standing, walk_end, walk_end_all, walk_end_least, space_kept, Ready, Logged, Is, Live, Keeps, Moves}
use Rattle.greedy.specs.Cases.{measured-ids, measured_dists, measured_length, expand_meets}

-- ---- the list of the visited, where it is kept
pub record Lists (p : Plan) (v : ℕ) (ids dists before after : List ℕ) : Type 0 where
  pub keeps : p.keep ≡ true → Keeps p.n v ids dists before after
  pub kept : Within (visited_at p.n) (walk_end p) before after

pub lists_kept : (p : Plan) {v : ℕ} {ids dists before after : List ℕ} → p.keep ≡ true → Keeps p.n v ids dists before after
    → Lists p v ids dists before after
lists_kept p {v} {ids} {dists} {before} {after} e k =
    record { keeps = λ _. k; kept = subst (λ (z : ℕ). Within (visited_at p.n) z before after) (sym (walk_end_all p e)) k.kept }

pub lists_none : (p : Plan) {v : ℕ} {ids dists words : List ℕ} → p.keep ≡ false → Lists p v ids dists words words
lists_none p {v} {ids} {dists} {words} e =
    record { keeps = λ t. absurd (true≢false (sym t ∙ e)); kept = within_none (visited_at p.n) (walk_end p) words }

-- what is met is met in the work of some state
pub working : {p : Plan} {epoch : ℕ} {s : Standing} → Live p epoch s → Working p.beam (standing-kept s.keys s.counts.work)
working {p} {epoch} {s} l = record { n = p.n; frontier = l.state.frontier; work = l.state.work; is = l.is.working }

-- there is room for the new ids, and for their distances
pub record Fits (count : ℕ) (fresh apart : List ℕ) : Type 0 where
  pub ids : count ≤ length fresh
  pub dists : count ≤ length apart

-- also where something was written over the first of them
pub fits-put : {count : ℕ} {fresh apart : List ℕ} → Fits count fresh apart → (ys : List ℕ) → length ys ≡ length (part 0 count apart)
    → Fits count fresh (put 0 count apart ys)
fits-put {count} {fresh} {apart} f ys same =
    record { ids = f.ids; dists = omega (arith, (put_within 0 count apart ys (omega arith) f.dists same).size, f.dists) }

module _ {p : Plan} {epoch : ℕ} {s₀ : Standing} (r : Ready p epoch s₀) {words₁ row fresh : List ℕ} {count : ℕ}
    (g : Gathers p.n epoch s₀.words words₁ row fresh count) where
  abbrev n : ℕ
  n = p.n

  abbrev v : ℕ
  v = s₀.counts.visited

  abbrev words₀ : List ℕ
  words₀ = s₀.words

  -- the new ids
  abbrev ids : List ℕ
  ids = part 0 count fresh

  pub fresh_most : v + count ≤ n
  fresh_most = omega (arith, visited_most g.marked, g.grow, r.visited_is)

  fresh_inside : All (λ (i : ℕ). i < n) ids
  fresh_inside = subst (All (λ (i : ℕ). i < n)) (sym (part-front count fresh)) g.inside

  pub fresh_small : All (λ (i : ℕ). i < 65536) ids
  fresh_small = all_weaker (λ (i : ℕ). i < n) (λ (i : ℕ). i < 65536) (λ i h. omega (arith, r.space.nodes)) ids fresh_inside

  pub fresh_vectors : {dim : ℕ} {vectors query : List ℕ} → Measures n dim vectors query → (j : ℕ) → j < length ids → VectorIn dim vectors (get_or ids j 0)
  fresh_vectors {dim} {vectors} m j h = vector_in dim vectors n (get_or ids j 0) m.vectors_are (all_at (λ (i : ℕ). i < n) 0 ids fresh_inside j h)

  module _ {apart : List ℕ} (f : Fits count fresh apart) where
    size : length ids ≡ count
    size = part_front_length count fresh f.ids

    pub apart_size : length ids ≡ length (part 0 count apart)
    apart_size = size ∙ sym (part_front_length count apart f.dists)

    module _ {d : ℕ → ℕ} {ys : List ℕ} (same : length ys ≡ length (part 0 count apart)) (far : Distances d ids ys) where
      -- their distances
      abbrev dists : List ℕ
      dists = part 0 count (put 0 count apart ys)

      dists_are : dists ≡ map d ids
      dists_are = put_part 0 count apart ys (omega arith) f.dists same ∙ far.are

      pub dists_size : length ids ≡ length dists
      dists_size = sym (ap length dists_are ∙ length-map ids d)

      pub keep_asks : p.keep ≡ true → (n ≤ 65536) × (pool_at n ≤ length words₁) × (v + length ids ≤ n) × (length ids ≡ length dists)
      keep_asks e = (r.space.nodes, omega (arith, r.space.room, walk_end_all p e, g.kept.size), omega (arith, size, fresh_most), dists_size)

      module _ {words₂ : List ℕ} (l : Lists p v ids dists words₁ words₂) {keys₂ : List ℕ} {w : Work}
          (m : Met p.beam (standing-kept s₀.keys s₀.counts.work) (standing-kept keys₂ w) ids dists) where
        abbrev s₂ : Standing
        s₂ = standing words₂ keys₂ (record { visited = v + count; work = w })

        ready₂ : Ready p epoch s₂
        ready₂ =
            record {
              space = space_kept r.space (l.kept.size ∙ g.kept.size);
              marked = marked_kept n epoch (walk_end p) l.kept g.marked;
              visited_is = visited_kept n epoch (walk_end p) l.kept ∙ omega (arith, g.grow, r.visited_is);
            }

        -- from a state st
        module _ (st : State) (is : Is p epoch s₀ st) where
          abbrev new : List ℕ
          new = news (visited_ids st) (cleaned n row)

          abbrev after : State
          after = meets p.beam st (measured d new)

          ids_are : ids ≡ new
          ids_are = part-front count fresh ∙ g.fresh_are (visited_ids st) is.seen

          items_are : items_of ids dists ≡ measured d new
          items_are = ap (items_of ids) dists_are ∙ items-measured d ids ∙ ap (measured d) ids_are

          visited_are : after.visited ≡ st.visited ++ measured d new
          visited_are = meets_visited p.beam st (measured d new)

          new_length : length (measured d new) ≡ count
          new_length = measured_length d new ∙ ap length (sym ids_are) ∙ size

          ids₂ : visited_ids after ≡ visited_ids st ++ new
          unfolding visited_ids
          ids₂ =
              ap (map (λ (c : Item). c.id)) visited_are ∙ map-append (λ (c : Item). c.id) st.visited (measured d new)
              ∙ ap (λ (z : List ℕ). map (λ (c : Item). c.id) st.visited ++ z) (measured-ids d new)

          count₂ : length after.visited ≡ v + count
          count₂ = ap length visited_are ∙ length-append st.visited (measured d new) ∙ omega (arith, new_length, is.count)

          -- a region beyond the marks, where xs went behind what stood there
          region₂ : (f : Item → ℕ) (a e : ℕ) (xs : List ℕ) → visited_at n ≤ a → take (v + length ids) (part a e words₂) ≡ take v (part a e words₁) ++ xs
              → take (length st.visited) (part a e words₀) ≡ map f st.visited → xs ≡ map f (measured d new)
              → take (length after.visited) (part a e words₂) ≡ map f after.visited
          region₂ f a e xs h q old x =
              ap (λ (k : ℕ). take k (part a e words₂)) (count₂ ∙ ap (λ (k : ℕ). v + k) (sym size)) ∙ q
              ∙ ap (λ (l : List ℕ). take v l ++ xs) (within_above 0 (visited_at n) words₀ words₁ g.kept a e h)
              ∙ ap (λ (k : ℕ). take k (part a e words₀) ++ xs) (sym is.count) ∙ ap (λ (l : List ℕ). l ++ xs) old
              ∙ ap (λ (l : List ℕ). map f st.visited ++ l) x ∙ sym (map-append f st.visited (measured d new)) ∙ ap (map f) (sym visited_are)

          logged₂ : p.keep ≡ true → Logged n words₂ after.visited
          logged₂ e =
              let k = l.keeps e in
              let old = is.logged e in
              record {
                ids_are =
                    region₂ (λ (c : Item). c.id) (visited_at n) (visited_end n) ids (omega arith) k.ids_are old.ids_are
                    (ids_are ∙ sym (measured-ids d new));
                dists_are =
                    region₂ (λ (c : Item). c.dist) (visited_dists_at n) (pool_at n) dists (omega arith) k.dists_are old.dists_are
                    (dists_are ∙ ap (map d) ids_are ∙ sym (measured_dists d new));
              }

          after_is : Is p epoch s₂ after
          after_is =
              record {
                seen =
                    subst (Seen n epoch words₂) (sym ids₂)
                    (seen_kept n epoch (walk_end p) l.kept (visited_ids st ++ new) (g.seen (visited_ids st) is.seen));
                count = count₂;
                logged = logged₂;
                working =
                    subst (λ (z : List Item). Works n p.beam (standing-kept keys₂ w) (meets p.beam st z).frontier (meets p.beam st z).work)
                    items_are (m.working n st fresh_inside is.working);
              }

        pub expanded : Moves p epoch s₀ s₂ (λ st. expand d p.beam st (cleaned n row))
        expanded =
            record {
              ready = ready₂;
              moves = λ st is. subst (Is p epoch s₂) (sym (expand_meets d p.beam (cleaned n row) st)) (after_is st is);
              words_kept =
                  within_trans 0 (walk_end p) words₀ words₁ words₂
                  (within_wider 0 (visited_at n) words₀ words₁ g.kept 0 (walk_end p) (omega arith) (walk_end_least p))
                  (within_wider (visited_at n) (walk_end p) words₁ words₂ l.kept 0 (walk_end p) (omega arith) (omega arith));
            }
