-- The start of a walk, and its end. At an epoch that no mark has nothing is visited, and work is empty; then the start is met as the one entry of a row. So the
-- definition begins, but for beam 0: there work takes nothing in, the start's row is the one step of the definition, and there is no other.
use mathlib.Core.Path.{◌≡◌, refl, sym, ap, ◌∙◌, subst}
use mathlib.Core.Bool.{Bool, false, cond}
use mathlib.Core.List.{List, [], ◌∷◌, ◌++◌}
use Prim.Native.Nat.{ℕ, zero, suc, ◌+◌, ◌-◌, ◌≤◌, ◌<◌}
use native.Mathlib.Omega.{arith}
use borrow.Author.Tests.{lt-ltb, eqb-true, eqb-false}
use lib.Dec.{eqb}
use lib.ListN.{length, get_or, replicate, set, length-set}
use Rattle.definition.specs.Lists.{place}
use Rattle.definition.specs.Tables.{pad, row, cleaned}
use Rattle.definition.specs.Beam.{Item, item, insert, insert_capped, best, without_best, beats_worst}
use Rattle.definition.specs.Prune.{measured}
use Rattle.definition.specs.Greedy.{State, visited_ids, begin, admitted, meet, expand, popped, stops, filled, steps, greedy}
use Rattle.laws.specs.All.{All}
use Rattle.laws.specs.Parts.{Within, within_wider, within_trans, set_within}
use Rattle.laws.specs.Truth.{decide}
use Rattle.scratch.specs.Layout.{stray_at}
use Rattle.beam.specs.Keys.{none}
use Rattle.marks.specs.News.{id_real, news-one}
use Rattle.marks.specs.Visits.{marked_start, visited_start, seen_start}
use Rattle.kept.specs.declared.Work.{Work}
use Rattle.kept.specs.Kept.{Kept, items, opens, Beyond}
use Rattle.kept.specs.Says.{Standing as KeptStanding, standing as standing-kept, no_work, Works, Tells, meets}
use Rattle.kept.specs.Cases.{meets-one}
use Rattle.kept.specs.Laws.{works-none, works_tell}
use Rattle.greedy.specs.declared.Plan.{Plan}
use Rattle.greedy.specs.declared.Walked.{Walked}
use Rattle.greedy.specs.Scratch.{noted, from_start, walk_of, Standing, standing, walk_end, walk_end_least, space_kept}
use Rattle.greedy.specs.Scratch.{Ready, Room, Is, Live, Moves, Leaves, Ends, Walks}
use Rattle.greedy.specs.Cases.{expand_meets, steps-stop, steps_go, stops_empty, stops-filled, step_is, greedy_is, from_none, from_some}

-- nothing is visited
unfoldable unvisited : State
unvisited = record { frontier = []; work = []; visited = []; expanded = [] }

-- ---- the start is met as the one entry of a row
cleaned-one : (n start : ℕ) → start < n → cleaned n (start ∷ []) ≡ start ∷ []
unfolding cleaned
cleaned-one n start h = ap (λ (t : Bool). cond t start pad ∷ []) (lt-ltb start n h)

module _ (d : ℕ → ℕ) (start : ℕ) where
  abbrev first : Item
  first = item (d start) start

  first_met : (n beam : ℕ) → n ≤ 65536 → start < n → expand d beam unvisited (cleaned n (start ∷ [])) ≡ meet beam first unvisited
  unfolding unvisited visited_ids measured
  first_met n beam nodes h =
      ap (expand d beam unvisited) (cleaned-one n start h) ∙ expand_meets d beam (start ∷ []) unvisited
      ∙ ap (λ (l : List ℕ). meets beam unvisited (measured d l)) (news-one start (id_real n start nodes h)) ∙ meets-one beam unvisited first

  -- with a beam, that is how the definition begins
  begun_some : (beam : ℕ) → 0 < beam → meet beam first unvisited ≡ begin d beam start
  unfolding unvisited meet begin admitted insert place
  begun_some beam h = rw (lt-ltb 0 beam h) refl

  -- with beam 0 the definition's frontier has the start all the same, and then it is expanded
  noted_none : (beam : ℕ) → beam ≡ 0 → noted start (meet beam first unvisited) ≡ popped (begin d beam start)
  unfolding unvisited noted meet begin admitted popped best without_best insert_capped beats_worst
  noted_none zero e = refl
  noted_none (suc b) e = absurd (omega arith)

  -- and nothing is expanded before
  met_none : (beam : ℕ) → length (meet beam first unvisited).expanded ≡ 0
  unfolding unvisited meet
  met_none beam = refl

  begun_none : (beam : ℕ) → length (begin d beam start).expanded ≡ 0
  unfolding begin
  begun_none beam = refl

  goes_none : (beam : ℕ) → beam ≡ 0 → stops beam (begin d beam start) ≡ false
  unfolding begin filled insert_capped
  goes_none zero e = stops-filled 0 (begin d 0 start) (λ q. absurd (omega (arith, q)))
  goes_none (suc b) e = absurd (omega arith)

  best_first : (beam : ℕ) → start ≡ (best (begin d beam start).frontier).id
  unfolding begin best
  best_first beam = refl

-- a beam of 0 has nothing in work, and so nothing in the frontier
bare : {n beam : ℕ} {s : KeptStanding} {frontier work : List Item} → beam ≡ 0 → Works n beam s frontier work → length frontier ≡ 0
unfolding opens
bare {n} {beam} e k = ap length k.frontier_is ∙ go k.kept k.rest (omega (arith, k.len_is, k.len_le)) k.beyond
  where
    go : (ks : List Kept) (rest : List Item) → length ks ≡ 0 → All (Beyond beam (items ks)) rest → length (rest ++ opens ks) ≡ 0
    go (k ∷ ks) rest h b = absurd (omega arith)
    go [] (r ∷ rest) h b = absurd (omega (arith, b.0.0))
    go [] [] h b = refl

-- there is room for the mark of what is no entry
pub stray_fits : {p : Plan} {epoch : ℕ} {words : List ℕ} → Room p epoch words → stray_at p.n < length words
stray_fits {p} r = omega (arith, r.space.room, walk_end_least p)

-- ---- the scratch at the start: e is the next epoch, w an empty work
pub record Started (p : Plan) (epoch : ℕ) (words : List ℕ) (e : ℕ) (keys : List ℕ) (w : Work) : Type 0 where
  pub room : Room p epoch words
  pub next : e ≡ epoch + 1
  pub free : keys ≡ replicate 256 none
  pub empty : w ≡ no_work p.beam

pub started : {p : Plan} {epoch e : ℕ} {words keys : List ℕ} {w : Work} → Room p epoch words → e ≡ epoch + 1 → keys ≡ replicate 256 none
    → w ≡ no_work p.beam → Started p epoch words e keys w
started r f k w = record { room = r; next = f; free = k; empty = w }

module _ {p : Plan} {epoch : ℕ} {words₀ : List ℕ} {e : ℕ} {keys : List ℕ} {w : Work} (b : Started p epoch words₀ e keys w) where
  abbrev n : ℕ
  n = p.n

  abbrev beam : ℕ
  beam = p.beam

  abbrev words₁ : List ℕ
  words₁ = set words₀ (stray_at n) e

  abbrev s₀ : Standing
  s₀ = standing words₁ keys (record { visited = 0; work = w })

  fits : stray_at n < length words₀
  fits = stray_fits b.room

  -- no mark is the epoch yet
  below : (i : ℕ) → i < n → get_or words₀ i 0 < e
  below i h = omega (arith, b.room.marks i h, b.next)

  pub start_ready : Ready p e s₀
  start_ready =
      record {
        space = space_kept b.room.space (length-set words₀ (stray_at n) e);
        marked = marked_start n e words₀ below b.room.space.nodes fits;
        visited_is = visited_start n e words₀ below (omega (arith, fits));
      }

  start_is : Is p e s₀ unvisited
  unfolding unvisited visited_ids
  start_is =
      let s = b.room.space in
      record {
        seen = seen_start n e words₀ below;
        count = refl;
        logged = λ _. record { ids_are = refl; dists_are = refl };
        working =
            subst (λ (z : Work). Works n beam (standing-kept keys z) [] []) (sym b.empty) (works-none n beam keys s.nodes s.beam_le b.free);
      }

  pub start_live : Live p e s₀
  start_live = record { state = unvisited; is = start_is }

  start_kept : Within 0 (walk_end p) words₀ words₁
  start_kept =
      let end = walk_end_least p in
      within_wider (stray_at n) (suc (stray_at n)) words₀ words₁ (set_within words₀ (stray_at n) e) 0 (walk_end p) (omega arith) (omega arith)

  -- ---- the start is met
  module _ (d : ℕ → ℕ) {start : ℕ} (inside : start < n) {s₁ : Standing} (m : Moves p e s₀ s₁ (λ st. expand d beam st (cleaned n (start ∷ [])))) where
    met_is : Is p e s₁ (meet beam (first d start) unvisited)
    met_is = subst (Is p e s₁) (first_met d start n beam b.room.space.nodes inside) (m.moves unvisited start_is)

    pub met_live : Live p e s₁
    met_live = record { state = meet beam (first d start) unvisited; is = met_is }

    abbrev begun : State
    begun = begin d beam start

    -- ---- and the rest is walked
    module _ (table : List ℕ) {words keys₂ : List ℕ} {r : Walked} (q : Ends p e s₁ words keys₂ r (from_start p d table start)) where
      abbrev rows : ℕ → List ℕ
      rows = row p.width (cleaned n table)

      abbrev end : State
      end = greedy d rows n beam start

      abbrev Left : State → Type 0
      Left = Leaves p words keys₂ r

      -- with a beam
      some_ends : (beam ≡ 0 → ⊥) → Left end
      some_ends some =
          subst Left (sym (greedy_is d rows n beam start))
          ((subst (Ends p e s₁ words keys₂ r) (from_some p d table start some) q).leaves begun
          (subst (Is p e s₁) (begun_some d start beam (omega arith)) met_is) (begun_none d start beam))

      -- with beam 0
      none_ends : beam ≡ 0 → Left end
      none_ends z = subst Left (sym same) there
        where
          after : State
          after = expand d beam (popped begun) (rows start)

          there : Left after
          there =
              subst (λ (st : State). Left (expand d beam st (rows start))) (noted_none d start beam z)
              ((subst (Ends p e s₁ words keys₂ r) (from_none p d table start z) q).leaves (meet beam (first d start) unvisited) met_is (met_none d start beam))

          same : end ≡ after
          same =
              let k : n ≡ suc (n - 1) = omega arith in
              greedy_is d rows n beam start ∙ ap (λ (i : ℕ). steps d rows beam i begun) k ∙ steps_go d rows beam (n - 1) begun (goes_none d start beam z)
              ∙ ap (steps d rows beam (n - 1)) (step_is d rows beam begun start (best_first d start beam))
              ∙ steps-stop d rows beam (n - 1) after (stops_empty beam after (bare z there.working))

      ends : Left end
      ends = decide (eqb beam 0) (λ t. none_ends (eqb-true beam 0 t)) (λ f. some_ends (eqb-false beam 0 f))

      pub walked : Walks p epoch words₀ words keys₂ r (walk_of p d table start)
      walked =
          let told = works_tell n beam (standing-kept keys₂ ends.work) end.frontier end.work ends.working in
          record {
            epoch_is = q.epoch_is ∙ b.next;
            room = subst (λ (k : ℕ). Room p k words) (sym q.epoch_is) q.room;
            visited_is = ends.visited_is;
            visited_le = q.visited_le;
            expanded_is = ends.expanded_is;
            logged = ends.logged;
            work_is = subst (λ (k : ℕ). Tells keys₂ k end.work) ends.len_is told;
            work_le = omega (arith, ends.len_is, ends.working.len_le);
            words_kept =
                within_trans 0 (walk_end p) words₀ words₁ words start_kept
                (within_trans 0 (walk_end p) words₁ s₁.words words m.words_kept q.words_kept);
          }
