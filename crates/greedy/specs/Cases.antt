-- The definition of greedy, case by case, in the words of the code's tests.
use Rattle.std.specs.Prelude.{◌≡◌, Bool, true, false, ◌||◌, cond, ℕ, zero, suc, eqb, length}
use Rattle.std.proofs.Math.Path.{refl, ap}
use Rattle.std.proofs.Common.{sym, ◌∙◌, eq-eqb, ne_eqb}
use mathlib.Core.List.{List, [], ◌∷◌, ◌++◌, map}
use Rattle.std.proofs.Math.ListN.{length-map}
use Rattle.definition.specs.Lists.{is_in}
use Rattle.definition.specs.Tables.{pad, row, cleaned}
use Rattle.definition.specs.Beam.{Item, item, best}
use Rattle.definition.specs.Prune.{measured}
use Rattle.definition.specs.Greedy.{State, visited_ids, begin, meet, skipped, look, expand, popped, step, stops, filled, steps, greedy}
use Rattle.laws.specs.Backwards.{map-append}
use Rattle.marks.specs.Marked.{news}
use Rattle.kept.specs.Says.{meets}
use Rattle.kept.specs.Cases.{meet_visited}
use Rattle.greedy.specs.declared.Plan.{Plan}
use Rattle.greedy.specs.Scratch.{noted, from_start}

-- ---- a row: its new ids are met, in order
module _ (d : ℕ → ℕ) where
  pub measured-ids : (l : List ℕ) → map (λ (c : Item). c.id) (measured d l) ≡ l
  unfolding measured
  measured-ids [] = refl
  measured-ids (i ∷ is) = ap (λ (z : List ℕ). i ∷ z) (measured-ids is)

  pub measured_dists : (l : List ℕ) → map (λ (c : Item). c.dist) (measured d l) ≡ map d l
  unfolding measured
  measured_dists [] = refl
  measured_dists (i ∷ is) = ap (λ (z : List ℕ). d i ∷ z) (measured_dists is)

  pub measured_length : (l : List ℕ) → length (measured d l) ≡ length l
  unfolding measured
  measured_length l = length-map l (λ (i : ℕ). item (d i) i)

module _ (d : ℕ → ℕ) (beam : ℕ) where
  meet_ids : (st : State) (w : ℕ) → visited_ids (meet beam (item (d w) w) st) ≡ visited_ids st ++ (w ∷ [])
  unfolding visited_ids
  meet_ids st w = ap (map (λ (c : Item). c.id)) (meet_visited beam (item (d w) w) st) ∙ map-append (λ (c : Item). c.id) st.visited (item (d w) w ∷ [])

  pub expand_meets : (row : List ℕ) (st : State) → expand d beam st row ≡ meets beam st (measured d (news (visited_ids st) row))
  unfolding expand meets measured news look skipped
  expand_meets [] st = refl
  expand_meets (w ∷ ws) st = go (eqb w pad || is_in w (visited_ids st)) (expand_meets ws st) (expand_meets ws met)
    where
      met : State
      met = meet beam (item (d w) w) st

      go : (t : Bool) → expand d beam st ws ≡ meets beam st (measured d (news (visited_ids st) ws))
          → expand d beam met ws ≡ meets beam met (measured d (news (visited_ids met) ws))
          → expand d beam (cond t st met) ws
          ≡ meets beam st (measured d (cond t (news (visited_ids st) ws) (w ∷ news (visited_ids st ++ (w ∷ [])) ws)))
      go true old new = old
      go false old new = new ∙ ap (λ (l : List ℕ). meets beam met (measured d (news l ws))) (meet_ids st w)

-- ---- the steps
pub steps-none : (d : ℕ → ℕ) (rows : ℕ → List ℕ) (beam : ℕ) (s : State) → steps d rows beam 0 s ≡ s
unfolding steps
steps-none d rows beam s = refl

pub steps-stop : (d : ℕ → ℕ) (rows : ℕ → List ℕ) (beam k : ℕ) (s : State) → stops beam s ≡ true → steps d rows beam k s ≡ s
unfolding steps
steps-stop d rows beam zero s e = refl
steps-stop d rows beam (suc k) s e = rw e refl

pub steps_go : (d : ℕ → ℕ) (rows : ℕ → List ℕ) (beam k : ℕ) (s : State) → stops beam s ≡ false
    → steps d rows beam (suc k) s ≡ steps d rows beam k (step d rows beam s)
unfolding steps
steps_go d rows beam k s e = rw e refl

pub stops_empty : (beam : ℕ) (s : State) → length s.frontier ≡ 0 → stops beam s ≡ true
unfolding stops
stops_empty beam s e = rw (eq-eqb (length s.frontier) 0 e) refl

pub stops-filled : (beam : ℕ) (s : State) → (length s.frontier ≡ 0 → ⊥) → stops beam s ≡ filled beam s
unfolding stops
stops-filled beam s e = rw (ne_eqb (length s.frontier) 0 e) refl

pub step_is : (d : ℕ → ℕ) (rows : ℕ → List ℕ) (beam : ℕ) (s : State) (id : ℕ) → id ≡ (best s.frontier).id
    → step d rows beam s ≡ expand d beam (popped s) (rows id)
unfolding step
step_is d rows beam s id e = ap (λ (i : ℕ). expand d beam (popped s) (rows i)) (sym e)

pub greedy_is : (d : ℕ → ℕ) (rows : ℕ → List ℕ) (n beam start : ℕ) → greedy d rows n beam start ≡ steps d rows beam n (begin d beam start)
unfolding greedy
greedy_is d rows n beam start = refl

-- ---- from the start
module _ (p : Plan) (d : ℕ → ℕ) (table : List ℕ) (start : ℕ) where
  abbrev rows : ℕ → List ℕ
  rows = row p.width (cleaned p.n table)

  abbrev from : Bool → State → State
  from t st = cond t (expand d p.beam (noted start st) (rows start)) (steps d rows p.beam p.n st)

  pub from_none : p.beam ≡ 0 → from_start p d table start ≡ (λ st. expand d p.beam (noted start st) (rows start))
  unfolding from_start
  from_none e = ap from (eq-eqb p.beam 0 e)

  pub from_some : (p.beam ≡ 0 → ⊥) → from_start p d table start ≡ (λ st. steps d rows p.beam p.n st)
  unfolding from_start
  from_some e = ap from (ne_eqb p.beam 0 e)
