-- Parts 3 and 4. Greedy collect, one step at a time, over any distance `d` from the query and any `rows`.
-- An entry is marked exactly when it has been visited, so the marks are no part of the definition.
use Rattle.std.specs.Prelude.{ℕ, zero, suc, Bool, not, ◌&&◌, ◌||◌, cond, List, [], ◌∷◌, ◌++◌, map, leb, ltb, eqb, length}
use Rattle.definition.specs.Lists.{is_in}
use Rattle.definition.specs.Tables.{pad}
use Rattle.definition.specs.Beam.{Item, item, insert, insert_capped, best, without_best, beats_worst}

-- frontier and work are beams. visited: each entry whose distance was worked out, in that order. expanded: the ids whose rows were walked, the last one first.
pub record State : Type 0 where
  pub frontier : List Item
  pub work : List Item
  pub visited : List Item
  pub expanded : List ℕ

unfoldable pub visited_ids : State → List ℕ
visited_ids s = map (λ c. c.id) s.visited

-- the start goes in frontier, work (by capped insert) and visited
unfoldable pub begin : (ℕ → ℕ) → ℕ → ℕ → State
begin d beam start =
    record { frontier = item (d start) start ∷ []; work = insert_capped beam (item (d start) start) []; visited = item (d start) start ∷ []; expanded = [] }

-- a new entry goes in work and frontier while work is below beam, or if it is strictly nearer than the worst
unfoldable pub admitted : ℕ → Item → State → Bool
admitted beam c s = ltb (length s.work) beam || beats_worst c s.work

-- a newly visited entry
unfoldable pub meet : ℕ → Item → State → State
meet beam c s =
    record {
      frontier = cond (admitted beam c s) (insert c s.frontier) s.frontier;
      work = cond (admitted beam c s) (insert_capped beam c s.work) s.work;
      visited = s.visited ++ (c ∷ []);
      expanded = s.expanded;
    }

-- one word of a row: padding and marked entries are skipped
unfoldable pub skipped : State → ℕ → Bool
skipped s w = eqb w pad || is_in w (visited_ids s)

unfoldable pub look : (ℕ → ℕ) → ℕ → State → ℕ → State
look d beam s w = let t = meet beam (item (d w) w) s in cond (skipped s w) s t

-- a row, in order
unfoldable pub expand : (ℕ → ℕ) → ℕ → State → List ℕ → State
expand d beam s [] = s
expand d beam s (w ∷ ws) = expand d beam (look d beam s w) ws

-- the best leaves the frontier, and will be expanded
unfoldable pub popped : State → State
popped s =
    record {
      frontier = without_best s.frontier;
      work = s.work;
      visited = s.visited;
      expanded = (best s.frontier).id ∷ s.expanded;
    }

-- pop the best and walk its row
unfoldable pub step : (ℕ → ℕ) → (ℕ → List ℕ) → ℕ → State → State
step d rows beam s = expand d beam (popped s) (rows (best s.frontier).id)

-- work has at least beam items and a worst, and the best is not strictly nearer than it
unfoldable pub filled : ℕ → State → Bool
filled beam s = leb beam (length s.work) && (ltb 0 (length s.work) && not (beats_worst (best s.frontier) s.work))

unfoldable pub stops : ℕ → State → Bool
stops beam s = eqb (length s.frontier) 0 || filled beam s

-- steps until it stops. Each step expands another entry, so n steps are enough for n entries
unfoldable pub steps : (ℕ → ℕ) → (ℕ → List ℕ) → ℕ → ℕ → State → State
steps d rows beam zero s = s
steps d rows beam (suc fuel) s = let r = steps d rows beam fuel (step d rows beam s) in cond (stops beam s) s r

unfoldable pub greedy : (ℕ → ℕ) → (ℕ → List ℕ) → ℕ → ℕ → ℕ → State
greedy d rows n beam start = steps d rows beam n (begin d beam start)
