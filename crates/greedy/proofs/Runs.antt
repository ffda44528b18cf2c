-- The loop of `walk`, turn by turn. It makes at most n turns, and the definition's fuel is n: so what is left of the definition's steps, from the state that
-- the scratch is at, is the whole walk.
use mathlib.Core.Path.{◌≡◌, refl, sym, ap, ◌∙◌, subst}
use mathlib.Core.Bool.{not, not-not}
use mathlib.Core.List.{List}
use Rattle.std.specs.Prelude.{Option, None, Some, is_some}
use Prim.Native.Nat.{ℕ, suc, ◌+◌, ◌-◌, ◌≤◌, ◌<◌}
use native.Mathlib.Omega.{arith}
use lib.ListN.{length}
use Rattle.definition.specs.Greedy.{State, visited_ids, expand, popped, step, stops, steps}
use Rattle.laws.specs.Parts.{Within, within_none, within_trans}
use Rattle.theory.specs.search.Steps.{expand_expanded, step_expanded}
use Rattle.marks.specs.Visits.{visited_most}
use Rattle.kept.specs.declared.Popped.{Popped}
use Rattle.kept.specs.Says.{standing as standing-kept, works, Pops}
use Rattle.greedy.specs.declared.Plan.{Plan}
use Rattle.greedy.specs.declared.Walked.{Walked}
use Rattle.greedy.specs.Scratch.{noted, Standing, standing, walk_end, Ready, Room, Is, Live, Moves, Leaves, Ends}
use Rattle.greedy.specs.Cases.{steps-none, steps-stop, steps_go, step_is}

-- `left` steps from the state where the scratch is lead where the whole walk from st leads
pub record Reached (p : Plan) (epoch : ℕ) (dist : ℕ → ℕ) (rows : ℕ → List ℕ) (st : State) (s : Standing) (left : ℕ) : Type 0 where
  pub state : State
  pub is : Is p epoch s state
  pub same : steps dist rows p.beam p.n st ≡ steps dist rows p.beam left state
  pub turns : length state.expanded + left ≡ length st.expanded + p.n

-- another walk may follow, and no entry was visited twice
ready-room : {p : Plan} {epoch : ℕ} {s : Standing} → Ready p epoch s → Room p epoch s.words
ready-room r = record { space = r.space; marks = r.marked.marks_le }

ready-few : {p : Plan} {epoch : ℕ} {s : Standing} → Ready p epoch s → s.counts.visited ≤ p.n
ready-few r = omega (arith, visited_most r.marked, r.visited_is)

-- a state that the scratch holds is what a walk leaves, if it ends there
is_leaves : {p : Plan} {epoch : ℕ} {s : Standing} {st : State} → Is p epoch s st → (expanded : ℕ) → length st.expanded ≡ expanded
    → Leaves p s.words s.keys (record { epoch = epoch; visited = s.counts.visited; expanded = expanded; work = s.counts.work.len }) st
is_leaves {s = s} is expanded e =
    record { visited_is = is.count; expanded_is = e; logged = is.logged; work = s.counts.work; len_is = refl; working = is.working }

-- ---- with beam 0 the start is all that is expanded; what the scratch holds does not tell it

noted_is : {p : Plan} {epoch : ℕ} {s : Standing} {st : State} (id : ℕ) → Is p epoch s st → Is p epoch s (noted id st)
unfolding noted visited_ids
noted_is id is = record { seen = is.seen; count = is.count; logged = is.logged; working = is.working }

noted_one : (id : ℕ) (st : State) → length st.expanded ≡ 0 → length (noted id st).expanded ≡ 1
unfolding noted
noted_one id st none = ap suc none

pub start_ends : {p : Plan} {epoch : ℕ} {s₀ s : Standing} (dist : ℕ → ℕ) (row : List ℕ) (start : ℕ)
    → Moves p epoch s₀ s (λ st. expand dist p.beam st row)
    → Ends p epoch s₀ s.words s.keys (record { epoch = epoch; visited = s.counts.visited; expanded = 1; work = s.counts.work.len })
    (λ st. expand dist p.beam (noted start st) row)
start_ends {p} dist row start m =
    record {
      epoch_is = refl;
      room = ready-room m.ready;
      visited_le = ready-few m.ready;
      leaves = λ st is none.
          let one = ap length (expand_expanded dist p.beam row (noted start st)) ∙ noted_one start st none in
          is_leaves (m.moves (noted start st) (noted_is start is)) 1 one;
      words_kept = m.words_kept;
    }

-- ---- with a beam

pub record Run (p : Plan) (epoch : ℕ) (dist : ℕ → ℕ) (rows : ℕ → List ℕ) (before after : Standing) (turns : ℕ) : Type 0 where
  pub ready : Ready p epoch after
  pub live : Live p epoch after
  pub fuel : turns ≤ p.n
  pub runs : (st : State) → Is p epoch before st → Reached p epoch dist rows st after (p.n - turns)
  pub words_kept : Within 0 (walk_end p) before.words after.words

pub run-start : {p : Plan} {epoch : ℕ} {s : Standing} (dist : ℕ → ℕ) (rows : ℕ → List ℕ) → Ready p epoch s → Live p epoch s
    → Run p epoch dist rows s s 0
run-start {p} {epoch} {s} dist rows r l =
    record {
      ready = r;
      live = l;
      fuel = omega arith;
      runs = λ st is.
          let all : p.n - 0 ≡ p.n = omega arith in
          record { state = st; is = is; same = ap (λ (k : ℕ). steps dist rows p.beam k st) (sym all); turns = omega arith };
      words_kept = within_none 0 (walk_end p) s.words;
    }

module _ {p : Plan} {epoch : ℕ} {dist : ℕ → ℕ} {rows : ℕ → List ℕ} {s₀ s : Standing} {turns : ℕ} (run : Run p epoch dist rows s₀ s turns) where
  abbrev whole : State → State
  whole st = steps dist rows p.beam p.n st

  -- what is returned where no step is left to make
  abbrev gives : Walked
  gives = record { epoch = epoch; visited = s.counts.visited; expanded = turns; work = s.counts.work.len }

  -- no step more changes what the scratch holds
  ends : (keys : List ℕ) → keys ≡ s.keys → ((st : State) → Is p epoch s st → steps dist rows p.beam (p.n - turns) st ≡ st)
      → Ends p epoch s₀ s.words keys gives whole
  ends keys e still =
      subst (λ (l : List ℕ). Ends p epoch s₀ s.words l gives whole) (sym e)
      (record {
        epoch_is = refl;
        room = ready-room run.ready;
        visited_le = ready-few run.ready;
        leaves = λ st is₀ none.
            let q = run.runs st is₀ in
            subst (Leaves p s.words s.keys gives) (sym (q.same ∙ still q.state q.is))
            (is_leaves q.is turns (omega (arith, q.turns, none, run.fuel)));
        words_kept = run.words_kept;
      })

  -- the fuel is spent
  pub run_spent : turns ≡ p.n
      → Ends p epoch s₀ s.words s.keys (record { epoch = epoch; visited = s.counts.visited; expanded = p.n; work = s.counts.work.len }) whole
  run_spent e =
      let none : p.n - turns ≡ 0 = omega arith in
      subst
      (λ (k : ℕ).
      Ends p epoch s₀ s.words s.keys (record { epoch = epoch; visited = s.counts.visited; expanded = k; work = s.counts.work.len }) whole)
      e (ends s.keys refl (λ st is. ap (λ (k : ℕ). steps dist rows p.beam k st) none ∙ steps-none dist rows p.beam st))

  stops_is : {keys₁ : List ℕ} {r : Option Popped} → Pops p.beam (standing-kept s.keys s.counts.work) keys₁ r → (st : State) → Is p epoch s st
      → stops p.beam st ≡ not (is_some r)
  stops_is pop st is = sym (not-not (stops p.beam st)) ∙ ap not (sym (pop.found_is p.n st is.working))

  -- nothing is left to walk
  pub run_halt : {keys₁ : List ℕ} → Pops p.beam (standing-kept s.keys s.counts.work) keys₁ None → Ends p epoch s₀ s.words keys₁ gives whole
  run_halt {keys₁} pop = ends keys₁ pop.same (λ st is. steps-stop dist rows p.beam (p.n - turns) st (stops_is pop st is))

  -- the best is popped
  module _ {keys₁ : List ℕ} {r : Popped} (pop : Pops p.beam (standing-kept s.keys s.counts.work) keys₁ (Some r)) where
    abbrev s₁ : Standing
    s₁ = standing s.words keys₁ (record { visited = s.counts.visited; work = works s.counts.work.len r.done s.counts.work.bound })

    pub pop_ready : Ready p epoch s₁
    pop_ready = record { space = run.ready.space; marked = run.ready.marked; visited_is = run.ready.visited_is }

    popped_is : (st : State) → Is p epoch s st → Is p epoch s₁ (popped st)
    unfolding popped visited_ids
    popped_is st is = record { seen = is.seen; count = is.count; logged = is.logged; working = pop.working p.n st is.working }

    pub pop_live : Live p epoch s₁
    pop_live = record { state = popped run.live.state; is = popped_is run.live.state run.live.is }

    pub pop_id : r.id < p.n
    pop_id = (pop.id_is p.n run.live.state run.live.is.working).1

    -- and its row was walked
    module _ (fuel : turns < p.n) {s₂ : Standing} (m : Moves p epoch s₁ s₂ (λ st. expand dist p.beam st (rows r.id))) where
      abbrev stepped : State → State
      stepped st = step dist rows p.beam st

      stepped_is : (st : State) → Is p epoch s st → Is p epoch s₂ (stepped st)
      stepped_is st is =
          subst (Is p epoch s₂) (sym (step_is dist rows p.beam st r.id (pop.id_is p.n st is.working).0))
          (m.moves (popped st) (popped_is st is))

      pub run_step : Run p epoch dist rows s₀ s₂ (turns + 1)
      run_step =
          record {
            ready = m.ready;
            live = record { state = stepped run.live.state; is = stepped_is run.live.state run.live.is };
            fuel = omega arith;
            runs = λ st is₀.
                let q = run.runs st is₀ in
                let left : p.n - turns ≡ suc (p.n - (turns + 1)) = omega arith in
                record {
                  state = stepped q.state;
                  is = stepped_is q.state q.is;
                  same =
                      q.same ∙ ap (λ (j : ℕ). steps dist rows p.beam j q.state) left
                      ∙ steps_go dist rows p.beam (p.n - (turns + 1)) q.state (stops_is pop q.state q.is);
                  turns = omega (arith, q.turns, step_expanded dist p.beam rows q.state);
                };
            words_kept = within_trans 0 (walk_end p) s₀.words s.words s₂.words run.words_kept m.words_kept;
          }
