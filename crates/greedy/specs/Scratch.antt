-- What the words and the keys of a walk hold. Where the regions lie is said in crate scratch (Layout); what the keys say, in crate kept.
use Rattle.std.specs.Prelude.{◌≡◌, Bool, true, cond, List, ◌∷◌, ◌++◌, map, ℕ, ◌+◌, ◌*◌, ◌≤◌, ◌<◌, eqb, length, take}
use Rattle.std.proofs.Common.{ap, mul-le-mul, arith}
use Rattle.definition.specs.Tables.{row, cleaned}
use Rattle.definition.specs.Beam.{Item}
use Rattle.definition.specs.Greedy.{State, visited_ids, expand, steps, greedy}
use Rattle.laws.specs.Parts.{part, Within}
use Rattle.laws.specs.Tables.{row_fits}
use Rattle.laws.specs.Truth.{either}
use Rattle.scratch.specs.Layout.{most_beam, widest, visited_at, visited_end, visited_dists_at, pool_at}
use Rattle.marks.specs.Marked.{Marks, visited_of, Marked, Seen}
use Rattle.kept.specs.declared.Work.{Work}
use Rattle.kept.specs.Says.{Works, Tells}
use Rattle.kept.specs.Says.{standing as standing-kept}
use Rattle.greedy.specs.declared.Plan.{Plan}
use Rattle.greedy.specs.declared.Counts.{Counts}
use Rattle.greedy.specs.declared.Walked.{Walked}

-- ---- what a walk goes over

-- what is measured: n vectors of dim bytes, and a query
pub record Measures (n dim : ℕ) (vectors query : List ℕ) : Type 0 where
  pub vectors_are : length vectors ≡ n * dim
  pub query_is : length query ≡ dim
  pub few : dim ≤ 256

-- and rows of width words, of any kind
pub record Ground (p : Plan) (vectors query table : List ℕ) : Type 0 where
  pub measures : Measures p.n p.dim vectors query
  pub size : length table ≡ p.n * p.width
  pub narrow : p.width ≤ widest

-- a row is within the table, and the table is not too long to count
pub row_in : {p : Plan} {vectors query table : List ℕ} → Ground p vectors query table → p.n ≤ 65536 → (i : ℕ) → i < p.n
    → (i * p.width + p.width ≤ length table) × (length table ≤ 8388608)
row_in {p} g nodes i h =
    let fits = row_fits i p.n p.width h in
    let most = mul-le-mul nodes g.narrow in
    (omega (arith, g.size), omega (arith, g.size))

-- a row, and room for its new ids and for their distances
pub record Rooms (row fresh apart : List ℕ) : Type 0 where
  pub ids_fit : length row ≤ length fresh
  pub dists_fit : length fresh ≡ length apart
  pub few : length fresh ≤ widest

-- an entry counts as expanded
unfoldable pub noted : ℕ → State → State
noted id st = record { frontier = st.frontier; work = st.work; visited = st.visited; expanded = id ∷ st.expanded }

-- what is left of a walk when its start is met: with beam 0 the start is expanded, and no more
unfoldable pub from_start : Plan → (ℕ → ℕ) → List ℕ → ℕ → State → State
from_start p d table start st =
    let rows = row p.width (cleaned p.n table) in
    cond (eqb p.beam 0) (expand d p.beam (noted start st) (rows start)) (steps d rows p.beam p.n st)

-- the state that a walk from `start` comes to, by the definition
abbrev pub walk_of : Plan → (ℕ → ℕ) → List ℕ → ℕ → State
walk_of p d table start = greedy d (row p.width (cleaned p.n table)) p.n p.beam start

-- ---- one moment of a walk: the words, the keys and the counts
pub record Standing : Type 0 where
  pub words : List ℕ
  pub keys : List ℕ
  pub counts : Counts

abbrev pub standing : List ℕ → List ℕ → Counts → Standing
standing words keys c = record { words = words; keys = keys; counts = c }

-- the words that a walk may write end here
unfoldable pub walk_end : Plan → ℕ
walk_end p = cond p.keep (pool_at p.n) (visited_at p.n)

-- all of them where the visited are kept, and in any case the marks
pub walk_end_all : (p : Plan) → p.keep ≡ true → walk_end p ≡ pool_at p.n
unfolding walk_end
walk_end_all p e = ap (λ (t : Bool). cond t (pool_at p.n) (visited_at p.n)) e

pub walk_end_least : (p : Plan) → visited_at p.n ≤ walk_end p
unfolding walk_end
walk_end_least p = either (λ (e : ℕ). visited_at p.n ≤ e) p.keep (omega arith) (omega arith)

-- ---- what is safe to run on

-- there is room for a walk
pub record Space (p : Plan) (words : List ℕ) : Type 0 where
  pub nodes : p.n ≤ 65536
  pub room : walk_end p ≤ length words
  pub beam_le : p.beam ≤ most_beam

pub space_kept : {p : Plan} {a b : List ℕ} → Space p a → length b ≡ length a → Space p b
space_kept s e = record { nodes = s.nodes; room = omega (arith, s.room); beam_le = s.beam_le }

-- room, marks, and as many of them as visited
pub record Ready (p : Plan) (epoch : ℕ) (s : Standing) : Type 0 where
  pub space : Space p s.words
  pub marked : Marked p.n epoch s.words
  pub visited_is : visited_of p.n epoch s.words ≡ s.counts.visited

-- what a walk asks of the words: room, and no mark past the epoch
pub record Room (p : Plan) (epoch : ℕ) (words : List ℕ) : Type 0 where
  pub space : Space p words
  pub marks : Marks p.n words epoch

-- ---- what they hold of the definition's state

-- the list of the visited
pub record Logged (n : ℕ) (words : List ℕ) (visited : List Item) : Type 0 where
  pub ids_are : take (length visited) (part (visited_at n) (visited_end n) words) ≡ map (λ (c : Item). c.id) visited
  pub dists_are : take (length visited) (part (visited_dists_at n) (pool_at n) words) ≡ map (λ (c : Item). c.dist) visited

-- the words and the keys hold the state
pub record Is (p : Plan) (epoch : ℕ) (s : Standing) (st : State) : Type 0 where
  pub seen : Seen p.n epoch s.words (visited_ids st)
  pub count : length st.visited ≡ s.counts.visited
  pub logged : p.keep ≡ true → Logged p.n s.words st.visited
  pub working : Works p.n p.beam (standing-kept s.keys s.counts.work) st.frontier st.work

-- they are those of some state: what makes the ids of work safe to follow
pub record Live (p : Plan) (epoch : ℕ) (s : Standing) : Type 0 where
  pub state : State
  pub is : Is p epoch s state

-- ---- what each function does

-- entries were written behind the v visited
pub record Keeps (n v : ℕ) (ids dists before after : List ℕ) : Type 0 where
  pub ids_are : take (v + length ids) (part (visited_at n) (visited_end n) after) ≡ take v (part (visited_at n) (visited_end n) before) ++ ids
  pub dists_are : take (v + length ids) (part (visited_dists_at n) (pool_at n) after) ≡ take v (part (visited_dists_at n) (pool_at n) before) ++ dists
  pub kept : Within (visited_at n) (pool_at n) before after

-- from one state to the next by `move`
pub record Moves (p : Plan) (epoch : ℕ) (before after : Standing) (move : State → State) : Type 0 where
  pub ready : Ready p epoch after
  pub moves : (st : State) → Is p epoch before st → Is p epoch after (move st)
  pub words_kept : Within 0 (walk_end p) before.words after.words

-- the words, the keys and what is returned hold the state that a walk comes to
pub record Leaves (p : Plan) (words keys : List ℕ) (r : Walked) (st : State) : Type 0 where
  pub visited_is : length st.visited ≡ r.visited
  pub expanded_is : length st.expanded ≡ r.expanded
  pub logged : p.keep ≡ true → Logged p.n words st.visited
  pub work : Work
  pub len_is : work.len ≡ r.work
  pub working : Works p.n p.beam (standing-kept keys work) st.frontier st.work

-- what is left of a walk, from a state in which nothing is expanded: to where `move` leads
pub record Ends (p : Plan) (epoch : ℕ) (before : Standing) (words keys : List ℕ) (r : Walked) (move : State → State) : Type 0 where
  pub epoch_is : r.epoch ≡ epoch
  pub room : Room p epoch words
  pub visited_le : r.visited ≤ p.n
  pub leaves : (st : State) → Is p epoch before st → length st.expanded ≡ 0 → Leaves p words keys r (move st)
  pub words_kept : Within 0 (walk_end p) before.words words

-- one whole walk: the next epoch, and the state it comes to
pub record Walks (p : Plan) (epoch : ℕ) (before after keys : List ℕ) (r : Walked) (st : State) : Type 0 where
  pub epoch_is : r.epoch ≡ epoch + 1
  pub room : Room p r.epoch after
  pub visited_is : length st.visited ≡ r.visited
  pub visited_le : r.visited ≤ p.n
  pub expanded_is : length st.expanded ≡ r.expanded
  pub logged : p.keep ≡ true → Logged p.n after st.visited
  pub work_is : Tells keys r.work st.work
  pub work_le : r.work ≤ p.beam
  pub words_kept : Within 0 (walk_end p) before after
