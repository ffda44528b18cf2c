-- What 256 keys hold of a walk's work and frontier, and what each function does to them.
use Rattle.std.specs.Prelude.{◌≡◌, Bool, ◌||◌, ◌&&◌, not, cond, List, [], ◌∷◌, ◌++◌, map, ℕ, ◌*◌, ◌-◌, ◌≤◌, ◌<◌, ◌%◌, leb, ltb, length, get_or, take, drop, replicate}
use Rattle.std.specs.Prelude.{Option, MatchOption, IfNone, IfSome, is_some}
use Rattle.definition.specs.Beam.{Item, item, worst, best}
use Rattle.definition.specs.Greedy.{State, meet, stops, popped}
use Rattle.laws.specs.All.{All}
use Rattle.laws.specs.Backwards.{rev}
use Rattle.laws.specs.Paired.{items_of}
use Rattle.beam.specs.Keys.{half, none, open_key, dist_of, item_of, Rising}
use Rattle.kept.specs.declared.Work.{Work}
use Rattle.kept.specs.declared.Popped.{Popped}
use Rattle.kept.specs.Kept.{Kept, keys_of, items, opens, Closed, Inside, Falling, Beyond}

-- ---- one moment of a walk: the keys, and the counts
pub record Standing : Type 0 where
  pub keys : List ℕ
  pub work : Work

abbrev pub standing : List ℕ → Work → Standing
standing keys w = record { keys = keys; work = w }

abbrev pub works : ℕ → ℕ → ℕ → Work
works len done bound = record { len = len; done = done; bound = bound }

-- what a key must be below to come in, from the work itself
unfoldable pub bound_of : ℕ → List Item → ℕ
bound_of beam work = cond (ltb (length work) beam) none ((worst work).dist * half)

abbrev pub no_work : ℕ → Work
no_work beam = works 0 0 (bound_of beam [])

-- the keys are those of `kept`, the best first, and then free places; of what is open the frontier has nothing but what was cut from work
pub record Works (n beam : ℕ) (s : Standing) (frontier work : List Item) : Type 0 where
  pub nodes : n ≤ 65536
  pub beam_le : beam ≤ 256
  pub kept : List Kept
  pub rest : List Item
  pub keys_are : s.keys ≡ rev (keys_of kept) ++ replicate (256 - length kept) none
  pub len_is : length kept ≡ s.work.len
  pub len_le : s.work.len ≤ beam
  pub done_le : s.work.done ≤ s.work.len
  pub bound_is : s.work.bound ≡ bound_of beam (items kept)
  pub sorted : Falling kept
  pub inside : All (Inside n) kept
  pub walked : Closed (drop (s.work.len - s.work.done) kept)
  pub work_is : work ≡ items kept
  pub frontier_is : frontier ≡ rest ++ opens kept
  pub beyond : All (Beyond beam (items kept)) rest

-- those of some work: what is safe to run on
pub record Working (beam : ℕ) (s : Standing) : Type 0 where
  pub n : ℕ
  pub frontier : List Item
  pub work : List Item
  pub is : Works n beam s frontier work

-- ---- the tests of the code, on keys

-- the bound, where the last of len keys is the worst
unfoldable pub bound_k : List ℕ → ℕ → ℕ → ℕ
bound_k keys len beam = cond (ltb len beam) none (dist_of (get_or keys (len - 1) 0) * half)

-- the stop, where the d best are walked: none is left, or the next is not strictly nearer than the worst of a full work
unfoldable pub halts_k : List ℕ → ℕ → ℕ → ℕ → Bool
halts_k keys beam len d = leb len d || (not (ltb len beam) && leb (dist_of (get_or keys (len - 1) 0)) (dist_of (get_or keys d 0)))

-- ---- what each function does

-- an item came, as a newly visited entry; of the keys, what is no farther stands as it stood, and so does every place from the cap on
pub record Admitted (beam : ℕ) (before after : Standing) (dist id : ℕ) : Type 0 where
  pub nearer : (k : ℕ) → k < length before.keys → get_or before.keys k 0 ≤ open_key dist id → get_or after.keys k 0 ≡ get_or before.keys k 0
  pub capped : drop beam after.keys ≡ drop beam before.keys
  pub working : (n : ℕ) (st : State) → id < n → Works n beam before st.frontier st.work
      → Works n beam after (meet beam (item dist id) st).frontier (meet beam (item dist id) st).work

-- items came, one after another
unfoldable pub meets : ℕ → State → List Item → State
meets beam st [] = st
meets beam st (x ∷ xs) = meets beam (meet beam x st) xs

pub record Met (beam : ℕ) (before after : Standing) (ids dists : List ℕ) : Type 0 where
  pub working : (n : ℕ) (st : State) → All (λ (i : ℕ). i < n) ids → Works n beam before st.frontier st.work
      → Works n beam after (meets beam st (items_of ids dists)).frontier (meets beam st (items_of ids dists)).work

-- the best r are walked, as the best `done` were; the next is not, if there is one
pub record Next (keys : List ℕ) (w : Work) (r : ℕ) : Type 0 where
  pub from : w.done ≤ r
  pub to : r ≤ w.len
  pub walked : (j : ℕ) → w.done ≤ j → j < r → get_or keys j 0 % 2 ≡ 0
  pub odd : r < w.len → get_or keys r 0 % 2 ≡ 1

-- all are walked, or the best that is not stands at r
abbrev pub Opens : List ℕ → Work → Option ℕ → Type 0
Opens keys w r = MatchOption r (Next keys w w.len) (λ d. (d < w.len) × Next keys w d)

-- a pop finds nothing where the definition stops, and then no key differs; else what it finds is the best of the frontier, which leaves it
pub record Pops (beam : ℕ) (before : Standing) (keys : List ℕ) (r : Option Popped) : Type 0 where
  pub found_is : (n : ℕ) (st : State) → Works n beam before st.frontier st.work → is_some r ≡ not (stops beam st)
  pub same : IfNone r (keys ≡ before.keys)
  pub id_is : IfSome r (λ (p : Popped). (n : ℕ) (st : State) → Works n beam before st.frontier st.work
      → (p.id ≡ (best st.frontier).id) × (p.id < n))
  pub working : IfSome r (λ (p : Popped). (n : ℕ) (st : State) → Works n beam before st.frontier st.work
      → Works n beam (standing keys (works before.work.len p.done before.work.bound)) (popped st).frontier (popped st).work)

-- ---- what the keys tell at the end: they rise, and hold the work, the best first
pub record Tells (keys : List ℕ) (len : ℕ) (work : List Item) : Type 0 where
  pub size : length work ≡ len
  pub up : Rising keys
  pub items_are : map item_of (take len keys) ≡ rev work
