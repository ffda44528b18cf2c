-- What is promised of a search's answers (demand 3, second sentence), as types. Stopped proves them of a search that has stopped; promises, of
-- every accepted call.
-- `rows` and `d` are the call's rows and its distances from the query; `last` is the distance of the last answer.
use Rattle.std.specs.Prelude.{ℕ, ◌≤◌, ◌<◌, ◌≡◌, ◌≢◌, ◌⊎◌, length}
use mathlib.Core.List.{List, Memᴰ as Mem, Nodup}
use Rattle.definition.specs.Tables.{pad}

-- the entries that rows lead to from the start
pub data Reachable (rows : ℕ → List ℕ) (start : ℕ) : ℕ → Type 0 where
  from_start : Reachable rows start start
  along : {i j : ℕ} → Reachable rows start i → Mem j (rows i) → j ≢ pad → Reachable rows start j

-- e stands on the way: the start, the end, or one between
unfoldable pub OnWay : {rows : ℕ → List ℕ} {start y : ℕ} → Reachable rows start y → ℕ → Type 0
OnWay {start = start} from_start e = e ≡ start
OnWay (along {j = j} way on_Row no_pad) e = (e ≡ j) ⊎ OnWay way e

-- at most `asked` answers, each once, each reachable; fewer are all that is reachable; and along the row of an answer nearer than the last,
-- each entry is an answer or no nearer than the last
pub record SearchTells (rows : ℕ → List ℕ) (d : ℕ → ℕ) (start asked : ℕ) (answers : List ℕ) (last : ℕ) : Type 0 where
  pub most : length answers ≤ asked
  pub once : Nodup answers
  pub reachable : (x : ℕ) → Mem x answers → Reachable rows start x
  pub all_if_fewer : length answers < asked → (x : ℕ) → Reachable rows start x → Mem x answers
  pub none_nearer : (x y : ℕ) → Mem x answers → d x < last → Mem y (rows x) → y ≢ pad → Mem y answers ⊎ (last ≤ d y)

-- an entry is missing only if every way to it from the start passes an entry, the start and itself included, that is no nearer than the last answer
abbrev pub Excludes : (ℕ → List ℕ) → (ℕ → ℕ) → ℕ → List ℕ → ℕ → Type 0
Excludes rows d start answers last = (y : ℕ) (way : Reachable rows start y) → Mem y answers ⊎ ((e : ℕ) × OnWay way e × (last ≤ d e))
