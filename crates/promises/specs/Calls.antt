-- What a whole build is as public calls, as types: its open, a batch for each run of its order, its close. Building proves that it is.
use Rattle.std.specs.Prelude.{ℕ, ◌*◌, ◌≤◌, ◌<◌, ◌≡◌, List, [], length, take, drop, Float}
use Rattle.definition.specs.Slack.{slack}
use Rattle.definition.specs.Build.{open', batch_size}
use Rattle.definition.specs.Refusals.{BatchCall, OpenCall, CloseCall, BuildCall, batch_number, open_number, close_number, build_words, build_floats}
use Rattle.definition.specs.Outcome.{batch_out, open_out, close_out, build_out}

-- "Room for a batch, close or whole build: 6n + 32,768 words of u32 and 4n + 1,024 of f32"
pub record Room (n : ℕ) (words : List ℕ) (floats : List Float) : Type 0 where
  pub words_enough : build_words n ≤ length words
  pub floats_enough : build_floats n ≤ length floats

-- scratch that differs, if at all, within that room
pub record AlikeBeyond (n : ℕ) (words words' : List ℕ) (floats floats' : List Float) : Type 0 where
  pub words_beyond : drop (build_words n) words ≡ drop (build_words n) words'
  pub floats_beyond : drop (build_floats n) floats ≡ drop (build_floats n) floats'

-- ---- the calls

-- open, with this wide table lent
abbrev pub opening_call : BuildCall → List ℕ → OpenCall
opening_call c wide = record { n = c.n; degree = c.params.degree; opening = c.opening; wide = wide }

-- the batch of the next 256 ids, or all that are left, of the order with their groups of seeds; on this wide table, with this scratch
abbrev pub run_call : BuildCall → List ℕ → List ℕ → List ℕ → List ℕ → List Float → BatchCall
run_call c order seeds wide words floats =
    record {
      n = c.n;
      dim = c.dim;
      vectors = c.vectors;
      params = c.params;
      start = c.start;
      nodes = take batch_size order;
      seeds = take (batch_size * c.params.extra) seeds;
      wide = wide;
      words = words;
      floats = floats;
    }

-- close of this wide table, with this closed table and scratch lent
abbrev pub closing_call : BuildCall → List ℕ → List ℕ → List ℕ → List Float → CloseCall
closing_call c wide closed words floats =
    record { n = c.n; dim = c.dim; vectors = c.vectors; params = c.params; wide = wide; closed = closed; words = words; floats = floats }

-- ---- the runs

-- With `order` and `seeds` still to come and the table `wide` so far, batch calls lead to the table `last`. Whatever scratch of the stated room each is lent,
-- as the call before left it or another: it is done, and the next takes the table as it leaves it.
pub data Runs (c : BuildCall) : List ℕ → List ℕ → List ℕ → List ℕ → Type 0 where
  all_run : {seeds wide : List ℕ} → Runs c [] seeds wide wide
  next_run : {order seeds wide last : List ℕ} → 0 < length order
      → ((words : List ℕ) (floats : List Float) → Room c.n words floats → batch_number (run_call c order seeds wide words floats) ≡ 0)
      → ((words : List ℕ) (floats : List Float) → Room c.n words floats
      → Runs c (drop batch_size order) (drop (batch_size * c.params.extra) seeds) (batch_out (run_call c order seeds wide words floats)).wide last)
      → Runs c order seeds wide last

-- ---- together

pub record ByCalls (c : BuildCall) : Type 0 where
  -- open is done, on a wide table of the right length, and the runs lead from what it leaves to the wide table of the build
  pub opens : (wide : List ℕ) → length wide ≡ c.n * slack c.params.degree → open_number (opening_call c wide) ≡ 0
  pub opened : (wide : List ℕ) → length wide ≡ c.n * slack c.params.degree
      → (open_out (opening_call c wide)).wide ≡ open' c.n c.params.degree c.opening
  pub runs : (wide : List ℕ) → length wide ≡ c.n * slack c.params.degree
      → Runs c c.order c.seeds (open_out (opening_call c wide)).wide (build_out c).wide
  -- close of that table is done, on a closed table of the right length, and leaves the closed table of the build
  pub closes : (closed words : List ℕ) (floats : List Float) → length closed ≡ c.n * c.params.degree → Room c.n words floats
      → close_number (closing_call c (build_out c).wide closed words floats) ≡ 0
  pub closed_is : (closed words : List ℕ) (floats : List Float) → length closed ≡ c.n * c.params.degree → Room c.n words floats
      → (close_out (closing_call c (build_out c).wide closed words floats)).closed ≡ (build_out c).closed
  -- on scratch that is, beyond the room, as the build was lent it, all that close leaves is as the build leaves it
  pub leaves : (closed words : List ℕ) (floats : List Float) → length closed ≡ c.n * c.params.degree → Room c.n words floats
      → AlikeBeyond c.n words c.words floats c.floats
      → close_out (closing_call c (build_out c).wide closed words floats)
      ≡ record { answer = (build_out c).answer; closed = (build_out c).closed; words = (build_out c).words; floats = (build_out c).floats }
