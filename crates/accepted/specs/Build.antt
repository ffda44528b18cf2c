-- What a batch, an open, a close and a whole build have that are accepted: their checks, as facts.
use Rattle.std.specs.Prelude.{ℕ, ◌+◌, ◌*◌, ◌≤◌, ◌<◌, ◌≡◌, Bool, false, ◌||◌, length}
use Rattle.definition.specs.Slack.{slack}
use Rattle.definition.specs.Refusals.{◌when◌else◌, bad_dim, bad_vectors, bad_degree, bad_beam, bad_alpha, bad_start, bad_seeds, bad_length, bad_table, bad_order}
use Rattle.definition.specs.Refusals.{short, build_words, build_floats}
use Rattle.definition.specs.Refusals.{BatchCall, OpenCall, CloseCall, BuildCall, batch_number, open_number, close_number, build_number}
use Rattle.laws.specs.Truth.{or_neither}
use Rattle.theory.specs.Rule.{Ruled}
use Rattle.accepted.specs.Chain.{passed}
use Rattle.accepted.specs.Checks.{Entries, entries_good, count_some, count_few, Degree, degree_good, beam_good, AlphaLow, alpha_good, start_good, Seeded}
use Rattle.accepted.specs.Checks.{seeds_good, length_good, table_good, Listed, nodes_good, order_good, room_good}

-- the first six checks of batch and build are passed, and the later ones say 0
record Six (a b c d e f : Bool) (r : ℕ) : Type 0 where
  is_1 : a ≡ false
  is_2 : b ≡ false
  is_3 : c ≡ false
  is_4 : d ≡ false
  is_5 : e ≡ false
  is_6 : f ≡ false
  rest : r ≡ 0

six : (a b c d e f : Bool) (r : ℕ) → (1 when a else 2 when b else 3 when c else 4 when d else 5 when e else 6 when f else r) ≡ 0 → Six a b c d e f r
six a b c d e f r h =
    let p₁ = passed 0 _ _ h in
    let p₂ = passed 1 _ _ p₁.1 in
    let p₃ = passed 2 _ _ p₂.1 in
    let p₄ = passed 3 _ _ p₃.1 in
    let p₅ = passed 4 _ _ p₄.1 in
    let p₆ = passed 5 _ _ p₅.1 in
    record { is_1 = p₁.0; is_2 = p₂.0; is_3 = p₃.0; is_4 = p₄.0; is_5 = p₅.0; is_6 = p₆.0; rest = p₆.1 }

-- ---- batch

pub record BatchAccepted (c : BatchCall) : Type 0 where
  pub entries : Entries c.n c.dim c.vectors
  pub degree : Degree c.params.degree
  pub beam_few : c.params.beam ≤ 256
  pub alpha_low : AlphaLow c.params.alpha
  pub start_in : c.start < c.n
  pub seeds : Seeded c.n c.params.extra c.start (length c.nodes) c.seeds
  pub wide : Ruled c.n (slack c.params.degree) c.wide
  pub nodes_few : length c.nodes ≤ 256
  pub nodes : Listed c.n c.nodes
  pub word_room : 6 * c.n + 32768 ≤ length c.words
  pub float_room : 4 * c.n + 1024 ≤ length c.floats

pub batch-accepted : (c : BatchCall) → batch_number c ≡ 0 → BatchAccepted c
unfolding batch_number
batch-accepted c e =
    let p = six _ _ _ _ _ _ _ e in
    let p₇ = passed 6 _ _ p.rest in
    let p₈ = passed 7 _ _ p₇.1 in
    let p₉ = passed 8 _ _ p₈.1 in
    let p₁₀ = passed 9 _ _ p₉.1 in
    let nodes = nodes_good c.n c.nodes p₉.0 in
    let room = room_good c.n c.words c.floats p₁₀.0 in
    record {
      entries = entries_good c.n c.dim c.vectors p.is_1 p.is_2;
      degree = degree_good c.params.degree p.is_3;
      beam_few = beam_good c.params.beam p.is_4;
      alpha_low = alpha_good c.params.alpha p.is_5;
      start_in = start_good c.n c.start p.is_6;
      seeds = seeds_good c.n c.params.extra c.start (length c.nodes) c.seeds p₇.0;
      wide = table_good c.n (slack c.params.degree) c.wide p₈.0;
      nodes_few = nodes.0;
      nodes = nodes.1;
      word_room = room.0;
      float_room = room.1;
    }

-- ---- open

pub record OpenAccepted (c : OpenCall) : Type 0 where
  pub nodes_some : 1 ≤ c.n
  pub nodes : c.n ≤ 65536
  pub degree : Degree c.degree
  pub opening : Ruled c.n c.degree c.opening
  pub wide_is : length c.wide ≡ c.n * slack c.degree

pub open_accepted : (c : OpenCall) → open_number c ≡ 0 → OpenAccepted c
unfolding open_number
open_accepted c e =
    let p₂ = passed 1 _ _ e in
    let p₃ = passed 2 _ _ p₂.1 in
    let p₈ = passed 7 _ _ p₃.1 in
    let tables = or_neither (bad_table c.n c.degree c.opening) (bad_length c.n (slack c.degree) c.wide) p₈.0 in
    record {
      nodes_some = count_some c.n p₂.0;
      nodes = count_few c.n p₂.0;
      degree = degree_good c.degree p₃.0;
      opening = table_good c.n c.degree c.opening tables.0;
      wide_is = length_good c.n (slack c.degree) c.wide tables.1;
    }

-- ---- close

pub record CloseAccepted (c : CloseCall) : Type 0 where
  pub entries : Entries c.n c.dim c.vectors
  pub degree : Degree c.params.degree
  pub alpha_low : AlphaLow c.params.alpha
  pub wide : Ruled c.n (slack c.params.degree) c.wide
  pub closed_is : length c.closed ≡ c.n * c.params.degree
  pub word_room : 6 * c.n + 32768 ≤ length c.words
  pub float_room : 4 * c.n + 1024 ≤ length c.floats

pub close-accepted : (c : CloseCall) → close_number c ≡ 0 → CloseAccepted c
unfolding close_number
close-accepted c e =
    let p₁ = passed 0 _ _ e in
    let p₂ = passed 1 _ _ p₁.1 in
    let p₃ = passed 2 _ _ p₂.1 in
    let p₅ = passed 4 _ _ p₃.1 in
    let p₈ = passed 7 _ _ p₅.1 in
    let p₁₀ = passed 9 _ _ p₈.1 in
    let width = slack c.params.degree in
    let tables = or_neither (bad_table c.n width c.wide) (bad_length c.n c.params.degree c.closed) p₈.0 in
    let room = room_good c.n c.words c.floats p₁₀.0 in
    record {
      entries = entries_good c.n c.dim c.vectors p₁.0 p₂.0;
      degree = degree_good c.params.degree p₃.0;
      alpha_low = alpha_good c.params.alpha p₅.0;
      wide = table_good c.n width c.wide tables.0;
      closed_is = length_good c.n c.params.degree c.closed tables.1;
      word_room = room.0;
      float_room = room.1;
    }

-- ---- whole build: each check is passed, and what that says

pub record BuildPasses (c : BuildCall) : Type 0 where
  pub dim : bad_dim c.dim ≡ false
  pub vectors : bad_vectors c.n c.dim c.vectors ≡ false
  pub degree : bad_degree c.params.degree ≡ false
  pub beam : bad_beam c.params.beam ≡ false
  pub alpha : bad_alpha c.params.alpha ≡ false
  pub start : bad_start c.n c.start ≡ false
  pub seeds : bad_seeds c.n c.params.extra c.start c.n c.seeds ≡ false
  pub opening : bad_table c.n c.params.degree c.opening ≡ false
  pub wide : bad_length c.n (slack c.params.degree) c.wide ≡ false
  pub closed : bad_length c.n c.params.degree c.closed ≡ false
  pub order : bad_order c.n c.order ≡ false
  pub room : (short (build_words c.n) c.words || short (build_floats c.n) c.floats) ≡ false

pub build_passes : (c : BuildCall) → build_number c ≡ 0 → BuildPasses c
unfolding build_number
build_passes c e =
    let p = six _ _ _ _ _ _ _ e in
    let p₇ = passed 6 _ _ p.rest in
    let p₈ = passed 7 _ _ p₇.1 in
    let p₉ = passed 8 _ _ p₈.1 in
    let p₁₀ = passed 9 _ _ p₉.1 in
    let wide = bad_length c.n (slack c.params.degree) c.wide in
    let closed = bad_length c.n c.params.degree c.closed in
    let tables = or_neither (bad_table c.n c.params.degree c.opening) (wide || closed) p₈.0 in
    let written = or_neither wide closed tables.1 in
    record {
      dim = p.is_1;
      vectors = p.is_2;
      degree = p.is_3;
      beam = p.is_4;
      alpha = p.is_5;
      start = p.is_6;
      seeds = p₇.0;
      opening = tables.0;
      wide = written.0;
      closed = written.1;
      order = p₉.0;
      room = p₁₀.0;
    }

pub record BuildAccepted (c : BuildCall) : Type 0 where
  pub entries : Entries c.n c.dim c.vectors
  pub degree : Degree c.params.degree
  pub beam_few : c.params.beam ≤ 256
  pub alpha_low : AlphaLow c.params.alpha
  pub start_in : c.start < c.n
  pub seeds : Seeded c.n c.params.extra c.start c.n c.seeds
  pub opening : Ruled c.n c.params.degree c.opening
  pub wide_is : length c.wide ≡ c.n * slack c.params.degree
  pub closed_is : length c.closed ≡ c.n * c.params.degree
  pub order_is : length c.order ≡ c.n
  pub order : Listed c.n c.order
  pub word_room : 6 * c.n + 32768 ≤ length c.words
  pub float_room : 4 * c.n + 1024 ≤ length c.floats

pub build_accepted : (c : BuildCall) → build_number c ≡ 0 → BuildAccepted c
build_accepted c e =
    let p = build_passes c e in
    let order = order_good c.n c.order p.order in
    let room = room_good c.n c.words c.floats p.room in
    record {
      entries = entries_good c.n c.dim c.vectors p.dim p.vectors;
      degree = degree_good c.params.degree p.degree;
      beam_few = beam_good c.params.beam p.beam;
      alpha_low = alpha_good c.params.alpha p.alpha;
      start_in = start_good c.n c.start p.start;
      seeds = seeds_good c.n c.params.extra c.start c.n c.seeds p.seeds;
      opening = table_good c.n c.params.degree c.opening p.opening;
      wide_is = length_good c.n (slack c.params.degree) c.wide p.wide;
      closed_is = length_good c.n c.params.degree c.closed p.closed;
      order_is = order.0;
      order = order.1;
      word_room = room.0;
      float_room = room.1;
    }
