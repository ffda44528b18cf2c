-- The numbers of batch, open, close and whole build: r is that of every such call that is lent these lengths.
use Rattle.std.specs.Prelude.{◌≡◌, refl, Bool, true, false, ◌||◌, List, [], ◌∷◌, ◌++◌, ℕ, Float, length}
use Rattle.definition.specs.declared.Params.{Params}
use Rattle.definition.specs.Slack.{slack}
use Rattle.definition.specs.Refusals.{◌when◌else◌, bad_count, bad_degree, bad_alpha, bad_seeds, bad_table, bad_nodes, bad_order}
use Rattle.definition.specs.Refusals.{batch_number, open_number, close_number, build_number}
use Rattle.checks.specs.Lengths.{wrong_length, length_is, build_short, room_is}
use Rattle.checks_number.specs.Tests.{Tests, number_of}
use Rattle.checks_number.specs.Shared.{entry_tests, param_tests}

-- one test with two parts, as two tests
each_part : (k : ℕ) (a b : Bool) (r : ℕ) → (k when a || b else r) ≡ (k when a else k when b else r)
unfolding ◌when◌else◌
each_part k true b r = refl
each_part k false b r = refl

-- ---- batch
module _ (n dim : ℕ) (vectors : List ℕ) (params : Params) (start : ℕ) (nodes seeds wide : List ℕ) (words floats : ℕ) where
  pub record BatchNumbered (r : ℕ) : Type 0 where
    pub is : (ws : List ℕ) (fs : List Float) → length ws ≡ words → length fs ≡ floats → r ≡ batch_number (record {
      n = n;
      dim = dim;
      vectors = vectors;
      params = params;
      start = start;
      nodes = nodes;
      seeds = seeds;
      wide = wide;
      words = ws;
      floats = fs;
    })

  abbrev pub batch_tests : Tests
  batch_tests =
      param_tests n dim vectors params start
      ++ ((7, bad_seeds n params.extra start (length nodes) seeds) ∷ (8, bad_table n (slack params.degree) wide)
      ∷ (9, bad_nodes n nodes) ∷ (10, build_short n words floats) ∷ [])

module _ {n dim : ℕ} {vectors : List ℕ} {params : Params} {start : ℕ} {nodes seeds wide : List ℕ} {words floats r : ℕ} where
  pub batch_numbered : r ≡ number_of (batch_tests n dim vectors params start nodes seeds wide words floats)
      → BatchNumbered n dim vectors params start nodes seeds wide words floats r
  unfolding batch_number number_of
  batch_numbered e = record { is = λ ws fs p q. rw (room_is n ws fs words floats p q) e }

-- ---- open
module _ (n degree : ℕ) (opening : List ℕ) (wide : ℕ) where
  pub record OpenNumbered (r : ℕ) : Type 0 where
    pub is : (to : List ℕ) → length to ≡ wide → r ≡ open_number (record { n = n; degree = degree; opening = opening; wide = to })

  abbrev pub open_tests : Tests
  open_tests = (2, bad_count n) ∷ (3, bad_degree degree) ∷ (8, bad_table n degree opening) ∷ (8, wrong_length n (slack degree) wide) ∷ []

module _ {n degree : ℕ} {opening : List ℕ} {wide r : ℕ} where
  pub open_numbered : r ≡ number_of (open_tests n degree opening wide) → OpenNumbered n degree opening wide r
  unfolding open_number number_of
  open_numbered e = record { is = λ to p. rw (each_part 8, ← length_is n (slack degree) to wide p) e }

-- ---- close
module _ (n dim : ℕ) (vectors : List ℕ) (params : Params) (wide : List ℕ) (closed words floats : ℕ) where
  pub record CloseNumbered (r : ℕ) : Type 0 where
    pub is : (to ws : List ℕ) (fs : List Float) → length to ≡ closed → length ws ≡ words → length fs ≡ floats → r ≡ close_number (record {
      n = n;
      dim = dim;
      vectors = vectors;
      params = params;
      wide = wide;
      closed = to;
      words = ws;
      floats = fs;
    })

  abbrev pub close_tests : Tests
  close_tests =
      entry_tests n dim vectors
      ++ ((3, bad_degree params.degree) ∷ (5, bad_alpha params.alpha) ∷ (8, bad_table n (slack params.degree) wide)
      ∷ (8, wrong_length n params.degree closed) ∷ (10, build_short n words floats) ∷ [])

module _ {n dim : ℕ} {vectors : List ℕ} {params : Params} {wide : List ℕ} {closed words floats r : ℕ} where
  pub close_numbered : r ≡ number_of (close_tests n dim vectors params wide closed words floats)
      → CloseNumbered n dim vectors params wide closed words floats r
  unfolding close_number number_of
  close_numbered e = record {
    is = λ to ws fs p q s. rw (each_part 8, ← length_is n params.degree to closed p, room_is n ws fs words floats q s) e;
  }

-- ---- whole build
module _ (n dim : ℕ) (vectors : List ℕ) (params : Params) (start : ℕ) (order seeds opening : List ℕ) (wide closed words floats : ℕ) where
  pub record BuildNumbered (r : ℕ) : Type 0 where
    pub is : (via to ws : List ℕ) (fs : List Float) → length via ≡ wide → length to ≡ closed → length ws ≡ words → length fs ≡ floats
        → r ≡ build_number (record {
          n = n;
          dim = dim;
          vectors = vectors;
          params = params;
          start = start;
          order = order;
          seeds = seeds;
          opening = opening;
          wide = via;
          closed = to;
          words = ws;
          floats = fs;
        })

  abbrev pub build_tests : Tests
  build_tests =
      param_tests n dim vectors params start
      ++ ((7, bad_seeds n params.extra start n seeds) ∷ (8, bad_table n params.degree opening)
      ∷ (8, wrong_length n (slack params.degree) wide) ∷ (8, wrong_length n params.degree closed)
      ∷ (9, bad_order n order) ∷ (10, build_short n words floats) ∷ [])

module _ {n dim : ℕ} {vectors : List ℕ} {params : Params} {start : ℕ} {order seeds opening : List ℕ} {wide closed words floats r : ℕ} where
  pub build_numbered : r ≡ number_of (build_tests n dim vectors params start order seeds opening wide closed words floats)
      → BuildNumbered n dim vectors params start order seeds opening wide closed words floats r
  unfolding build_number number_of
  build_numbered e = record {
    is = λ via to ws fs p q s t.
        rw (
          each_part 8,
          each_part 8,
          ← length_is n (slack params.degree) via wide p,
          ← length_is n params.degree to closed q,
          room_is n ws fs words floats s t,
        ) e;
  }
