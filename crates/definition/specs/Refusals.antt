-- The numbers returned. For each public call: what it is lent and given, and the number of the first check that holds, 0 for none.
-- A call checks, in rising number, those that concern its arguments.
use Rattle.std.specs.Prelude.{ℕ, ◌+◌, ◌*◌, ◌/◌, ◌%◌, min, max, Bool, true, false, not, ◌&&◌, ◌||◌, List, leb, ltb, eqb, length, Float}
use Rattle.definition.specs.declared.Params.{Params}
use Rattle.definition.specs.declared.Candidate.{Candidate}
use Rattle.definition.specs.Lists.{each, distinct, groups}
use Rattle.definition.specs.Tables.{build_rule, search_rule}
use Rattle.definition.specs.Floats.{four, above}
use Rattle.definition.specs.Slack.{slack}

-- k if the check holds, else what the later checks say
infixr 10 ◌when◌else◌
unfoldable pub ◌when◌else◌ : ℕ → Bool → ℕ → ℕ
k when true else r = k
k when false else r = r

-- ---- the checks, by number

unfoldable pub bad_dim : ℕ → Bool
bad_dim dim = eqb dim 0 || ltb 256 dim

-- n alone, for a call with no vectors; and n with the vectors
unfoldable pub bad_count : ℕ → Bool
bad_count n = eqb n 0 || ltb 65536 n

unfoldable pub bad_vectors : ℕ → ℕ → List ℕ → Bool
bad_vectors n dim vectors = bad_count n || not (eqb (length vectors) (n * dim))

unfoldable pub bad_degree : ℕ → Bool
bad_degree degree = eqb degree 0 || ltb 64 degree

unfoldable pub bad_beam : ℕ → Bool
bad_beam beam = ltb 256 beam

unfoldable pub bad_alpha : Float → Bool
bad_alpha alpha = above alpha four

unfoldable pub bad_start : ℕ → ℕ → Bool
bad_start n start = leb n start

-- the limits on extra seeds alone; and with the groups of seeds, `extra` for each of `count` nodes
unfoldable pub bad_extra : ℕ → ℕ → Bool
bad_extra n extra = ltb 16 extra || leb n extra

unfoldable pub good_group : ℕ → ℕ → List ℕ → Bool
good_group n start group = each (λ s. ltb s n && not (eqb s start)) group && distinct group

unfoldable pub bad_seeds : ℕ → ℕ → ℕ → ℕ → List ℕ → Bool
bad_seeds n extra start count seeds =
    bad_extra n extra || (not (eqb (length seeds) (count * extra)) || not (each (good_group n start) (groups count extra seeds)))

-- a table to be written; one that is read under the build rule; one that is searched
unfoldable pub bad_length : ℕ → ℕ → List ℕ → Bool
bad_length n width table = not (eqb (length table) (n * width))

unfoldable pub bad_table : ℕ → ℕ → List ℕ → Bool
bad_table n width table = bad_length n width table || not (build_rule n width table)

unfoldable pub bad_searched : ℕ → ℕ → List ℕ → Bool
bad_searched n degree table = bad_length n degree table || not (search_rule n table)

unfoldable pub bad_nodes : ℕ → List ℕ → Bool
bad_nodes n nodes = ltb 256 (length nodes) || (not (each (λ u. ltb u n) nodes) || not (distinct nodes))

unfoldable pub bad_order : ℕ → List ℕ → Bool
bad_order n order = not (eqb (length order) n) || (not (each (λ u. ltb u n) order) || not (distinct order))

-- the room for a batch, close or whole build; for a search; and how many answers at most
unfoldable pub build_words : ℕ → ℕ
build_words n = 6 * n + 32768

unfoldable pub build_floats : ℕ → ℕ
build_floats n = 4 * n + 1024

unfoldable pub search_words : ℕ → ℕ
search_words n = n + 512

unfoldable pub search_floats : ℕ
search_floats = 512

unfoldable pub most_answers : ℕ → ℕ → ℕ
most_answers beam k = min k (max beam 1)

module _ {A : Type 0} where
  unfoldable pub short : ℕ → List A → Bool
  short room xs = ltb (length xs) room

unfoldable pub bad_pivots : ℕ → List ℕ → Bool
bad_pivots n pivots = eqb (length pivots) 0 || (ltb 8 (length pivots) || not (each (λ p. ltb p n) pivots))

-- 14: how many of the nearest are asked for, where that has limits
unfoldable pub bad_k : ℕ → Bool
bad_k k = eqb k 0 || ltb 256 k

-- 11, of queries one after another: their bytes are no multiple of dim, or there are too many
unfoldable pub bad_queries : ℕ → List ℕ → Bool
bad_queries dim queries = not (eqb (length queries % dim) 0) || ltb 65535 (length queries / dim)

-- the room for a report: a search's, and 512 more of each kind
unfoldable pub report_words : ℕ → ℕ
report_words n = search_words n + 512

unfoldable pub report_floats : ℕ
report_floats = search_floats + 512

-- ---- distance

pub record DistanceCall : Type 0 where
  pub first : List ℕ
  pub second : List ℕ

unfoldable pub distance_number : DistanceCall → ℕ
distance_number c =
    1 when bad_dim (length c.first) else
    11 when not (eqb (length c.first) (length c.second)) else
    0

-- ---- batch

pub record BatchCall : Type 0 where
  pub n : ℕ
  pub dim : ℕ
  pub vectors : List ℕ
  pub params : Params
  pub start : ℕ
  pub nodes : List ℕ
  pub seeds : List ℕ
  pub wide : List ℕ
  pub words : List ℕ
  pub floats : List Float

unfoldable pub batch_number : BatchCall → ℕ
batch_number c =
    1 when bad_dim c.dim else
    2 when bad_vectors c.n c.dim c.vectors else
    3 when bad_degree c.params.degree else
    4 when bad_beam c.params.beam else
    5 when bad_alpha c.params.alpha else
    6 when bad_start c.n c.start else
    7 when bad_seeds c.n c.params.extra c.start (length c.nodes) c.seeds else
    8 when bad_table c.n (slack c.params.degree) c.wide else
    9 when bad_nodes c.n c.nodes else
    10 when short (build_words c.n) c.words || short (build_floats c.n) c.floats else
    0

-- ---- open: opening rows are a closed table

pub record OpenCall : Type 0 where
  pub n : ℕ
  pub degree : ℕ
  pub opening : List ℕ
  pub wide : List ℕ

unfoldable pub open_number : OpenCall → ℕ
open_number c =
    2 when bad_count c.n else
    3 when bad_degree c.degree else
    8 when bad_table c.n c.degree c.opening || bad_length c.n (slack c.degree) c.wide else
    0

-- ---- close

pub record CloseCall : Type 0 where
  pub n : ℕ
  pub dim : ℕ
  pub vectors : List ℕ
  pub params : Params
  pub wide : List ℕ
  pub closed : List ℕ
  pub words : List ℕ
  pub floats : List Float

unfoldable pub close_number : CloseCall → ℕ
close_number c =
    1 when bad_dim c.dim else
    2 when bad_vectors c.n c.dim c.vectors else
    3 when bad_degree c.params.degree else
    5 when bad_alpha c.params.alpha else
    8 when bad_table c.n (slack c.params.degree) c.wide || bad_length c.n c.params.degree c.closed else
    10 when short (build_words c.n) c.words || short (build_floats c.n) c.floats else
    0

-- ---- whole build

pub record BuildCall : Type 0 where
  pub n : ℕ
  pub dim : ℕ
  pub vectors : List ℕ
  pub params : Params
  pub start : ℕ
  pub order : List ℕ
  pub seeds : List ℕ
  pub opening : List ℕ
  pub wide : List ℕ
  pub closed : List ℕ
  pub words : List ℕ
  pub floats : List Float

unfoldable pub build_number : BuildCall → ℕ
build_number c =
    1 when bad_dim c.dim else
    2 when bad_vectors c.n c.dim c.vectors else
    3 when bad_degree c.params.degree else
    4 when bad_beam c.params.beam else
    5 when bad_alpha c.params.alpha else
    6 when bad_start c.n c.start else
    7 when bad_seeds c.n c.params.extra c.start c.n c.seeds else
    8 when bad_table c.n c.params.degree c.opening || (bad_length c.n (slack c.params.degree) c.wide || bad_length c.n c.params.degree c.closed) else
    9 when bad_order c.n c.order else
    10 when short (build_words c.n) c.words || short (build_floats c.n) c.floats else
    0

-- ---- medoid

pub record MedoidCall : Type 0 where
  pub n : ℕ
  pub dim : ℕ
  pub vectors : List ℕ
  pub pivots : List ℕ

unfoldable pub medoid_number : MedoidCall → ℕ
medoid_number c =
    1 when bad_dim c.dim else
    2 when bad_vectors c.n c.dim c.vectors else
    12 when bad_pivots c.n c.pivots else
    0

-- ---- search; and with a run of records beside its two outputs

pub record SearchCall : Type 0 where
  pub n : ℕ
  pub dim : ℕ
  pub vectors : List ℕ
  pub degree : ℕ
  pub beam : ℕ
  pub k : ℕ
  pub start : ℕ
  pub table : List ℕ
  pub query : List ℕ
  pub words : List ℕ
  pub floats : List Float
  pub ids : List ℕ
  pub dists : List Float

unfoldable pub search_short : SearchCall → Bool
search_short c =
    short (search_words c.n) c.words || (short search_floats c.floats ||
    (short (most_answers c.beam c.k) c.ids || short (most_answers c.beam c.k) c.dists))

-- `tooShort`: the answer to check 10
unfoldable pub search_number_at : Bool → SearchCall → ℕ
search_number_at tooShort c =
    1 when bad_dim c.dim else
    2 when bad_vectors c.n c.dim c.vectors else
    3 when bad_degree c.degree else
    4 when bad_beam c.beam else
    6 when bad_start c.n c.start else
    8 when bad_searched c.n c.degree c.table else
    10 when tooShort else
    11 when not (eqb (length c.query) c.dim) else
    0

unfoldable pub search_number : SearchCall → ℕ
search_number c = search_number_at (search_short c) c

unfoldable pub records_number : SearchCall → List Candidate → ℕ
records_number c records = search_number_at (search_short c || short (most_answers c.beam c.k) records) c

-- ---- fit: those checks of a search that concern its table alone, 2 by n alone

pub record FitCall : Type 0 where
  pub n : ℕ
  pub degree : ℕ
  pub table : List ℕ

unfoldable pub fit_number : FitCall → ℕ
fit_number c =
    2 when bad_count c.n else
    3 when bad_degree c.degree else
    8 when bad_searched c.n c.degree c.table else
    0

-- ---- exhaustive search

pub record ExhaustiveCall : Type 0 where
  pub n : ℕ
  pub dim : ℕ
  pub vectors : List ℕ
  pub k : ℕ
  pub query : List ℕ
  pub ids : List ℕ
  pub dists : List Float

unfoldable pub exhaustive_number : ExhaustiveCall → ℕ
exhaustive_number c =
    1 when bad_dim c.dim else
    2 when bad_vectors c.n c.dim c.vectors else
    10 when short (min c.k c.n) c.ids || short (min c.k c.n) c.dists else
    11 when not (eqb (length c.query) c.dim) else
    14 when bad_k c.k else
    0

-- ---- report: a search and an exhaustive search of each query; `queries` holds them one after another

pub record ReportCall : Type 0 where
  pub n : ℕ
  pub dim : ℕ
  pub vectors : List ℕ
  pub degree : ℕ
  pub beam : ℕ
  pub k : ℕ
  pub start : ℕ
  pub table : List ℕ
  pub queries : List ℕ
  pub words : List ℕ
  pub floats : List Float

unfoldable pub report_number : ReportCall → ℕ
report_number c =
    1 when bad_dim c.dim else
    2 when bad_vectors c.n c.dim c.vectors else
    3 when bad_degree c.degree else
    4 when bad_beam c.beam else
    6 when bad_start c.n c.start else
    8 when bad_searched c.n c.degree c.table else
    10 when short (report_words c.n) c.words || short report_floats c.floats else
    11 when bad_queries c.dim c.queries else
    14 when bad_k c.k else
    0

-- ---- draws. A single draw is never refused

pub record RowsCall : Type 0 where
  pub n : ℕ
  pub degree : ℕ
  pub table : List ℕ
  pub state : ℕ

unfoldable pub rows_number : RowsCall → ℕ
rows_number c =
    2 when bad_count c.n else
    3 when bad_degree c.degree else
    8 when bad_length c.n c.degree c.table else
    0

pub record SeedsCall : Type 0 where
  pub n : ℕ
  pub start : ℕ
  pub extra : ℕ
  pub out : List ℕ
  pub state : ℕ

unfoldable pub seeds_number : SeedsCall → ℕ
seeds_number c =
    2 when bad_count c.n else
    6 when bad_start c.n c.start else
    7 when bad_extra c.n c.extra else
    10 when short c.extra c.out else
    0

-- order and pivots: n words, and min(8, n)
pub record DrawsCall : Type 0 where
  pub n : ℕ
  pub out : List ℕ
  pub state : ℕ

unfoldable pub order_number : DrawsCall → ℕ
order_number c =
    2 when bad_count c.n else
    10 when short c.n c.out else
    0

unfoldable pub pivots_number : DrawsCall → ℕ
pivots_number c =
    2 when bad_count c.n else
    10 when short (min 8 c.n) c.out else
    0
