-- What each public call leaves, from all that it is given and lent at entry: the answer, and every word of every lent slice at exit.
-- `..Kept` is a refusal: nothing lent differs. `..Done` is a success: the stated scratch room is zero, what lies beyond it and beyond the answers is untouched.
-- `..Meets` is the statement of the call, as its contract cites it.
use Rattle.std.specs.Prelude.{ℕ, zero, suc, ◌*◌, ◌/◌, min, ◌≡◌, List, map, length, Float}
use Rattle.definition.specs.declared.Answer.{Answer}
use Rattle.definition.specs.declared.Params.{Params}
use Rattle.definition.specs.declared.Candidate.{Candidate}
use Rattle.definition.specs.declared.Report.{Report}
use Rattle.definition.specs.Lists.{upto, total, over, cleared}
use Rattle.definition.specs.Metric.{metric, vector, between, from_query, whole}
use Rattle.definition.specs.Tables.{row, cleaned}
use Rattle.definition.specs.Beam.{Item}
use Rattle.definition.specs.Floats.{nought}
use Rattle.definition.specs.Batch.{Setting, batch}
use Rattle.definition.specs.Build.{open', close, built}
use Rattle.definition.specs.Medoid.{medoid}
use Rattle.definition.specs.Greedy.{State}
use Rattle.definition.specs.Search.{searched, answers}
use Rattle.definition.specs.Recall.{nearest, hits, count_of}
use Rattle.definition.specs.Draws.{Drawn, advance, drawn, rows_drawn, seeds_drawn, order_drawn, pivots_drawn}
use Rattle.definition.specs.Refusals.{DistanceCall, BatchCall, OpenCall, CloseCall, BuildCall, MedoidCall, SearchCall, FitCall}
use Rattle.definition.specs.Refusals.{ExhaustiveCall, ReportCall, RowsCall, SeedsCall, DrawsCall}
use Rattle.definition.specs.Refusals.{distance_number, batch_number, open_number, close_number, build_number, medoid_number, search_number, records_number}
use Rattle.definition.specs.Refusals.{fit_number, exhaustive_number, report_number, rows_number, seeds_number, order_number, pivots_number}
use Rattle.definition.specs.Refusals.{build_words, build_floats, search_words, search_floats, report_words, report_floats}

-- ---- answers: the number, and the fields that the call fills; every other field is 0

unfoldable pub answer : ℕ → ℕ → ℕ → ℕ → Float → Answer
answer number count id draw distance =
    record { number = number; count = count; id = id; draw = draw; distance = distance; expanded = 0; measured = 0 }

-- of a search: how many answers there are, how many entries were expanded, and how many distances worked out
unfoldable pub search_answer : ℕ → ℕ → ℕ → Answer
search_answer count expanded measured =
    record { number = 0; count = count; id = 0; draw = 0; distance = nought; expanded = expanded; measured = measured }

unfoldable pub refused : ℕ → Answer
refused k = answer k 0 0 0 nought

unfoldable pub done : Answer
done = refused 0

module _ {A : Type 0} where
  -- by the number: 0 is success
  unfoldable pub by_number : ℕ → A → A → A
  by_number zero kept success = success
  by_number (suc k) kept success = kept

-- ---- distance

unfoldable pub distance_out : DistanceCall → Answer
distance_out c = by_number (distance_number c) (refused (distance_number c)) (answer 0 0 0 0 (whole (metric c.first c.second)))

-- ---- batch

-- what a build goes by
unfoldable pub setting_of : ℕ → ℕ → List ℕ → Params → Setting
setting_of n dim vectors p =
    record { n = n; pair = between dim vectors; degree = p.degree; beam = p.beam; alpha = p.alpha }

pub record BatchOut : Type 0 where
  pub answer : Answer
  pub wide : List ℕ
  pub words : List ℕ
  pub floats : List Float

unfoldable pub batch_kept : BatchCall → BatchOut
batch_kept c = record { answer = refused (batch_number c); wide = c.wide; words = c.words; floats = c.floats }

unfoldable pub batch_done : BatchCall → BatchOut
batch_done c =
    record {
      answer = done;
      wide = batch (setting_of c.n c.dim c.vectors c.params) c.start c.params.extra c.nodes c.seeds c.wide;
      words = cleared 0 (build_words c.n) c.words;
      floats = cleared nought (build_floats c.n) c.floats;
    }

unfoldable pub batch_out : BatchCall → BatchOut
batch_out c = by_number (batch_number c) (batch_kept c) (batch_done c)

pub record BatchMeets (c : BatchCall) (o : BatchOut) : Type 0 where
  pub answer_is : o.answer ≡ (batch_out c).answer
  pub wide_is : o.wide ≡ (batch_out c).wide
  pub words_is : o.words ≡ (batch_out c).words
  pub floats_is : o.floats ≡ (batch_out c).floats

-- ---- open

pub record OpenOut : Type 0 where
  pub answer : Answer
  pub wide : List ℕ

unfoldable pub open_kept : OpenCall → OpenOut
open_kept c = record { answer = refused (open_number c); wide = c.wide }

unfoldable pub open_done : OpenCall → OpenOut
open_done c = record { answer = done; wide = open' c.n c.degree c.opening }

unfoldable pub open_out : OpenCall → OpenOut
open_out c = by_number (open_number c) (open_kept c) (open_done c)

pub record OpenMeets (c : OpenCall) (o : OpenOut) : Type 0 where
  pub answer_is : o.answer ≡ (open_out c).answer
  pub wide_is : o.wide ≡ (open_out c).wide

-- ---- close

pub record CloseOut : Type 0 where
  pub answer : Answer
  pub closed : List ℕ
  pub words : List ℕ
  pub floats : List Float

unfoldable pub close_kept : CloseCall → CloseOut
close_kept c = record { answer = refused (close_number c); closed = c.closed; words = c.words; floats = c.floats }

unfoldable pub close_done : CloseCall → CloseOut
close_done c =
    record {
      answer = done;
      closed = close (setting_of c.n c.dim c.vectors c.params) c.wide;
      words = cleared 0 (build_words c.n) c.words;
      floats = cleared nought (build_floats c.n) c.floats;
    }

unfoldable pub close_out : CloseCall → CloseOut
close_out c = by_number (close_number c) (close_kept c) (close_done c)

pub record CloseMeets (c : CloseCall) (o : CloseOut) : Type 0 where
  pub answer_is : o.answer ≡ (close_out c).answer
  pub closed_is : o.closed ≡ (close_out c).closed
  pub words_is : o.words ≡ (close_out c).words
  pub floats_is : o.floats ≡ (close_out c).floats

-- ---- whole build

pub record BuildOut : Type 0 where
  pub answer : Answer
  pub wide : List ℕ
  pub closed : List ℕ
  pub words : List ℕ
  pub floats : List Float

unfoldable pub build_kept : BuildCall → BuildOut
build_kept c =
    record { answer = refused (build_number c); wide = c.wide; closed = c.closed; words = c.words; floats = c.floats }

unfoldable pub built_wide : BuildCall → List ℕ
built_wide c = built (setting_of c.n c.dim c.vectors c.params) c.start c.params.extra c.order c.seeds c.opening

unfoldable pub build_done : BuildCall → BuildOut
build_done c =
    record {
      answer = done;
      wide = built_wide c;
      closed = close (setting_of c.n c.dim c.vectors c.params) (built_wide c);
      words = cleared 0 (build_words c.n) c.words;
      floats = cleared nought (build_floats c.n) c.floats;
    }

unfoldable pub build_out : BuildCall → BuildOut
build_out c = by_number (build_number c) (build_kept c) (build_done c)

pub record BuildMeets (c : BuildCall) (o : BuildOut) : Type 0 where
  pub answer_is : o.answer ≡ (build_out c).answer
  pub wide_is : o.wide ≡ (build_out c).wide
  pub closed_is : o.closed ≡ (build_out c).closed
  pub words_is : o.words ≡ (build_out c).words
  pub floats_is : o.floats ≡ (build_out c).floats

-- ---- medoid

unfoldable pub medoid_out : MedoidCall → Answer
medoid_out c = by_number (medoid_number c) (refused (medoid_number c)) (answer 0 0 (medoid (between c.dim c.vectors) c.pivots c.n) 0 nought)

-- ---- search

-- the answers of an accepted search, best first
unfoldable pub found : SearchCall → List Item
found c = answers (from_query c.dim c.vectors c.query) (row c.degree c.table) c.n c.beam c.start c.k

-- the state that its walk comes to
unfoldable pub walked : SearchCall → State
walked c = searched (from_query c.dim c.vectors c.query) (row c.degree c.table) c.n c.beam c.start

unfoldable pub found_ids : SearchCall → List ℕ
found_ids c = map (λ a. a.id) (found c)

unfoldable pub found_dists : SearchCall → List Float
found_dists c = map (λ a. whole a.dist) (found c)

pub record SearchOut : Type 0 where
  pub answer : Answer
  pub words : List ℕ
  pub floats : List Float
  pub ids : List ℕ
  pub dists : List Float

unfoldable pub search_kept : SearchCall → SearchOut
search_kept c =
    record { answer = refused (search_number c); words = c.words; floats = c.floats; ids = c.ids; dists = c.dists }

unfoldable pub search_done : SearchCall → SearchOut
search_done c =
    record {
      answer = search_answer (length (found c)) (length (walked c).expanded) (length (walked c).visited);
      words = cleared 0 (search_words c.n) c.words;
      floats = cleared nought search_floats c.floats;
      ids = over (found_ids c) c.ids;
      dists = over (found_dists c) c.dists;
    }

unfoldable pub search_out : SearchCall → SearchOut
search_out c = by_number (search_number c) (search_kept c) (search_done c)

pub record SearchMeets (c : SearchCall) (o : SearchOut) : Type 0 where
  pub answer_is : o.answer ≡ (search_out c).answer
  pub words_is : o.words ≡ (search_out c).words
  pub floats_is : o.floats ≡ (search_out c).floats
  pub ids_are : o.ids ≡ (search_out c).ids
  pub dists_are : o.dists ≡ (search_out c).dists

-- with a run of records beside the two outputs: the same, and the answers once more as records
unfoldable pub found_records : SearchCall → List Candidate
found_records c = map (λ a. record { id = a.id; distance = whole a.dist }) (found c)

pub record RecordsOut : Type 0 where
  pub plain : SearchOut
  pub records : List Candidate

unfoldable pub records_kept : SearchCall → List Candidate → RecordsOut
records_kept c rs =
    record {
      plain = record { answer = refused (records_number c rs); words = c.words; floats = c.floats; ids = c.ids; dists = c.dists };
      records = rs;
    }

unfoldable pub records_done : SearchCall → List Candidate → RecordsOut
records_done c rs = record { plain = search_done c; records = over (found_records c) rs }

unfoldable pub records_out : SearchCall → List Candidate → RecordsOut
records_out c rs = by_number (records_number c rs) (records_kept c rs) (records_done c rs)

pub record RecordsMeets (c : SearchCall) (rs : List Candidate) (o : RecordsOut) : Type 0 where
  pub plain_is : o.plain ≡ (records_out c rs).plain
  pub records_are : o.records ≡ (records_out c rs).records

-- ---- lookup: what a search leaves that is given the table as cleaned. Such a table keeps the search rule, so that 8 is left for its length alone

-- the call with its table as cleaned
unfoldable pub cleaned_call : SearchCall → SearchCall
cleaned_call c =
    record {
      n = c.n;
      dim = c.dim;
      vectors = c.vectors;
      degree = c.degree;
      beam = c.beam;
      k = c.k;
      start = c.start;
      table = cleaned c.n c.table;
      query = c.query;
      words = c.words;
      floats = c.floats;
      ids = c.ids;
      dists = c.dists;
    }

unfoldable pub lookup_out : SearchCall → SearchOut
lookup_out c = search_out (cleaned_call c)

pub record LookupMeets (c : SearchCall) (o : SearchOut) : Type 0 where
  pub answer_is : o.answer ≡ (lookup_out c).answer
  pub words_is : o.words ≡ (lookup_out c).words
  pub floats_is : o.floats ≡ (lookup_out c).floats
  pub ids_are : o.ids ≡ (lookup_out c).ids
  pub dists_are : o.dists ≡ (lookup_out c).dists

-- ---- fit: its number is all that it says

unfoldable pub fit_out : FitCall → Answer
fit_out c = refused (fit_number c)

-- ---- exhaustive search

-- the answers of an accepted one, best first
unfoldable pub nearest_to : ExhaustiveCall → List Item
nearest_to c = nearest (from_query c.dim c.vectors c.query) c.n c.k

pub record ExhaustiveOut : Type 0 where
  pub answer : Answer
  pub ids : List ℕ
  pub dists : List Float

unfoldable pub exhaustive_kept : ExhaustiveCall → ExhaustiveOut
exhaustive_kept c = record { answer = refused (exhaustive_number c); ids = c.ids; dists = c.dists }

unfoldable pub exhaustive_done : ExhaustiveCall → ExhaustiveOut
exhaustive_done c =
    record {
      answer = answer 0 (length (nearest_to c)) 0 0 nought;
      ids = over (map (λ a. a.id) (nearest_to c)) c.ids;
      dists = over (map (λ a. whole a.dist) (nearest_to c)) c.dists;
    }

unfoldable pub exhaustive_out : ExhaustiveCall → ExhaustiveOut
exhaustive_out c = by_number (exhaustive_number c) (exhaustive_kept c) (exhaustive_done c)

pub record ExhaustiveMeets (c : ExhaustiveCall) (o : ExhaustiveOut) : Type 0 where
  pub answer_is : o.answer ≡ (exhaustive_out c).answer
  pub ids_are : o.ids ≡ (exhaustive_out c).ids
  pub dists_are : o.dists ≡ (exhaustive_out c).dists

-- ---- report

unfoldable pub reported : ℕ → ℕ → ℕ → ℕ → ℕ → Report
reported number queries asked found whole = record { number = number; queries = queries; asked = asked; found = found; whole = whole }

-- how many queries there are, and how many entries are asked for by each
unfoldable pub query_count : ReportCall → ℕ
query_count c = length c.queries / c.dim

unfoldable pub asked_each : ReportCall → ℕ
asked_each c = min c.k c.n

-- how many of the nearest to query q the search brings; and so of each query
unfoldable pub hits_at : ReportCall → ℕ → ℕ
hits_at c q =
    hits (from_query c.dim c.vectors (vector c.dim c.queries q)) (row c.degree c.table) c.n c.beam c.start c.k

unfoldable pub all_hits : ReportCall → List ℕ
all_hits c = map (hits_at c) (upto (query_count c))

pub record ReportOut : Type 0 where
  pub report : Report
  pub words : List ℕ
  pub floats : List Float

unfoldable pub report_kept : ReportCall → ReportOut
report_kept c = record { report = reported (report_number c) 0 0 0 0; words = c.words; floats = c.floats }

unfoldable pub report_done : ReportCall → ReportOut
report_done c =
    record {
      report = reported 0 (query_count c) (query_count c * asked_each c) (total (all_hits c)) (count_of (asked_each c) (all_hits c));
      words = cleared 0 (report_words c.n) c.words;
      floats = cleared nought report_floats c.floats;
    }

unfoldable pub report_out : ReportCall → ReportOut
report_out c = by_number (report_number c) (report_kept c) (report_done c)

pub record ReportMeets (c : ReportCall) (o : ReportOut) : Type 0 where
  pub report_is : o.report ≡ (report_out c).report
  pub words_is : o.words ≡ (report_out c).words
  pub floats_is : o.floats ≡ (report_out c).floats

-- ---- draws

pub record DrawOut : Type 0 where
  pub answer : Answer
  pub state : ℕ

-- one draw below m, from a generator at state s
unfoldable pub draw_out : ℕ → ℕ → DrawOut
draw_out m s = record { answer = answer 0 0 0 (drawn m (advance s)) nought; state = advance s }

pub record DrawMeets (m s : ℕ) (o : DrawOut) : Type 0 where
  pub answer_is : o.answer ≡ (draw_out m s).answer
  pub state_is : o.state ≡ (draw_out m s).state

-- words written over the front of a lent slice, and the generator
pub record FillOut : Type 0 where
  pub answer : Answer
  pub out : List ℕ
  pub state : ℕ

unfoldable pub fill_kept : ℕ → List ℕ → ℕ → FillOut
fill_kept number out s = record { answer = refused number; out = out; state = s }

unfoldable pub fill_done : Drawn → List ℕ → FillOut
fill_done d out = record { answer = done; out = over d.words out; state = d.state }

unfoldable pub rows_out : RowsCall → FillOut
rows_out c =
    let d = fill_done (rows_drawn c.n c.degree c.state) c.table in
    by_number (rows_number c) (fill_kept (rows_number c) c.table c.state) d

unfoldable pub seeds_out : SeedsCall → FillOut
seeds_out c =
    let d = fill_done (seeds_drawn c.n c.start c.extra c.state) c.out in
    by_number (seeds_number c) (fill_kept (seeds_number c) c.out c.state) d

unfoldable pub order_out : DrawsCall → FillOut
order_out c =
    let d = fill_done (order_drawn c.n c.state) c.out in
    by_number (order_number c) (fill_kept (order_number c) c.out c.state) d

unfoldable pub pivots_out : DrawsCall → FillOut
pivots_out c =
    let d = fill_done (pivots_drawn c.n c.state) c.out in
    by_number (pivots_number c) (fill_kept (pivots_number c) c.out c.state) d

-- of any of these four calls, w what it should leave
pub record FillMeets (w o : FillOut) : Type 0 where
  pub answer_is : o.answer ≡ w.answer
  pub out_is : o.out ≡ w.out
  pub state_is : o.state ≡ w.state
