-- What a report goes by, as its functions have it; one query of it, and the first so many. No query needs a float: a call has none here, and is accepted where
-- it would be with some.
use Rattle.std.specs.Prelude.{ℕ, ◌+◌, ◌≤◌, ◌≡◌, List, [], map, Float}
use Rattle.definition.specs.declared.Report.{Report}
use Rattle.definition.specs.Lists.{upto, total}
use Rattle.definition.specs.Metric.{from_query}
use Rattle.definition.specs.Tables.{row}
use Rattle.definition.specs.Recall.{hits, count_of}
use Rattle.definition.specs.Refusals.{SearchCall, ExhaustiveCall, ReportCall}
use Rattle.definition.specs.Outcome.{ReportOut, asked_each, hits_at}
use Rattle.laws.specs.Parts.{Within}
use Rattle.accepted.specs.Search.{SearchAccepted}
use Rattle.accepted.specs.Recall.{ExhaustiveAccepted, ReportAccepted, search_of, exhaustive_of}
use Rattle.checks_number.specs.declared.Asked.{Asked}
use Rattle.scratch.specs.Layout.{visited_at}
use Rattle.marks.specs.Marked.{Marks}
use Rattle.recall.specs.declared.Brought.{Brought}
use Rattle.recall.specs.declared.Tally.{Tally}
use Rattle.recall.specs.declared.Terms.{Terms}

abbrev pub call_of : Terms → List ℕ → List ℕ → List ℕ → List ℕ → List Float → ReportCall
call_of a vectors table queries words floats =
    record {
      n = a.n;
      dim = a.dim;
      vectors = vectors;
      degree = a.degree;
      beam = a.beam;
      k = a.k;
      start = a.start;
      table = table;
      queries = queries;
      words = words;
      floats = floats;
    }

-- the call, lent other queries, words and floats
abbrev pub lending : ReportCall → List ℕ → List ℕ → List Float → ReportCall
lending c queries words floats =
    record {
      n = c.n;
      dim = c.dim;
      vectors = c.vectors;
      degree = c.degree;
      beam = c.beam;
      k = c.k;
      start = c.start;
      table = c.table;
      queries = queries;
      words = words;
      floats = floats;
    }

abbrev pub out_of : Report → List ℕ → List Float → ReportOut
out_of r words floats = record { report = r; words = words; floats = floats }

-- ---- one query, as the report of it alone: its two searches, and how many of the nearest the first brings
abbrev pub query_call : Asked → List ℕ → ReportCall
query_call asked words =
    record {
      n = asked.n;
      dim = asked.dim;
      vectors = asked.vectors.now;
      degree = asked.degree;
      beam = asked.beam;
      k = asked.k;
      start = asked.start;
      table = asked.table.now;
      queries = asked.query.now;
      words = words;
      floats = [];
    }

abbrev pub search_by : ReportCall → List ℕ → List Float → SearchCall
search_by c ids dists = search_of c c.queries c.words [] ids dists

abbrev pub exhaustive_by : ReportCall → List ℕ → List Float → ExhaustiveCall
exhaustive_by c ids dists = exhaustive_of c c.queries ids dists

abbrev pub hits_of : ReportCall → ℕ
hits_of c = hits (from_query c.dim c.vectors c.queries) (row c.degree c.table) c.n c.beam c.start c.k

pub record QueryAccepted (c : ReportCall) (ids : List ℕ) (dists : List Float) (near : List ℕ) (apart : List Float) : Type 0 where
  pub floats : List Float
  pub search : SearchAccepted (search_of c c.queries c.words floats ids dists)
  pub nearest : ExhaustiveAccepted (exhaustive_by c near apart)

-- it comes two epochs further, the walk's and that of the nearest; and no word but the marks differs
pub record Recalled (c : ReportCall) (epoch : ℕ) (after : List ℕ) (r : Brought) : Type 0 where
  pub epoch_is : r.epoch ≡ epoch + 2
  pub hits_are : r.hits ≡ hits_of c
  pub few : r.hits ≤ 256
  pub marks : Marks c.n after r.epoch
  pub kept : Within 0 (visited_at c.n) c.words after

-- ---- all queries, and the first q
pub record QueriesAccepted (c : ReportCall) : Type 0 where
  pub floats : List Float
  pub report : ReportAccepted (lending c c.queries c.words floats)

pub record Tallied (c : ReportCall) (q : ℕ) (after : List ℕ) (t : Tally) : Type 0 where
  pub found_is : t.found ≡ total (map (hits_at c) (upto q))
  pub whole_is : t.whole ≡ count_of (asked_each c) (map (hits_at c) (upto q))
  pub kept : Within 0 (visited_at c.n) c.words after
