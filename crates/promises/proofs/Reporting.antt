-- The report of recall is its public calls: what it counts of a query is what a search and an exhaustive search of that query have in common.
use Prim.Native.Nat.{ℕ}
use Rattle.std.proofs.Common.{ap₂}
use Rattle.std.specs.Prelude.{◌≡◌, Float, take}
use Rattle.std.proofs.Math.Path.{sym}
use mathlib.Core.List.{List}
use Rattle.definition.specs.Metric.{vector}
use Rattle.definition.specs.Recall.{in_both, hits}
use Rattle.definition.specs.Refusals.{ReportCall}
use Rattle.definition.specs.Outcome.{SearchOut, SearchMeets, found_ids, found, ExhaustiveOut, ExhaustiveMeets, nearest_to}
use Rattle.definition.specs.Outcome.{hits_at}
use Rattle.accepted.specs.Recall.{search_of, exhaustive_of}
use Rattle.promises.proofs.Held.{search_held}
use Rattle.promises.specs.Exhausting.{exhaustive_held}

-- what is counted of query q is what a search and an exhaustive search of it have in common, whatever room and outputs they are lent
pub report_by_calls : (c : ReportCall) (q : ℕ) (words : List ℕ) (floats : List Float) (ids near : List ℕ) (dists nearDists : List Float)
    (o : SearchOut) (e : ExhaustiveOut) → SearchMeets (search_of c (vector c.dim c.queries q) words floats ids dists) o
    → ExhaustiveMeets (exhaustive_of c (vector c.dim c.queries q) near nearDists) e
    → o.answer.number ≡ 0
    → e.answer.number ≡ 0
    → hits_at c q ≡ in_both (take o.answer.count o.ids) (take e.answer.count e.ids)
unfolding hits_at hits found_ids found nearest_to
report_by_calls c q words floats ids near dists nearDists o e s x p z =
    let query = vector c.dim c.queries q in
    ap₂ in_both (sym (search_held (search_of c query words floats ids dists) o s p).ids_are)
    (sym (exhaustive_held (exhaustive_of c query near nearDists) e x z).ids_are)
