-- "Each public call's statement determines every returned field and all words of lent slices for every input. Two outcomes meeting one statement are equal."
-- For every public call, without exception. A statement fixes the outcome, field by field: so each that meets it is that one. The statement of distance,
-- of medoid and of fit, which are lent nothing to write, is a single equation.
use Rattle.std.specs.Prelude.{ℕ, ◌≡◌, List}
use Rattle.std.proofs.Common.{sym, ◌∙◌}
use Rattle.definition.specs.declared.Answer.{Answer}
use Rattle.definition.specs.declared.Candidate.{Candidate}
use Rattle.definition.specs.Refusals.{DistanceCall, BatchCall, OpenCall, CloseCall, BuildCall, MedoidCall, SearchCall, FitCall, RowsCall}
use Rattle.definition.specs.Refusals.{ExhaustiveCall, ReportCall, SeedsCall, DrawsCall}
use Rattle.definition.specs.Outcome.{distance_out, medoid_out, BatchOut, BatchMeets, batch_out, OpenOut, OpenMeets, open_out, CloseOut, CloseMeets, close_out}
use Rattle.definition.specs.Outcome.{BuildOut, BuildMeets, build_out}
use Rattle.definition.specs.Outcome.{SearchOut, SearchMeets, search_out, RecordsOut, RecordsMeets, records_out, DrawOut, DrawMeets, draw_out, FillOut, FillMeets}
use Rattle.definition.specs.Outcome.{LookupMeets, lookup_out, fit_out, ExhaustiveOut, ExhaustiveMeets, exhaustive_out, ReportOut, ReportMeets, report_out}
use Rattle.definition.specs.Outcome.{rows_out, seeds_out, order_out, pivots_out}

module _ {A : Type 0} where
  one : {x o p : A} → o ≡ x → p ≡ x → o ≡ p
  one a b = a ∙ sym b

pub distance_same : (c : DistanceCall) {o p : Answer} → o ≡ distance_out c → p ≡ distance_out c → o ≡ p
distance_same c x y = one x y

pub medoid-same : (c : MedoidCall) {o p : Answer} → o ≡ medoid_out c → p ≡ medoid_out c → o ≡ p
medoid-same c x y = one x y

pub fit_same : (c : FitCall) {o p : Answer} → o ≡ fit_out c → p ≡ fit_out c → o ≡ p
fit_same c x y = one x y

-- ---- what meets a statement is what the definition gives

pub batch_is : {c : BatchCall} {o : BatchOut} → BatchMeets c o → o ≡ batch_out c
batch_is m = λ i. record { answer = m.answer_is i; wide = m.wide_is i; words = m.words_is i; floats = m.floats_is i }

pub open_is : {c : OpenCall} {o : OpenOut} → OpenMeets c o → o ≡ open_out c
open_is m = λ i. record { answer = m.answer_is i; wide = m.wide_is i }

pub close_is : {c : CloseCall} {o : CloseOut} → CloseMeets c o → o ≡ close_out c
close_is m = λ i. record { answer = m.answer_is i; closed = m.closed_is i; words = m.words_is i; floats = m.floats_is i }

pub build_is : {c : BuildCall} {o : BuildOut} → BuildMeets c o → o ≡ build_out c
build_is m = λ i. record { answer = m.answer_is i; wide = m.wide_is i; closed = m.closed_is i; words = m.words_is i; floats = m.floats_is i }

pub search_is : {c : SearchCall} {o : SearchOut} → SearchMeets c o → o ≡ search_out c
search_is m = λ i. record { answer = m.answer_is i; words = m.words_is i; floats = m.floats_is i; ids = m.ids_are i; dists = m.dists_are i }

pub lookup_is : {c : SearchCall} {o : SearchOut} → LookupMeets c o → o ≡ lookup_out c
lookup_is m = λ i. record { answer = m.answer_is i; words = m.words_is i; floats = m.floats_is i; ids = m.ids_are i; dists = m.dists_are i }

pub records_is : {c : SearchCall} {rs : List Candidate} {o : RecordsOut} → RecordsMeets c rs o → o ≡ records_out c rs
records_is m = λ i. record { plain = m.plain_is i; records = m.records_are i }

pub exhaustive_is : {c : ExhaustiveCall} {o : ExhaustiveOut} → ExhaustiveMeets c o → o ≡ exhaustive_out c
exhaustive_is m = λ i. record { answer = m.answer_is i; ids = m.ids_are i; dists = m.dists_are i }

pub report_is : {c : ReportCall} {o : ReportOut} → ReportMeets c o → o ≡ report_out c
report_is m = λ i. record { report = m.report_is i; words = m.words_is i; floats = m.floats_is i }

pub draw_is : {m s : ℕ} {o : DrawOut} → DrawMeets m s o → o ≡ draw_out m s
draw_is m = λ i. record { answer = m.answer_is i; state = m.state_is i }

-- of rows, seeds, order and pivots, w what the call should leave
pub fill_is : {w o : FillOut} → FillMeets w o → o ≡ w
fill_is m = λ i. record { answer = m.answer_is i; out = m.out_is i; state = m.state_is i }

-- ---- so two that meet it are equal

pub batch-same : (c : BatchCall) {o p : BatchOut} → BatchMeets c o → BatchMeets c p → o ≡ p
batch-same c x y = one (batch_is x) (batch_is y)

pub open_same : (c : OpenCall) {o p : OpenOut} → OpenMeets c o → OpenMeets c p → o ≡ p
open_same c x y = one (open_is x) (open_is y)

pub close-same : (c : CloseCall) {o p : CloseOut} → CloseMeets c o → CloseMeets c p → o ≡ p
close-same c x y = one (close_is x) (close_is y)

pub build_same : (c : BuildCall) {o p : BuildOut} → BuildMeets c o → BuildMeets c p → o ≡ p
build_same c x y = one (build_is x) (build_is y)

pub search_same : (c : SearchCall) {o p : SearchOut} → SearchMeets c o → SearchMeets c p → o ≡ p
search_same c x y = one (search_is x) (search_is y)

pub lookup_same : (c : SearchCall) {o p : SearchOut} → LookupMeets c o → LookupMeets c p → o ≡ p
lookup_same c x y = one (lookup_is x) (lookup_is y)

pub records_same : (c : SearchCall) (rs : List Candidate) {o p : RecordsOut} → RecordsMeets c rs o → RecordsMeets c rs p → o ≡ p
records_same c rs x y = one (records_is x) (records_is y)

pub exhaustive_same : (c : ExhaustiveCall) {o p : ExhaustiveOut} → ExhaustiveMeets c o → ExhaustiveMeets c p → o ≡ p
exhaustive_same c x y = one (exhaustive_is x) (exhaustive_is y)

pub report_same : (c : ReportCall) {o p : ReportOut} → ReportMeets c o → ReportMeets c p → o ≡ p
report_same c x y = one (report_is x) (report_is y)

pub draw-same : (m s : ℕ) {o p : DrawOut} → DrawMeets m s o → DrawMeets m s p → o ≡ p
draw-same m s x y = one (draw_is x) (draw_is y)

pub rows_same : (c : RowsCall) {o p : FillOut} → FillMeets (rows_out c) o → FillMeets (rows_out c) p → o ≡ p
rows_same c x y = one (fill_is x) (fill_is y)

pub seeds_same : (c : SeedsCall) {o p : FillOut} → FillMeets (seeds_out c) o → FillMeets (seeds_out c) p → o ≡ p
seeds_same c x y = one (fill_is x) (fill_is y)

pub order_same : (c : DrawsCall) {o p : FillOut} → FillMeets (order_out c) o → FillMeets (order_out c) p → o ≡ p
order_same c x y = one (fill_is x) (fill_is y)

pub pivots_same : (c : DrawsCall) {o p : FillOut} → FillMeets (pivots_out c) o → FillMeets (pivots_out c) p → o ≡ p
pivots_same c x y = one (fill_is x) (fill_is y)
