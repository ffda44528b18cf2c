-- `fit`, which 01 does not have: the number that a search would give for its table. What 0 says of a table, and of every search and lookup with that n,
-- degree and table; that it foretells the number of a search that errs in nothing before; and that the tables which this library writes have 0.
use Rattle.std.specs.Prelude.{ℕ, ◌*◌, ◌≤◌, ◌<◌, ◌≡◌, refl, ◌≢◌, Bool, true, false, not, ltb, eqb, length}
use Rattle.std.proofs.Common.{arith, ap, true≢false, eq-eqb, ne_eqb, le-ltb}
use Rattle.std.proofs.Math.Bool.{or-false}
use mathlib.Core.List.{List, Memᴰ as Mem}
use Rattle.std.proofs.lemmas.Bool.{lt-leb}
use Rattle.definition.specs.declared.Candidate.{Candidate}
use Rattle.definition.specs.Tables.{pad}
use Rattle.definition.specs.Refusals.{SearchCall, FitCall, CloseCall, BuildCall, search_number, search_number_at, records_number, fit_number, close_number}
use Rattle.definition.specs.Refusals.{build_number, ◌when◌else◌, bad_dim, bad_count, bad_vectors, bad_degree, bad_beam, bad_start, bad_searched}
use Rattle.definition.specs.Outcome.{search_out, lookup_out, close_out, build_out}
use Rattle.laws.specs.Truth.{neither_or}
use Rattle.theory.specs.Kept.{TableKept}
use Rattle.theory.specs.Rule.{kept_entry, search_rule-mem, mem-search_rule}
use Rattle.accepted.specs.Chain.{passed, pass}
use Rattle.accepted.specs.Checks.{Entries, count_good, Degree, degree_good, searched_good, searched-passes}
use Rattle.accepted.specs.Build.{close-accepted, build_accepted}
use Rattle.accepted.specs.Search.{SearchAccepted, search_accepted, records_accepted, cleaned-call}
use Rattle.accepted.specs.Numbers.{search_not_2, search_not_3, search_not_8}
use Rattle.promises.specs.Rows.{closing_keeps_rows, build_keeps_rows}

-- what a search or a lookup gives to fit
abbrev pub fit_of : SearchCall → FitCall
fit_of c = record { n = c.n; degree = c.degree; table = c.table }

-- ---- 0 exactly where the three checks do not hold

pub fit_passes : (f : FitCall) → fit_number f ≡ 0
    → (bad_count f.n ≡ false) × (bad_degree f.degree ≡ false) × (bad_searched f.n f.degree f.table ≡ false)
unfolding fit_number
fit_passes f e =
    let p₂ = passed 1 _ _ e in
    let p₃ = passed 2 _ _ p₂.1 in
    (p₂.0, p₃.0, (passed 7 _ _ p₃.1).0)

pub passes_fit : (f : FitCall) → bad_count f.n ≡ false → bad_degree f.degree ≡ false → bad_searched f.n f.degree f.table ≡ false → fit_number f ≡ 0
unfolding fit_number
passes_fit f p q r = pass 2 _ _ p (pass 3 _ _ q (pass 8 _ _ r refl))

-- in words: entries and degree within their limits, a row for each entry, and each word padding or an entry
pub record Fits (f : FitCall) : Type 0 where
  pub nodes_some : 1 ≤ f.n
  pub nodes : f.n ≤ 65536
  pub degree_some : 1 ≤ f.degree
  pub degree_few : f.degree ≤ 64
  pub size : length f.table ≡ f.n * f.degree
  pub words : (w : ℕ) → Mem w f.table → w ≢ pad → w < f.n

pub fit_fits : (f : FitCall) → fit_number f ≡ 0 → Fits f
fit_fits f e =
    let p = fit_passes f e in
    let n = count_good f.n p.0 in
    let d = degree_good f.degree p.1 in
    let t = searched_good f.n f.degree f.table p.2 in
    record { nodes_some = n.0; nodes = n.1; degree_some = d.some; degree_few = d.few; size = t.0; words = search_rule-mem f.n f.table t.1 }

pub fits_fit : (f : FitCall) → Fits f → fit_number f ≡ 0
unfolding bad_count bad_degree
fits_fit f h =
    let n = h.nodes_some in
    let d = h.degree_some in
    passes_fit f (neither_or (eqb f.n 0) (ltb 65536 f.n) (ne_eqb f.n 0 (λ z. omega arith)) (le-ltb 65536 f.n h.nodes))
    (neither_or (eqb f.degree 0) (ltb 64 f.degree) (ne_eqb f.degree 0 (λ z. omega arith)) (le-ltb 64 f.degree h.degree_few))
    (searched-passes f.n f.degree f.table h.size (mem-search_rule f.n f.table h.words))

-- ---- what it says of a search

-- a number that is not for the table: neither 3 nor 8, and 2 only for the vectors
pub record NotForTable (c : SearchCall) (number : ℕ) : Type 0 where
  pub not_3 : number ≢ 3
  pub not_8 : number ≢ 8
  pub only_vectors : number ≡ 2 → length c.vectors ≢ c.n * c.dim

-- with a run of records too
pub fit_search : (c : SearchCall) → fit_number (fit_of c) ≡ 0
    → NotForTable c (search_number c) × ((records : List Candidate) → NotForTable c (records_number c records))
unfolding bad_vectors
fit_search c e =
    let p = fit_passes (fit_of c) e in
    let three = search_not_3 c p.1 in
    let eight = search_not_8 c p.2 in
    let vectors : length c.vectors ≡ c.n * c.dim → bad_vectors c.n c.dim c.vectors ≡ false =
    λ q. neither_or (bad_count c.n) (not (eqb (length c.vectors) (c.n * c.dim))) p.0 (ap not (eq-eqb _ _ q)) in (
      record { not_3 = three.0; not_8 = eight.0; only_vectors = λ k q. (search_not_2 c (vectors q)).0 k },
      λ records. record { not_3 = three.1 records; not_8 = eight.1 records; only_vectors = λ k q. (search_not_2 c (vectors q)).1 records k },
    )

-- and a search that is not refused has a table that fits
accepted-fits : (c : SearchCall) → SearchAccepted c → fit_number (fit_of c) ≡ 0
accepted-fits c a =
    fits_fit (fit_of c)
    (record {
      nodes_some = a.nodes_some;
      nodes = a.nodes;
      degree_some = a.degree_some;
      degree_few = a.degree_few;
      size = a.table_is;
      words = search_rule-mem c.n c.table a.ruled;
    })

pub search_fits : (c : SearchCall) → search_number c ≡ 0 → fit_number (fit_of c) ≡ 0
search_fits c e = accepted-fits c (search_accepted c e)

pub records_fits : (c : SearchCall) (records : List Candidate) → records_number c records ≡ 0 → fit_number (fit_of c) ≡ 0
records_fits c records e = accepted-fits c (records_accepted c records e).0

-- ---- "the number that a search would give for its table"

-- what a search has that errs, if at all, in its table or in what is checked after it. Where there is no entry, no start is one
pub record Sound (c : SearchCall) : Type 0 where
  pub dim_some : 1 ≤ c.dim
  pub dim_few : c.dim ≤ 256
  pub vectors_are : length c.vectors ≡ c.n * c.dim
  pub beam_few : c.beam ≤ 256
  pub start_in : 1 ≤ c.n → c.start < c.n

chain : (a b g h e f : Bool) (x : ℕ) → a ≡ false → h ≡ false → (b ≡ false → e ≡ false) → (2 when b else 3 when g else 8 when f else 0) ≢ 0
    → (1 when a else 2 when b else 3 when g else 4 when h else 6 when e else 8 when f else x) ≡ (2 when b else 3 when g else 8 when f else 0)
unfolding ◌when◌else◌
chain true b g h e f x p q r s = absurd (true≢false p)
chain false true g h e f x p q r s = refl
chain false false true h e f x p q r s = refl
chain false false false true e f x p q r s = absurd (true≢false q)
chain false false false false true f x p q r s = absurd (true≢false (r refl))
chain false false false false false true x p q r s = refl
chain false false false false false false x p q r s = absurd (s refl)

number_foretold : (tooShort : Bool) (c : SearchCall) → Sound c → fit_number (fit_of c) ≢ 0 → search_number_at tooShort c ≡ fit_number (fit_of c)
unfolding search_number_at fit_number bad_dim bad_vectors bad_beam bad_start
number_foretold tooShort c h some =
    let right : not (eqb (length c.vectors) (c.n * c.dim)) ≡ false = ap not (eq-eqb _ _ h.vectors_are) in
    rw (right, or-false (bad_count c.n)) (chain (bad_dim c.dim) (bad_count c.n) _ _ _ _ _ dim beam start some)
  where
    dim : bad_dim c.dim ≡ false
    dim = let d = h.dim_some in neither_or (eqb c.dim 0) (ltb 256 c.dim) (ne_eqb c.dim 0 (λ z. omega arith)) (le-ltb 256 c.dim h.dim_few)

    beam : bad_beam c.beam ≡ false
    beam = le-ltb 256 c.beam h.beam_few

    start : bad_count c.n ≡ false → bad_start c.n c.start ≡ false
    start e = lt-leb c.n c.start (h.start_in (count_good c.n e).0)

-- with a run of records too
pub fit_foretells : (c : SearchCall) → Sound c → fit_number (fit_of c) ≢ 0
    → (search_number c ≡ fit_number (fit_of c)) × ((records : List Candidate) → records_number c records ≡ fit_number (fit_of c))
unfolding search_number records_number
fit_foretells c h some = (number_foretold _ c h some, λ records. number_foretold _ c h some)

-- ---- so a tower that asks once has from `lookup` all that `search` would give it, on every input
pub fit_lookup : (c : SearchCall) → fit_number (fit_of c) ≡ 0 → lookup_out c ≡ search_out c
unfolding lookup_out
fit_lookup c e = ap search_out (cleaned-call c (searched_good c.n c.degree c.table (fit_passes (fit_of c) e).2).1)

-- ---- tables that close and a whole build write

kept_fits : (n dim degree : ℕ) (vectors table : List ℕ) → Entries n dim vectors → Degree degree → TableKept n degree table
    → fit_number (record { n = n; degree = degree; table = table }) ≡ 0
kept_fits n dim degree vectors table e d k =
    fits_fit (record { n = n; degree = degree; table = table })
    (record {
      nodes_some = e.nodes_some;
      nodes = e.nodes;
      degree_some = d.some;
      degree_few = d.few;
      size = k.size;
      words = kept_entry n degree table k;
    })

pub closed_fits : (b : CloseCall) → close_number b ≡ 0 → fit_number (record { n = b.n; degree = b.params.degree; table = (close_out b).closed }) ≡ 0
closed_fits b e =
    let a = close-accepted b e in
    kept_fits b.n b.dim b.params.degree b.vectors (close_out b).closed a.entries a.degree (closing_keeps_rows b e)

pub build_fits : (b : BuildCall) → build_number b ≡ 0 → fit_number (record { n = b.n; degree = b.params.degree; table = (build_out b).closed }) ≡ 0
build_fits b e =
    let a = build_accepted b e in
    kept_fits b.n b.dim b.params.degree b.vectors (build_out b).closed a.entries a.degree (build_keeps_rows b e).1
