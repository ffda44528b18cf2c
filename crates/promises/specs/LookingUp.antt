-- `lookup`, which 01 does not have: a search that reads each word of its table that is no entry as padding. Its number; what a refusal leaves; that it is
-- `search` wherever that does not say 8; that of a row it reads nothing but the entries that the row names; and demand 3, second sentence, over what a caller
-- holds after a lookup that was not refused.
use Rattle.std.specs.Prelude.{ℕ, ◌<◌, max, min, ◌≡◌, refl, ◌≢◌, Bool, true, false, not, cond, ltb, eqb, length, take, Float}
use Rattle.std.proofs.Common.{arith, sym, ap, ◌∙◌, ltb-true, eq-eqb, ne_eqb}
use Rattle.std.proofs.Math.Bool.{or-true}
use mathlib.Core.List.{List, [], ◌∷◌}
use Rattle.definition.specs.Lists.{keep, once_only}
use Rattle.definition.specs.Tables.{pad, row, ids, search_rule, cleaned}
use Rattle.definition.specs.Refusals.{SearchCall, search_number, search_number_at, search_short, ◌when◌else◌, bad_dim, bad_vectors, bad_degree, bad_beam, bad_start}
use Rattle.definition.specs.Refusals.{bad_length, bad_searched}
use Rattle.definition.specs.Outcome.{answer, search_answer, refused, SearchOut, search_out, search_kept, search_done, cleaned_call, lookup_out, LookupMeets}
use Rattle.laws.specs.Truth.{decide}
use Rattle.laws.specs.Cleaned.{length-cleaned, row-cleaned}
use Rattle.theory.specs.search.Tells.{SearchTells, Excludes}
use Rattle.accepted.specs.Outcomes.{by_refusal, said_number}
use Rattle.accepted.specs.Checks.{cleaned-searched, count_low, length-passes}
use Rattle.accepted.specs.Search.{search_accepted, cleaned-call}
use Rattle.promises.specs.Outcomes.{lookup_is}
use Rattle.promises.specs.Searching.{rows_of, distance_to, last_distance}
use Rattle.promises.specs.Held.{Held}
use Rattle.promises.specs.Harmless.{with_table, search_reads}

-- ---- its number: that of a search, with 8 for the length of its table alone

unfoldable pub lookup_number : SearchCall → ℕ
lookup_number c =
    1 when bad_dim c.dim else
    2 when bad_vectors c.n c.dim c.vectors else
    3 when bad_degree c.degree else
    4 when bad_beam c.beam else
    6 when bad_start c.n c.start else
    8 when bad_length c.n c.degree c.table else
    10 when search_short c else
    11 when not (eqb (length c.query) c.dim) else
    0

pub lookup_number_lem : (c : SearchCall) → search_number (cleaned_call c) ≡ lookup_number c
unfolding search_number search_number_at search_short cleaned_call lookup_number
lookup_number_lem c = rw (cleaned-searched c.n c.degree c.table) refl

-- as the number of the search that it is, over the table as cleaned
pub said : (c : SearchCall) (o : SearchOut) → LookupMeets c o → o.answer.number ≡ search_number (cleaned_call c)
unfolding lookup_out search_out search_kept search_done refused answer search_answer
said c o m =
    let d = cleaned_call c in
    ap (λ (p : SearchOut). p.answer.number) (lookup_is m)
    ∙ said_number (search_kept d) (search_done d) (λ (p : SearchOut). p.answer.number) (search_number d) refl refl

pub lookup_says : (c : SearchCall) (o : SearchOut) → LookupMeets c o → o.answer.number ≡ lookup_number c
unfolding search_number search_number_at search_short cleaned_call lookup_number
lookup_says c o m =
    let same : search_number (cleaned_call c) ≡ lookup_number c = rw (cleaned-searched c.n c.degree c.table) refl in
    said c o m ∙ same

-- ---- "and everything lent is then exactly as before the call"

-- what a refusal with this number leaves
abbrev pub kept_by : SearchCall → ℕ → SearchOut
kept_by c number = record { answer = refused number; words = c.words; floats = c.floats; ids = c.ids; dists = c.dists }

kept_out : (c : SearchCall) → search_number (cleaned_call c) ≢ 0 → lookup_out c ≡ kept_by c (search_number (cleaned_call c))
unfolding lookup_out search_out search_kept cleaned_call
kept_out c some =
    let d = cleaned_call c in
    by_refusal (search_kept d) (search_done d) (search_number d) some

pub lookup_refused : (c : SearchCall) (o : SearchOut) → LookupMeets c o → o.answer.number ≢ 0 → o ≡ kept_by c o.answer.number
lookup_refused c o m some =
    let says = said c o m in
    lookup_is m ∙ kept_out c (λ z. some (says ∙ z)) ∙ ap (kept_by c) (sym says)

-- ---- lookup beside search

-- on a table that keeps the search rule: the whole outcome, refusals included
pub lookup_is_search : (c : SearchCall) → search_rule c.n c.table ≡ true → lookup_out c ≡ search_out c
unfolding lookup_out
lookup_is_search c rule = ap search_out (cleaned-call c rule)

-- where check 8 holds and is not the number returned, an earlier one is, whatever the later ones say
earlier : (a b c d e f : Bool) (x y : ℕ) → (1 when a else 2 when b else 3 when c else 4 when d else 6 when e else 8 when true else x) ≢ 8
    → ((1 when a else 2 when b else 3 when c else 4 when d else 6 when e else 8 when true else x)
    ≡ (1 when a else 2 when b else 3 when c else 4 when d else 6 when e else 8 when f else y))
    × ((1 when a else 2 when b else 3 when c else 4 when d else 6 when e else 8 when true else x) ≢ 0)
unfolding ◌when◌else◌
earlier true b c d e f x y h = (refl, λ z. omega arith)
earlier false true c d e f x y h = (refl, λ z. omega arith)
earlier false false true d e f x y h = (refl, λ z. omega arith)
earlier false false false true e f x y h = (refl, λ z. omega arith)
earlier false false false false true f x y h = (refl, λ z. omega arith)
earlier false false false false false f x y h = absurd (h refl)

stray_bad : (n degree : ℕ) (table : List ℕ) → search_rule n table ≡ false → bad_searched n degree table ≡ true
unfolding bad_searched
stray_bad n degree table stray = rw stray (or-true (bad_length n degree table))

stray_earlier : (c : SearchCall) → search_rule c.n c.table ≡ false → search_number c ≢ 8
    → (search_number c ≡ search_number (cleaned_call c)) × (search_number c ≢ 0)
unfolding search_number search_number_at cleaned_call
stray_earlier c stray h =
    let bad = stray_bad c.n c.degree c.table stray in
    rw bad (earlier _ _ _ _ _ (bad_searched c.n c.degree (cleaned c.n c.table)) _ _ (rw bad at h))

-- on any table: where search does not say 8
pub lookup_unless_8 : (c : SearchCall) → search_number c ≢ 8 → lookup_out c ≡ search_out c
unfolding lookup_out search_out search_kept
lookup_unless_8 c h =
    decide (search_rule c.n c.table) (λ rule. ap search_out (cleaned-call c rule))
    (λ stray. let s = stray_earlier c stray h in
    kept_out c (λ z. s.1 (s.0 ∙ z)) ∙ ap (kept_by c) (sym s.0) ∙ sym (by_refusal (search_kept c) (search_done c) (search_number c) s.1))

-- ---- what is read of a row: the entries that it names, in their order

abbrev pub named_by : SearchCall → ℕ → List ℕ
named_by c i = keep (λ w. ltb w c.n) (row c.degree c.table i)

ids-cleaned : (n : ℕ) (words : List ℕ) → n < pad → ids (cleaned n words) ≡ keep (λ w. ltb w n) words
unfolding ids cleaned keep
ids-cleaned n [] low = refl
ids-cleaned n (w ∷ ws) low = go (ltb w n) refl (ids-cleaned n ws low)
  where
    rest : List ℕ
    rest = ids (cleaned n ws)

    go : (b : Bool) → ltb w n ≡ b → rest ≡ keep (λ u. ltb u n) ws
        → cond (not (eqb (cond b w pad) pad)) (cond b w pad ∷ rest) rest ≡ cond b (w ∷ keep (λ u. ltb u n) ws) (keep (λ u. ltb u n) ws)
    go true e again =
        let below = ltb-true w n e in
        ap (λ (t : Bool). cond (not t) (w ∷ rest) rest) (ne_eqb w pad (λ q. omega arith)) ∙ ap (λ (l : List ℕ). w ∷ l) again
    go false e again = ap (λ (t : Bool). cond (not t) (pad ∷ rest) rest) (eq-eqb pad pad refl) ∙ again

pub named-ids : (c : SearchCall) → c.n < pad → (i : ℕ) → ids (rows_of (cleaned_call c) i) ≡ named_by c i
unfolding cleaned_call
named-ids c low i = ap ids (row-cleaned c.n c.degree c.table i) ∙ ids-cleaned c.n (row c.degree c.table i) low

-- so a lookup that is not refused leaves what it leaves with any table of that length whose rows name the same entries: what else stands in them, padding or a
-- stray word, and where, is all one
pub lookup_reads : (c : SearchCall) (table : List ℕ) → length table ≡ length c.table
    → ((i : ℕ) → i < c.n → named_by c i ≡ named_by (with_table table c) i)
    → lookup_number c ≡ 0
    → lookup_out c ≡ lookup_out (with_table table c)
unfolding lookup_out search_number search_number_at search_short cleaned_call lookup_number
lookup_reads c table size alike z =
    let same : search_number (cleaned_call c) ≡ lookup_number c = rw (cleaned-searched c.n c.degree c.table) refl in
    let passed = same ∙ z in
    let a = search_accepted (cleaned_call c) passed in
    let low = count_low a.nodes in
    search_reads (cleaned_call c) (cleaned c.n table)
    (record {
      passes = cleaned-searched c.n c.degree table
          ∙ length-passes c.n c.degree table (size ∙ sym (length-cleaned c.n c.table) ∙ a.table_is);
      alike = λ i h.
          ap (once_only (i ∷ [])) (named-ids c low i ∙ alike i h ∙ sym (named-ids (with_table table c) low i));
    }) passed

-- ---- demand 3, second sentence, over what a caller holds

-- `count` answers stand at the front of `ids` and `dists`. Of them holds all that Held says of a search, over the table as cleaned; and over the rows of the
-- lent table, in which a word that is no entry counts for nothing, they tell and exclude what demand 3 says
pub record LookupHeld (c : SearchCall) (count : ℕ) (ids : List ℕ) (dists : List Float) : Type 0 where
  pub held : Held (cleaned_call c) count ids dists
  pub tells : SearchTells (named_by c) (distance_to c) c.start (min c.k (max c.beam 1)) (take count ids) (last_distance (cleaned_call c))
  pub excludes : Excludes (named_by c) (distance_to c) c.start (take count ids) (last_distance (cleaned_call c))
