-- A check that is passed is never the number returned: for each call and check, the test of that check alone.
use Rattle.std.specs.Prelude.{ℕ, ◌≤◌, ◌<◌, ◌≡◌, refl, ◌≢◌, List, Bool, true, false, ◌||◌, eqb, length}
use Rattle.std.proofs.Common.{arith, sym, ◌∙◌, ne_eqb, lit≤, lit<}
use Rattle.std.proofs.lemmas.Bool.{eqb-false}
use Rattle.definition.specs.declared.Candidate.{Candidate}
use Rattle.definition.specs.Slack.{slack}
use Rattle.definition.specs.Refusals.{BatchCall, OpenCall, CloseCall, BuildCall, MedoidCall, SearchCall, batch_number, open_number, close_number, build_number}
use Rattle.definition.specs.Refusals.{medoid_number, search_number, search_number_at, search_short, records_number}
use Rattle.definition.specs.Refusals.{◌when◌else◌, bad_vectors, bad_degree, bad_seeds, bad_length, bad_table, bad_searched, bad_order, bad_pivots}
use Rattle.accepted.specs.Chain.{past}

-- m is not the number k of this check, nor what the later ones say
beside : (k m : ℕ) (b : Bool) (r : ℕ) → eqb k m ≡ false → r ≢ m → (k when b else r) ≢ m
unfolding ◌when◌else◌
beside k m true r n h = eqb-false k m n
beside k m false r n h = h

-- the check is passed
clear : (k m : ℕ) (b : Bool) (r : ℕ) → b ≡ false → r ≢ m → (k when b else r) ≢ m
clear k m b r p h e = h (sym (past k b r p) ∙ e)

done : (m : ℕ) → eqb 0 m ≡ false → 0 ≢ m
done m n = eqb-false 0 m n

-- the first six checks of batch and build
six : (m : ℕ) → 6 < m → (a b c d e f : Bool) (r : ℕ) → r ≢ m → (1 when a else 2 when b else 3 when c else 4 when d else 5 when e else 6 when f else r) ≢ m
six m h a b c d e f r n =
    let no : (k : ℕ) → k ≤ 6 → eqb k m ≡ false = λ k l. ne_eqb k m (λ q. omega arith) in
    beside 1 m _ _ (no 1 (lit≤ tt))
    (beside 2 m _ _ (no 2 (lit≤ tt))
    (beside 3 m _ _ (no 3 (lit≤ tt)) (beside 4 m _ _ (no 4 (lit≤ tt)) (beside 5 m _ _ (no 5 (lit≤ tt)) (beside 6 m _ _ (no 6 (lit≤ tt)) n)))))

pub batch_not_7 : (c : BatchCall) → bad_seeds c.n c.params.extra c.start (length c.nodes) c.seeds ≡ false → batch_number c ≢ 7
unfolding batch_number
batch_not_7 c p = six 7 (lit< tt) _ _ _ _ _ _ _ (clear 7 7 _ _ p (beside 8 7 _ _ refl (beside 9 7 _ _ refl (beside 10 7 _ _ refl (done 7 refl)))))

pub batch_not_8 : (c : BatchCall) → bad_table c.n (slack c.params.degree) c.wide ≡ false → batch_number c ≢ 8
unfolding batch_number
batch_not_8 c p = six 8 (lit< tt) _ _ _ _ _ _ _ (beside 7 8 _ _ refl (clear 8 8 _ _ p (beside 9 8 _ _ refl (beside 10 8 _ _ refl (done 8 refl)))))

pub open_not_8 : (c : OpenCall) → (bad_table c.n c.degree c.opening || bad_length c.n (slack c.degree) c.wide) ≡ false → open_number c ≢ 8
unfolding open_number
open_not_8 c p = beside 2 8 _ _ refl (beside 3 8 _ _ refl (clear 8 8 _ _ p (done 8 refl)))

pub close_not_8 : (c : CloseCall) → (bad_table c.n (slack c.params.degree) c.wide || bad_length c.n c.params.degree c.closed) ≡ false
    → close_number c ≢ 8
unfolding close_number
close_not_8 c p =
    beside 1 8 _ _ refl (beside 2 8 _ _ refl (beside 3 8 _ _ refl (beside 5 8 _ _ refl (clear 8 8 _ _ p (beside 10 8 _ _ refl (done 8 refl))))))

pub build_not_7 : (c : BuildCall) → bad_seeds c.n c.params.extra c.start c.n c.seeds ≡ false → build_number c ≢ 7
unfolding build_number
build_not_7 c p = six 7 (lit< tt) _ _ _ _ _ _ _ (clear 7 7 _ _ p (beside 8 7 _ _ refl (beside 9 7 _ _ refl (beside 10 7 _ _ refl (done 7 refl)))))

pub build_not_8 : (c : BuildCall)
    → (bad_table c.n c.params.degree c.opening
    || (bad_length c.n (slack c.params.degree) c.wide || bad_length c.n c.params.degree c.closed)) ≡ false
    → build_number c ≢ 8
unfolding build_number
build_not_8 c p = six 8 (lit< tt) _ _ _ _ _ _ _ (beside 7 8 _ _ refl (clear 8 8 _ _ p (beside 9 8 _ _ refl (beside 10 8 _ _ refl (done 8 refl)))))

pub build_not_9 : (c : BuildCall) → bad_order c.n c.order ≡ false → build_number c ≢ 9
unfolding build_number
build_not_9 c p = six 9 (lit< tt) _ _ _ _ _ _ _ (beside 7 9 _ _ refl (beside 8 9 _ _ refl (clear 9 9 _ _ p (beside 10 9 _ _ refl (done 9 refl)))))

pub medoid_not_12 : (c : MedoidCall) → bad_pivots c.n c.pivots ≡ false → medoid_number c ≢ 12
unfolding medoid_number
medoid_not_12 c p = beside 1 12 _ _ refl (beside 2 12 _ _ refl (clear 12 12 _ _ p (done 12 refl)))

-- m is none of the later numbers of a search
later : (m : ℕ) → m < 4 → (d e f g h : Bool) → 0 ≢ m → (4 when d else 6 when e else 8 when f else 10 when g else 11 when h else 0) ≢ m
later m l d e f g h z =
    let no : (k : ℕ) → 4 ≤ k → eqb k m ≡ false = λ k q. ne_eqb k m (λ r. omega arith) in
    beside 4 m _ _ (no 4 (lit≤ tt))
    (beside 6 m _ _ (no 6 (lit≤ tt)) (beside 8 m _ _ (no 8 (lit≤ tt)) (beside 10 m _ _ (no 10 (lit≤ tt)) (beside 11 m _ _ (no 11 (lit≤ tt)) z))))

number_not_2 : (tooShort : Bool) (c : SearchCall) → bad_vectors c.n c.dim c.vectors ≡ false → search_number_at tooShort c ≢ 2
unfolding search_number_at
number_not_2 tooShort c p = beside 1 2 _ _ refl (clear 2 2 _ _ p (beside 3 2 _ _ refl (later 2 (lit< tt) _ _ _ _ _ (done 2 refl))))

number_not_3 : (tooShort : Bool) (c : SearchCall) → bad_degree c.degree ≡ false → search_number_at tooShort c ≢ 3
unfolding search_number_at
number_not_3 tooShort c p = beside 1 3 _ _ refl (beside 2 3 _ _ refl (clear 3 3 _ _ p (later 3 (lit< tt) _ _ _ _ _ (done 3 refl))))

number_not_8 : (tooShort : Bool) (c : SearchCall) → bad_searched c.n c.degree c.table ≡ false → search_number_at tooShort c ≢ 8
unfolding search_number_at
number_not_8 tooShort c p =
    beside 1 8 _ _ refl (beside 2 8 _ _ refl
    (beside 3 8 _ _ refl (beside 4 8 _ _ refl (beside 6 8 _ _ refl (clear 8 8 _ _ p (beside 10 8 _ _ refl (beside 11 8 _ _ refl (done 8 refl))))))))

-- with a run of records too
pub search_not_2 : (c : SearchCall) → bad_vectors c.n c.dim c.vectors ≡ false
    → (search_number c ≢ 2) × ((records : List Candidate) → records_number c records ≢ 2)
unfolding search_number records_number
search_not_2 c p = (number_not_2 (search_short c) c p, λ records. number_not_2 _ c p)

pub search_not_3 : (c : SearchCall) → bad_degree c.degree ≡ false
    → (search_number c ≢ 3) × ((records : List Candidate) → records_number c records ≢ 3)
unfolding search_number records_number
search_not_3 c p = (number_not_3 (search_short c) c p, λ records. number_not_3 _ c p)

pub search_not_8 : (c : SearchCall) → bad_searched c.n c.degree c.table ≡ false
    → (search_number c ≢ 8) × ((records : List Candidate) → records_number c records ≢ 8)
unfolding search_number records_number
search_not_8 c p = (number_not_8 (search_short c) c p, λ records. number_not_8 _ c p)
