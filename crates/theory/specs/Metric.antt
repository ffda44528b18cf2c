-- What every part above the metric may use of a distance: "at most 256 samples give at most 16,646,400, below 2^24, so each distance is an exact whole
-- number"; and it is symmetric, and 0 between equals. One record over any distance; the byte metric is one. Then the same of two entries, and of a query and
-- an entry.
use Rattle.std.specs.Prelude.{ℕ, zero, suc, ◌+◌, ◌-◌, ◌*◌, ◌≤◌, ◌<◌, min, ◌≡◌, refl, Bool, cond, ◌||◌, ◌⊎◌, List, [], ◌∷◌, eqb, length, get_or, take, drop}
use Rattle.std.proofs.Common.{zero-le, add_comm, mul-le-mul, arith, eq-eqb, ne_eqb, sym, ap, ap₂, ◌∙◌, inl, inr, ⊎_elim, length-take, length-drop, get_or-take, get_or-drop}
use Rattle.std.proofs.lemmas.Bool.{eqb-false}
use Rattle.std.proofs.Math.Bool.{or_comm}
use Rattle.definition.specs.Metric.{gap, saturated, squared, summed, metric, vector, from_query, between}
use Rattle.laws.specs.Truth.{branch, either_or, or_neither}
use Rattle.whole.specs.Whole.{farthest}

-- ---- bytes: each element is below 256, past the end too, where `get_or` gives 0. So the borrow checker says it of a slice of bytes

abbrev pub Bytes : List ℕ → Type 0
Bytes l = (k : ℕ) → get_or l k 0 < 256

pub bytes_drop : (n : ℕ) (l : List ℕ) → Bytes l → Bytes (drop n l)
bytes_drop n l b k = rw (get_or-drop n l k 0) (b (n + k))

pub bytes_take : (n : ℕ) (l : List ℕ) → Bytes l → Bytes (take n l)
bytes_take zero l b k = omega arith
bytes_take (suc n) [] b k = omega arith
bytes_take (suc n) (x ∷ xs) b zero = b 0
bytes_take (suc n) (x ∷ xs) b (suc k) = bytes_take n xs (λ j. b (suc j)) k

bytes_one : (x : ℕ) → x < 256 → Bytes (x ∷ [])
bytes_one x h zero = h
bytes_one x h (suc k) = omega arith

pub bytes-vector : (dim : ℕ) (vectors : List ℕ) (i : ℕ) → Bytes vectors → Bytes (vector dim vectors i)
unfolding vector
bytes-vector dim vectors i b = bytes_take dim (drop (i * dim) vectors) (bytes_drop (i * dim) vectors b)

-- ---- any distance

pub record GoodMetric (m : List ℕ → List ℕ → ℕ) : Type 0 where
  pub symmetric : (xs ys : List ℕ) → m xs ys ≡ m ys xs
  pub same : (xs : List ℕ) → m xs xs ≡ 0
  -- at most 255 x 255 for each sample
  pub most : (xs ys : List ℕ) → Bytes xs → Bytes ys → m xs ys ≤ 65025 * length xs

-- the farthest: 16,646,400
pub good_most : {m : List ℕ → List ℕ → ℕ} → GoodMetric m → (xs ys : List ℕ) → length xs ≤ 256 → Bytes xs → Bytes ys → m xs ys ≤ farthest
good_most g xs ys h p q = let k = g.most xs ys p q in omega arith

-- ---- the byte metric: what one sample adds

pub squared-saturated : (a b : ℕ) → (a ≡ 255) ⊎ (b ≡ 255) → squared a b ≡ 0
unfolding squared saturated
squared-saturated a b h =
    let some = either_or (eqb a 255) (eqb b 255) (⊎_elim (λ e. inl (eq-eqb a 255 e)) (λ e. inr (eq-eqb b 255 e)) h) in
    ap (λ (t : Bool). cond t 0 (gap a b * gap a b)) some

pub squared-clear : (a b : ℕ) → (a ≡ 255 → ⊥) → (b ≡ 255 → ⊥) → squared a b ≡ gap a b * gap a b
unfolding squared saturated
squared-clear a b p q = rw (ne_eqb a 255 p, ne_eqb b 255 q) refl

-- what 0 has, and the square of the gap of two that are not saturated
squared_cases : (P : ℕ → Type 0) (a b : ℕ) → P 0 → ((a ≡ 255 → ⊥) → (b ≡ 255 → ⊥) → P (gap a b * gap a b)) → P (squared a b)
unfolding squared saturated
squared_cases P a b z n =
    branch P (eqb a 255 || eqb b 255) (λ t. z)
    (λ t. let e = or_neither (eqb a 255) (eqb b 255) t in n (eqb-false a 255 e.0) (eqb-false b 255 e.1))

-- 255 adds nothing, so that no two samples that add something are more than 254 apart
square_most : (a b : ℕ) → a < 256 → b < 256 → squared a b ≤ 254 * 254
unfolding gap
square_most a b p q =
    squared_cases (λ (s : ℕ). s ≤ 254 * 254) a b zero-le (λ u v. let g : gap a b ≤ 254 = omega arith in mul-le-mul g g)

pub squared_most : (a b : ℕ) → a < 256 → b < 256 → squared a b ≤ 64516
squared_most a b p q = square_most a b p q

squared_sym : (a b : ℕ) → squared a b ≡ squared b a
unfolding squared gap
squared_sym a b =
    let e : (a - b) + (b - a) ≡ (b - a) + (a - b) = add_comm (a - b) (b - a) in
    ap₂ (λ (t : Bool) (s : ℕ). cond t 0 s) (or_comm (saturated a) (saturated b)) (ap (λ (x : ℕ). x * x) e)

squared-same : (a : ℕ) → squared a a ≡ 0
unfolding gap
squared-same a = squared_cases (λ (s : ℕ). s ≡ 0) a a refl (λ u v. let e : gap a a ≡ 0 = omega arith in ap (λ (x : ℕ). x * x) e)

-- ---- what all of them add

summed_sym : (xs ys : List ℕ) → summed squared xs ys ≡ summed squared ys xs
unfolding summed
summed_sym [] [] = refl
summed_sym [] (y ∷ ys) = refl
summed_sym (x ∷ xs) [] = refl
summed_sym (x ∷ xs) (y ∷ ys) = ap₂ (λ (a b : ℕ). a + b) (squared_sym x y) (summed_sym xs ys)

summed_same : (xs : List ℕ) → summed squared xs xs ≡ 0
unfolding summed
summed_same [] = refl
summed_same (x ∷ xs) = ap₂ (λ (a b : ℕ). a + b) (squared-same x) (summed_same xs)

-- the sharp bound: 254 x 254 for each sample
summed_most : (xs ys : List ℕ) → Bytes xs → Bytes ys → summed squared xs ys ≤ 64516 * length xs
unfolding summed
summed_most [] ys p q = zero-le
summed_most (x ∷ xs) [] p q = zero-le
summed_most (x ∷ xs) (y ∷ ys) p q =
    let a = square_most x y (p 0) (q 0) in
    let b = summed_most xs ys (λ k. p (suc k)) (λ k. q (suc k)) in
    omega arith

pub metric_most : (xs ys : List ℕ) → length xs ≤ 256 → Bytes xs → Bytes ys → metric xs ys ≤ 16516096
unfolding metric
metric_most xs ys h p q = let k = summed_most xs ys p q in omega arith

pub byte_metric : GoodMetric metric
unfolding metric
byte_metric = record { symmetric = summed_sym; same = summed_same; most = λ xs ys p q. let k = summed_most xs ys p q in omega arith }

-- 0 does not mean equal bytes: 0 and 255 lie at 0
pub metric_zero_unequal : ((xs ys : List ℕ) → Bytes xs → Bytes ys → length xs ≡ length ys → metric xs ys ≡ 0 → xs ≡ ys) → ⊥
unfolding metric summed squared saturated
metric_zero_unequal law =
    let e = law (0 ∷ []) (255 ∷ []) (bytes_one 0 (omega arith)) (bytes_one 255 (omega arith)) refl refl in
    let z = ap (λ (l : List ℕ). get_or l 0 0) e in
    absurd (omega arith)

-- what stands against a saturated sample does not matter
pub metric_silent : (xs ys zs : List ℕ) → length ys ≡ length zs → ((k : ℕ) → k < length ys → (get_or xs k 0 ≡ 255) ⊎ (get_or ys k 0 ≡ get_or zs k 0))
    → metric xs ys ≡ metric xs zs
unfolding metric summed
metric_silent [] ys zs l h = refl
metric_silent (x ∷ xs) [] [] l h = refl
metric_silent (x ∷ xs) [] (z ∷ zs) l h = absurd (omega arith)
metric_silent (x ∷ xs) (y ∷ ys) [] l h = absurd (omega arith)
metric_silent (x ∷ xs) (y ∷ ys) (z ∷ zs) l h =
    let first : squared x y ≡ squared x z =
    ⊎_elim (λ e. squared-saturated x y (inl e) ∙ sym (squared-saturated x z (inl e))) (λ e. ap (squared x) e) (h 0 (omega arith)) in
    ap₂ (λ (a b : ℕ). a + b) first (metric_silent xs ys zs (omega arith) (λ k m. h (suc k) (omega arith)))

-- ---- two entries

vector_long : (dim : ℕ) (vectors : List ℕ) (i : ℕ) → length (vector dim vectors i) ≡ min dim (length vectors - i * dim)
unfolding vector
vector_long dim vectors i = simp (length-take, length-drop) refl

vector_short : (dim : ℕ) (vectors : List ℕ) (i : ℕ) → length (vector dim vectors i) ≤ dim
vector_short dim vectors i = let l = vector_long dim vectors i in omega arith

vector-at : (dim : ℕ) (vectors : List ℕ) (i j : ℕ) → j < dim → get_or (vector dim vectors i) j 0 ≡ get_or vectors (i * dim + j) 0
unfolding vector
vector-at dim vectors i j h = get_or-take dim (drop (i * dim) vectors) j 0 h ∙ get_or-drop (i * dim) vectors j 0

-- the distance from entry i is that from a query that is its vector
pub between_from : (dim : ℕ) (vectors : List ℕ) (i j : ℕ) → between dim vectors i j ≡ from_query dim vectors (vector dim vectors i) j
unfolding between from_query
between_from dim vectors i j = refl

pub between_sym : (dim : ℕ) (vectors : List ℕ) (i j : ℕ) → between dim vectors i j ≡ between dim vectors j i
unfolding between
between_sym dim vectors i j = byte_metric.symmetric (vector dim vectors i) (vector dim vectors j)

pub between_most : (dim : ℕ) (vectors : List ℕ) → Bytes vectors → (i j : ℕ) → between dim vectors i j ≤ 65025 * dim
unfolding between
between_most dim vectors b i j =
    let k = byte_metric.most (vector dim vectors i) (vector dim vectors j) (bytes-vector dim vectors i b) (bytes-vector dim vectors j b) in
    let l = vector_short dim vectors i in
    omega arith

pub between-small : (dim : ℕ) (vectors : List ℕ) → dim ≤ 256 → Bytes vectors → (i j : ℕ) → between dim vectors i j ≤ farthest
between-small dim vectors h b i j = let k = between_most dim vectors b i j in omega arith

-- ---- a query and an entry

pub query_small : (dim : ℕ) (vectors query : List ℕ) → length query ≤ 256 → Bytes vectors → Bytes query → (i : ℕ) → from_query dim vectors query i ≤ farthest
unfolding from_query
query_small dim vectors query h b q i = good_most byte_metric query (vector dim vectors i) h q (bytes-vector dim vectors i b)

-- of an entry only what stands against a sample of the query that is not saturated matters
pub query_silent : (dim : ℕ) (vectors other query : List ℕ) → length vectors ≡ length other
    → ((i j : ℕ) → j < dim → (get_or query j 0 ≡ 255) ⊎ (get_or vectors (i * dim + j) 0 ≡ get_or other (i * dim + j) 0))
    → (i : ℕ) → from_query dim vectors query i ≡ from_query dim other query i
unfolding from_query
query_silent dim vectors other query l h i =
    metric_silent query (vector dim vectors i) (vector dim other i) (vector_long dim vectors i ∙ rw l (sym (vector_long dim other i)))
    (λ j m. let in-it : j < dim = omega (arith, vector_short dim vectors i) in
    rw (vector-at dim vectors i j in-it, vector-at dim other i j in-it) (h i j in-it))
