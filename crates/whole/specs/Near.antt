-- A whole number beyond 2 ^ 24 as an f32: another whole number, that is within half a step of it. Below 2 ^ (24 + e) a step is at most 2 ^ e. Assumes nothing.
use Rattle.std.specs.Prelude.{◌≡◌, not, T, Float}
use Rattle.std.proofs.Math.Path.{sym, ap, subst}
use Rattle.std.proofs.Common.{◌∙◌, le_of_eq, not-le_of_lt, mul-one, one-mul, mul_assoc, mul_right_comm, add-mul, mul-pos, mul-le-mul_right, le_of_mul-le-mul_right, zero-lt-suc, div-add-mod', mod-lt, suc-mul, zero-mul, arith, leb→le, eqb→eq, pow-add, pow_pos}
use Rattle.std.proofs.Math.Bool.{false}
use Prim.Native.Nat.{ℕ, zero, suc, ◌+◌, ◌-◌, ◌*◌, ◌/◌, ◌%◌, ◌^◌, ◌≤◌, ◌<◌, compare, Ordering}
use Rattle.std.proofs.Math.Nat.{le_trans, mul_comm, eq_of_mul-eq-mul_right, div-one, pow-succ'}
use Rattle.std.proofs.Math.Decide.{dec_le}
use Rattle.std.proofs.Math.Dec.{is_le, compare_is_eq, nleb→lt}
use Rattle.std.proofs.Math.Pow.{pow_mono, shl_lt}
use Rattle.std.specs.Float.{fin, nan, inf, Format, binary32}
use Rattle.std.specs.Float.Ieee.{prec, emax, low, up, down, size, nearest, round, of_int}
use Rattle.std.specs.Float.Ieee.Digits.{size-lt, size-le}
use Rattle.std.specs.Float.Ieee.Exact.{HasValue}
use Rattle.std.specs.Float.Ieee.Fits.{eq→eqb}
use Rattle.std.specs.Float.Ieee.Nearest.{closest}
use Rattle.std.specs.Float.Ieee.Order.{kept, drop}
use Rattle.std.specs.Float.Ieee.Scale.{overflow, round_val}
use Rattle.std.specs.Float.Ieee.Back.{round_whole}
use Rattle.definition.specs.Metric.{whole}

-- x is the whole number `to`, and twice the distance of `to` from n is at most d
pub record Near (n d : ℕ) (x : Float) : Type 0 where
  pub to : ℕ
  pub value : HasValue x false to 1
  pub above : 2 * to ≤ 2 * n + d
  pub below : 2 * n ≤ 2 * to + d

-- g is within half a step of a
abbrev Close : (g a step : ℕ) → Type 0
Close g a step = (2 * g ≤ 2 * a + step) × (2 * a ≤ 2 * g + step)

-- ---- a / b to the nearest whole number is within a half of it
half_lt : (q b r a : ℕ) → q * b + r ≡ a → r * 2 < b → Close (q * b) a b
half_lt q b r a e h = (omega arith, omega arith)

half_gt : (q b r a : ℕ) → q * b + r ≡ a → r < b → b < r * 2 → Close (suc q * b) a b
half_gt q b r a e l h = let k = suc-mul q b in (omega arith, omega arith)

half_eq : (q t b r a : ℕ) → q * b + r ≡ a → t ≤ 1 → r * 2 ≡ b → Close ((q + t) * b) a b
half_eq q zero b r a e l h = let k = add-mul q zero b in let z = zero-mul b in (omega arith, omega arith)
half_eq q (suc t) b r a e l h =
    let k = add-mul q (suc t) b in
    let s : suc t ≡ 1 = omega arith in
    let o : suc t * b ≡ b = ap (λ (x : ℕ). x * b) s ∙ one-mul b in
    (omega arith, omega arith)

parity : (q : ℕ) → q % 2 ≤ 1
parity q = omega arith

closest_near : (a b : ℕ) → 0 < b → Close (closest a b * b) a b
closest_near a b h =
    go (compare (a % b * 2) b) (leb→le (a % b * 2) b) (nleb→lt (a % b * 2) b) (eqb→eq (a % b * 2) b) eq→eqb
  where
    go : (o : Ordering) → (T (is_le o) → a % b * 2 ≤ b) → (T (not (is_le o)) → b < a % b * 2) → (T (compare_is_eq o) → a % b * 2 ≡ b) → (a % b * 2 ≡ b → T (compare_is_eq o))
        → Close (nearest (a / b) o * b) a b
    go Ordering.lt l g e n = let k : a % b * 2 ≡ b → ⊥ = n in let m : a % b * 2 ≤ b = l tt in half_lt (a / b) b (a % b) a (div-add-mod' a b) (omega arith)
    go Ordering.eq l g e n = half_eq (a / b) (a / b % 2) b (a % b) a (div-add-mod' a b) (parity (a / b)) (e tt)
    go Ordering.gt l g e n = half_gt (a / b) b (a % b) a (div-add-mod' a b) (mod-lt a h) (g tt)

-- ---- how many digits `round` drops of n * 2 ^ l, for an n with more than p digits and at most p + e
lower : (p l m z : ℕ) → 2 ^ (p + l) ≤ m → m < 2 ^ z → p + l < z
lower p l m z h k = elim (dec_le z (p + l)) [
  | yes g ↦ absurd (not-le_of_lt k (le_trans (pow_mono g) h))
  | no g ↦ let q : z ≤ p + l → ⊥ = g in omega arith
]

module _ (f : Format) (n e : ℕ) (small : n < 2 ^ (prec f + e)) (large : 2 ^ prec f ≤ n) where
  N : ℕ
  N = n * 2 ^ low f

  k : ℕ
  unfolding N
  k = drop (prec f) N 1

  at_least : low f ≤ k
  unfolding N k
  at_least =
      let s : n * 2 ^ low f / 1 ≡ n * 2 ^ low f = div-one (n * 2 ^ low f) in
      let h : 2 ^ (prec f + low f) ≤ n * 2 ^ low f = le_trans (le_of_eq (pow-add 2 (prec f) (low f))) (mul-le-mul_right (2 ^ low f) large) in
      let z = lower (prec f) (low f) (n * 2 ^ low f) (size (n * 2 ^ low f)) h (size-lt (n * 2 ^ low f)) in
      rw s (omega arith)

  at_most : k ≤ low f + e
  unfolding N k
  at_most =
      let s : n * 2 ^ low f / 1 ≡ n * 2 ^ low f = div-one (n * 2 ^ low f) in
      let z = size-le (n * 2 ^ low f) (prec f + e + low f) (shl_lt (prec f + e) (low f) small) in
      rw s (omega arith)

-- ---- from units of 1 / L to whole numbers
cancel : (x : Float) (a L : ℕ) → 0 < L → HasValue x false (a * L) L → HasValue x false a 1
cancel nan a L p v = v
cancel (inf t) a L p v = v
cancel (fin t m e) a L p v = (
  v.0,
  eq_of_mul-eq-mul_right L p (m * up e * 1) (a * down e) (ap (λ (z : ℕ). z * L) (mul-one (m * up e)) ∙ v.1 ∙ mul_right_comm a L (down e)),
)

scaled : (x : Float) (G L E n t : ℕ) → 0 < L → G ≡ t * L → HasValue x false G L → 2 * G ≤ 2 * (n * L) + E * L → 2 * (n * L) ≤ 2 * G + E * L → Near n E x
scaled x G L E n t p g v a b =
    let u : 2 * t * L ≡ 2 * (t * L) = mul_assoc 2 t L in
    let w : 2 * n * L ≡ 2 * (n * L) = mul_assoc 2 n L in
    let y : (2 * n + E) * L ≡ 2 * n * L + E * L = add-mul (2 * n) E L in
    let z : (2 * t + E) * L ≡ 2 * t * L + E * L = add-mul (2 * t) E L in
    let h : 2 * t * L ≤ (2 * n + E) * L = omega arith in
    let i : 2 * n * L ≤ (2 * t + E) * L = omega arith in
    record {
      to = t;
      value = cancel x t L p (subst (λ (s : ℕ). HasValue x false s L) g v);
      above = le_of_mul-le-mul_right h p;
      below = le_of_mul-le-mul_right i p;
    }

-- the same with the rounding's own numbers: N = n * L in units, K a step, q steps
stepped : (x : Float) (q K L E n t : ℕ) → 0 < L → q * K ≡ t * L → K ≤ E * L → HasValue x false (q * K) L → Close (q * K) (n * L) K → Near n E x
stepped x q K L E n t p g s v h = let a = h.0 in let b = h.1 in scaled x (q * K) L E n t p g v (omega arith) (omega arith)

under : (G N K A B : ℕ) → 2 * G ≤ 2 * N + K → N < A → K ≤ A → 2 * A ≤ B → G < B
under G N K A B a b c d = omega arith

split_pow : (k l : ℕ) → l ≤ k → 2 ^ k ≡ 2 ^ (k - l) * 2 ^ l
split_pow k l h = let e : k ≡ (k - l) + l = omega arith in ap (λ (x : ℕ). 2 ^ x) e ∙ pow-add 2 (k - l) l

module _ (f : Format) (n e : ℕ) (small : n < 2 ^ (prec f + e)) (large : 2 ^ prec f ≤ n) (room : prec f + e ≤ emax f) where
  far : Near n (2 ^ e) (round f false n 1)
  unfolding N k
  far =
      let l = low f in
      let d = drop (prec f) (n * 2 ^ l) 1 in
      let lo : l ≤ d = at_least f n e small large in
      let hi : d ≤ l + e = at_most f n e small large in
      let q = kept (prec f) (n * 2 ^ l) 1 in
      let near : Close (q * 2 ^ d) (n * 2 ^ l) (2 ^ d) =
      subst (λ (u : ℕ). Close (q * u) (n * 2 ^ l) u) (one-mul (2 ^ d)) (closest_near (n * 2 ^ l) (1 * 2 ^ d) (mul-pos (zero-lt-suc 0) (pow_pos d))) in
      let step : 2 ^ d ≤ 2 ^ e * 2 ^ l = le_trans (pow_mono hi) (le_of_eq (pow-add 2 l e ∙ mul_comm (2 ^ l) (2 ^ e))) in
      let all : q * 2 ^ d ≡ q * 2 ^ (d - l) * 2 ^ l = ap (λ (x : ℕ). q * x) (split_pow d l lo) ∙ sym (mul_assoc q (2 ^ (d - l)) (2 ^ l)) in
      let top : n * 2 ^ l < 2 ^ (prec f + e + l) = shl_lt (prec f + e) l small in
      let mid : 2 ^ d ≤ 2 ^ (prec f + e + l) = pow_mono (omega arith) in
      let twice : 2 * 2 ^ (prec f + e + l) ≤ overflow f = le_trans (le_of_eq (sym (pow-succ' 2 (prec f + e + l)))) (pow_mono (omega arith)) in
      let low : q * 2 ^ d < overflow f = under (q * 2 ^ d) (n * 2 ^ l) (2 ^ d) (2 ^ (prec f + e + l)) (overflow f) near.0 top mid twice in
      stepped (round f false n 1) q (2 ^ d) (2 ^ l) (2 ^ e) n (q * 2 ^ (d - l)) (pow_pos l) all step (round_val f n 1 low) near

-- ---- any whole number below 2 ^ (prec + e)
pub round_near : (f : Format) (n e : ℕ) → n < 2 ^ (prec f + e) → prec f + e ≤ emax f → Near n (2 ^ e) (round f false n 1)
round_near f n e small room = elim (dec_le (2 ^ prec f) n) [
  | yes g ↦ far f n e small g room
  | no g ↦ let h : 2 ^ prec f ≤ n → ⊥ = g in record { to = n; value = round_whole f false n (omega arith); above = omega arith; below = omega arith }
]

pub whole_near : (n e : ℕ) → n < 2 ^ (24 + e) → e ≤ 103 → Near n (2 ^ e) (whole n)
unfolding whole of_int
whole_near n e small room = round_near binary32 n e small (omega arith)
