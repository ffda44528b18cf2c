-- An f32 that holds a whole number: `whole n` of the definition. Up to 2 ^ 24 its value is n, and n is had back by `count`. Assumes nothing.
use Rattle.std.specs.Prelude.{◌≡◌, refl, Bool, ◌&&◌, ℕ, zero, suc, ◌+◌, ◌*◌, ◌%◌, ◌^◌, ◌≤◌, ◌<◌, T, eqb, ltb, leb, ℤ, pos, negsuc, Float}
use Rattle.std.proofs.Common.{sym, ap, ◌∙◌, subst, le_refl, lt_of_le_of_lt, mul_assoc, mul-one, zero-mul, mul-le-mul, mul-lt-mul_of_pos_right, arith, ltb→lt, lit<, pow-add, pow_pos}
use Rattle.std.proofs.Math.Bool.{false}
use Rattle.std.proofs.Math.Decide.{dec_le}
use Rattle.std.proofs.Math.Dec.{le→leb}
use Rattle.std.specs.Float.{fin, inf, nan}
use Rattle.std.specs.Float.Ieee.{binary32, up, down, of_int, of_bits, fits, in_float, in_unsigned, to_unsigned}
use Rattle.std.specs.Float.Ieee.Fits.{of_int-fits, down_pos, and_l, and_r}
use Rattle.std.specs.Float.Ieee.Exact.{HasValue, round_exact}
use Rattle.std.specs.Float.Ieee.Back.{round_whole, unsigned_back, whole_unique}
use Rattle.definition.specs.Metric.{whole}
use Rattle.definition.specs.Floats.{nought}

-- 2 ^ 24: up to here no whole number is missing from f32
abbrev pub limit : ℕ
limit = 16777216

-- the largest distance: 256 samples, each 255 apart
abbrev pub farthest : ℕ
farthest = 16646400

-- the number that a whole f32 is
abbrev pub count : Float → ℕ
count x = to_unsigned 32 x

-- x is a whole number from 0 to 2 ^ 24
pub record IsWhole (x : Float) : Type 0 where
  pub is : x ≡ whole (count x)
  pub small : count x ≤ limit

-- ---- a number up to 2 ^ 24, and its f32. What the other files here say of `limit` rests on this
module _ (n : ℕ) (h : n ≤ 2 ^ 24) where
  pub exact : HasValue (whole n) false n 1
  unfolding whole of_int
  exact = round_whole binary32 false n h

  cast_exact : T (in_float binary32 (pos n))
  unfolding in_float
  cast_exact = le→leb n (2 ^ 24) h

  count_exact : count (whole n) ≡ n
  unfolding whole
  count_exact = (unsigned_back binary32 32 n cast_exact (lt_of_le_of_lt h (lit< tt))).1

  in_unsigned_lem : T (in_unsigned binary32 32 (whole n))
  unfolding whole
  in_unsigned_lem = (unsigned_back binary32 32 n cast_exact (lt_of_le_of_lt h (lit< tt))).0

module _ (n : ℕ) (h : n ≤ limit) where
  pub value : HasValue (whole n) false n 1
  value = exact n h

  -- what the cast `n as f32` asks
  pub in_float_lem : T (in_float binary32 (pos n))
  in_float_lem = cast_exact n h

  pub count_whole : count (whole n) ≡ n
  count_whole = count_exact n h

  pub is_whole : IsWhole (whole n)
  is_whole = record { is = ap whole (sym (count_exact n h)); small = subst (λ (x : ℕ). x ≤ limit) (sym (count_exact n h)) h }

-- what the cast back, `x as u32`, asks
pub count_in_unsigned : (x : Float) → IsWhole x → T (in_unsigned binary32 32 x)
count_in_unsigned x p = subst (λ (z : Float). T (in_unsigned binary32 32 z)) (sym p.is) (in_unsigned_lem (count x) p.small)

-- the literal 0.0 of code
pub zero_whole : whole 0 ≡ of_bits binary32 0
unfolding whole of_int of_bits
zero_whole = refl

pub nought-whole : nought ≡ whole 0
unfolding nought
nought-whole = sym zero_whole

-- ---- an f32 whose value is the whole number n is `whole n`, however large n is
scaled : (m k : ℕ) → m < 2 ^ 24 → m * 2 ^ k < 2 ^ 128 → HasValue (whole (m * 2 ^ k)) false (m * 2 ^ k) 1
unfolding whole of_int
scaled m k s h =
    let eq : m * 2 ^ (k + 149) ≡ m * 2 ^ k * 2 ^ 149 = ap (λ (x : ℕ). m * x) (pow-add 2 k 149) ∙ sym (mul_assoc m (2 ^ k) (2 ^ 149)) in
    round_exact binary32 false (m * 2 ^ k) 1 m (k + 149) (lit< tt) s
    (subst (λ (x : ℕ). x < 2 ^ 277) (sym eq) (mul-lt-mul_of_pos_right h (pow_pos 149))) (sym eq ∙ sym (mul-one (m * 2 ^ (k + 149))))

-- a part of a whole number is no larger
part_le : (n : ℕ) (e : ℤ) → n ≤ n * down e
part_le n e = let h : n * 1 ≤ n * down e = mul-le-mul (le_refl n) (down_pos e) in let o = mul-one n in omega arith

beyond : (s : Bool) (m : ℕ) (e : ℤ) (n : ℕ) → T (fits binary32 (fin s m e)) → m * up e * 1 ≡ n * down e → 2 ^ 24 < n → HasValue (whole n) false n 1
unfolding fits
beyond s zero e n f v l = absurd (let p = part_le n e in let z : zero * up e * 1 ≡ 0 = ap (λ (x : ℕ). x * 1) (zero-mul (up e)) in omega arith)
beyond s (suc m) e n f v l =
    let a = eqb (suc m % 2) 1 in
    let b = ltb (suc m) (2 ^ 24) in
    let c = leb (down e) (2 ^ 149) in
    let d = ltb (suc m * up e) (2 ^ 128 * down e) in
    let short = ltb→lt (suc m) (2 ^ 24) (and_r a b (and_l (a && b) c (and_l (a && b && c) d f))) in
    at e short (ltb→lt (suc m * up e) (2 ^ 128 * down e) (and_r (a && b && c) d f)) v
  where
    at : (e : ℤ) → suc m < 2 ^ 24 → suc m * up e < 2 ^ 128 * down e → suc m * up e * 1 ≡ n * down e → HasValue (whole n) false n 1
    at (pos k) s hi v = subst (λ (x : ℕ). HasValue (whole x) false x 1) (sym (mul-one (suc m * 2 ^ k)) ∙ v ∙ mul-one n) (scaled (suc m) k s hi)
    at (negsuc k) s hi v = absurd (let p = part_le n (negsuc k) in let o : suc m * 1 * 1 ≡ suc m = mul-one (suc m * 1) ∙ mul-one (suc m) in omega arith)

held : (x : Float) (n : ℕ) → T (fits binary32 x) → HasValue x false n 1 → HasValue (whole n) false n 1
held (fin s m e) n f v = elim (dec_le n (2 ^ 24)) [
  | yes h ↦ exact n h
  | no g ↦ let l : n ≤ 2 ^ 24 → ⊥ = g in beyond s m e n f v.1 (omega arith)
]
held nan n f v = elim v [ ]
held (inf _) n f v = elim v [ ]

pub unique : (x : Float) (n : ℕ) → T (fits binary32 x) → HasValue x false n 1 → x ≡ whole n
unfolding whole
unique x n f v = whole_unique binary32 x (whole n) false n f (of_int-fits binary32 (pos n)) v (held x n f v)
