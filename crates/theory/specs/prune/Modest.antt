-- Pruning's floats: for an alpha that 5 admits, target and every `current` are finite, at or above 0, at most 4;
-- so each is below f32::MAX, which marks what was taken.
use Prim.Native.Nat.{ℕ, suc, ◌+◌, ◌-◌, ◌*◌, ◌/◌, ◌%◌, ◌^◌, ◌≤◌, ◌<◌, compare}
use Rattle.std.proofs.Common.{le_trans, le_of_eq, mul-one, mul_right_comm, mul-le-mul_right, le_of_mul-le-mul_right, lt_of_lt_of_le, arith, sym, ap, ◌∙◌, subst, true≢false, ltb-false, lt-ltb, lit≤}
use Rattle.std.specs.Prelude.{◌≡◌, refl, true, false, cond, ltb, ℤ, pos, negsuc, Float}
use Rattle.std.proofs.lemmas.Bool.{false≢true}
use Rattle.std.specs.Float.{nan, inf, fin, Format, binary32}
use Rattle.std.specs.Float.Ieee.{prec, emax, low, up, down, lt, mul, size, nearest, round, units, odd, of_bits}
use Rattle.std.specs.Float.Ieee.Exact.{HasValue, odd_sign}
use Rattle.std.specs.Float.Ieee.Fits.{down_pos}
use Rattle.definition.specs.Floats.{one, one_point_two, four, largest, larger, smaller, times, above}
use Rattle.definition.specs.Prune.{target_of, increment, next_alpha}
use Rattle.laws.specs.Truth.{either, branch}

pub record Modest (x : Float) : Type 0 where
  pub m : ℕ
  pub e : ℤ
  pub is : x ≡ fin false m e
  pub most : m * up e ≤ 4 * down e

-- so it is below f32::MAX
pub modest_below : (x : Float) → Modest x → lt x largest ≡ true
unfolding lt largest of_bits
modest_below x p =
    let d : 0 < down p.e = down_pos p.e in
    let h : p.m * up p.e ≤ 4 * down p.e = p.most in
    let k : p.m * up p.e < 5 * down p.e = omega arith in
    let l : 5 * down p.e ≤ 16777215 * 2 ^ 104 * down p.e = mul-le-mul_right (down p.e) (lit≤ tt) in
    ap (λ (y : Float). lt y largest) p.is
    ∙ lt-ltb (p.m * up p.e * 1) (16777215 * 2 ^ 104 * down p.e)
    (lt_of_lt_of_le (subst (λ (z : ℕ). z < 5 * down p.e) (sym (mul-one (p.m * up p.e))) k) l)

-- ---- what a rounded product may be

data Shape : Float → Type 0 where
  infinite : Shape (inf false)
  finite : (m : ℕ) (e : ℤ) → Shape (fin false m e)

of-value : (x : Float) (a c : ℕ) → HasValue x false a c → Shape x
of-value nan a c v = absurd v
of-value (inf s) a c v = absurd v
of-value (fin true m e) a c v = absurd (true≢false v.0)
of-value (fin false m e) a c v = finite m e

of_units : (f : Format) (q k : ℕ) → Shape (units f false q k)
unfolding units
of_units f q k =
    either (λ (x : Float). Shape x) (ltb (q * 2 ^ k) (2 ^ (low f + suc (emax f))))
    (of-value (odd (suc (prec f)) false q k (low f)) (q * 2 ^ k) (2 ^ low f) (odd_sign (suc (prec f)) false q k (low f))) infinite

of-round : (f : Format) (a b : ℕ) → Shape (round f false a b)
unfolding round
of-round f a b =
    let n = a * 2 ^ low f in
    let k = size (n / b) - prec f in
    let u = b * 2 ^ k in
    of_units f (nearest (n / u) (compare (n % u * 2) u)) k

of-product : (x y : Float) → Modest x → Modest y → Shape (times x y)
unfolding times mul
of-product x y p q =
    subst (λ (z : Float). Shape (times z y)) (sym p.is) (subst (λ (z : Float). Shape (times (fin false p.m p.e) z)) (sym q.is)
    (of-round binary32 (p.m * up p.e * (q.m * up q.e)) (down p.e * down q.e)))

-- ---- at most something modest is modest

cross : (a b da db : ℕ) → 0 < db → a * db ≤ b * da → b ≤ 4 * db → a ≤ 4 * da
cross a b da db p h k =
    le_of_mul-le-mul_right (le_trans h (le_trans (mul-le-mul_right da k) (le_of_eq (mul_right_comm 4 db da)))) p

under : (t x : Float) → Modest t → Shape x → lt t x ≡ false → Modest x
unfolding lt
under t x p infinite h = absurd (true≢false (sym (ap (λ (y : Float). lt y (inf false)) p.is) ∙ h))
under t x p (finite m e) h =
    record {
      m = m;
      e = e;
      is = refl;
      most = cross (m * up e) (p.m * up p.e) (down e) (down p.e) (down_pos p.e)
          (ltb-false (p.m * up p.e * down e) (m * up e * down p.e) (sym (ap (λ (y : Float). lt y (fin false m e)) p.is) ∙ h)) p.most;
    }

-- ---- target and current

pub one_modest : Modest one
unfolding one of_bits
one_modest = record { m = 1; e = pos 0; is = refl; most = lit≤ tt }

point_two_modest : Modest one_point_two
unfolding one_point_two of_bits
point_two_modest = record { m = 5033165; e = negsuc 21; is = refl; most = lit≤ tt }

four_modest : Modest four
unfolding four of_bits
four_modest = record { m = 1; e = pos 2; is = refl; most = lit≤ tt }

-- a value above one is finite or infinite, and of sign +
above-one : (x : Float) → lt one x ≡ true → Shape x
unfolding lt one of_bits
above-one nan h = absurd (false≢true h)
above-one (inf true) h = absurd (false≢true h)
above-one (inf false) h = infinite
above-one (fin true m e) h = absurd (false≢true h)
above-one (fin false m e) h = finite m e

pub target_modest : (alpha : Float) → above alpha four ≡ false → Modest (target_of alpha)
unfolding target_of larger above
target_modest alpha h = branch Modest (lt one alpha) (λ e. under four alpha four_modest (above-one alpha e) h) (λ e. one_modest)

pub next_modest : (target current : Float) → Modest target → Modest current → Modest (next_alpha target current)
unfolding next_alpha increment smaller
next_modest target current p q =
    branch Modest (lt target y) (λ e. p) (λ e. under target y p (of-product current inc q (either Modest (lt one_point_two target) point_two_modest p)) e)
  where
    inc : Float
    inc = cond (lt one_point_two target) one_point_two target

    y : Float
    y = times current inc
