-- What f32's own operations do with two whole values, beyond 2 ^ 24 too: they compare as the numbers do, and their sum and quotient are the numbers' sum and
-- quotient, rounded once. The only file here that opens the operations. Assumes nothing.
use Rattle.std.specs.Prelude.{◌≡◌, refl, Bool, true, false, ℕ, ◌+◌, ◌*◌, ◌<◌, T, ltb, eqb, ℤ, Float}
use Rattle.std.proofs.Common.{sym, ap, ◌∙◌, subst, true≢false, mul-one, mul_comm, mul_assoc, add-mul, mul-pos, zero-lt-suc, zero-mul, lt_irrefl, mul-lt-mul_of_pos_right, lt_of_mul-lt-mul_right, ltb→lt, lt→ltb, eqb→eq}
use Rattle.std.proofs.Math.Bool.{and-true}
use Rattle.std.proofs.Math.Nat.{eq_of_mul-eq-mul_right}
use Rattle.std.specs.Float.{fin, inf, nan, binary32}
use Rattle.std.specs.Float.Ieee.{up, down, round, of_int, lt, eq, add, div}
use Rattle.std.specs.Float.Ieee.Fits.{down_pos, eq→eqb}
use Rattle.std.specs.Float.Ieee.Exact.{HasValue}
use Rattle.std.specs.Float.Ieee.Scale.{round_same}
use Rattle.definition.specs.Metric.{whole}

-- ---- two tests that pass together are equal
same : (x y : Bool) → (T x → T y) → (T y → T x) → x ≡ y
same true true f g = refl
same true false f g = absurd (f tt)
same false true f g = absurd (g tt)
same false false f g = refl

-- ---- tests on two numbers, each scaled by one factor
scale_lt : (a b d : ℕ) → 0 < d → ltb (a * d) (b * d) ≡ ltb a b
scale_lt a b d h = same (ltb (a * d) (b * d)) (ltb a b)
    (λ t. lt→ltb a b (lt_of_mul-lt-mul_right d (ltb→lt (a * d) (b * d) t)))
    (λ t. lt→ltb (a * d) (b * d) (mul-lt-mul_of_pos_right (ltb→lt a b t) h))

scale_eq : (a b d : ℕ) → 0 < d → eqb (a * d) (b * d) ≡ eqb a b
scale_eq a b d h = same (eqb (a * d) (b * d)) (eqb a b)
    (λ t. eq→eqb (eq_of_mul-eq-mul_right d h a b (eqb→eq (a * d) (b * d) t)))
    (λ t. eq→eqb (ap (λ (x : ℕ). x * d) (eqb→eq a b t)))

-- ---- m * up e * down d over one denominator, down e * down d
over : (m : ℕ) (e d : ℤ) (a : ℕ) → m * up e * 1 ≡ a * down e → m * up e * down d ≡ a * (down e * down d)
over m e d a h = ap (λ (x : ℕ). x * down d) (sym (mul-one (m * up e)) ∙ h) ∙ mul_assoc a (down e) (down d)

other : (n : ℕ) (e d : ℤ) (b : ℕ) → n * up d * 1 ≡ b * down d → n * up d * down e ≡ b * (down e * down d)
other n e d b h = over n d e b h ∙ ap (λ (x : ℕ). b * x) (mul_comm (down d) (down e))

-- a value above zero has an m that is not 0
nonzero : (n : ℕ) (d : ℤ) (b : ℕ) → n * up d * 1 ≡ b * down d → 0 < b → eqb n 0 ≡ false
nonzero n d b h k = same (eqb n 0) false (λ t. lt_irrefl 0 (subst (λ (x : ℕ). 0 < x) (none t) (mul-pos k (down_pos d)))) (λ t. absurd t)
  where
    none : T (eqb n 0) → b * down d ≡ 0
    none t = sym h ∙ ap (λ (z : ℕ). z * up d * 1) (eqb→eq n 0 t) ∙ ap (λ (z : ℕ). z * 1) (zero-mul (up d))

-- ---- the operations
pub lt_values : (x y : Float) (a b : ℕ) → HasValue x false a 1 → HasValue y false b 1 → lt x y ≡ ltb a b
unfolding lt
lt_values (fin true m e) y a b p q = absurd (true≢false p.0)
lt_values (fin false m e) (fin true n d) a b p q = absurd (true≢false q.0)
lt_values nan y a b p q = elim p [ ]
lt_values (inf _) y a b p q = elim p [ ]
lt_values (fin false m e) nan a b p q = elim q [ ]
lt_values (fin false m e) (inf _) a b p q = elim q [ ]
lt_values (fin false m e) (fin false n d) a b p q =
    rw (over m e d a p.1, other n e d b q.1) (scale_lt a b (down e * down d) (mul-pos (down_pos e) (down_pos d)))

pub eq_values : (x y : Float) (a b : ℕ) → HasValue x false a 1 → HasValue y false b 1 → eq x y ≡ eqb a b
unfolding eq
eq_values (fin true m e) y a b p q = absurd (true≢false p.0)
eq_values (fin false m e) (fin true n d) a b p q = absurd (true≢false q.0)
eq_values nan y a b p q = elim p [ ]
eq_values (inf _) y a b p q = elim p [ ]
eq_values (fin false m e) nan a b p q = elim q [ ]
eq_values (fin false m e) (inf _) a b p q = elim q [ ]
eq_values (fin false m e) (fin false n d) a b p q =
    rw (over m e d a p.1, other n e d b q.1, and-true) (scale_eq a b (down e * down d) (mul-pos (down_pos e) (down_pos d)))

pub add_values : (x y : Float) (a b : ℕ) → HasValue x false a 1 → HasValue y false b 1 → add binary32 x y ≡ whole (a + b)
unfolding add whole of_int
add_values (fin true m e) y a b p q = absurd (true≢false p.0)
add_values (fin false m e) (fin true n d) a b p q = absurd (true≢false q.0)
add_values nan y a b p q = elim p [ ]
add_values (inf _) y a b p q = elim p [ ]
add_values (fin false m e) nan a b p q = elim q [ ]
add_values (fin false m e) (inf _) a b p q = elim q [ ]
add_values (fin false m e) (fin false n d) a b p q =
    round_same binary32 false (m * up e * down d + n * up d * down e) (down e * down d) (a + b) 1 (mul-pos (down_pos e) (down_pos d)) (zero-lt-suc 0)
    (rw (over m e d a p.1, other n e d b q.1, mul-one, add-mul))

pub div_values : (x y : Float) (a b : ℕ) → HasValue x false a 1 → HasValue y false b 1 → 0 < b → div binary32 x y ≡ round binary32 false a b
unfolding div
div_values (fin true m e) y a b p q h = absurd (true≢false p.0)
div_values (fin false m e) (fin true n d) a b p q h = absurd (true≢false q.0)
div_values nan y a b p q h = elim p [ ]
div_values (inf _) y a b p q h = elim p [ ]
div_values (fin false m e) nan a b p q h = elim q [ ]
div_values (fin false m e) (inf _) a b p q h = elim q [ ]
div_values (fin false m e) (fin false n d) a b p q h =
    rw (nonzero n d b q.1 h)
    (round_same binary32 false (m * up e * down d) (n * up d * down e) a b
    (subst (λ (x : ℕ). 0 < x) (sym (other n e d b q.1)) (mul-pos h (mul-pos (down_pos e) (down_pos d)))) h
    (rw (over m e d a p.1, other n e d b q.1) (mul_assoc a (down e * down d) b ∙ ap (λ (z : ℕ). a * z) (mul_comm (down e * down d) b))))
