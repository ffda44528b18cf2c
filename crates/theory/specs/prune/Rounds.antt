-- "After a round: stop if current is at least target." Pruning's rounds end: for every alpha that 5 admits the ninth round at the latest has current at least
-- target, so that the definition's fuel never runs out, and its rounds are 000's loop.
use Prim.Native.Nat.{ℕ, zero, suc, ◌+◌, ◌-◌, ◌*◌, ◌%◌, ◌^◌, ◌≤◌, ◌<◌}
use Rattle.std.proofs.Common.{le_refl, le_trans, le_of_eq, lt_of_lt_of_le, not-le_of_lt, mul-one, one-mul, zero-mul, mul_assoc, mul-lt-mul_of_pos_right, sym, ap₂, ◌∙◌, subst, true≢false, ltb-false, lt-ltb, le-ltb, ltb→lt, leb→le, eqb→eq, lit<, pow_pos, pow-add, pow_mono, shl_lt}
use native.Mathlib.Omega.{arith}
use Rattle.std.specs.Prelude.{◌≡◌, Bool, true, false, ◌&&◌, T, ltb, leb, eqb, ℤ, pos, negsuc, Float}
use Rattle.std.proofs.Math.Path.{refl, ap}
use Rattle.std.proofs.Math.Bool.{cond}
use Rattle.std.proofs.lemmas.Bool.{false≢true}
use mathlib.Core.List.{List, ◌++◌}
use Rattle.std.proofs.Math.ListN.{length}
use Rattle.std.specs.Float.{nan, inf, fin, binary32}
use Rattle.std.specs.Float.Ieee.{up, down, lt, mul, of_bits, fits, round}
use Rattle.std.specs.Float.Ieee.Digits.{back}
use Rattle.std.specs.Float.Ieee.Exact.{HasValue, round_exact}
use Rattle.std.specs.Float.Ieee.Fits.{down_pos, and_l, and_r}
use Rattle.std.proofs.Math.Pow.{pow-lt}
use Rattle.definition.specs.Beam.{Item}
use Rattle.definition.specs.Floats.{one, one_point_two, four, times, smaller, larger, above}
use Rattle.definition.specs.Prune.{target_of, increment, next_alpha, round as one-round, rounds, most_rounds}
use Rattle.laws.specs.Truth.{branch, decide, not_both}

-- `current` of the round after k rounds
unfoldable pub current_after : Float → ℕ → Float
current_after target zero = one
current_after target (suc k) = next_alpha target (current_after target k)

-- the last round that pruning with this target makes
pub record Ends (target : Float) : Type 0 where
  pub last : ℕ
  pub soon : last < most_rounds
  pub reached : above target (current_after target last) ≡ false

-- there is one
abbrev Reached : Float → Type 0
Reached target = (k : ℕ) × (k < most_rounds) × (above target (current_after target k) ≡ false)

-- a finite value is not below itself
irrefl : (m : ℕ) (e : ℤ) → lt (fin false m e) (fin false m e) ≡ false
unfolding lt
irrefl m e = le-ltb (m * up e * down e) (m * up e * down e) (le_refl (m * up e * down e))

-- current has reached t
reached : (m : ℕ) (e : ℤ) (k : ℕ) → k < most_rounds → current_after (fin false m e) k ≡ fin false m e → Reached (fin false m e)
unfolding above
reached m e k h q = (k, h, ap (λ (x : Float). lt x (fin false m e)) q ∙ irrefl m e)

-- C times 1.2, l times
chained : ℕ → Float → Float
chained zero C = C
chained (suc l) C = chained l (times C one_point_two)

-- with a target above 1.2, current becomes the smaller of the next of the chain and the target
next_is : (t C : Float) (j : ℕ) → lt one_point_two t ≡ true → current_after t j ≡ C
    → current_after t (suc j) ≡ cond (lt t (times C one_point_two)) t (times C one_point_two)
unfolding current_after next_alpha increment smaller
next_is t C j b q =
    ap₂ (λ (x y : Float). cond (lt t (times x y)) t (times x y)) q (ap (λ (c : Bool). cond c one_point_two t) b)

-- where current becomes the smaller of D and the target, the target is reached or D goes on
passes : (m : ℕ) (e : ℤ) (j : ℕ) (D : Float) → current_after (fin false m e) (suc j) ≡ cond (lt (fin false m e) D) (fin false m e) D → suc j < most_rounds
    → (current_after (fin false m e) (suc j) ≡ D → lt (fin false m e) D ≡ false → Reached (fin false m e)) → Reached (fin false m e)
passes m e j D q h on =
    decide (lt (fin false m e) D) (λ p. reached m e (suc j) h (q ∙ ap (λ (c : Bool). cond c (fin false m e) D) p))
    (λ p. on (q ∙ ap (λ (c : Bool). cond c (fin false m e) D) p) p)

chain : (m : ℕ) (e : ℤ) → lt one_point_two (fin false m e) ≡ true → (l j : ℕ) (C : Float) → current_after (fin false m e) j ≡ C
    → lt (fin false m e) (chained (suc l) C) ≡ true → j + suc l < most_rounds → Reached (fin false m e)
unfolding chained
chain m e b zero j C q h bound = passes m e j (times C one_point_two) (next_is (fin false m e) C j b q) (omega arith) (λ r p. absurd (not_both p h))
chain m e b (suc l) j C q h bound =
    passes m e j (times C one_point_two) (next_is (fin false m e) C j b q) (omega arith) (λ r p. chain m e b l (suc j) (times C one_point_two) r h (omega arith))

-- 1.2 eight times over is above 4.0
past-four : (m : ℕ) (e : ℤ) → lt four (fin false m e) ≡ false → lt (fin false m e) (chained 8 one) ≡ true
unfolding chained lt four one one_point_two times mul of_bits
past-four m e h = lt-ltb (m * up e * 524288) (2254343 * down e) (omega (arith, ltb-false (4 * down e) (m * up e * 1) h, mul-one (m * up e), down_pos e))

-- ---- a target of at most 1.2 is its own increment, and is reached after one round: 1.0 times it is exact

exact_at : (m k : ℕ) → m < 2 ^ 24 → m * 2 ^ k < 2 ^ 128 → HasValue (round binary32 false (m * 2 ^ k) 1) false (m * 2 ^ k) 1
exact_at m k s h =
    let eq : m * 2 ^ (k + 149) ≡ m * 2 ^ k * 2 ^ 149 = ap (λ (x : ℕ). m * x) (pow-add 2 k 149) ∙ sym (mul_assoc m (2 ^ k) (2 ^ 149)) in
    round_exact binary32 false (m * 2 ^ k) 1 m (k + 149) (lit< tt) s
    (subst (λ (x : ℕ). x < 2 ^ 277) (sym eq) (mul-lt-mul_of_pos_right h (pow_pos 149))) (sym eq ∙ sym (mul-one (m * 2 ^ (k + 149))))

exact_below : (m k : ℕ) → m < 2 ^ 24 → 2 ^ suc k ≤ 2 ^ 149 → HasValue (round binary32 false (m * 1) (2 ^ suc k)) false (m * 1) (2 ^ suc k)
exact_below m k s h =
    let no_more : ¬ (149 < suc k) = λ l. not-le_of_lt (pow-lt l) h in
    let le : suc k ≤ 149 = omega arith in
    let eq : 2 ^ 149 ≡ 2 ^ (149 - suc k) * 2 ^ suc k = ap (λ (x : ℕ). 2 ^ x) (sym (back 149 (suc k) le)) ∙ pow-add 2 (149 - suc k) (suc k) in
    let room : 24 + (149 - suc k) ≤ 277 = omega arith in
    round_exact binary32 false (m * 1) (2 ^ suc k) m (149 - suc k) (pow_pos (suc k)) s
    (lt_of_lt_of_le (shl_lt 24 (149 - suc k) s) (pow_mono room))
    (ap (λ (x : ℕ). x * 2 ^ 149) (mul-one m) ∙ ap (λ (x : ℕ). m * x) eq ∙ sym (mul_assoc m (2 ^ (149 - suc k)) (2 ^ suc k)))

fits_exact : (m : ℕ) (e : ℤ) → T (fits binary32 (fin false m e)) → HasValue (round binary32 false (m * up e) (down e)) false (m * up e) (down e)
unfolding fits
fits_exact zero (pos k) f = exact_at 0 k (lit< tt) (subst (λ (x : ℕ). x < 2 ^ 128) (sym (zero-mul (2 ^ k))) (lit< tt))
fits_exact zero (negsuc k) f = exact_below 0 k (lit< tt) (le_trans (le_of_eq (sym (one-mul (2 ^ suc k)) ∙ eqb→eq (1 * 2 ^ suc k) 1 f)) (pow_pos 149))
fits_exact (suc m) e f =
    let a = eqb (suc m % 2) 1 in
    let b = ltb (suc m) (2 ^ 24) in
    let c = leb (down e) (2 ^ 149) in
    let d = ltb (suc m * up e) (2 ^ 128 * down e) in
    at e (ltb→lt (suc m) (2 ^ 24) (and_r a b (and_l (a && b) c (and_l (a && b && c) d f))))
    (leb→le (down e) (2 ^ 149) (and_r (a && b) c (and_l (a && b && c) d f)))
    (ltb→lt (suc m * up e) (2 ^ 128 * down e) (and_r (a && b && c) d f))
  where
    at : (e : ℤ) → suc m < 2 ^ 24 → down e ≤ 2 ^ 149 → suc m * up e < 2 ^ 128 * down e
        → HasValue (round binary32 false (suc m * up e) (down e)) false (suc m * up e) (down e)
    at (pos k) s lo hi = exact_at (suc m) k s hi
    at (negsuc k) s lo hi = exact_below (suc m) k s lo

-- a value is not below another of the same size
not_below : (x : Float) (m : ℕ) (e : ℤ) → HasValue x false (m * up e) (down e) → lt x (fin false m e) ≡ false
unfolding lt
not_below nan m e v = absurd v
not_below (inf s) m e v = absurd v
not_below (fin true n d) m e v = absurd (true≢false v.0)
not_below (fin false n d) m e v = le-ltb (n * up d * down e) (m * up e * down d) (le_of_eq (sym v.1))

times-one : (m : ℕ) (e : ℤ) → T (fits binary32 (fin false m e)) → HasValue (times one (fin false m e)) false (m * up e) (down e)
unfolding one times mul of_bits
times-one m e f =
    subst (λ (x : Float). HasValue x false (m * up e) (down e))
    (sym (ap₂ (λ (x y : ℕ). round binary32 false x y) (one-mul (m * up e)) (one-mul (down e)))) (fits_exact m e f)

after_one : (t : Float) → lt one_point_two t ≡ false → current_after t 1 ≡ cond (lt t (times one t)) t (times one t)
unfolding current_after next_alpha increment smaller
after_one t b = ap (λ (c : Bool). cond (lt t (times one (cond c one_point_two t))) t (times one (cond c one_point_two t))) b

nine : (k : ℕ) → k < 9 → k < most_rounds
unfolding most_rounds
nine k h = h

small : (m : ℕ) (e : ℤ) → T (fits binary32 (fin false m e)) → lt one_point_two (fin false m e) ≡ false → Reached (fin false m e)
unfolding above
small m e f b =
    passes m e 0 (times one (fin false m e)) (after_one (fin false m e) b) (nine 1 (lit< tt))
    (λ r p. (1, nine 1 (lit< tt), ap (λ (x : Float). lt x (fin false m e)) r ∙ not_below (times one (fin false m e)) m e (times-one m e f)))

-- ---- together

first : (t : Float) → current_after t 0 ≡ one
unfolding current_after
first t = refl

above-one : (t : Float) → T (fits binary32 t) → lt four t ≡ false → lt one t ≡ true → Reached t
unfolding lt one four one_point_two of_bits
above-one nan f h b = absurd (false≢true b)
above-one (inf true) f h b = absurd (false≢true b)
above-one (inf false) f h b = absurd (true≢false h)
above-one (fin true m e) f h b = absurd (false≢true b)
above-one (fin false m e) f h b =
    decide (lt one_point_two (fin false m e)) (λ p. chain m e p 7 0 one (first (fin false m e)) (past-four m e h) (nine 8 (lit< tt))) (λ p. small m e f p)

at_one : Reached one
unfolding above current_after one lt of_bits
at_one = (0, nine 0 (lit< tt), refl)

-- fits: every f32 does
reaches : (alpha : Float) → T (fits binary32 alpha) → above alpha four ≡ false → Reached (target_of alpha)
unfolding target_of larger above
reaches alpha f h = branch Reached (lt one alpha) (λ p. above-one alpha f h p) (λ p. at_one)

pub rounds_end : (alpha : Float) → T (fits binary32 alpha) → above alpha four ≡ false → Ends (target_of alpha)
rounds_end alpha f h = let e = reaches alpha f h in record { last = e.0; soon = e.1; reached = e.2 }

-- ---- so more fuel changes nothing

module _ (pair : ℕ → ℕ → ℕ) (target : Float) where
  stops_at : (k j fuel room : ℕ) (cs : List Item) (fs : List Float) → k < fuel → above target (current_after target (j + k)) ≡ false
      → rounds pair target fuel (current_after target j) room cs fs ≡ rounds pair target (suc k) (current_after target j) room cs fs
  unfolding rounds current_after
  stops_at k j zero room cs fs h e = absurd (omega arith)
  stops_at zero j (suc fuel) room cs fs h e = let q : j + 0 ≡ j = omega arith in rw (subst (λ (i : ℕ). above target (current_after target i) ≡ false) q e) refl
  stops_at (suc k) j (suc fuel) room cs fs h e =
      let r = one-round pair target (current_after target j) room cs fs in
      let q : j + suc k ≡ suc j + k = omega arith in
      ap (λ (l : List ℕ). cond (above target (current_after target j)) (r.took ++ l) r.took)
      (stops_at k (suc j) fuel (room - length r.took) cs r.factors (omega arith) (subst (λ (i : ℕ). above target (current_after target i) ≡ false) q e))

pub rounds-enough : (pair : ℕ → ℕ → ℕ) (alpha : Float) → T (fits binary32 alpha) → above alpha four ≡ false
    → (fuel room : ℕ) (cs : List Item) (fs : List Float) → most_rounds ≤ fuel
    → rounds pair (target_of alpha) fuel one room cs fs ≡ rounds pair (target_of alpha) most_rounds one room cs fs
unfolding current_after
rounds-enough pair alpha f h fuel room cs fs enough =
    let e = reaches alpha f h in
    let l = e.1 in
    let z : e.0 ≡ 0 + e.0 = omega arith in
    let stop : above (target_of alpha) (current_after (target_of alpha) (0 + e.0)) ≡ false =
    subst (λ (k : ℕ). above (target_of alpha) (current_after (target_of alpha) k) ≡ false) z e.2 in
    stops_at pair (target_of alpha) e.0 0 fuel room cs fs (omega arith) stop ∙ sym
    (stops_at pair (target_of alpha) e.0 0 most_rounds room cs fs l stop)
