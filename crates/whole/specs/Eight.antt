-- The medoid's score: up to eight distances added as f32, one after the other. While the sum is at most 2 ^ 24 it is exact, and it is always a whole number
-- within 21 of the exact sum. Over any whole distance. Assumes nothing.
use Rattle.std.specs.Prelude.{◌≡◌, refl, ℕ, zero, suc, ◌+◌, ◌*◌, ◌^◌, ◌≤◌, ◌<◌, length, Float}
use Rattle.std.proofs.Common.{sym, ◌∙◌, zero-add, arith, lit<, lit≤}
use Rattle.std.proofs.Math.Path.{ap, subst}
use mathlib.Core.List.{List, [], ◌∷◌}
use Rattle.std.proofs.Math.Nat.{add-zero, add_assoc, add-suc, suc-add, mul-suc}
use Rattle.std.specs.Float.Ieee.{binary32, add}
use Rattle.definition.specs.Metric.{whole}
use Rattle.definition.specs.Medoid.{score_from, score}
use Rattle.whole.specs.Whole.{limit, farthest, exact, nought-whole}
use Rattle.whole.specs.Sums.{add_exact, Within, add_near}

-- the exact sum of an entry's distances to the pivots, in whole numbers
unfoldable pub exact_score : (ℕ → ℕ → ℕ) → List ℕ → ℕ → ℕ
exact_score pair [] i = 0
exact_score pair (p ∷ ps) i = pair i p + exact_score pair ps i

-- how far off a sum of j distances may be
off : ℕ → ℕ
off zero = 0
off (suc zero) = 0
off (suc (suc zero)) = 1
off (suc (suc (suc zero))) = 3
off (suc (suc (suc (suc zero)))) = 5
off (suc (suc (suc (suc (suc j))))) = 9 + 4 * j

-- of at most eight no more than of eight
off_eight : (j : ℕ) → j ≤ 8 → off j ≤ off 8
unfolding off
off_eight zero l = lit≤ tt
off_eight (suc zero) l = lit≤ tt
off_eight (suc (suc zero)) l = lit≤ tt
off_eight (suc (suc (suc zero))) l = lit≤ tt
off_eight (suc (suc (suc (suc zero)))) l = lit≤ tt
off_eight (suc (suc (suc (suc (suc j))))) l = omega arith

off_le : (j : ℕ) → j ≤ 8 → off j ≤ 21
unfolding off
off_le j l = off_eight j l

-- the step from j to j + 1 distances: below 2 ^ (24 + e), and h more
record Step (j : ℕ) : Type 0 where
  e : ℕ
  h : ℕ
  room : farthest * j + off j + farthest < 2 ^ (24 + e)
  few : e ≤ 103
  half : 2 ^ e ≤ 2 * h + 1
  sum : off j + h ≡ off (suc j)

module _ (pair : ℕ → ℕ → ℕ) (i : ℕ) where
  sum_exact : (n : ℕ) (ps : List ℕ) → n + exact_score pair ps i ≤ 2 ^ 24 → score_from (pair i) (whole n) ps ≡ whole (n + exact_score pair ps i)
  unfolding score_from exact_score
  sum_exact n [] h = ap whole (sym (add-zero n))
  sum_exact n (p ∷ ps) h =
      let e = add_assoc n (pair i p) (exact_score pair ps i) in
      ap (λ (z : Float). score_from (pair i) z ps) (add_exact n (pair i p) (omega arith) (omega arith)) ∙ sum_exact (n + pair i p) ps (omega arith) ∙ ap whole e

  -- x is the sum of the j distances before these
  sum_within : ((j : ℕ) → j < 8 → Step j) → ((p : ℕ) → pair i p ≤ farthest)
      → (j n : ℕ) (x : Float) (ps : List ℕ) → j + length ps ≤ 8 → n ≤ farthest * j → Within n (off j) x
      → Within (n + exact_score pair ps i) (off (j + length ps)) (score_from (pair i) x ps)
  unfolding score_from exact_score
  sum_within step b j n x [] l m w = rw (add-zero n, add-zero j) w
  sum_within step b j n x (p ∷ ps) l m w =
      let d = pair i p in
      let q = b p in
      let s = step j (omega arith) in
      let t = add_near n (off j) x d s.e s.h w (omega arith) (omega (arith, s.room)) s.few s.half in
      let u : Within (n + d) (off (suc j)) (add binary32 x (whole d)) = subst (λ (z : ℕ). Within (n + d) z (add binary32 x (whole d))) s.sum t in
      rw (← add_assoc n d (exact_score pair ps i), add-suc j (length ps), ← suc-add j (length ps))
      (sum_within step b (suc j) (n + d) (add binary32 x (whole d)) ps (omega arith) (omega (arith, mul-suc farthest j)) u)

-- exact while at most 2 ^ 24, as with eight pivots and 32 samples
pub score_exact : (pair : ℕ → ℕ → ℕ) (pivots : List ℕ) (i : ℕ) → exact_score pair pivots i ≤ limit → score pair pivots i ≡ whole (exact_score pair pivots i)
unfolding score
score_exact pair pivots i h =
    let z = zero-add (exact_score pair pivots i) in
    ap (λ (x : Float). score_from (pair i) x pivots) nought-whole ∙ sum_exact pair i 0 pivots (omega arith) ∙ ap whole z

pub score_within : (pair : ℕ → ℕ → ℕ) (pivots : List ℕ) (i : ℕ) → ((p : ℕ) → pair i p ≤ farthest) → length pivots ≤ 8
    → Within (exact_score pair pivots i) 21 (score pair pivots i)
unfolding off score
score_within pair pivots i b few =
    let w : Within 0 0 (whole 0) = record { to = 0; is = refl; value = exact 0 (lit≤ tt); above = lit≤ tt; below = lit≤ tt } in
    let g = sum_within pair i step b 0 0 (whole 0) pivots (omega arith) (lit≤ tt) w in
    let z : 0 + exact_score pair pivots i ≡ exact_score pair pivots i = zero-add (exact_score pair pivots i) in
    let a : g.to ≤ 0 + exact_score pair pivots i + off (0 + length pivots) = g.above in
    let c : 0 + exact_score pair pivots i ≤ g.to + off (0 + length pivots) = g.below in
    let k : off (0 + length pivots) ≤ off 8 = off_eight (0 + length pivots) (omega arith) in
    subst (λ (x : Float). Within (exact_score pair pivots i) 21 (score_from (pair i) x pivots)) (sym nought-whole)
    (record { to = g.to; is = g.is; value = g.value; above = omega arith; below = omega arith })
  where
    step : (j : ℕ) → j < 8 → Step j
    step zero l = record { e = 0; h = 0; room = lit< tt; few = lit≤ tt; half = lit≤ tt; sum = refl }
    step (suc zero) l = record { e = 1; h = 1; room = lit< tt; few = lit≤ tt; half = lit≤ tt; sum = refl }
    step (suc (suc zero)) l = record { e = 2; h = 2; room = lit< tt; few = lit≤ tt; half = lit≤ tt; sum = refl }
    step (suc (suc (suc zero))) l = record { e = 2; h = 2; room = lit< tt; few = lit≤ tt; half = lit≤ tt; sum = refl }
    step (suc (suc (suc (suc zero)))) l = record { e = 3; h = 4; room = lit< tt; few = lit≤ tt; half = lit≤ tt; sum = refl }
    step (suc (suc (suc (suc (suc j))))) l = record { e = 3; h = 4; room = omega arith; few = lit≤ tt; half = lit≤ tt; sum = omega arith }
