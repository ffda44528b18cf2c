-- Sums of whole numbers as f32: of two up to 2 ^ 24, and a running sum that may grow beyond. Assumes nothing.
use Rattle.std.specs.Prelude.{◌≡◌, false, ℕ, ◌+◌, ◌*◌, ◌^◌, ◌≤◌, ◌<◌, Float}
use Rattle.std.proofs.Common.{sym, subst, lt_of_le_of_lt, arith}
use Rattle.std.specs.Float.{binary32}
use Rattle.std.specs.Float.Ieee.{add, of_int}
use Rattle.std.specs.Float.Ieee.Fits.{add-fits}
use Rattle.std.specs.Float.Ieee.Exact.{HasValue}
use Rattle.definition.specs.Metric.{whole}
use Rattle.whole.specs.Whole.{limit, exact, unique}
use Rattle.whole.specs.Values.{add_values}
use Rattle.whole.specs.Near.{Near, round_near}

-- `whole` of the sum: exact where that is at most 2 ^ 24 (`value`), and rounded once beyond (`whole-near`)
pub add_exact : (a b : ℕ) → a ≤ 2 ^ 24 → b ≤ 2 ^ 24 → add binary32 (whole a) (whole b) ≡ whole (a + b)
add_exact a b p q = add_values (whole a) (whole b) a b (exact a p) (exact b q)

pub add_whole : (a b : ℕ) → a ≤ limit → b ≤ limit → add binary32 (whole a) (whole b) ≡ whole (a + b)
add_whole a b p q = add_exact a b p q

-- ---- a running sum: x is the whole number `to`, within d of n
pub record Within (n d : ℕ) (x : Float) : Type 0 where
  pub to : ℕ
  pub is : x ≡ whole to
  pub value : HasValue x false to 1
  pub above : to ≤ n + d
  pub below : n ≤ to + d

-- one more number b. Where the sum is below 2 ^ (24 + e), it is off by h more: nothing at e = 0, 1 at 1, 2 at 2, 4 at 3
pub add_near : (n d : ℕ) (x : Float) (b e h : ℕ) → Within n d x → b ≤ 2 ^ 24 → n + d + b < 2 ^ (24 + e) → e ≤ 103 → 2 ^ e ≤ 2 * h + 1
    → Within (n + b) (d + h) (add binary32 x (whole b))
unfolding whole of_int
add_near n d x b e h w l small room half =
    let sum = add_values x (whole b) w.to b w.value (exact b l) in
    let up : w.to ≤ n + d = w.above in
    let lo : n ≤ w.to + d = w.below in
    let k : Near (w.to + b) (2 ^ e) (whole (w.to + b)) = round_near binary32 (w.to + b) e (lt_of_le_of_lt (omega arith) small) (omega arith) in
    let a : 2 * k.to ≤ 2 * (w.to + b) + 2 ^ e = k.above in
    let c : 2 * (w.to + b) ≤ 2 * k.to + 2 ^ e = k.below in
    let v = subst (λ (z : Float). HasValue z false k.to 1) (sym sum) k.value in
    record { to = k.to; is = unique (add binary32 x (whole b)) k.to (add-fits binary32 x (whole b)) v; value = v; above = omega arith; below = omega arith }

pub add_within : (n d : ℕ) (x : Float) (b e h : ℕ) → Within n d x → b ≤ limit → n + d + b < 2 ^ (24 + e) → e ≤ 103 → 2 ^ e ≤ 2 * h + 1
    → Within (n + b) (d + h) (add binary32 x (whole b))
add_within n d x b e h w l small room half = add_near n d x b e h w l small room half
