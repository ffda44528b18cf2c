-- Drawn pivots pass 12: min(8, n) of them, each below n.
use Rattle.std.specs.Prelude.{ℕ, zero, suc, ◌<◌, min, ◌≡◌, refl, true, false, ltb, length}
use Rattle.std.proofs.Common.{arith, ap, lt-ltb, le-ltb, ne_eqb}
use Rattle.definition.specs.Lists.{each}
use Rattle.definition.specs.Draws.{advance, drawn, draws_below, pivots_drawn}
use Rattle.definition.specs.Refusals.{bad_pivots}
use Rattle.laws.specs.Draws.{advance_lt, drawn_lt}

draws_below_lem : (n k s : ℕ) → 0 < n → each (λ p. ltb p n) (draws_below n k s).words ≡ true
unfolding draws_below each
draws_below_lem n zero s h = refl
draws_below_lem n (suc k) s h = rw (lt-ltb (drawn n (advance s)) n (drawn_lt n (advance s) h (advance_lt s))) (draws_below_lem n k (advance s) h)

draws_many : (n k s : ℕ) → length (draws_below n k s).words ≡ k
unfolding draws_below
draws_many n zero s = refl
draws_many n (suc k) s = ap suc (draws_many n k (advance s))

pub pivots_many : (n s : ℕ) → length (pivots_drawn n s).words ≡ min 8 n
unfolding pivots_drawn
pivots_many n s = draws_many n (min 8 n) s

pub pivots_pass : (n s : ℕ) → 0 < n → bad_pivots n (pivots_drawn n s).words ≡ false
unfolding bad_pivots pivots_drawn
pivots_pass n s h =
    let l : length (draws_below n (min 8 n) s).words ≡ min 8 n = draws_many n (min 8 n) s in
    rw (
      ne_eqb (length (draws_below n (min 8 n) s).words) 0 (λ e. omega arith),
      le-ltb 8 (length (draws_below n (min 8 n) s).words)
          (omega arith),
      draws_below_lem n (min 8 n) s h,
    ) refl
