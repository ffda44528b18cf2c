-- Draws below n, one after another.
use Rattle.std.specs.Prelude.{◌≡◌, ℕ, suc, ◌+◌, ◌-◌, ◌<◌, ◌≤◌, min, List, ◌++◌, length, drop, slice_set}
use Rattle.std.proofs.Common.{sym, ap, ◌∙◌, subst}
use Rattle.std.proofs.Math.Nat.{sub-zero}
use native.Mathlib.Omega.{arith}
use Rattle.definition.specs.Draws.{advance, drawn, draws_below, pivots_drawn}
use Rattle.draws.specs.Says.{Leaves}
use Rattle.definition.specs.Lists.{over}
use Rattle.laws.specs.Writing.{put, all_ends}
use Rattle.draws.specs.Filling.{Filling, fill_start, fill_ends}

-- k draws in all, i of them written
abbrev pub Drawing : ℕ → ℕ → ℕ → List ℕ → List ℕ → ℕ → ℕ → Type 0
Drawing n k s₀ o out i s = Filling (draws_below n k s₀) o out i (draws_below n (k - i) s)

module _ (n k s₀ : ℕ) (o : List ℕ) where
  pub draws_start : Drawing n k s₀ o o 0 s₀
  draws_start = rw (sub-zero k) (fill_start (draws_below n k s₀) o)

  module _ (out : List ℕ) (i s : ℕ) (f : Drawing n k s₀ o out i s) where
    pub draws_turn : i < k → i < length out → Drawing n k s₀ o (slice_set out i (drawn n (advance s))) (i + 1) (advance s)
    unfolding draws_below
    draws_turn h l =
        let q : k - i ≡ suc (k - (i + 1)) = omega arith in
        let g = subst (λ (m : ℕ). Filling (draws_below n k s₀) o out i (draws_below n m s)) q f in
        record { words = put _ o out i _ _ l g.words; state_is = g.state_is }

    pub draws_end : k ≤ i → i ≤ length out → Leaves (draws_below n k s₀) o s out
    unfolding draws_below
    draws_end h l =
        let q : k - i ≡ 0 = omega arith in
        fill_ends _ o out i s l (subst (λ (m : ℕ). Filling (draws_below n k s₀) o out i (draws_below n m s)) q f)

    -- as the code has it: the k words are the front of a list, and what is behind them stays
    pub draws_front : (whole : List ℕ) → length out ≡ k → k ≤ i → Leaves (draws_below n k s₀) whole s (out ++ drop k whole)
    unfolding draws_below over
    draws_front whole size h =
        let q : k - i ≡ 0 = omega arith in
        let g = subst (λ (m : ℕ). Filling (draws_below n k s₀) o out i (draws_below n m s)) q f in
        record {
          words_are = ap (λ (m : ℕ). out ++ drop m whole) (sym size) ∙ ap (λ (l : List ℕ). over l whole) (all_ends _ o out i (omega arith) g.words);
          state_is = g.state_is;
        }

pub pivots_leaves : (n k s s' : ℕ) (o after : List ℕ) → k ≡ min 8 n → Leaves (draws_below n k s) o s' after → Leaves (pivots_drawn n s) o s' after
unfolding pivots_drawn
pivots_leaves n k s s' o after e f = subst (λ (m : ℕ). Leaves (draws_below n m s) o s' after) e f
