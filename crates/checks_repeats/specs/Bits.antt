-- A set of numbers below 65,536 as bits: x has bit x / 1024 of word x % 1024.
use Rattle.std.specs.Prelude.{◌≡◌, Bool, ◌||◌, List, [], ◌∷◌, eqb, ltb, length, get_or, set, drop, replicate}
use Rattle.std.proofs.Math.Path.{refl, sym, ap}
use Rattle.std.proofs.Common.{◌∙◌, mod-lt, pow-suc, div-add-mod', pow_pos, pow-add, get_or-set_same, get_or-set_other}
use Rattle.std.proofs.Math.Bool.{true, false, not}
use Prim.Native.Nat.{ℕ, zero, suc, ◌+◌, ◌-◌, ◌*◌, ◌/◌, ◌%◌, ◌^◌, ◌≤◌, ◌<◌}
use Rattle.std.proofs.Math.Nat.{one-mul, div_self, div-eq_of_lt, zero-div, mul-mod_left}
use native.Mathlib.Omega.{arith}
use borrow.Author.Tests.{eqb-true, eqb-false, eq-eqb, ne_eqb, ltb-true, ltb-false}
use Rattle.std.specs.Int.Bits.{bit_or, or_zero_r}
use Rattle.std.proofs.lemmas.Nat.{or_shr, or_mod, shl-shr}
use Rattle.std.proofs.Math.ListN.{length-set}
use Rattle.std.proofs.lemmas.List.{length-replicate}
use Rattle.std.proofs.Math.Pow.{pow-lt, shl_exact}
use Rattle.definition.specs.Lists.{is_in, distinct}
use Rattle.checks_repeats.specs.Apart.{apart, apart_none, apart_step, apart_end}

pub record Small (ids : List ℕ) : Type 0 where
  pub at : (i : ℕ) → get_or ids i 0 < 65536

-- ---- one word

-- bit k of w
unfoldable pub digit : ℕ → ℕ → ℕ
digit w k = w / 2 ^ k % 2

digit_or : (a b k : ℕ) → digit (bit_or a b) k ≡ bit_or (digit a k) (digit b k)
unfolding digit
digit_or a b k = ap (λ (x : ℕ). x % 2) (or_shr a b k) ∙ or_mod (a / 2 ^ k) (b / 2 ^ k) 1

one_same : (k : ℕ) → digit (2 ^ k) k ≡ 1
unfolding digit
one_same k = ap (λ (x : ℕ). x % 2) (div_self (pow_pos k))

one-other : (k j : ℕ) → (j ≡ k → ⊥) → digit (2 ^ k) j ≡ 0
unfolding digit
one-other k j ne = go (ltb k j) refl
  where
    go : (t : Bool) → ltb k j ≡ t → 2 ^ k / 2 ^ j % 2 ≡ 0
    go true e = ap (λ (x : ℕ). x % 2) (div-eq_of_lt (pow-lt (ltb-true k j e)))
    go false e =
        let l = ltb-false k j e in
        let d = k - suc j in
        let s : k ≡ suc d + j = omega arith in
        ap (λ (n : ℕ). 2 ^ n / 2 ^ j % 2) s
        ∙ ap (λ (x : ℕ). x / 2 ^ j % 2) (pow-add 2 (suc d) j)
        ∙ ap (λ (x : ℕ). x % 2) (shl-shr (2 ^ suc d) j)
        ∙ ap (λ (x : ℕ). x % 2) (pow-suc 2 d)
        ∙ mul-mod_left (2 ^ d) 2

digit_two : (w k : ℕ) → digit w k < 2
unfolding digit
digit_two w k = mod-lt (w / 2 ^ k) (omega arith)

-- a bit that is set, and the others of its word
bit-set : (w k : ℕ) → eqb (digit (bit_or w (2 ^ k)) k) 1 ≡ true
bit-set w k = rw (digit_or w (2 ^ k) k, one_same k) (go (digit w k) (digit_two w k))
  where
    go : (d : ℕ) → d < 2 → eqb (bit_or d 1) 1 ≡ true
    go zero l = refl
    go (suc zero) l = refl
    go (suc (suc d)) l = absurd (omega arith)

bit_kept : (w k j : ℕ) → (j ≡ k → ⊥) → digit (bit_or w (2 ^ k)) j ≡ digit w j
bit_kept w k j ne = digit_or w (2 ^ k) j ∙ ap (λ (x : ℕ). bit_or (digit w j) x) (one-other k j ne) ∙ or_zero_r (digit w j)

-- ---- the set

pub record Held (bits seen : List ℕ) : Type 0 where
  pub size : length bits ≡ 1024
  pub at : (y : ℕ) → eqb (digit (get_or bits (y % 1024) 0) (y / 1024)) 1 ≡ is_in y seen

held_none : Held (replicate 1024 0) []
unfolding digit is_in
held_none = record { size = length-replicate {A = ℕ} 1024 0; at = λ y. rw (none 1024 (y % 1024), zero-div (2 ^ (y / 1024))) refl }
  where
    none : (k x : ℕ) → ◌≡◌ {A = ℕ} (get_or {A = ℕ} (replicate {A = ℕ} k 0) x 0) 0
    none zero x = refl
    none (suc k) zero = refl
    none (suc k) (suc x) = none k x

module _ (bits seen : List ℕ) (x : ℕ) (h : Held bits seen) where
  put : List ℕ
  put = set bits (x % 1024) (bit_or (get_or bits (x % 1024) 0) (2 ^ (x / 1024)))

  inside : x % 1024 < length bits
  inside = let l = mod-lt x {m = 1024} (omega arith) in omega (arith, h.size)

  held_put : Held put (x ∷ seen)
  unfolding is_in put
  held_put = record { size = length-set bits (x % 1024) _ ∙ h.size; at = λ y. go y (eqb y x) refl }
    where
      word : ℕ
      word = bit_or (get_or bits (x % 1024) 0) (2 ^ (x / 1024))

      same_word : (y : ℕ) → y % 1024 ≡ x % 1024 → get_or (set bits (x % 1024) word) (y % 1024) 0 ≡ word
      same_word y e = ap (λ (k : ℕ). get_or (set bits (x % 1024) word) k 0) e ∙ get_or-set_same bits (x % 1024) word 0 inside

      other : (y : ℕ) (t : Bool) → (y ≡ x → ⊥) → eqb (y % 1024) (x % 1024) ≡ t
          → digit (get_or (set bits (x % 1024) word) (y % 1024) 0) (y / 1024) ≡ digit (get_or bits (y % 1024) 0) (y / 1024)
      other y true ne e =
          let q = eqb-true (y % 1024) (x % 1024) e in
          ap (λ (w : ℕ). digit w (y / 1024)) (same_word y q)
          ∙ bit_kept (get_or bits (x % 1024) 0) (x / 1024) (y / 1024) (λ p. ne (let a = div-add-mod' y 1024 in let b = div-add-mod' x 1024 in omega arith))
          ∙ ap (λ (k : ℕ). digit (get_or bits k 0) (y / 1024)) (sym q)
      other y false ne e = ap (λ (w : ℕ). digit w (y / 1024)) (get_or-set_other bits (x % 1024) (y % 1024) word 0 (eqb-false _ _ e))

      go : (y : ℕ) (t : Bool) → eqb y x ≡ t → eqb (digit (get_or (set bits (x % 1024) word) (y % 1024) 0) (y / 1024)) 1 ≡ (t || is_in y seen)
      go y true e =
          let q = eqb-true y x e in
          ap (λ (k : ℕ). eqb (digit (get_or (set bits (x % 1024) word) (k % 1024) 0) (k / 1024)) 1) q
          ∙ ap (λ (w : ℕ). eqb (digit w (x / 1024)) 1) (same_word x refl)
          ∙ bit-set (get_or bits (x % 1024) 0) (x / 1024)
      go y false e = ap (λ (d : ℕ). eqb d 1) (other y (eqb (y % 1024) (x % 1024)) (eqb-false y x e) refl) ∙ h.at y

-- ---- the pass over the ids: after i of them
pub record Passing (ids : List ℕ) (i : ℕ) (bits : List ℕ) : Type 0 where
  pub upto : i ≤ length ids
  pub seen : List ℕ
  pub held : Held bits seen
  pub same : apart seen (drop i ids) ≡ distinct ids

pub pass-start : (ids : List ℕ) → Passing ids 0 (replicate 1024 0)
pass-start ids = record { upto = omega arith; seen = []; held = held_none; same = apart_none ids }

module _ (ids : List ℕ) (i : ℕ) (bits : List ℕ) (w : Passing ids i bits) where
  pub pass_end : length ids ≤ i → false ≡ not (distinct ids)
  pass_end h = ap not (sym (apart_end w.seen ids i h) ∙ w.same)

  module _ (h : i < length ids) (x : ℕ) (x-is : x ≡ get_or ids i 0) where
    -- its bit is set
    pub pass_again : get_or bits (x % 1024) 0 / 2 ^ (x / 1024) % 2 ≡ 1 → true ≡ not (distinct ids)
    unfolding digit
    pass_again e =
        let known : is_in x w.seen ≡ true = sym (w.held.at x) ∙ eq-eqb _ 1 e in
        let again : apart w.seen (drop i ids) ≡ false = apart_step w.seen ids i h x x-is ∙ rw known refl in
        ap not (sym again ∙ w.same)

    -- it is not
    pub pass_on : x < 65536 → (get_or bits (x % 1024) 0 / 2 ^ (x / 1024) % 2 ≡ 1 → ⊥)
        → Passing ids (i + 1) (set bits (x % 1024) (bit_or (get_or bits (x % 1024) 0) (1 * 2 ^ (x / 1024) % 2 ^ 64)))
    unfolding digit put
    pass_on l e =
        let new : is_in x w.seen ≡ false = sym (w.held.at x) ∙ ne_eqb _ 1 e in
        let few : x / 1024 < 64 = omega arith in
        let bit : 1 * 2 ^ (x / 1024) % 2 ^ 64 ≡ 2 ^ (x / 1024) = shl_exact 1 (x / 1024) 64 (omega arith) (omega arith) ∙ one-mul _ in
        record {
          upto = omega arith;
          seen = x ∷ w.seen;
          held = rw bit (held_put bits w.seen x w.held);
          same = sym (apart_step w.seen ids i h x x-is ∙ rw new refl) ∙ w.same;
        }
