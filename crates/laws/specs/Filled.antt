-- A slice that is filled with one value from the front: after i stores it is that value i times, and then as it was. And a cleared front.
use Rattle.std.specs.Prelude.{◌≡◌, refl, ℕ, zero, suc, ◌+◌, ◌≤◌, ◌<◌, length, get_or, set, drop}
use Rattle.std.proofs.Common.{sym, ◌∙◌, arith, add-one, length-set, drop_of_length-le}
use Rattle.std.proofs.Math.Path.{ap}
use mathlib.Core.List.{List, [], ◌∷◌, ◌++◌, append-nil}
use Rattle.std.proofs.Math.ListN.{replicate, length-append, length-replicate, length-drop, get_or-replicate, get_or-append}
use Rattle.std.proofs.Math.Seq.{drop_at}
use Rattle.definition.specs.Lists.{cleared}

module _ {A : Type 0} (v : A) where
  pub record Filled (old s : List A) (i : ℕ) : Type 0 where
    pub within : i ≤ length old
    pub size : length s ≡ length old
    pub is : s ≡ replicate i v ++ drop i old

  pub fill_start : (old : List A) → Filled old old 0
  fill_start old = record { within = omega arith; size = refl; is = refl }

  fill_suc : (n : ℕ) (d : List A) → n < length d → set (replicate n v ++ drop n d) n v ≡ replicate (suc n) v ++ drop (suc n) d
  fill_suc n [] l = absurd (omega arith)
  fill_suc zero (x ∷ d) l = refl
  fill_suc (suc n) (x ∷ d) l = ap (λ (t : List A). v ∷ t) (fill_suc n d (omega arith))

  pub fill_more : (old s : List A) (i : ℕ) → i < length old → Filled old s i → Filled old (set s i v) (i + 1)
  fill_more old s i h f =
      record {
        within = omega arith;
        size = length-set s i v ∙ f.size;
        is = ap (λ (l : List A). set l i v) f.is ∙ fill_suc i old h ∙ ap (λ (k : ℕ). replicate k v ++ drop k old) (sym (add-one i));
      }

  pub fill_end : (old s : List A) (i : ℕ) → length old ≤ i → Filled old s i → s ≡ replicate (length old) v
  fill_end old s i h f =
      let q : i ≡ length old = omega (arith, f.within) in
      f.is ∙ rw (drop_of_length-le old {i = i} h, append-nil, q) refl

  -- what was cleared is long enough to be cleared again and no longer than before, and beyond that front it is as it was
  pub cleared_long : (room : ℕ) (old : List A) → room ≤ length (cleared v room old)
  unfolding cleared
  cleared_long room old = omega (arith, length-append (replicate room v) (drop room old), length-replicate room v)

  pub cleared_length : (room : ℕ) (old : List A) → room ≤ length old → length (cleared v room old) ≡ length old
  unfolding cleared
  cleared_length room old h = omega (arith, length-append (replicate room v) (drop room old), length-replicate room v, length-drop room old)

  pub cleared_beyond : (room : ℕ) (old : List A) → drop room (cleared v room old) ≡ drop room old
  unfolding cleared
  cleared_beyond room old = drop_at (replicate room v) (drop room old) room (length-replicate room v)

  -- lists that are the same beyond a front are the same when it is cleared
  pub cleared_same : (room : ℕ) (a b : List A) → drop room a ≡ drop room b → cleared v room a ≡ cleared v room b
  unfolding cleared
  cleared_same room a b e = ap (λ (l : List A). replicate room v ++ l) e

  -- what stands in the front
  pub cleared_at : (room : ℕ) (old : List A) (i : ℕ) (d : A) → i < room → get_or (cleared v room old) i d ≡ v
  unfolding cleared
  cleared_at room old i d h =
      get_or-append (replicate room v) (drop room old) d i (omega (arith, length-replicate room v)) ∙ get_or-replicate room i v d h
