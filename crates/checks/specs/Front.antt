-- The words of a row that are ids below n: where only padding stands beyond as many words as there are of them, they come first, and there are no others.
use Rattle.std.specs.Prelude.{◌≡◌, ℕ, zero, suc, ◌+◌, ◌<◌, ◌≤◌, Bool, true, false, cond, not, ◌&&◌, ◌||◌, ltb, List, [], ◌∷◌, length, drop, ◌==◌}
use Rattle.std.specs.Prelude.{nat_lt, slice_index, slice_index_or}
use Rattle.std.proofs.Math.Path.{refl, sym, ap}
use Rattle.std.proofs.Common.{◌∙◌, drop_of_length-le, drop-cons}
use Rattle.std.proofs.Math.Bool.{and-false, or-false}
use Rattle.std.proofs.Math.Numerals.{add-one}
use native.Mathlib.Omega.{arith}
use borrow.Author.Tests.{ltb-true, le-ltb, lt-ltb, eqb-true, ne_eqb}
use Rattle.definition.specs.Lists.{each, keep}
use Rattle.definition.specs.Tables.{pad, ids, only_pad, ids_first, search_rule}
use Rattle.laws.specs.Truth.{and_both}

unfoldable pub entries : ℕ → List ℕ → List ℕ
entries n words = keep (λ w. ltb w n) words

-- ---- the count of them, after i words
pub record Counted (n : ℕ) (words : List ℕ) (i count : ℕ) : Type 0 where
  pub upto : i ≤ length words
  pub few : count ≤ i
  pub same : count + length (entries n (drop i words)) ≡ length (entries n words)

module _ (n : ℕ) (words : List ℕ) (i count : ℕ) (w : Counted n words i count) (h : i < length words) where
  count_step : (t : Bool) → nat_lt (slice_index words i) n ≡ t
      → length (entries n (drop i words)) ≡ length (cond t (slice_index words i ∷ entries n (drop (i + 1) words)) (entries n (drop (i + 1) words)))
  unfolding entries keep
  count_step t e = rw (drop-cons words i 0 h, add-one i, e) refl

  pub count_one : slice_index_or words i 0 < n → Counted n words (i + 1) (count + 1)
  count_one l =
      let s = count_step true (lt-ltb _ _ l) in
      let q = w.same in
      let f = w.few in
      record { upto = omega arith; few = omega arith; same = omega arith }

  pub count_other : n ≤ slice_index words i → Counted n words (i + 1) count
  count_other l =
      let s = count_step false (le-ltb _ _ l) in
      let q = w.same in
      let f = w.few in
      record { upto = omega arith; few = omega arith; same = omega arith }

pub count_end : (n : ℕ) (words : List ℕ) (i count : ℕ) → Counted n words i count → length words ≤ i → count ≡ length (entries n words)
unfolding entries keep
count_end n words i count w h =
    let z : length (keep (λ w. ltb w n) (drop i words)) ≡ 0 = rw (drop_of_length-le words h) refl in
    let q = w.same in
    omega arith

-- ---- words that are no padding

-- where only padding stands beyond k words, at most k are of a kind that padding is not
module _ (p : ℕ → Bool) (never : p pad ≡ false) where
  kept_few : (k : ℕ) (ws : List ℕ) → only_pad (drop k ws) ≡ true → length (keep p ws) ≤ k
  unfolding only_pad each keep
  kept_few k [] e = omega arith
  kept_few zero (w ∷ ws) e =
      let s = and_both (w == pad) _ e in
      let q : p w ≡ false = ap p (eqb-true w pad s.0) ∙ never in
      rw q (kept_few zero ws s.1)
  kept_few (suc k) (w ∷ ws) e = go (p w) (kept_few k ws e)
    where
      go : (t : Bool) → length (keep p ws) ≤ k → length (cond t (w ∷ keep p ws) (keep p ws)) ≤ suc k
      go true l = omega arith
      go false l = omega arith

  too_few : (k : ℕ) (ws : List ℕ) → k < length (keep p ws) → only_pad (drop k ws) ≡ false
  too_few k ws l = go (only_pad (drop k ws)) refl
    where
      go : (t : Bool) → only_pad (drop k ws) ≡ t → t ≡ false
      go true e = absurd (let q = kept_few k ws e in omega arith)
      go false e = refl

  -- in front of them stands a word that is not of that kind: so more than padding follows the first of as many words
  held_back : (w : ℕ) (ws : List ℕ) → only_pad (drop (length (keep p ws)) (w ∷ ws)) ≡ only_pad (w ∷ ws)
  unfolding only_pad each
  held_back w ws = go (length (keep p ws)) refl
    where
      go : (k : ℕ) → length (keep p ws) ≡ k → only_pad (drop k (w ∷ ws)) ≡ (w == pad && only_pad ws)
      go zero e = refl
      go (suc k) e = too_few k ws (omega arith) ∙ sym (and-false (w == pad)) ∙ ap (λ (t : Bool). (w == pad) && t) (sym (too_few 0 ws (omega arith)))

module _ (n : ℕ) (few : n ≤ 65536) where
  pad_out : ltb pad n ≡ false
  unfolding pad
  pad_out = le-ltb pad n (omega arith)

  not_pad : (w : ℕ) → nat_lt w n ≡ true → (w == pad) ≡ false
  unfolding pad
  not_pad w e = let l = ltb-true w n e in ne_eqb w pad (λ q. omega arith)

  pad_no_id : not (pad == pad) ≡ false
  unfolding pad
  pad_no_id = refl

  pads_keep : (ws : List ℕ) → only_pad ws ≡ true → search_rule n ws ≡ true
  unfolding only_pad search_rule each
  pads_keep [] e = refl
  pads_keep (w ∷ ws) e = let s = and_both (w == pad) _ e in rw s.0 (pads_keep ws s.1)

  pads_both : (w : ℕ) (ws : List ℕ) → only_pad (w ∷ ws) ≡ (only_pad (w ∷ ws) && search_rule n ws)
  unfolding only_pad each
  pads_both w ws = go (only_pad (w ∷ ws)) refl
    where
      go : (t : Bool) → only_pad (w ∷ ws) ≡ t → t ≡ (t && search_rule n ws)
      go true e = sym (pads_keep ws (and_both (w == pad) _ e).1)
      go false e = refl

  first_other : (w : ℕ) (ws : List ℕ) → (w == pad) ≡ false → only_pad (w ∷ ws) ≡ false
  unfolding only_pad each
  first_other w ws e = rw e refl

  -- a row whose first word is no id below n
  behind : (w : ℕ) (ws : List ℕ) (t : Bool) → (w == pad) ≡ t
      → only_pad (w ∷ ws) ≡ (only_pad (drop (length (cond (not t) (w ∷ ids ws) (ids ws))) (w ∷ ws)) && ((t || false) && search_rule n ws))
  unfolding ids
  behind w ws true e = pads_both w ws ∙ ap (λ (t : Bool). t && search_rule n ws) (sym (held_back (λ w. not (w == pad)) pad_no_id w ws))
  behind w ws false e = first_other w ws e ∙ sym (and-false (only_pad (drop (length (ids ws)) ws)))

  pub front_is : (words : List ℕ) → only_pad (drop (length (entries n words)) words) ≡ (ids_first words && search_rule n words)
  unfolding entries ids_first ids keep search_rule each only_pad
  front_is [] = refl
  front_is (w ∷ ws) = go (nat_lt w n) refl (front_is ws)
    where
      go : (t : Bool) → nat_lt w n ≡ t → only_pad (drop (length (entries n ws)) ws) ≡ (ids_first ws && search_rule n ws)
          → only_pad (drop (length (cond t (w ∷ entries n ws) (entries n ws))) (w ∷ ws))
          ≡ (only_pad (drop (length (cond (not (w == pad)) (w ∷ ids ws) (ids ws))) (w ∷ ws)) && ((w == pad || t) && search_rule n ws))
      go true e ih = rw (not_pad w e) ih
      go false e ih = held_back (λ w. ltb w n) pad_out w ws ∙ behind w ws (w == pad) refl

  -- where they are all that is no padding, they are the ids
  pub entries_ids : (words : List ℕ) → search_rule n words ≡ true → entries n words ≡ ids words
  unfolding entries ids keep search_rule each
  entries_ids [] e = refl
  entries_ids (w ∷ ws) e = go (nat_lt w n) refl (and_both (w == pad || nat_lt w n) _ e).0 (entries_ids ws (and_both (w == pad || nat_lt w n) _ e).1)
    where
      go : (t : Bool) → nat_lt w n ≡ t → (w == pad || t) ≡ true → entries n ws ≡ ids ws
          → cond t (w ∷ entries n ws) (entries n ws) ≡ cond (not (w == pad)) (w ∷ ids ws) (ids ws)
      go true q h ih = rw (not_pad w q) (ap (λ (l : List ℕ). w ∷ l) ih)
      go false q h ih = rw (sym (or-false (w == pad)) ∙ h) ih
