-- What a stretch of two vectors adds to their distance, as the loops go through them, and the sixteen sums that it is added to.
use Rattle.std.specs.Prelude.{◌≡◌, refl, List, [], ◌∷◌, ℕ, zero, suc, ◌+◌, ◌≤◌, ◌<◌, length, get_or, set, drop, replicate, sum}
use Rattle.std.specs.List.{fold}
use Rattle.std.proofs.Common.{sym, ◌∙◌, subst, le_refl, add-zero, zero-add, add-one, arith, length-set, length-drop, drop_of_length-le, drop-cons}
use Rattle.definition.specs.Lists.{total}
use Rattle.definition.specs.Metric.{squared, summed, metric}
use Rattle.whole.specs.Whole.{farthest}
use Rattle.theory.specs.Metric.{Bytes, bytes_drop, good_most, byte_metric}

-- the samples from `from` up to `to`, in two vectors of one length
pub record Stretch (a b : List ℕ) (from to : ℕ) : Type 0 where
  pub alike : length a ≡ length b
  pub few : length a ≤ 256
  pub rises : from ≤ to
  pub inside : to ≤ length a

-- r is what that stretch adds: with what the samples after it add, it is what those from its start on add
pub record Adds (a b : List ℕ) (from to r : ℕ) : Type 0 where
  pub is : r + metric (drop to a) (drop to b) ≡ metric (drop from a) (drop from b)

-- sixteen sums: with what the samples from `at` on add, they are d
pub record Sixteen (a b : List ℕ) (at d : ℕ) (sums : List ℕ) : Type 0 where
  pub sixteen : length sums ≡ 16
  pub is : total sums + metric (drop at a) (drop at b) ≡ d

-- ---- sums: one that grows, none more than all, those from a place on
pub total_more : (sums : List ℕ) (j x : ℕ) → j < length sums → total (set sums j (get_or sums j 0 + x)) ≡ total sums + x
unfolding total
total_more [] j x h = absurd (omega arith)
total_more (s ∷ sums) zero x h = omega arith
total_more (s ∷ sums) (suc j) x h = let k = total_more sums j x (omega arith) in omega arith

pub sum-total : (sums : List ℕ) (j : ℕ) → get_or sums j 0 ≤ total sums
unfolding total
sum-total [] j = omega arith
sum-total (s ∷ sums) zero = omega arith
sum-total (s ∷ sums) (suc j) = let k = sum-total sums j in omega arith

pub total_from : (sums : List ℕ) (j : ℕ) → j < length sums → get_or sums j 0 + total (drop (j + 1) sums) ≡ total (drop j sums)
unfolding total
total_from sums j h = rw (add-one j, drop-cons sums j 0 h)

pub total_end : (sums : List ℕ) (j : ℕ) → length sums ≤ j → total (drop j sums) ≡ 0
unfolding total
total_end sums j h = rw (drop_of_length-le sums h)

-- that total is the library's sum
fold_total : (a : ℕ) (sums : List ℕ) → fold ◌+◌ a sums ≡ a + total sums
unfolding total
fold_total a [] = omega arith
fold_total a (s ∷ sums) = omega (arith, fold_total (a + s) sums)

pub sum_is_total : (sums : List ℕ) → sum sums ≡ total sums
sum_is_total sums = fold_total 0 sums ∙ zero-add (total sums)

-- ---- stretches of two vectors: an empty one, one sample, two that meet, and all
pub adds_none : (a b : List ℕ) (i : ℕ) → Adds a b i i 0
adds_none a b i = record { is = zero-add (metric (drop i a) (drop i b)) }

pub adds_one : (a b : List ℕ) (i : ℕ) → length a ≡ length b → i < length a → Adds a b i (i + 1) (squared (get_or a i 0) (get_or b i 0))
unfolding metric summed
adds_one a b i l h = record { is = rw (add-one i, drop-cons a i 0 h, drop-cons b i 0 (omega arith)) }

pub adds_join : (a b : List ℕ) (from m to r s : ℕ) → Adds a b from m r → Adds a b m to s → Adds a b from to (r + s)
adds_join a b from m to r s p q = record { is = omega (arith, p.is, q.is) }

pub adds_all : (a b : List ℕ) (r : ℕ) → Adds a b 0 (length a) r → r ≡ metric a b
unfolding metric summed
adds_all a b r p = sym (add-zero r) ∙ subst (λ (l : List ℕ). r + metric l (drop (length a) b) ≡ metric a b) (drop_of_length-le a (le_refl (length a))) p.is

-- what the samples from a place on add is small, and so is any part of it
pub from_small : (a b : List ℕ) (from : ℕ) → Bytes a → Bytes b → length a ≤ 256 → metric (drop from a) (drop from b) ≤ farthest
from_small a b from p q h =
    let l = length-drop from a in
    good_most byte_metric (drop from a) (drop from b) (omega arith) (bytes_drop from a p) (bytes_drop from b q)

pub adds_small : (a b : List ℕ) (from to r : ℕ) → Bytes a → Bytes b → length a ≤ 256 → Adds a b from to r → r ≤ farthest
adds_small a b from to r p q h e = let k = from_small a b from p q h in omega (arith, e.is)

-- ---- sixteen sums: at the start, after a sample more, and at the end
pub sixteen_none : (a b : List ℕ) (from : ℕ) → Sixteen a b from (metric (drop from a) (drop from b)) (replicate 16 0)
unfolding total
sixteen_none a b from = record { sixteen = refl; is = zero-add (metric (drop from a) (drop from b)) }

pub sixteen_more : (a b : List ℕ) (i d : ℕ) (sums : List ℕ) (j x : ℕ) → Sixteen a b i d sums → j < 16 → Adds a b i (i + 1) x
    → Sixteen a b (i + 1) d (set sums j (get_or sums j 0 + x))
sixteen_more a b i d sums j x e h p =
    record {
      sixteen = length-set sums j (get_or sums j 0 + x) ∙ e.sixteen;
      is = omega (arith, total_more sums j x (omega (arith, e.sixteen)), e.is, p.is);
    }

pub sixteen_adds : (a b : List ℕ) (from to : ℕ) (sums : List ℕ) → Sixteen a b to (metric (drop from a) (drop from b)) sums → Adds a b from to (total sums)
sixteen_adds a b from to sums e = record { is = e.is }
