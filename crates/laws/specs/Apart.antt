-- Lists in which nothing stands twice: how they grow, and how long they can be.
use Rattle.std.specs.Prelude.{ℕ, zero, suc, ◌≤◌, ◌<◌, ◌≡◌, refl, ◌≢◌, ◌⊎◌, Bool, true, not, length, take, drop}
use Rattle.std.proofs.Common.{zero-le, arith, sym, ap, ◌∙◌, subst, inl, inr}
use Rattle.std.proofs.Math.Logic.{∥∥₁_elim}
use mathlib.Core.HLevel.{⊥_prop}
use mathlib.Core.List.Memᴰ.{head as here}
use mathlib.Core.List.Memᴰ.{tail as there}
use mathlib.Core.List.Pairwise
use mathlib.Core.List.{List, [], ◌∷◌, ◌++◌, map, Nodup, Memᴰ as Mem}
use mathlib.Core.List.Memᴰ.{append_cases as split}
use mathlib.Core.List.Memᴰ.{cases_cons as cases}
use mathlib.Core.List.Memᴰ.{eq_of_singleton as only_one}
use mathlib.Core.List.Memᴰ.{not-nil}
use mathlib.Core.List.Memᴰ.{of_map}
use Rattle.std.proofs.lemmas.Bool.{not-true}
use Rattle.definition.specs.Lists.{keep, run, is_in, distinct}
use Rattle.laws.specs.Truth.{either, decide, and_both, both_and, is_not}
use Rattle.laws.specs.Members.{cons_elim, take_mem, keep_mem, is_in-mem, is_in-none, none-is_in, run-mem, mem-run, length_run}

-- each unlike all later ones
pub data Apart {A : Type 0} : List A → Type 0 where
  nobody : Apart []
  another : {x : A} {xs : List A} → ¬ Mem x xs → Apart xs → Apart (x ∷ xs)

module _ {A : Type 0} where
  pub apart_head : {x : A} {xs : List A} → Apart (x ∷ xs) → ¬ Mem x xs
  apart_head (another n a) = n

  pub apart_tail : {x : A} {xs : List A} → Apart (x ∷ xs) → Apart xs
  apart_tail (another n a) = a

  -- the library's Nodup says the same
  pub apart_nodup : {xs : List A} → Apart xs → Nodup xs
  apart_nodup nobody = Pairwise.nil
  apart_nodup (another {x = x} {xs = xs} n a) = Pairwise.cons (λ y m e. ∥∥₁_elim m ⊥_prop (λ d. n (subst (λ (z : A). Mem z xs) (sym e) d))) (apart_nodup a)

  pub nodup_apart : {xs : List A} → Nodup xs → Apart xs
  nodup_apart Pairwise.nil = nobody
  nodup_apart (Pairwise.cons {a = x} {l = xs} h p) = another (λ m. h x ∣ m ∣₁ refl) (nodup_apart p)

  pub apart_append : {xs : List A} (ys : List A) → Apart xs → Apart ys → ((z : A) → Mem z xs → ¬ Mem z ys) → Apart (xs ++ ys)
  apart_append ys nobody b f = b
  apart_append ys (another {x = x} {xs = xs} n a) b f = another (λ m. go (split xs m)) (apart_append ys a b (λ z m. f z (there m)))
    where
      go : Mem x xs ⊎ Mem x ys → ⊥
      go (inl h) = n h
      go (inr h) = f x (here refl) h

  pub apart_snoc : {xs : List A} (x : A) → Apart xs → ¬ Mem x xs → Apart (xs ++ (x ∷ []))
  apart_snoc {xs} x a n = apart_append (x ∷ []) a (another not-nil nobody) (λ z m h. n (subst (λ (u : A). Mem u xs) (only_one h) m))

  pub apart_take : (k : ℕ) {xs : List A} → Apart xs → Apart (take k xs)
  apart_take zero a = nobody
  apart_take (suc k) nobody = nobody
  apart_take (suc k) (another {xs = xs} n a) = another (λ m. n (take_mem k xs m)) (apart_take k a)

  pub apart_drop : (k : ℕ) {xs : List A} → Apart xs → Apart (drop k xs)
  apart_drop zero a = a
  apart_drop (suc k) nobody = nobody
  apart_drop (suc k) (another n a) = apart_drop k a

  pub apart_keep : (p : A → Bool) {xs : List A} → Apart xs → Apart (keep p xs)
  unfolding keep
  apart_keep p nobody = nobody
  apart_keep p (another {x = x} {xs = xs} n a) =
      either (λ (l : List A). Apart l) (p x) (another (λ m. n (keep_mem p xs m).0) (apart_keep p a)) (apart_keep p a)

-- images of a list of which no two are alike
pub apart-map : {A B : Type 0} (f : A → B) {xs : List A} → ((x y : A) → Mem x xs → Mem y xs → f x ≡ f y → x ≡ y) → Apart xs → Apart (map f xs)
apart-map f one nobody = nobody
apart-map {A} f one (another {x = x} {xs = xs} n a) =
    another
    (λ m.
    let t = of_map f xs m in
    n (subst (λ (u : A). Mem u xs) (one t.0 x (there t.1) (here refl) t.2) t.1))
    (apart-map f (λ u v p q. one u v (there p) (there q)) a)

pub apart-run : (s k : ℕ) → Apart (run s k)
unfolding run
apart-run s zero = nobody
apart-run s (suc k) = another {x = s} {xs = run (suc s) k} (λ m. let b = run-mem (suc s) k m in omega arith) (apart-run (suc s) k)

-- ---- the test `distinct`

pub distinct_apart : (xs : List ℕ) → distinct xs ≡ true → Apart xs
unfolding distinct
distinct_apart [] t = nobody
distinct_apart (x ∷ xs) t =
    let b = and_both (not (is_in x xs)) (distinct xs) t in
    another (is_in-none x xs (not-true (is_in x xs) b.0)) (distinct_apart xs b.1)

pub apart_distinct : {xs : List ℕ} → Apart xs → distinct xs ≡ true
unfolding distinct
apart_distinct nobody = refl
apart_distinct (another {x = x} {xs = xs} n a) = both_and (not (is_in x xs)) (distinct xs) (is_not (is_in x xs) (none-is_in x xs n)) (apart_distinct a)

-- ---- how long

-- ys with one x taken out
record Without (x : ℕ) (ys : List ℕ) : Type 0 where
  others : List ℕ
  shorter : length ys ≡ suc (length others)
  rest : (z : ℕ) → Mem z ys → z ≢ x → Mem z others

without : (x : ℕ) (ys : List ℕ) → Mem x ys → Without x ys
without x [] m = absurd (not-nil m)
without x (y ∷ ys) m = go (λ h. without x ys h) (cases m)
  where
    else : (z : ℕ) → x ≡ y → z ≢ x → (z ≡ y) ⊎ Mem z ys → Mem z ys
    else z e d (inl p) = absurd (d (p ∙ sym e))
    else z e d (inr h) = h

    deeper : (w : Without x ys) (z : ℕ) → z ≢ x → (z ≡ y) ⊎ Mem z ys → Mem z (y ∷ w.others)
    deeper w z d (inl p) = here p
    deeper w z d (inr h) = there (w.rest z h d)

    go : (Mem x ys → Without x ys) → (x ≡ y) ⊎ Mem x ys → Without x (y ∷ ys)
    go ih (inl e) = record { others = ys; shorter = refl; rest = λ z h d. else z e d (cases h) }
    go ih (inr h) = let w = ih h in record { others = y ∷ w.others; shorter = ap suc w.shorter; rest = λ z k d. deeper w z d (cases k) }

-- no longer than what holds it all
pub apart_within : {xs : List ℕ} (ys : List ℕ) → Apart xs → ((z : ℕ) → Mem z xs → Mem z ys) → length xs ≤ length ys
apart_within ys nobody f = zero-le
apart_within ys (another {x = x} {xs = xs} n a) f =
    let w = without x ys (f x (here refl)) in
    let le = apart_within w.others a (λ z m. w.rest z (f z (there m)) (λ e. n (subst (λ (u : ℕ). Mem u xs) e m))) in
    omega (arith, w.shorter)

-- so of numbers below n there are no more than of 0, 1 .. n - 1
apart_run : {xs : List ℕ} (n : ℕ) → Apart xs → ((z : ℕ) → Mem z xs → z < n) → length xs ≤ length (run 0 n)
apart_run n a f = apart_within (run 0 n) a (λ z m. mem-run 0 n z zero-le (omega (arith, f z m)))

-- so there are at most n numbers below n
pub apart_below : {xs : List ℕ} (n : ℕ) → Apart xs → ((z : ℕ) → Mem z xs → z < n) → length xs ≤ n
apart_below n a f = omega (arith, apart_run n a f, length_run 0 n)

-- and n of them are all
pub apart_full : {xs : List ℕ} (n : ℕ) → Apart xs → ((z : ℕ) → Mem z xs → z < n) → n ≤ length xs → (i : ℕ) → i < n → Mem i xs
apart_full {xs} n a f h i l =
    decide (is_in i xs) (is_in-mem i xs)
    (λ e. let most = apart_run n (another (is_in-none i xs e) a) (cons_elim (λ z. z < n) i xs l f) in let is = length_run 0 n in absurd (omega arith))
