-- Numbers added up and counted: one more at the end, and along 0 .. n-1 one place further.
use Rattle.std.specs.Prelude.{ℕ, zero, suc, ◌+◌, ◌≡◌, refl, Bool, true, false, cond, List, [], ◌∷◌, ◌++◌, map, length}
use Rattle.std.proofs.Common.{add-one, arith, ap, ◌∙◌, length-append}
use Rattle.definition.specs.Lists.{keep, run, upto, total}
use Rattle.laws.specs.Members.{keep_append}
use Rattle.laws.specs.Mapped.{map_snoc}

-- 1 where a test holds, else 0
abbrev pub bit : Bool → ℕ
bit b = cond b 1 0

pub total_snoc : (xs : List ℕ) (x : ℕ) → total (xs ++ (x ∷ [])) ≡ total xs + x
unfolding total
total_snoc [] x = omega arith
total_snoc (y ∷ ys) x = let e = total_snoc ys x in omega arith

pub kept_snoc : {A : Type 0} (p : A → Bool) (xs : List A) (x : A) → length (keep p (xs ++ (x ∷ []))) ≡ length (keep p xs) + bit (p x)
unfolding keep
kept_snoc {A} p xs x =
    ap (λ (l : List A). length l) (keep_append p xs (x ∷ [])) ∙ length-append (keep p xs) (keep p (x ∷ []))
    ∙ ap (λ (m : ℕ). length (keep p xs) + m) (one (p x))
  where
    one : (b : Bool) → length (cond b (x ∷ []) []) ≡ bit b
    one true = refl
    one false = refl

run_snoc : (s k : ℕ) → run s (suc k) ≡ run s k ++ ((s + k) ∷ [])
unfolding run
run_snoc s zero = let e : s ≡ s + 0 = omega arith in ap (λ (z : ℕ). z ∷ []) e
run_snoc s (suc k) =
    let e : suc s + k ≡ s + suc k = omega arith in
    ap (λ (l : List ℕ). s ∷ l) (run_snoc (suc s) k) ∙ ap (λ (z : ℕ). s ∷ run (suc s) k ++ (z ∷ [])) e

upto_snoc : (n : ℕ) → upto (n + 1) ≡ upto n ++ (n ∷ [])
unfolding upto
upto_snoc n = let e : 0 + n ≡ n = omega arith in ap (run 0) (add-one n) ∙ run_snoc 0 n ∙ ap (λ (z : ℕ). run 0 n ++ (z ∷ [])) e

module _ {A : Type 0} (f : ℕ → A) (n : ℕ) where
  map_upto : map f (upto (n + 1)) ≡ map f (upto n) ++ (f n ∷ [])
  map_upto = ap (map f) (upto_snoc n) ∙ map_snoc f (upto n) n

  pub kept_upto : (p : A → Bool) → length (keep p (map f (upto (n + 1)))) ≡ length (keep p (map f (upto n))) + bit (p (f n))
  kept_upto p = ap (λ (l : List A). length (keep p l)) map_upto ∙ kept_snoc p (map f (upto n)) (f n)

pub total-upto : (f : ℕ → ℕ) (n : ℕ) → total (map f (upto (n + 1))) ≡ total (map f (upto n)) + f n
total-upto f n = ap total (map_upto f n) ∙ total_snoc (map f (upto n)) (f n)
