-- Counts of which none is above m: their sum, and how many of them are m; and how many are, one number further.
use Rattle.std.specs.Prelude.{ℕ, suc, ◌+◌, ◌*◌, ◌≤◌, ◌≡◌, refl, true, length}
use Rattle.std.proofs.Common.{zero-le, suc-mul, zero-mul, sym, ap, ◌∙◌, eqb-true, eq-eqb, ne_eqb}
use native.Mathlib.Omega.{arith}
use mathlib.Core.List.Memᴰ.{head as here}
use mathlib.Core.List.Memᴰ.{tail as there}
use mathlib.Core.List.{List, [], ◌∷◌, map, Memᴰ as Mem}
use Rattle.std.proofs.Math.Dec.{eqb}
use Rattle.definition.specs.Lists.{keep, upto, total}
use Rattle.definition.specs.Recall.{count_of}
use Rattle.laws.specs.Truth.{branch}
use Rattle.laws.specs.Members.{keep_length}
use Rattle.laws.specs.Sums.{kept_upto}

pub total_most : (m : ℕ) (hs : List ℕ) → ((h : ℕ) → Mem h hs → h ≤ m) → total hs ≤ length hs * m
unfolding total
total_most m [] f = zero-le
total_most m (h ∷ hs) f = omega (arith, suc-mul (length hs) m, f h (here refl), total_most m hs (λ z i. f z (there i)))

pub count_most : (m : ℕ) (hs : List ℕ) → count_of m hs ≤ length hs
unfolding count_of
count_most m hs = keep_length (λ h. eqb h m) hs

-- those that are m make up so much of the sum
pub count_least : (m : ℕ) (hs : List ℕ) → count_of m hs * m ≤ total hs
unfolding count_of keep total
count_least m [] = omega (arith, zero-mul m)
count_least m (h ∷ hs) =
    let rest = count_least m hs in
    branch (λ (l : List ℕ). length l * m ≤ h + total hs) (eqb h m)
    (λ t. omega (arith, suc-mul (length (keep (λ x. eqb x m) hs)) m, eqb-true h m t)) (λ f. omega arith)

-- all are m exactly when the sum is as great as it can be
pub count-all : (m : ℕ) (hs : List ℕ) → count_of m hs ≡ length hs → ((h : ℕ) → Mem h hs → h ≤ m) → total hs ≡ length hs * m
count-all m hs e f = let le = count_least m hs in let c = ap (λ (k : ℕ). k * m) e in omega (arith, total_most m hs f)

pub total-all : (m : ℕ) (hs : List ℕ) → ((h : ℕ) → Mem h hs → h ≡ m) → total hs ≡ length hs * m
unfolding total
total-all m [] f = sym (zero-mul m)
total-all m (h ∷ hs) f = omega (arith, suc-mul (length hs) m, f h (here refl), total-all m hs (λ z i. f z (there i)))

pub all-count : (m : ℕ) (hs : List ℕ) → total hs ≡ length hs * m → ((h : ℕ) → Mem h hs → h ≤ m) → count_of m hs ≡ length hs
unfolding count_of keep total
all-count m [] e f = refl
all-count m (h ∷ hs) e f =
    let most = total_most m hs (λ z i. f z (there i)) in
    let split = suc-mul (length hs) m in
    let low = f h (here refl) in
    let rest = all-count m hs (omega arith) (λ z i. f z (there i)) in
    let is : eqb h m ≡ true = eq-eqb h m (omega arith) in
    rw is (ap suc rest)

-- ---- along 0 .. n-1: one number further
module _ (m : ℕ) (f : ℕ → ℕ) (n : ℕ) where
  pub count_same : f n ≡ m → count_of m (map f (upto (n + 1))) ≡ count_of m (map f (upto n)) + 1
  unfolding count_of
  count_same e = rw (eq-eqb (f n) m e) at (kept_upto f n (λ x. eqb x m))

  pub count_other : (f n ≡ m → ⊥) → count_of m (map f (upto (n + 1))) ≡ count_of m (map f (upto n))
  unfolding count_of
  count_other e = rw (ne_eqb (f n) m e) at (kept_upto f n (λ x. eqb x m)) ∙ omega arith
