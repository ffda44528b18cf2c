-- How many places of a list are e. (Which numbers a list has is a law of lists.)
use Rattle.std.specs.Prelude.{◌≡◌, refl, Bool, true, false, cond, List, [], ◌∷◌, ℕ, zero, suc, ◌≤◌, ◌<◌, eqb, length, get_or, set}
use Rattle.std.proofs.Common.{ap, arith, eq-eqb, ne_eqb}
pub use Rattle.laws.specs.Members.{is_in_snoc as in-snoc}
use Rattle.marks.specs.Marked.{count}

pub count_le : (e : ℕ) (l : List ℕ) → count e l ≤ length l
unfolding count
count_le e [] = omega arith
count_le e (x ∷ xs) = go (eqb x e) (count_le e xs)
  where
    go : (t : Bool) → count e xs ≤ length xs → cond t (suc (count e xs)) (count e xs) ≤ suc (length xs)
    go true h = omega arith
    go false h = omega arith

pub count_lt : (e : ℕ) (l : List ℕ) (i : ℕ) → i < length l → (get_or l i 0 ≡ e → ⊥) → count e l < length l
unfolding count
count_lt e [] i h n = absurd (omega arith)
count_lt e (x ∷ xs) zero h n = rw (ne_eqb x e n) (let k : count e xs ≤ length xs = count_le e xs in omega arith)
count_lt e (x ∷ xs) (suc i) h n = go (eqb x e) (count_lt e xs i (omega arith) n)
  where
    go : (t : Bool) → count e xs < length xs → cond t (suc (count e xs)) (count e xs) < suc (length xs)
    go true k = omega arith
    go false k = omega arith

pub count_set : (e : ℕ) (l : List ℕ) (i : ℕ) → i < length l → (get_or l i 0 ≡ e → ⊥) → count e (set l i e) ≡ suc (count e l)
unfolding count
count_set e [] i h n = absurd (omega arith)
count_set e (x ∷ xs) zero h n = rw (ne_eqb x e n, eq-eqb e e refl) refl
count_set e (x ∷ xs) (suc i) h n = go (eqb x e) (count_set e xs i (omega arith) n)
  where
    go : (t : Bool) → count e (set xs i e) ≡ suc (count e xs)
        → cond t (suc (count e (set xs i e))) (count e (set xs i e)) ≡ suc (cond t (suc (count e xs)) (count e xs))
    go true k = ap suc k
    go false k = k

pub count_none : (e : ℕ) (l : List ℕ) → ((i : ℕ) → i < length l → get_or l i 0 ≡ e → ⊥) → count e l ≡ 0
unfolding count
count_none e [] h = refl
count_none e (x ∷ xs) h = rw (ne_eqb x e (h 0 (omega arith))) (count_none e xs (λ i k. h (suc i) (omega arith)))
