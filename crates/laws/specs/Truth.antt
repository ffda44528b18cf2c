-- Tests as facts. A test that holds is `b ≡ true`, one that does not is `b ≡ false`; borrow.Author.Tests has the tests on numbers.
use Rattle.std.specs.Prelude.{◌≡◌, refl, ◌⊎◌, Bool, true, false, not, ◌&&◌, ◌||◌, cond}
use Rattle.std.proofs.Common.{sym, ◌∙◌, inl, inr, true≢false}
use Rattle.std.proofs.lemmas.Bool.{false≢true}

-- ---- a choice by a test

-- both branches have it, so the choice has it
pub either : {A : Type 0} (P : A → Type 0) (b : Bool) {x y : A} → P x → P y → P (cond b x y)
either P true p q = p
either P false p q = q

-- each branch may use what its test says
pub branch : {A : Type 0} (P : A → Type 0) (b : Bool) {x y : A} → (b ≡ true → P x) → (b ≡ false → P y) → P (cond b x y)
branch P true p q = p refl
branch P false p q = q refl

-- by the value of a test
pub decide : {P : Type 0} (b : Bool) → (b ≡ true → P) → (b ≡ false → P) → P
decide true p q = p refl
decide false p q = q refl

-- ---- and, or, not

pub and_both : (a b : Bool) → (a && b) ≡ true → (a ≡ true) × (b ≡ true)
and_both true b e = (refl, e)
and_both false b e = absurd (false≢true e)

pub both_and : (a b : Bool) → a ≡ true → b ≡ true → (a && b) ≡ true
both_and true b p q = q
both_and false b p q = p

pub or_either : (a b : Bool) → (a || b) ≡ true → (a ≡ true) ⊎ (b ≡ true)
or_either true b e = inl refl
or_either false b e = inr e

pub either_or : (a b : Bool) → (a ≡ true) ⊎ (b ≡ true) → (a || b) ≡ true
either_or true b h = refl
either_or false b (inl e) = absurd (false≢true e)
either_or false b (inr e) = e

pub or_neither : (a b : Bool) → (a || b) ≡ false → (a ≡ false) × (b ≡ false)
or_neither true b e = absurd (true≢false e)
or_neither false b e = (refl, e)

pub neither_or : (a b : Bool) → a ≡ false → b ≡ false → (a || b) ≡ false
neither_or true b p q = p
neither_or false b p q = q

pub is_false : (b : Bool) → ¬ (b ≡ true) → b ≡ false
is_false true n = absurd (n refl)
is_false false n = refl

pub is_not : (b : Bool) → b ≡ false → not b ≡ true
is_not true e = absurd (true≢false e)
is_not false e = refl

-- a test that fails does not hold
pub not_both : {b : Bool} → b ≡ false → ¬ (b ≡ true)
not_both p q = true≢false (sym q ∙ p)
