-- A number as a list of tests with their numbers: that of the first test that holds, 0 where none holds.
use Rattle.std.specs.Prelude.{◌≡◌, refl, Bool, true, false, ◌&&◌, List, [], ◌∷◌, ◌++◌, ℕ, zero, suc, ◌-◌, ltb, length, take, drop}
use Rattle.std.proofs.Common.{sym, ◌∙◌, subst, arith, ltb-true}
use Rattle.std.proofs.lemmas.Bool.{false≢true}
use Rattle.definition.specs.declared.Refusal.{Refusal}
use Rattle.definition.specs.Refusals.{◌when◌else◌}
use Rattle.definition.specs.Numbers.{number}
use Rattle.laws.specs.Numbers.{number_positive}
use Rattle.laws.specs.Truth.{and_both, decide}
use Rattle.accepted.specs.Chain.{past, stop, passed}

abbrev pub Tests : Type 0
Tests = List (ℕ × Bool)

unfoldable pub number_of : Tests → ℕ
number_of [] = 0
number_of (t ∷ ts) = t.0 when t.1 else number_of ts

-- test i, and its number
unfoldable pub holds_at : Tests → ℕ → Bool
holds_at [] i = false
holds_at (t ∷ ts) zero = t.1
holds_at (t ∷ ts) (suc i) = holds_at ts i

unfoldable pub number_at : Tests → ℕ → ℕ
number_at [] i = 0
number_at (t ∷ ts) zero = t.0
number_at (t ∷ ts) (suc i) = number_at ts i

-- the first k tests do not hold
pub record Clear (k : ℕ) (ts : Tests) : Type 0 where
  pub no : (i : ℕ) → holds_at (take k ts) i ≡ false

pub none_yet : (ts : Tests) → Clear 0 ts
unfolding holds_at
none_yet ts = record { no = λ i. refl }

-- one more does not, by what the code found
past-at : (k : ℕ) (ts : Tests) → ((i : ℕ) → holds_at (take k ts) i ≡ false) → holds_at ts k ≡ false → (i : ℕ) → holds_at (take (suc k) ts) i ≡ false
unfolding holds_at
past-at k [] c e i = refl
past-at zero (t ∷ ts) c e zero = e
past-at zero (t ∷ ts) c e (suc i) = refl
past-at (suc k) (t ∷ ts) c e zero = c zero
past-at (suc k) (t ∷ ts) c e (suc i) = past-at k ts (λ j. c (suc j)) e i

pub past_one : {k : ℕ} {ts : Tests} {r : Bool} → Clear k ts → r ≡ holds_at ts k → r ≡ false → Clear (suc k) ts
past_one {k} {ts} c e f = record { no = past-at k ts c.no (sym e ∙ f) }

-- the next one does
found_at : (k : ℕ) (ts : Tests) → ((i : ℕ) → holds_at (take k ts) i ≡ false) → holds_at ts k ≡ true → number_at ts k ≡ number_of ts
unfolding holds_at number_at number_of
found_at k [] c e = absurd (false≢true e)
found_at zero (t ∷ ts) c e = sym (stop t.0 t.1 (number_of ts) e)
found_at (suc k) (t ∷ ts) c e = found_at k ts (λ j. c (suc j)) e ∙ sym (past t.0 t.1 (number_of ts) (c zero))

pub found : {k : ℕ} {ts : Tests} {r : Bool} → Clear k ts → r ≡ holds_at ts k → r ≡ true → number_at ts k ≡ number_of ts
found {k} {ts} c e f = found_at k ts c.no (sym e ∙ f)

-- none does
none-at : (ts : Tests) → ((i : ℕ) → holds_at (take (length ts) ts) i ≡ false) → 0 ≡ number_of ts
unfolding holds_at number_of
none-at [] c = refl
none-at (t ∷ ts) c = none-at ts (λ j. c (suc j)) ∙ sym (past t.0 t.1 (number_of ts) (c zero))

pub nothing : {ts : Tests} → Clear (length ts) ts → 0 ≡ number_of ts
nothing {ts} c = none-at ts c.no

-- the first k do not: the number is that of the rest
rest_at : (k : ℕ) (ts : Tests) → ((i : ℕ) → holds_at (take k ts) i ≡ false) → number_of (drop k ts) ≡ number_of ts
unfolding holds_at number_of
rest_at zero ts c = refl
rest_at (suc k) [] c = refl
rest_at (suc k) (t ∷ ts) c = rest_at k ts (λ j. c (suc j)) ∙ sym (past t.0 t.1 (number_of ts) (c zero))

pub rest : {k : ℕ} {ts : Tests} {r : ℕ} → Clear k ts → r ≡ number_of (drop k ts) → r ≡ number_of ts
rest {k} {ts} c e = e ∙ rest_at k ts c.no

-- no test has number 0; so number 0 says of each that it does not hold
unfoldable pub numbered : Tests → Bool
numbered [] = true
numbered (t ∷ ts) = ltb 0 t.0 && numbered ts

pub cleared : (ts : Tests) → numbered ts ≡ true → number_of ts ≡ 0 → (i : ℕ) → holds_at ts i ≡ false
unfolding numbered number_of holds_at
cleared [] p e i = refl
cleared (t ∷ ts) p e i =
    let b = and_both (ltb 0 t.0) (numbered ts) p in
    let some = ltb-true 0 t.0 b.0 in
    let k : t.0 ≡ suc (t.0 - 1) = omega arith in
    let s = passed (t.0 - 1) t.1 (number_of ts) (subst (λ (k : ℕ). (k when t.1 else number_of ts) ≡ 0) k e) in
    at s.0 (λ j. cleared ts b.1 s.1 j) i
  where
    at : t.1 ≡ false → ((j : ℕ) → holds_at ts j ≡ false) → (i : ℕ) → holds_at (t ∷ ts) i ≡ false
    at here later zero = here
    at here later (suc j) = later j

-- the number of the first tests, where it is not 0, is that of all
early : (ts us : Tests) {r : ℕ} → r ≡ number_of ts → (r ≡ 0 → ⊥) → r ≡ number_of (ts ++ us)
unfolding number_of
early [] us e f = absurd (f e)
early (t ∷ ts) us e f =
    decide t.1
    (λ h. e ∙ stop t.0 t.1 (number_of ts) h ∙ sym (stop t.0 t.1 (number_of (ts ++ us)) h))
    (λ h. early ts us (e ∙ past t.0 t.1 (number_of ts) h) f ∙ sym (past t.0 t.1 (number_of (ts ++ us)) h))

-- what the first tests refuse is refused
pub refused_early : (ts us : Tests) (refusal : Refusal) → number refusal ≡ number_of ts → number refusal ≡ number_of (ts ++ us)
refused_early ts us refusal e = let some = number_positive refusal in early ts us e (λ z. omega arith)

-- where it is 0, the number of all is that of the others
pub cleared_rest : (ts us : Tests) {r : ℕ} → numbered ts ≡ true → number_of ts ≡ 0 → r ≡ number_of us → r ≡ number_of (ts ++ us)
unfolding number_of numbered
cleared_rest [] us p z e = e
cleared_rest (t ∷ ts) us p z e =
    let b = and_both (ltb 0 t.0) (numbered ts) p in
    let some = ltb-true 0 t.0 b.0 in
    let k : t.0 ≡ suc (t.0 - 1) = omega arith in
    let s = passed (t.0 - 1) t.1 (number_of ts) (subst (λ (k : ℕ). (k when t.1 else number_of ts) ≡ 0) k z) in
    cleared_rest ts us b.1 s.1 e ∙ sym (past t.0 t.1 (number_of (ts ++ us)) s.0)
