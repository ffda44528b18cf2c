-- A number as `seek` prints it, below 10^20: one digit or more, no leading zero but for 0 itself, and it reads back as the number.
use Rattle.std.specs.Prelude.{ℕ, zero, suc, ◌+◌, ◌-◌, ◌*◌, ◌/◌, ◌%◌, ◌^◌, ◌≤◌, ◌<◌, ◌≡◌, refl, ◌≢◌, Bool, true, false, cond, List, [], ◌∷◌, ◌++◌, leb, ltb, length, get_or}
use Rattle.std.proofs.Common.{pow-suc, arith, sym, ap, ◌∙◌, ltb-true, ltb-false, lt-ltb, le-leb, length-append}
use Rattle.std.proofs.Math.ListN.{get_or-append}
use Rattle.definition.specs.Lists.{each}
use Rattle.definition.specs.Seek.{is_digit, decimal_from, digits, decimal}
use Rattle.laws.specs.Truth.{both_and, and_both}

pub record Printed (v : ℕ) (bytes : List ℕ) : Type 0 where
  pub some : 0 < length bytes
  pub digit : each is_digit bytes ≡ true
  pub no_leading_zero : 0 < v → get_or bytes 0 0 ≢ 48
  pub zero_alone : v ≡ 0 → bytes ≡ 48 ∷ []
  pub reads_back : decimal_from 0 bytes ≡ v

reads_snoc : (v : ℕ) (bs : List ℕ) (b : ℕ) → decimal_from v (bs ++ (b ∷ [])) ≡ decimal_from v bs * 10 + (b - 48)
unfolding decimal_from
reads_snoc v [] b = refl
reads_snoc v (x ∷ bs) b = reads_snoc (v * 10 + (x - 48)) bs b

digit_snoc : (bs : List ℕ) (b : ℕ) → each is_digit bs ≡ true → is_digit b ≡ true → each is_digit (bs ++ (b ∷ [])) ≡ true
unfolding each
digit_snoc [] b h d = both_and (is_digit b) true d refl
digit_snoc (x ∷ bs) b h d =
    let p = and_both (is_digit x) (each is_digit bs) h in
    both_and (is_digit x) (each is_digit (bs ++ (b ∷ []))) p.0 (digit_snoc bs b p.1 d)

is_digit_lem : (v : ℕ) → v < 10 → is_digit (48 + v) ≡ true
unfolding is_digit
is_digit_lem v h = both_and (leb 48 (48 + v)) (leb (48 + v) 57) (le-leb 48 (48 + v) (omega arith)) (le-leb (48 + v) 57 (omega arith))

-- one digit
one_printed : (v : ℕ) → v < 10 → Printed v ((48 + v % 10) ∷ [])
unfolding each decimal_from
one_printed v h =
    record {
      some = omega arith;
      digit = digit_snoc [] (48 + v % 10) refl (is_digit_lem (v % 10) (omega arith));
      no_leading_zero = λ p e. omega arith;
      zero_alone = λ e. ap (λ (u : ℕ). (48 + u % 10) ∷ []) e;
      reads_back = omega arith;
    }

-- one more
more_printed : (v : ℕ) (bs : List ℕ) → 10 ≤ v → Printed (v / 10) bs → Printed v (bs ++ ((48 + v % 10) ∷ []))
more_printed v bs h p =
    record {
      some = omega (arith, p.some, length-append bs ((48 + v % 10) ∷ []));
      digit = digit_snoc bs (48 + v % 10) p.digit (is_digit_lem (v % 10) (omega arith));
      no_leading_zero = λ l e. p.no_leading_zero (omega arith) (sym (get_or-append bs ((48 + v % 10) ∷ []) 0 0 p.some) ∙ e);
      zero_alone = λ e. absurd (omega arith);
      reads_back = reads_snoc 0 bs (48 + v % 10) ∙ omega (arith, p.reads_back);
    }

-- with fuel for as many digits as it has
pub digits_printed : (fuel v : ℕ) → v < 10 ^ suc fuel → Printed v (digits (suc fuel) v)
unfolding digits
digits_printed zero v h = rw (lt-ltb v 10 h) (one_printed v h)
digits_printed (suc fuel) v h = go (ltb v 10) refl (λ l. digits_printed fuel (v / 10) l)
  where
    go : (b : Bool) → ltb v 10 ≡ b → (v / 10 < 10 ^ suc fuel → Printed (v / 10) (digits (suc fuel) (v / 10)))
        → Printed v (cond b [] (digits (suc fuel) (v / 10)) ++ ((48 + v % 10) ∷ []))
    go true e ih = one_printed v (ltb-true v 10 e)
    go false e ih = more_printed v (digits (suc fuel) (v / 10)) (ltb-false v 10 e) (ih (omega (arith, pow-suc 10 (suc fuel))))

pub decimal_reads_back : (v : ℕ) → v < 10 ^ 20 → Printed v (decimal v)
unfolding decimal
decimal_reads_back v h = digits_printed 19 v h
