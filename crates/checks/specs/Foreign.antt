-- The search rule word by word. A word is padding or below n exactly if one more than it, wrapped, does not exceed n.
use Rattle.std.specs.Prelude.{◌≡◌, ℕ, ◌+◌, ◌%◌, ◌^◌, ◌<◌, Bool, true, false, not, ◌||◌, ◌==◌, nat_lt, refl}
use Rattle.std.proofs.Common.{arith, eqb-true, ltb-true, ltb-false, lt-ltb, le-ltb}
use Rattle.std.proofs.lemmas.Bool.{eqb-false}
use Rattle.definition.specs.Tables.{pad}

-- the test that the search rule makes of a word
abbrev pub is_word : ℕ → ℕ → Bool
is_word n w = w == pad || nat_lt w n

-- one comparison for both
pub word_foreign : (n w up : ℕ) → w < 2 ^ 32 → up ≡ (w + 1) % 2 ^ 32 → nat_lt n up ≡ not (is_word n w)
unfolding pad
word_foreign n w up h e = go (w == 0xFFFFFFFF) refl (nat_lt w n) refl
  where
    go : (p : Bool) → (w == 0xFFFFFFFF) ≡ p → (q : Bool) → nat_lt w n ≡ q → nat_lt n up ≡ not (p || q)
    go true ep q eq = let x = eqb-true w 0xFFFFFFFF ep in le-ltb n up (omega arith)
    go false ep true eq = let x = eqb-false w 0xFFFFFFFF ep in let y = ltb-true w n eq in le-ltb n up (omega arith)
    go false ep false eq = let x = eqb-false w 0xFFFFFFFF ep in let y = ltb-false w n eq in lt-ltb n up (omega arith)
