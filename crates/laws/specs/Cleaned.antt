-- A table as it is cleaned: as long as it was, cleaned row by row, and the same where every word is padding or an id below n.
use Rattle.std.specs.Prelude.{◌≡◌, refl, Bool, true, false, cond, ◌&&◌, ◌||◌, List, [], ◌∷◌, ℕ, suc, ◌*◌, ◌<◌, eqb, ltb, length, take, drop}
use Rattle.std.proofs.Common.{sym, ap, ap₂, ◌∙◌, arith, lt-ltb, eq-eqb, eqb-true}
use Rattle.std.proofs.Math.Bool.{or-true}
use Rattle.std.proofs.lemmas.Bool.{false≢true, eqb-false}
use Rattle.std.proofs.lemmas.List.{length-map}
use Rattle.definition.specs.Lists.{each}
use Rattle.definition.specs.Tables.{pad, row, search_rule, cleaned}
use Rattle.laws.specs.Backwards.{map-take}
use Rattle.laws.specs.Mapped.{map_drop}
use Rattle.laws.specs.Truth.{decide}
use Rattle.laws.specs.Words.{padding, Searchable}

pub length-cleaned : (n : ℕ) (table : List ℕ) → length (cleaned n table) ≡ length table
unfolding cleaned
length-cleaned n table = length-map table (λ (w : ℕ). cond (ltb w n) w pad)

pub row-cleaned : (n width : ℕ) (table : List ℕ) (i : ℕ) → row width (cleaned n table) i ≡ cleaned n (row width table i)
unfolding row cleaned
row-cleaned n width table i =
    let f : ℕ → ℕ = λ w. cond (ltb w n) w pad in
    ap (take width) (sym (map_drop f (i * width) table)) ∙ sym (map-take f width (drop (i * width) table))

-- one word of a table that may be searched stays as it is
word_same : (n w : ℕ) → ((w ≡ padding → ⊥) → w < n) → cond (ltb w n) w pad ≡ w
unfolding pad
word_same n w h =
    decide (ltb w n) (λ t. ap (λ (b : Bool). cond b w padding) t)
    (λ f. ap (λ (b : Bool). cond b w padding) f ∙ decide (eqb w padding) (λ t. sym (eqb-true w padding t))
    (λ e. absurd (false≢true (sym f ∙ lt-ltb w n (h (eqb-false w padding e))))))

pub cleaned-same : (n : ℕ) (table : List ℕ) → Searchable n table → cleaned n table ≡ table
unfolding cleaned
cleaned-same n [] r = refl
cleaned-same n (w ∷ ws) r = ap₂ (λ (x : ℕ) (l : List ℕ). x ∷ l) (word_same n w (r 0 (omega arith))) (cleaned-same n ws (λ k h. r (suc k) (omega arith)))

-- what is cleaned keeps the search rule
pub cleaned_rule : (n : ℕ) (table : List ℕ) → search_rule n (cleaned n table) ≡ true
unfolding search_rule cleaned each
cleaned_rule n [] = refl
cleaned_rule n (w ∷ ws) = ap₂ (λ (a b : Bool). a && b) (go (ltb w n) refl) (cleaned_rule n ws)
  where
    go : (t : Bool) → ltb w n ≡ t → (eqb (cond t w pad) pad || ltb (cond t w pad) n) ≡ true
    go true e = ap (λ (b : Bool). eqb w pad || b) e ∙ or-true (eqb w pad)
    go false e = ap (λ (b : Bool). b || ltb pad n) (eq-eqb pad pad refl)
