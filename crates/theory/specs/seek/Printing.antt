-- What is printed is read back: a reader that splits at spaces and newlines, as `seek` itself does, and takes the decimals, the first for the count and then
-- two by two an id and its distance, has the very answers that `print_found` was given.
use Rattle.std.specs.Prelude.{ℕ, ◌^◌, ◌<◌, ◌≡◌, refl, true, false, leb, eqb, length, get_or, drop}
use Rattle.std.proofs.Common.{ap, ◌∙◌, arith, leb-true, ne_eqb}
use mathlib.Core.List.Memᴰ.{head as here}
use mathlib.Core.List.Memᴰ.{tail as there}
use mathlib.Core.List.{List, [], ◌∷◌, ◌++◌, map, append_assoc, append-nil, Memᴰ as Mem}
use Rattle.std.proofs.Math.Seq.{append_snoc}
use Rattle.definition.specs.Lists.{each, joined}
use Rattle.definition.specs.Beam.{Item, item}
use Rattle.definition.specs.Seek.{splits, ended, words_from, is_digit, decimal_from, decimal, print_item, print_found}
use Rattle.laws.specs.Truth.{and_both, neither_or}
use Rattle.theory.specs.seek.Decimals.{Printed, digits_printed}

-- the decimals that stand in some bytes
unfoldable pub numbers_in : List ℕ → List ℕ
numbers_in bytes = map (decimal_from 0) (words_from [] bytes)

-- two by two: an id, then its distance
unfoldable pub pairs_of : List ℕ → List Item
pairs_of [] = []
pairs_of (i ∷ []) = []
pairs_of (i ∷ (d ∷ ns)) = item d i ∷ pairs_of ns

unfoldable pub count_read : List ℕ → ℕ
count_read bytes = get_or (numbers_in bytes) 0 0

unfoldable pub items_read : List ℕ → List Item
items_read bytes = pairs_of (drop 1 (numbers_in bytes))

-- ---- a word, up to the byte that ends it

digit-splits : (b : ℕ) → is_digit b ≡ true → splits b ≡ false
unfolding is_digit splits
digit-splits b h =
    let p = and_both (leb 48 b) (leb b 57) h in
    let low = leb-true 48 b p.0 in
    neither_or (eqb b 32) (eqb b 10) (ne_eqb b 32 (λ e. omega arith)) (ne_eqb b 10 (λ e. omega arith))

word_ends : (word bs : List ℕ) (b : ℕ) (rest : List ℕ) → each is_digit bs ≡ true → splits b ≡ true
    → words_from word (bs ++ b ∷ rest) ≡ ended (word ++ bs) (words_from [] rest)
unfolding words_from each
word_ends word [] b rest h s = rw (s, append-nil) refl
word_ends word (x ∷ bs) b rest h s =
    let p = and_both (is_digit x) (each is_digit bs) h in
    rw (digit-splits x p.0)
    (word_ends (word ++ (x ∷ [])) bs b rest p.1 s ∙ ap (λ (l : List ℕ). ended l (words_from [] rest)) (append_assoc word (x ∷ []) bs))

pub ended_some : (word : List ℕ) (ws : List (List ℕ)) → 0 < length word → ended word ws ≡ word ∷ ws
unfolding ended
ended_some [] ws h = absurd (omega arith)
ended_some (b ∷ bs) ws h = refl

number_ends : (v b : ℕ) (rest : List ℕ) → v < 10 ^ 20 → splits b ≡ true → numbers_in (decimal v ++ b ∷ rest) ≡ v ∷ numbers_in rest
unfolding numbers_in decimal
number_ends v b rest h s =
    let p : Printed v (decimal v) = digits_printed 19 v h in
    ap (map (decimal_from 0)) (word_ends [] (decimal v) b rest p.digit s ∙ ended_some (decimal v) (words_from [] rest) p.some)
    ∙ ap (λ (u : ℕ). u ∷ map (decimal_from 0) (words_from [] rest)) p.reads_back

-- ---- all of it

-- id and distance of each, one after another
unfoldable laid : List Item → List ℕ
laid [] = []
laid (x ∷ xs) = x.id ∷ (x.dist ∷ laid xs)

-- small enough to be printed whole
pub record Small (x : Item) : Type 0 where
  pub id_small : x.id < 10 ^ 20
  pub dist_small : x.dist < 10 ^ 20

none_read : numbers_in [] ≡ []
unfolding numbers_in words_from ended
none_read = refl

space_splits : splits 32 ≡ true
unfolding splits
space_splits = refl

newline_splits : splits 10 ≡ true
unfolding splits
newline_splits = refl

line_is : (x : Item) (rest : List ℕ) → print_item x ++ rest ≡ decimal x.id ++ 32 ∷ (decimal x.dist ++ 10 ∷ rest)
unfolding print_item
line_is x rest =
    append_snoc (decimal x.id ++ 32 ∷ decimal x.dist) 10 rest ∙ append_assoc (decimal x.id) (32 ∷ decimal x.dist) (10 ∷ rest)

lines_read : (xs : List Item) → ((x : Item) → Mem x xs → Small x) → numbers_in (joined (map print_item xs)) ≡ laid xs
unfolding joined laid
lines_read [] small = none_read
lines_read (x ∷ xs) small =
    let s = small x (here refl) in
    let rest = joined (map print_item xs) in
    ap numbers_in (line_is x rest)
    ∙ number_ends x.id 32 (decimal x.dist ++ 10 ∷ rest) s.id_small space_splits
    ∙ ap (λ (l : List ℕ). x.id ∷ l) (number_ends x.dist 10 rest s.dist_small newline_splits)
    ∙ ap (λ (l : List ℕ). x.id ∷ (x.dist ∷ l)) (lines_read xs (λ y m. small y (there m)))

pub items_read_lem : (xs : List Item) → length xs < 10 ^ 20 → ((x : Item) → Mem x xs → Small x)
    → (count_read (print_found xs) ≡ length xs) × (items_read (print_found xs) ≡ xs)
unfolding count_read items_read print_found pairs_of laid
items_read_lem xs few small =
    let lines = joined (map print_item xs) in
    let e : numbers_in (decimal (length xs) ++ (10 ∷ []) ++ lines) ≡ length xs ∷ laid xs = ap numbers_in (append_snoc (decimal (length xs)) 10 lines)
    ∙ number_ends (length xs) 10 lines few newline_splits ∙ ap (λ (l : List ℕ). length xs ∷ l) (lines_read xs small) in
    (ap (λ (l : List ℕ). get_or l 0 0) e, ap (λ (l : List ℕ). pairs_of (drop 1 l)) e ∙ pairs-laid xs)
  where
    pairs-laid : (xs : List Item) → pairs_of (laid xs) ≡ xs
    pairs-laid [] = refl
    pairs-laid (x ∷ xs) = ap (λ (l : List Item). x ∷ l) (pairs-laid xs)
