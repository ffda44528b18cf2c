-- Distinct ids, as they are met one after another: none is among those met before.
use Rattle.std.specs.Prelude.{◌≡◌, Bool, true, false, not, ◌||◌, ◌&&◌, List, [], ◌∷◌, ℕ, ◌+◌, ◌≤◌, ◌<◌, eqb, length, get_or, drop}
use Rattle.std.proofs.Math.Path.{refl}
use Rattle.std.proofs.Common.{sym, ap, ◌∙◌, add-one, eqb-true, eq-eqb, ne_eqb, drop_of_length-le}
use Rattle.std.proofs.Math.Bool.{and-true, and-false}
use Rattle.std.proofs.lemmas.Bool.{eqb-false}
use Rattle.std.proofs.Math.Seq.{drop-cons}
use Rattle.definition.specs.Lists.{each, is_in, distinct}

-- none of the ids is in `seen` or stands twice
unfoldable pub apart : List ℕ → List ℕ → Bool
apart seen [] = true
apart seen (x ∷ xs) = not (is_in x seen) && apart (x ∷ seen) xs

-- none of the ids is in `seen`
clear : List ℕ → List ℕ → Bool
clear seen ids = each (λ y. not (is_in y seen)) ids

eqb_sym : (x y : ℕ) → eqb x y ≡ eqb y x
eqb_sym x y = go (eqb x y) refl
  where
    go : (t : Bool) → eqb x y ≡ t → t ≡ eqb y x
    go true e = sym (eq-eqb y x (sym (eqb-true x y e)))
    go false e = sym (ne_eqb y x (λ q. eqb-false x y e (sym q)))

-- one more that is seen
clear_more : (x : ℕ) (seen ids : List ℕ) → clear (x ∷ seen) ids ≡ (not (is_in x ids) && clear seen ids)
unfolding is_in each clear
clear_more x seen [] = refl
clear_more x seen (y ∷ ys) =
    ap (λ (t : Bool). not (eqb y x || is_in y seen) && t) (clear_more x seen ys)
    ∙ swap (eqb y x) (is_in y seen)
    ∙ ap (λ (t : Bool). not (t || is_in x ys) && (not (is_in y seen) && clear seen ys)) (eqb_sym y x)
  where
    swap : (e s : Bool) → (not (e || s) && (not (is_in x ys) && clear seen ys)) ≡ (not (e || is_in x ys) && (not s && clear seen ys))
    swap true s = refl
    swap false true = sym (and-false (not (is_in x ys)))
    swap false false = refl

apart_is : (seen ids : List ℕ) → apart seen ids ≡ (distinct ids && clear seen ids)
unfolding apart distinct each clear
apart_is seen [] = refl
apart_is seen (x ∷ xs) =
    ap (λ (t : Bool). not (is_in x seen) && t) (apart_is (x ∷ seen) xs ∙ ap (λ (t : Bool). distinct xs && t) (clear_more x seen xs))
    ∙ swap (is_in x seen) (is_in x xs)
  where
    swap : (s i : Bool) → (not s && (distinct xs && (not i && clear seen xs))) ≡ ((not i && distinct xs) && (not s && clear seen xs))
    swap true i = sym (and-false (not i && distinct xs))
    swap false true = and-false (distinct xs)
    swap false false = refl

clear_none : (ids : List ℕ) → clear [] ids ≡ true
unfolding is_in each clear
clear_none [] = refl
clear_none (x ∷ xs) = clear_none xs

pub apart_none : (ids : List ℕ) → apart [] ids ≡ distinct ids
apart_none ids = apart_is [] ids ∙ ap (λ (t : Bool). distinct ids && t) (clear_none ids) ∙ and-true (distinct ids)

pub apart-one : (x : ℕ) (ids : List ℕ) → apart (x ∷ []) ids ≡ (distinct ids && not (is_in x ids))
apart-one x ids =
    apart_is (x ∷ []) ids
    ∙ ap (λ (t : Bool). distinct ids && t) (clear_more x [] ids ∙ ap (λ (t : Bool). not (is_in x ids) && t) (clear_none ids) ∙ and-true (not (is_in x ids)))

-- the ids from i on: x, which stands at i, and those after it
module _ (seen ids : List ℕ) (i : ℕ) where
  pub apart_step : i < length ids → (x : ℕ) → x ≡ get_or ids i 0 → apart seen (drop i ids) ≡ (not (is_in x seen) && apart (x ∷ seen) (drop (i + 1) ids))
  unfolding apart
  apart_step h x e = rw (add-one i, drop-cons ids i 0 h, e) refl

  pub apart_end : length ids ≤ i → apart seen (drop i ids) ≡ true
  unfolding apart
  apart_end h = rw (drop_of_length-le ids h) refl
