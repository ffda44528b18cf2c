-- A list from its end to its front: what stands where, one more put in, one place set.
use Rattle.std.specs.Prelude.{◌≡◌, Bool, true, false, ℕ, zero, suc, ◌+◌, ◌-◌, ◌≤◌, ◌<◌, min, leb, ltb, get_or, take, drop, set}
use Rattle.std.proofs.Math.Path.{refl}
use Rattle.std.proofs.Common.{sym, ap, ap₂, ◌∙◌, ltb-true, ltb-false, leb-true, leb-false, length-drop, take-append-drop, take_all, take_at, drop_at, get_or-append-add}
use mathlib.Core.List.{List, [], ◌∷◌, ◌++◌, append_assoc, append-nil, map}
use native.Mathlib.Omega.{arith}
use Rattle.std.proofs.Math.ListN.{length, length-append, get_or-append}
use Rattle.std.proofs.Math.Seq.{split_at}
use Rattle.std.proofs.lemmas.List.{set_at, set_split}

module _ {A : Type 0} where
  unfoldable pub rev : List A → List A
  rev [] = []
  rev (x ∷ xs) = rev xs ++ (x ∷ [])

  pub length_rev : (l : List A) → length (rev l) ≡ length l
  unfolding rev
  length_rev [] = refl
  length_rev (x ∷ xs) = let h = length_rev xs in length-append (rev xs) (x ∷ []) ∙ omega arith

  -- the i-th from the end
  pub get_or_rev : (d : A) (l : List A) (i : ℕ) → i < length l → get_or (rev l) i d ≡ get_or l (length l - 1 - i) d
  unfolding rev
  get_or_rev d [] i h = absurd (omega arith)
  get_or_rev d (x ∷ xs) i h = go (ltb i (length xs)) refl (λ (l : i < length xs). get_or_rev d xs i l)
    where
      n : length (rev xs) ≡ length xs
      n = length_rev xs

      go : (t : Bool) → ltb i (length xs) ≡ t → (i < length xs → get_or (rev xs) i d ≡ get_or xs (length xs - 1 - i) d)
          → get_or (rev xs ++ (x ∷ [])) i d ≡ get_or (x ∷ xs) (suc (length xs) - 1 - i) d
      go true e again =
          let l : i < length xs = ltb-true i (length xs) e in
          let q : suc (length xs) - 1 - i ≡ suc (length xs - 1 - i) = omega arith in
          get_or-append (rev xs) (x ∷ []) d i (omega (arith, n)) ∙ again l ∙ ap (λ (k : ℕ). get_or (x ∷ xs) k d) (sym q)
      go false e again =
          let l : length xs ≤ i = ltb-false i (length xs) e in
          let p : i ≡ length (rev xs) + 0 = omega (arith, n) in
          let q : suc (length xs) - 1 - i ≡ 0 = omega arith in
          ap (λ (k : ℕ). get_or (rev xs ++ (x ∷ [])) k d) p ∙ get_or-append-add (rev xs) (x ∷ []) 0 d ∙ ap (λ (k : ℕ). get_or (x ∷ xs) k d) (sym q)

  -- the first k, or all where there are fewer
  pub take_least : (k c : ℕ) (l : List A) → c ≡ min k (length l) → take c l ≡ take k l
  take_least k c l e = go (leb k (length l)) refl
    where
      go : (t : Bool) → leb k (length l) ≡ t → take c l ≡ take k l
      go true q = let h : k ≤ length l = leb-true k (length l) q in let z : c ≡ k = omega arith in ap (λ (m : ℕ). take m l) z
      go false q = let h : length l < k = leb-false k (length l) q in take_all c l (omega arith) ∙ sym (take_all k l (omega arith))

pub map-append : {A B : Type 0} (f : A → B) (l m : List A) → map f (l ++ m) ≡ map f l ++ map f m
map-append f [] m = refl
map-append {A} {B} f (x ∷ xs) m = ap (λ (z : List B). f x ∷ z) (map-append f xs m)

pub map-rev : {A B : Type 0} (f : A → B) (l : List A) → map f (rev l) ≡ rev (map f l)
unfolding rev
map-rev f [] = refl
map-rev {A} {B} f (x ∷ xs) = map-append f (rev xs) (x ∷ []) ∙ ap (λ (z : List B). z ++ (f x ∷ [])) (map-rev f xs)

pub map-take : {A B : Type 0} (f : A → B) (k : ℕ) (l : List A) → map f (take k l) ≡ take k (map f l)
map-take f zero l = refl
map-take f (suc k) [] = refl
map-take {A} {B} f (suc k) (x ∷ xs) = ap (λ (z : List B). f x ∷ z) (map-take f k xs)

-- ---- two lists, and one place
rev-append : {A : Type 0} (l m : List A) → rev (l ++ m) ≡ rev m ++ rev l
unfolding rev
rev-append [] m = sym (append-nil (rev m))
rev-append {A} (x ∷ l) m = ap (λ (z : List A). z ++ (x ∷ [])) (rev-append l m) ∙ append_assoc (rev m) (rev l) (x ∷ [])

rev_middle : {A : Type 0} (l : List A) (y : A) (m : List A) → rev (l ++ y ∷ m) ≡ rev m ++ y ∷ rev l
unfolding rev
rev_middle l y m = rev-append l (y ∷ m) ∙ append_assoc (rev m) (y ∷ []) (rev l)

-- y put in at j: from the back it is put in at the place that has as many in front as there are from j on
pub rev_put_in : {A : Type 0} (y : A) (l : List A) (j at : ℕ) → j + at ≡ length l
    → rev (take j l ++ y ∷ drop j l) ≡ take at (rev l) ++ y ∷ drop at (rev l)
rev_put_in {A} y l j at e = rev_middle (take j l) y (drop j l) ∙ ap₂ (λ (u v : List A). u ++ y ∷ v) (sym front) (sym back)
  where
    size : length (rev (drop j l)) ≡ at
    size = length_rev (drop j l) ∙ length-drop j l ∙ omega arith

    parts : rev l ≡ rev (drop j l) ++ rev (take j l)
    parts = ap rev (sym (take-append-drop j l)) ∙ rev-append (take j l) (drop j l)

    front : take at (rev l) ≡ rev (drop j l)
    front = ap (take at) parts ∙ take_at (rev (drop j l)) (rev (take j l)) at size

    back : drop at (rev l) ≡ rev (take j l)
    back = ap (drop at) parts ∙ drop_at (rev (drop j l)) (rev (take j l)) at size

-- the i-th from the end is set
pub rev-set : {A : Type 0} (d : A) (l : List A) (i j : ℕ) (v : A) → i < length l → j ≡ length l - 1 - i → set (rev l) j v ≡ rev (set l i v)
rev-set {A} d l i j v h e =
    ap (λ (z : List A). set z j v) (ap rev (split_at l i d h) ∙ rev_middle (take i l) (get_or l i d) (drop (suc i) l))
    ∙ set_at (rev (drop (suc i) l)) (get_or l i d) (rev (take i l)) v j (length_rev (drop (suc i) l) ∙ length-drop (suc i) l ∙ omega arith)
    ∙ sym (rev_middle (take i l) v (drop (suc i) l)) ∙ ap rev (sym (set_split l i v h))
