-- A list with f of each element: what stands at a place of it, one element more, a front cut off, one place set; the same with g, where f and g agree.
use Rattle.std.specs.Prelude.{◌≡◌, refl, ℕ, zero, suc, ◌<◌, length, get_or, drop, set}
use Rattle.std.proofs.Common.{ap, ap₂, arith}
use mathlib.Core.List.Memᴰ.{head as here}
use mathlib.Core.List.Memᴰ.{tail as there}
use mathlib.Core.List.{List, [], ◌∷◌, ◌++◌, map, Memᴰ as Mem}
use Rattle.laws.specs.Backwards.{map-append}

module _ {A B : Type 0} (f : A → B) where
  pub map_at : (d : A) (e : B) (l : List A) (k : ℕ) → k < length l → get_or (map f l) k e ≡ f (get_or l k d)
  map_at d e [] k h = absurd (omega arith)
  map_at d e (x ∷ xs) zero h = refl
  map_at d e (x ∷ xs) (suc k) h = map_at d e xs k (omega arith)

  pub map_snoc : (l : List A) (x : A) → map f (l ++ (x ∷ [])) ≡ map f l ++ (f x ∷ [])
  map_snoc l x = map-append f l (x ∷ [])

  pub map_drop : (k : ℕ) (l : List A) → map f (drop k l) ≡ drop k (map f l)
  map_drop zero l = refl
  map_drop (suc k) [] = refl
  map_drop (suc k) (x ∷ xs) = map_drop k xs

  pub map_set : (l : List A) (i : ℕ) (x : A) → map f (set l i x) ≡ set (map f l) i (f x)
  map_set [] i x = refl
  map_set (y ∷ ys) zero x = refl
  map_set (y ∷ ys) (suc i) x = ap (λ (z : List B). f y ∷ z) (map_set ys i x)

pub map_same : {A B : Type 0} (f g : A → B) (l : List A) → ((x : A) → Mem x l → f x ≡ g x) → map f l ≡ map g l
map_same f g [] h = refl
map_same {A} {B} f g (x ∷ xs) h = ap₂ (λ (y : B) (ys : List B). y ∷ ys) (h x (here refl)) (map_same f g xs (λ z m. h z (there m)))
