-- Items: `nearer`, `worse` and `listed_first` are orders; what they say of distances; a list's ids; the best of a beam.
use Rattle.std.specs.Prelude.{ℕ, suc, ◌-◌, ◌≤◌, ◌<◌, ◌≡◌, refl, ◌⊎◌, Bool, true, false, ◌&&◌, ltb, eqb, length, take}
use Rattle.std.proofs.Common.{zero-le, arith, sym, ap, ap₂, ◌∙◌, subst, inl, inr, ltb-true, ltb-false, lt-ltb, eqb-true, eq-eqb, take-suc}
use mathlib.Core.List.Memᴰ.{head as here}
use mathlib.Core.List.{List, [], ◌∷◌, ◌++◌, map, Memᴰ as Mem}
use mathlib.Core.List.Memᴰ.{append_right as in-back}
use mathlib.Core.List.Memᴰ.{map as mem-map}
use mathlib.Core.List.Memᴰ.{of_map}
use Rattle.std.proofs.lemmas.Bool.{eqb-false}
use Rattle.std.proofs.Math.Seq.{take-length}
use Rattle.definition.specs.Beam.{Item, item, nobody, nearer, worse, best, without_best}
use Rattle.definition.specs.Search.{listed_first}
use Rattle.laws.specs.Truth.{and_both, both_and, or_either, either_or, or_neither, is_false, decide}
use Rattle.laws.specs.Members.{mem_length, snoc_elim}
use Rattle.laws.specs.Sorting.{Order, Ordered, ordered_across}

-- ---- ids

abbrev pub ids_of : List Item → List ℕ
ids_of cs = map (λ c. c.id) cs

pub id_in : {c : Item} {cs : List Item} → Mem c cs → Mem c.id (ids_of cs)
id_in m = mem-map (λ (c : Item). c.id) m

-- what holds of the items' ids holds of every id among them
pub ids_elim : (P : ℕ → Type 0) (cs : List Item) → ((c : Item) → Mem c cs → P c.id) → (x : ℕ) → Mem x (ids_of cs) → P x
ids_elim P cs f x m = let t = of_map (λ (c : Item). c.id) cs m in subst P t.2 (f t.0 t.1)

pub ids_within : (xs ys : List Item) → ((c : Item) → Mem c xs → Mem c ys) → (x : ℕ) → Mem x (ids_of xs) → Mem x (ids_of ys)
ids_within xs ys f x m = ids_elim (λ i. Mem i (ids_of ys)) xs (λ c h. id_in (f c h)) x m

pub ids_snoc : (xs : List Item) (c : Item) → ids_of (xs ++ (c ∷ [])) ≡ ids_of xs ++ (c.id ∷ [])
ids_snoc [] c = refl
ids_snoc (x ∷ xs) c = ap (λ (l : List ℕ). x.id ∷ l) (ids_snoc xs c)

-- ---- by distance, then by id

-- the test, as a fact
abbrev Before : Item → Item → Type 0
Before x y = (x.dist < y.dist) ⊎ ((x.dist ≡ y.dist) × (x.id < y.id))

abbrev NotBefore : Item → Item → Type 0
NotBefore x y = (y.dist < x.dist) ⊎ ((x.dist ≡ y.dist) × (y.id ≤ x.id))

pub nearer_is : (x y : Item) → nearer x y ≡ true → Before x y
unfolding nearer
nearer_is x y e = go (or_either (ltb x.dist y.dist) (eqb x.dist y.dist && ltb x.id y.id) e)
  where
    go : (ltb x.dist y.dist ≡ true) ⊎ ((eqb x.dist y.dist && ltb x.id y.id) ≡ true) → Before x y
    go (inl t) = inl (ltb-true x.dist y.dist t)
    go (inr t) =
        let b = and_both (eqb x.dist y.dist) (ltb x.id y.id) t in
        inr (eqb-true x.dist y.dist b.0, ltb-true x.id y.id b.1)

pub is_nearer : (x y : Item) → Before x y → nearer x y ≡ true
unfolding nearer
is_nearer x y (inl h) = either_or (ltb x.dist y.dist) (eqb x.dist y.dist && ltb x.id y.id) (inl (lt-ltb x.dist y.dist h))
is_nearer x y (inr h) =
    either_or (ltb x.dist y.dist) (eqb x.dist y.dist && ltb x.id y.id)
    (inr (both_and (eqb x.dist y.dist) (ltb x.id y.id) (eq-eqb x.dist y.dist h.0) (lt-ltb x.id y.id h.1)))

pub not_nearer : (x y : Item) → nearer x y ≡ false → NotBefore x y
unfolding nearer
not_nearer x y e =
    let n = or_neither (ltb x.dist y.dist) (eqb x.dist y.dist && ltb x.id y.id) e in
    let le = ltb-false x.dist y.dist n.0 in
    decide (eqb x.dist y.dist)
    (λ t. inr (eqb-true x.dist y.dist t, ltb-false x.id y.id (ap (λ (b : Bool). b && ltb x.id y.id) (sym t) ∙ n.1)))
    (λ f. let u : ¬ (x.dist ≡ y.dist) = eqb-false x.dist y.dist f in inl (omega arith))

-- two items of which neither is nearer are equal
pub neither_nearer : (x y : Item) → nearer x y ≡ false → nearer y x ≡ false → x ≡ y
neither_nearer x y p q = go (not_nearer x y p) (not_nearer y x q)
  where
    go : NotBefore x y → NotBefore y x → x ≡ y
    go (inl h) (inl k) = absurd (omega arith)
    go (inl h) (inr k) = absurd (omega arith)
    go (inr h) (inl k) = absurd (omega arith)
    go (inr h) (inr k) = ap₂ item h.0 (omega arith)

pub nearer_order : Order nearer
nearer_order =
    record {
      through = λ x y z p q. is_nearer x z (through x y z (nearer_is x y p) (nearer_is y z q));
      never_own = λ x. is_false (nearer x x) (λ t. own x (nearer_is x x t));
      settles = neither_nearer;
    }
  where
    through : (x y z : Item) → Before x y → Before y z → Before x z
    through x y z (inl p) (inl q) = inl (omega arith)
    through x y z (inl p) (inr q) = inl (omega arith)
    through x y z (inr p) (inl q) = inl (omega arith)
    through x y z (inr p) (inr q) = inr (omega arith, omega arith)

    own : (x : Item) → Before x x → ⊥
    own x (inl h) = omega arith
    own x (inr h) = omega arith

pub nearer_dist : (x y : Item) → nearer x y ≡ true → x.dist ≤ y.dist
nearer_dist x y e = go (nearer_is x y e)
  where
    go : Before x y → x.dist ≤ y.dist
    go (inl h) = omega arith
    go (inr h) = omega arith

-- a beam's order is that backwards
pub worse_order : Order worse
unfolding worse
worse_order =
    record {
      through = λ x y z p q. nearer_order.through z y x q p;
      never_own = nearer_order.never_own;
      settles = λ x y p q. nearer_order.settles x y q p;
    }

pub worse_dist : (x y : Item) → worse x y ≡ true → y.dist ≤ x.dist
unfolding worse
worse_dist x y e = nearer_dist y x e

pub strictly_nearer : (x y : Item) → x.dist < y.dist → nearer x y ≡ true
strictly_nearer x y h = is_nearer x y (inl h)

-- the answers' order is the same but for the ids, which it compares the other way round
listed-exchanged : (x y : Item) → listed_first x y ≡ nearer (item x.dist y.id) (item y.dist x.id)
unfolding listed_first nearer
listed-exchanged x y = refl

-- the test, as a fact: by distance, then the higher id
abbrev pub ListedBefore : Item → Item → Type 0
ListedBefore x y = (x.dist < y.dist) ⊎ ((x.dist ≡ y.dist) × (y.id < x.id))

pub listed_is : (x y : Item) → listed_first x y ≡ true → ListedBefore x y
listed_is x y e = nearer_is (item x.dist y.id) (item y.dist x.id) (sym (listed-exchanged x y) ∙ e)

pub is_listed_lem : (x y : Item) → ListedBefore x y → listed_first x y ≡ true
is_listed_lem x y b = listed-exchanged x y ∙ is_nearer (item x.dist y.id) (item y.dist x.id) b

pub not_listed : (x y : Item) → ¬ ListedBefore x y → listed_first x y ≡ false
not_listed x y n = is_false (listed_first x y) (λ t. n (listed_is x y t))

pub listed_order : Order listed_first
listed_order =
    record {
      through = λ x y z p q. is_listed_lem x z (through x y z (listed_is x y p) (listed_is y z q));
      never_own = λ x. listed-exchanged x x ∙ nearer_order.never_own x;
      settles = λ x y p q.
          let e = neither_nearer (item x.dist y.id) (item y.dist x.id) (sym (listed-exchanged x y) ∙ p) (sym (listed-exchanged y x) ∙ q) in
          ap₂ item (ap (λ (c : Item). c.dist) e) (sym (ap (λ (c : Item). c.id) e));
    }
  where
    through : (x y z : Item) → ListedBefore x y → ListedBefore y z → ListedBefore x z
    through x y z (inl p) (inl q) = inl (omega arith)
    through x y z (inl p) (inr q) = inl (omega arith)
    through x y z (inr p) (inl q) = inl (omega arith)
    through x y z (inr p) (inr q) = inr (omega arith, omega arith)

pub listed_higher : (x y : Item) → listed_first x y ≡ true → x.dist ≡ y.dist → y.id < x.id
listed_higher x y e same = go (listed_is x y e)
  where
    go : ListedBefore x y → y.id < x.id
    go (inl h) = absurd (omega arith)
    go (inr h) = h.1

pub listed_dist : (x y : Item) → listed_first x y ≡ true → x.dist ≤ y.dist
listed_dist x y e = nearer_dist (item x.dist y.id) (item y.dist x.id) (sym (listed-exchanged x y) ∙ e)

-- ---- the best of a beam

-- of a beam that is not empty it stands last
pub best-last : (l : List Item) → 0 < length l → l ≡ without_best l ++ (best l ∷ [])
unfolding best without_best
best-last l h = sym (take-length l) ∙ ap (λ (k : ℕ). take k l) e ∙ take-suc l (length l - 1) nobody (omega arith)
  where
    e : length l ≡ suc (length l - 1)
    e = omega arith

pub best_in : (l : List Item) → 0 < length l → Mem (best l) l
best_in l h = subst (λ (k : List Item). Mem (best l) k) (sym (best-last l h)) (in-back (without_best l) (here refl))

-- all others stand before it
pub best-after : (l : List Item) → Ordered worse l → (c : Item) → Mem c l → (worse c (best l) ≡ true) ⊎ (c ≡ best l)
best-after l o c m =
    snoc_elim (λ x. (worse x (best l) ≡ true) ⊎ (x ≡ best l)) (without_best l) (best l)
    (λ x h. inl (ordered_across (without_best l) (best l ∷ []) (subst (λ (k : List Item). Ordered worse k) parts o) x (best l) h (here refl))) (inr refl) c
    (subst (λ (k : List Item). Mem c k) parts m)
  where
    parts : l ≡ without_best l ++ (best l ∷ [])
    parts = best-last l (mem_length m)

pub best-nearest : (l : List Item) → Ordered worse l → (c : Item) → Mem c l → (best l).dist ≤ c.dist
best-nearest l o c m = go (best-after l o c m)
  where
    go : (worse c (best l) ≡ true) ⊎ (c ≡ best l) → (best l).dist ≤ c.dist
    go (inl e) = worse_dist c (best l) e
    go (inr e) = omega (arith, ap (λ (x : Item). x.dist) e)

-- a bound on all is one on the best, also of none
pub best_most : (l : List Item) (m : ℕ) → ((c : Item) → Mem c l → c.dist ≤ m) → (best l).dist ≤ m
unfolding best
best_most [] m f = zero-le
best_most (x ∷ l) m f = f (best (x ∷ l)) (best_in (x ∷ l) (omega arith))
