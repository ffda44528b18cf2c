-- An item that enters work and frontier: what both become, in one list.
use mathlib.Core.Path.{◌≡◌, refl, sym, ap, ◌∙◌, subst}
use mathlib.Core.Logic.{◌⊎◌, inl, inr}
use mathlib.Core.Bool.{Bool, true, false, cond}
use mathlib.Core.List.{List, [], ◌∷◌, ◌++◌, append_assoc}
use Prim.Native.Nat.{ℕ, zero, suc, ◌≤◌, ◌<◌, zero-le}
use native.Mathlib.Omega.{arith}
use borrow.Author.Tests.{ltb-true, ltb-false, lt-ltb, le-ltb}
use lib.Dec.{ltb}
use lib.ListN.{length, get_or, take, drop}
use Rattle.definition.specs.Lists.{place}
use Rattle.definition.specs.Beam.{Item, nobody, nearer, worse, insert, insert_capped, worst}
use Rattle.laws.specs.Truth.{either}
use Rattle.laws.specs.Sorting.{behind_through}
use Rattle.laws.specs.Items.{nearer_order, not_nearer, strictly_nearer}
use Rattle.laws.specs.All.{All, all_append, all_weaker}
use Rattle.laws.specs.Descending.{Desc, all_insert}
use Rattle.laws.specs.Inserts.{insert-behind, length-insert, capped_room, capped_nearer}
use Rattle.kept.specs.Kept.{Kept, key_of, items, opens, opening, Closed, Inside, Falling, Beyond}
use Rattle.kept.specs.Keyed.{open_nearer, length-items}

-- ---- `insert` into the front, and past the front
-- x is nearer than none of them
insert-front : (x : Item) (l : List Item) → All (λ (z : Item). nearer x z ≡ false) l → insert x l ≡ x ∷ l
unfolding insert place worse
insert-front x [] a = refl
insert-front x (y ∷ ys) a = rw a.0 refl

-- x is nearer than all of the first ones
behind-rest : (x : Item) (rest l : List Item) → All (λ (r : Item). nearer x r ≡ true) rest → insert x (rest ++ l) ≡ rest ++ insert x l
behind-rest x [] l a = refl
behind-rest x (r ∷ rest) l a = insert-behind x r (rest ++ l) a.0 ∙ ap (λ (z : List Item). r ∷ z) (behind-rest x rest l a.1)

-- ---- the open ones
-- an item where it is open
pub own : Kept → List Item
own k = cond k.is_open (k.of ∷ []) []

pub opens-first : (k : Kept) (ks : List Kept) → opens (k ∷ ks) ≡ own k ++ opens ks
unfolding opens own
opens-first k ks = go k.is_open
  where
    go : (t : Bool) → cond t (k.of ∷ opens ks) (opens ks) ≡ cond t (k.of ∷ []) [] ++ opens ks
    go true = refl
    go false = refl

all_own : (P : Item → Type 0) (k : Kept) → P k.of → All P (own k)
unfolding own
all_own P k p = either (All P) k.is_open (p, tt) tt

pub opens_closed : (ks : List Kept) → Closed ks → opens ks ≡ []
unfolding opens
opens_closed [] c = refl
opens_closed (k ∷ ks) c = rw c.0 (opens_closed ks c.1)

all-opens : (P : Item → Type 0) (ks : List Kept) → All P (items ks) → All P (opens ks)
unfolding opens
all-opens P [] a = tt
all-opens P (k ∷ ks) a = either (All P) k.is_open (a.0, all-opens P ks a.1) (all-opens P ks a.1)

-- ---- an item that is put in, open
pub put : Item → List Kept → List Kept
put x [] = opening x ∷ []
put x (k ∷ ks) = let r = put x ks in cond (nearer x k.of) (k ∷ r) (opening x ∷ k ∷ ks)

put-items : (x : Item) (ks : List Kept) → items (put x ks) ≡ insert x (items ks)
unfolding insert place worse put
put-items x [] = refl
put-items x (k ∷ ks) = go (nearer x k.of) (put-items x ks)
  where
    go : (t : Bool) → items (put x ks) ≡ insert x (items ks)
        → items (cond t (k ∷ put x ks) (opening x ∷ k ∷ ks)) ≡ cond t (k.of ∷ insert x (items ks)) (x ∷ k.of ∷ items ks)
    go true r = ap (λ (z : List Item). k.of ∷ z) r
    go false r = refl

put-opens : (x : Item) (ks : List Kept) → Desc (items ks) → opens (put x ks) ≡ insert x (opens ks)
unfolding put opens
put-opens x [] d = sym (insert-front x [] tt)
put-opens x (k ∷ ks) d = go (nearer x k.of) refl (put-opens x ks d.1)
  where
    later : nearer x k.of ≡ false → All (λ (z : Item). nearer x z ≡ false) (items ks)
    later e =
        all_weaker (λ (z : Item). nearer k.of z ≡ false) (λ (z : Item). nearer x z ≡ false) (λ z g. behind_through nearer_order x k.of z e g) (items ks)
        d.0

    go : (t : Bool) → nearer x k.of ≡ t → opens (put x ks) ≡ insert x (opens ks)
        → opens (cond t (k ∷ put x ks) (opening x ∷ k ∷ ks)) ≡ insert x (opens (k ∷ ks))
    go true e r =
        opens-first k (put x ks) ∙ ap (λ (z : List Item). own k ++ z) r
        ∙ sym (behind-rest x (own k) (opens ks) (all_own (λ (z : Item). nearer x z ≡ true) k e)) ∙ ap (insert x) (sym (opens-first k ks))
    go false e r = sym (insert-front x (opens (k ∷ ks)) (all-opens (λ (z : Item). nearer x z ≡ false) (k ∷ ks) (e, later e)))

pub length-put : (x : Item) (ks : List Kept) → length (put x ks) ≡ suc (length ks)
length-put x ks = sym (length-items (put x ks)) ∙ ap length (put-items x ks) ∙ length-insert x (items ks) ∙ ap suc (length-items ks)

-- x goes in at j, where it is nearer than each item in front of j, and not nearer than the one at j if there is one
pub put_first : (x : Item) (ks : List Kept) (j : ℕ) → j ≤ length ks → ((k : ℕ) → k < j → nearer x (get_or ks k (opening nobody)).of ≡ true)
    → (j < length ks → nearer x (get_or ks j (opening nobody)).of ≡ false) → put x ks ≡ take j ks ++ opening x ∷ drop j ks
unfolding put
put_first x [] zero h lo at = refl
put_first x [] (suc j) h lo at = absurd (omega arith)
put_first x (k ∷ ks) zero h lo at = rw (at (omega arith)) refl
put_first x (k ∷ ks) (suc j) h lo at =
    rw (lo 0 (omega arith)) (ap (λ (z : List Kept). k ∷ z) (put_first x ks j (omega arith) (λ i g. lo (suc i) (omega arith)) (λ g. at (omega arith))))

pub all-put : (P : Kept → Type 0) (x : Item) (ks : List Kept) → P (opening x) → All P ks → All P (put x ks)
unfolding put
all-put P x [] p a = (p, tt)
all-put P x (k ∷ ks) p a = either (All P) (nearer x k.of) (a.0, all-put P x ks p a.1) (p, a)

pub falling_put : (n : ℕ) (x : Item) (ks : List Kept) → n ≤ 65536 → x.id < 65536 → All (Inside n) ks → Falling ks → Falling (put x ks)
unfolding put
falling_put n x [] m h a f = (tt, tt)
falling_put n x (k ∷ ks) m h a f = go (nearer x k.of) (open_nearer x k h (omega arith)) (falling_put n x ks m h a.1 f.1)
  where
    go : (t : Bool) → ltb (key_of (opening x)) (key_of k) ≡ t → Falling (put x ks) → Falling (cond t (k ∷ put x ks) (opening x ∷ k ∷ ks))
    go true e r = let l = ltb-true (key_of (opening x)) (key_of k) e in (all-put (λ (z : Kept). key_of z ≤ key_of k) x ks (omega arith) f.0, r)
    go false e r =
        let l = ltb-false (key_of (opening x)) (key_of k) e in
        ((l, all_weaker (λ (z : Kept). key_of z ≤ key_of k) (λ (z : Kept). key_of z ≤ key_of (opening x)) (λ z g. omega arith) ks f.0), f)

-- ---- an item enters work and frontier, and `rest` is what the frontier has besides
pub record Entered (beam : ℕ) (x : Item) (ks : List Kept) (frontier work : List Item) : Type 0 where
  pub rest : List Item
  pub work_is : insert_capped beam x work ≡ items (put x ks)
  pub frontier_is : insert x frontier ≡ rest ++ opens (put x ks)
  pub beyond : All (Beyond beam (items (put x ks))) rest

-- work below beam: nothing was cut from it, so all of the frontier is open
none-beyond : (beam : ℕ) (work rest : List Item) → length work < beam → All (Beyond beam work) rest → rest ≡ []
none-beyond beam work [] h far = refl
none-beyond beam work (r ∷ rest) h far = absurd (omega (arith, far.0.1.0))

pub entered_room : (beam : ℕ) (x : Item) (ks : List Kept) (rest frontier : List Item) → Desc (items ks) → frontier ≡ rest ++ opens ks
    → All (Beyond beam (items ks)) rest → length ks < beam → Entered beam x ks frontier (items ks)
entered_room beam x ks rest frontier d parts far h =
    record {
      rest = [];
      work_is = capped_room beam x (items ks) fits ∙ sym (put-items x ks);
      frontier_is =
          ap (insert x) (parts ∙ ap (λ (l : List Item). l ++ opens ks) (none-beyond beam (items ks) rest fits far)) ∙ sym (put-opens x ks d);
      beyond = tt;
    }
  where
    fits : length (items ks) < beam
    fits = omega (arith, length-items ks)

-- what is not nearer is no farther
behind_dist : (y z : Item) → nearer y z ≡ false → z.dist ≤ y.dist
behind_dist y z e = go (not_nearer y z e)
  where
    go : (z.dist < y.dist) ⊎ ((y.dist ≡ z.dist) × (z.id ≤ y.id)) → z.dist ≤ y.dist
    go (inl h) = omega arith
    go (inr h) = omega arith

worst_most : (m : ℕ) (l : List Item) → All (λ (z : Item). z.dist ≤ m) l → (worst l).dist ≤ m
unfolding worst
worst_most m [] a = zero-le
worst_most m (w ∷ ws) a = a.0

-- full work: its worst k leaves, and if it is open it stands in the rest of the frontier
module _ (beam : ℕ) (x : Item) (k : Kept) (ks : List Kept) (rest frontier : List Item) (d : Desc (items (k ∷ ks))) (size : length (k ∷ ks) ≡ beam)
    (parts : frontier ≡ rest ++ opens (k ∷ ks)) (far : All (Beyond beam (items (k ∷ ks))) rest) (h : x.dist < k.of.dist) where
  -- all of the rest is as far as k
  farther : All (λ (r : Item). k.of.dist ≤ r.dist) (rest ++ own k)
  unfolding worst
  farther =
      all_append (λ (r : Item). k.of.dist ≤ r.dist) rest (own k)
      (all_weaker (Beyond beam (items (k ∷ ks))) (λ (r : Item). k.of.dist ≤ r.dist) (λ r b. ltb-false r.dist k.of.dist b.1.1) rest far)
      (all_own (λ (r : Item). k.of.dist ≤ r.dist) k (omega arith))

  new_length : length (items (put x ks)) ≡ beam
  new_length = length-items (put x ks) ∙ length-put x ks ∙ size

  new_worst : (worst (items (put x ks))).dist ≤ k.of.dist
  new_worst =
      worst_most k.of.dist (items (put x ks)) (subst (All (λ (z : Item). z.dist ≤ k.of.dist)) (sym (put-items x ks))
      (all_insert (λ (z : Item). z.dist ≤ k.of.dist) x (items ks) (omega arith)
      (all_weaker (λ (z : Item). nearer k.of z ≡ false) (λ (z : Item). z.dist ≤ k.of.dist) (behind_dist k.of) (items ks) d.0)))

  pub entered_full : Entered beam x ks frontier (items (k ∷ ks))
  entered_full =
      record {
        rest = rest ++ own k;
        work_is =
            capped_nearer beam x k.of (items ks) (omega arith) (omega (arith, length-items ks)) (lt-ltb x.dist k.of.dist h) ∙ sym (put-items x ks);
        frontier_is =
            ap (insert x) (parts ∙ ap (λ (l : List Item). rest ++ l) (opens-first k ks) ∙ sym (append_assoc rest (own k) (opens ks)))
            ∙ behind-rest x (rest ++ own k) (opens ks)
            (all_weaker (λ (r : Item). k.of.dist ≤ r.dist) (λ (r : Item). nearer x r ≡ true) (λ r g. strictly_nearer x r (omega arith)) (rest ++ own k)
            farther)
            ∙ ap (λ (l : List Item). (rest ++ own k) ++ l) (sym (put-opens x ks d.1));
        beyond =
            all_weaker (λ (r : Item). k.of.dist ≤ r.dist) (Beyond beam (items (put x ks)))
            (λ r g. (omega (arith, new_length), (omega (arith, new_length), le-ltb r.dist (worst (items (put x ks))).dist (omega (arith, new_worst)))))
            (rest ++ own k) farther;
      }
