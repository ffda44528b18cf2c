-- What is in a list: the tests and functions of the definition's Lists, by membership. `X-mem` tells what is in an X, `mem-X` puts something in it.
use Prim.Native.Nat.{ℕ, zero, suc, ◌+◌, ◌-◌, ◌*◌, ◌≤◌, ◌<◌, zero-le}
use Rattle.std.proofs.Common.{eq-or-lt_of_le, zero-mul, suc-mul, zero-add, suc-add, add_comm, add-one, arith, sym, ap₂, ◌∙◌, subst, inl, inr, eqb-true, eq-eqb, ne_eqb, length-append, length-drop, take-append-drop, drop_of_length-le, take_at, drop_at, take-take, drop-drop, drop-cons}
use Rattle.std.specs.Prelude.{◌≡◌, ◌⊎◌, Bool, ◌&&◌, ◌||◌, eqb, take, drop, get_or, replicate}
use Rattle.std.proofs.Math.Path.{refl, ap}
use Rattle.std.proofs.Math.Bool.{true, false, cond, or_assoc, or-false}
use Rattle.std.proofs.lemmas.Bool.{false≢true}
use mathlib.Core.List.Memᴰ.{head as here}
use mathlib.Core.List.Memᴰ.{tail as there}
use mathlib.Core.List.{List, [], ◌∷◌, ◌++◌, map, append-nil, append_assoc, Memᴰ as Mem}
use mathlib.Core.List.Memᴰ.{append_left as in_front}
use mathlib.Core.List.Memᴰ.{append_right as in-back}
use mathlib.Core.List.Memᴰ.{cases_cons as cases}
use mathlib.Core.List.Memᴰ.{not-nil}
use mathlib.Core.List.Memᴰ.{append_cases as split}
use mathlib.Core.List.Memᴰ.{map as mem-map}
use mathlib.Core.List.Memᴰ.{of_map}
use Rattle.std.proofs.Math.ListN.{length}
use Rattle.definition.specs.Lists.{each, keep, joined, run, upto, is_in, distinct, groups}
use Rattle.laws.specs.Parts.{drop_take}
use Rattle.laws.specs.Truth.{either, branch, and_both, both_and, or_either, either_or, is_false, not_both}

-- the same members
pub record Same {A : Type 0} (xs ys : List A) : Type 0 where
  pub to : (z : A) → Mem z xs → Mem z ys
  pub from : (z : A) → Mem z ys → Mem z xs

pub same_eq : {A : Type 0} {xs ys : List A} → xs ≡ ys → Same xs ys
same_eq {A} {xs} e = subst (λ (l : List A). Same xs l) e (record { to = λ z m. m; from = λ z m. m })

pub same_map : {A B : Type 0} (f : A → B) {xs ys : List A} → Same xs ys → Same (map f xs) (map f ys)
same_map {A} {B} f {xs} {ys} s = record { to = over xs ys s.to; from = over ys xs s.from }
  where
    over : (us vs : List A) → ((z : A) → Mem z us → Mem z vs) → (w : B) → Mem w (map f us) → Mem w (map f vs)
    over us vs h w m = let t = of_map f us m in subst (λ (v : B). Mem v (map f vs)) t.2 (mem-map f (h t.0 t.1))

-- ---- lists of anything

module _ {A : Type 0} where
  pub mem_length : {x : A} {ys : List A} → Mem x ys → 0 < length ys
  mem_length (here e) = omega arith
  mem_length (there m) = omega arith

  -- what all of a list have, and one more, all of the longer list have
  pub cons_elim : (P : A → Type 0) (x : A) (xs : List A) → P x → ((z : A) → Mem z xs → P z) → (z : A) → Mem z (x ∷ xs) → P z
  cons_elim P x xs p f z m = go (cases m)
    where
      go : (z ≡ x) ⊎ Mem z xs → P z
      go (inl e) = subst P (sym e) p
      go (inr h) = f z h

  pub append_elim : (P : A → Type 0) (xs ys : List A) → ((z : A) → Mem z xs → P z) → ((z : A) → Mem z ys → P z) → (z : A) → Mem z (xs ++ ys) → P z
  append_elim P xs ys f g z m = go (split xs m)
    where
      go : Mem z xs ⊎ Mem z ys → P z
      go (inl h) = f z h
      go (inr h) = g z h

  pub snoc_elim : (P : A → Type 0) (xs : List A) (x : A) → ((z : A) → Mem z xs → P z) → P x → (z : A) → Mem z (xs ++ (x ∷ [])) → P z
  snoc_elim P xs x f p = append_elim P xs (x ∷ []) f (cons_elim P x [] p (λ z m. absurd (not-nil m)))

  -- what is there already adds nothing
  pub same_absorbs : (xs : List A) (x : A) → Mem x xs → Same xs (xs ++ (x ∷ []))
  same_absorbs xs x h = record { to = λ z m. in_front (x ∷ []) m; from = snoc_elim (λ z. Mem z xs) xs x (λ z m. m) h }

  -- first xs, then ys
  pub same_join : (us vs ws xs ys : List A) → Same vs (us ++ xs) → Same ws (vs ++ ys) → Same ws (us ++ (xs ++ ys))
  same_join us vs ws xs ys s t =
      record {
        to = λ z m. append_elim (λ u. Mem u (us ++ (xs ++ ys))) vs ys (λ u h. first u (s.to u h)) (λ u h. in-back us (in-back xs h)) z (t.to z m);
        from = append_elim (λ u. Mem u ws) us (xs ++ ys) (λ u h. t.from u (in_front ys (s.from u (in_front xs h))))
            (append_elim (λ u. Mem u ws) xs ys (λ u h. t.from u (in_front ys (s.from u (in-back us h)))) (λ u h. t.from u (in-back vs h)));
      }
    where
      first : (u : A) → Mem u (us ++ xs) → Mem u (us ++ (xs ++ ys))
      first = append_elim (λ u. Mem u (us ++ (xs ++ ys))) us xs (λ u h. in_front (xs ++ ys) h) (λ u h. in-back us (in_front ys h))

  pub take_mem : (k : ℕ) (xs : List A) {z : A} → Mem z (take k xs) → Mem z xs
  take_mem k xs {z} m = subst (λ (l : List A). Mem z l) (take-append-drop k xs) (in_front (drop k xs) m)

  pub drop_mem : (k : ℕ) (xs : List A) {z : A} → Mem z (drop k xs) → Mem z xs
  drop_mem k xs {z} m = subst (λ (l : List A). Mem z l) (take-append-drop k xs) (in-back (take k xs) m)

  pub replicate_mem : (k : ℕ) (x : A) {z : A} → Mem z (replicate k x) → z ≡ x
  replicate_mem zero x m = absurd (not-nil m)
  replicate_mem (suc k) x {z} m = cons_elim (λ u. u ≡ x) x (replicate k x) refl (λ u h. replicate_mem k x h) z m

  -- ---- each

  pub each_mem : (p : A → Bool) (xs : List A) → each p xs ≡ true → (z : A) → Mem z xs → p z ≡ true
  unfolding each
  each_mem p [] t z m = absurd (not-nil m)
  each_mem p (x ∷ xs) t z m =
      let b = and_both (p x) (each p xs) t in
      cons_elim (λ z. p z ≡ true) x xs b.0 (each_mem p xs b.1) z m

  pub mem_each : (p : A → Bool) (xs : List A) → ((z : A) → Mem z xs → p z ≡ true) → each p xs ≡ true
  unfolding each
  mem_each p [] f = refl
  mem_each p (x ∷ xs) f = both_and (p x) (each p xs) (f x (here refl)) (mem_each p xs (λ z m. f z (there m)))

  -- ---- keep

  module _ (p : A → Bool) where
    pub keep_mem : (xs : List A) {z : A} → Mem z (keep p xs) → Mem z xs × (p z ≡ true)
    unfolding keep
    keep_mem [] m = absurd (not-nil m)
    keep_mem (x ∷ xs) {z} m₀ =
        let old : (u : A) → Mem u (keep p xs) → Mem u (x ∷ xs) × (p u ≡ true) = λ u h. (there (keep_mem xs h).0, (keep_mem xs h).1) in
        (branch (λ (l : List A). Mem z l → Mem z (x ∷ xs) × (p z ≡ true)) (p x)
        (λ e m. cons_elim (λ u. Mem u (x ∷ xs) × (p u ≡ true)) x (keep p xs) (here refl, e) old z m) (λ e m. old z m)) m₀

    pub mem_keep : (xs : List A) {z : A} → Mem z xs → p z ≡ true → Mem z (keep p xs)
    unfolding keep
    mem_keep [] m e = absurd (not-nil m)
    mem_keep (x ∷ xs) {z} m e =
        branch (λ (l : List A). Mem z l) (p x)
        (λ t. cons_elim (λ u. p u ≡ true → Mem u (x ∷ keep p xs)) x xs (λ q. here refl) (λ u h q. there (mem_keep xs h q)) z m e)
        (λ f. cons_elim (λ u. p u ≡ true → Mem u (keep p xs)) x xs (λ q. absurd (not_both f q)) (λ u h q. mem_keep xs h q) z m e)

    pub keep_append : (xs ys : List A) → keep p (xs ++ ys) ≡ keep p xs ++ keep p ys
    unfolding keep
    keep_append [] ys = refl
    keep_append (x ∷ xs) ys = go (p x) (keep_append xs ys)
      where
        go : (b : Bool) → keep p (xs ++ ys) ≡ keep p xs ++ keep p ys
            → cond b (x ∷ keep p (xs ++ ys)) (keep p (xs ++ ys)) ≡ cond b (x ∷ keep p xs) (keep p xs) ++ keep p ys
        go true e = ap (λ (l : List A). x ∷ l) e
        go false e = e

    pub keep_all : (xs : List A) → ((z : A) → Mem z xs → p z ≡ true) → keep p xs ≡ xs
    unfolding keep
    keep_all [] f = refl
    keep_all (x ∷ xs) f = rw (f x (here refl)) (ap (λ (l : List A). x ∷ l) (keep_all xs (λ z m. f z (there m))))

    pub keep_none : (xs : List A) → ((z : A) → Mem z xs → p z ≡ false) → keep p xs ≡ []
    unfolding keep
    keep_none [] f = refl
    keep_none (x ∷ xs) f = rw (f x (here refl)) (keep_none xs (λ z m. f z (there m)))

    pub keep_length : (xs : List A) → length (keep p xs) ≤ length xs
    unfolding keep
    keep_length [] = zero-le
    keep_length (x ∷ xs) =
        let le = keep_length xs in
        either (λ (l : List A). length l ≤ suc (length xs)) (p x) (omega arith) (omega arith)

    -- what loses nothing is the same
    pub keep_full : (xs : List A) → length (keep p xs) ≡ length xs → keep p xs ≡ xs
    unfolding keep
    keep_full [] h = refl
    keep_full (x ∷ xs) h₀ =
        (branch (λ (l : List A). length l ≡ suc (length xs) → l ≡ x ∷ xs) (p x) (λ e h. ap (λ (l : List A). x ∷ l) (keep_full xs (omega arith)))
        (λ e h. let le = keep_length xs in absurd (omega arith))) h₀

-- ---- lists one after another

module _ {A : Type 0} where
  pub joined_mem : (ls : List (List A)) {z : A} → Mem z (joined ls) → (l : List A) × Mem l ls × Mem z l
  unfolding joined
  joined_mem [] m = absurd (not-nil m)
  joined_mem (l ∷ ls) {z} m =
      append_elim (λ u. (k : List A) × Mem k (l ∷ ls) × Mem u k) l (joined ls) (λ u h. (l, here refl, h))
      (λ u h. let r = joined_mem ls h in (r.0, there r.1, r.2)) z m

  pub mem_joined : (ls : List (List A)) {l : List A} {z : A} → Mem l ls → Mem z l → Mem z (joined ls)
  unfolding joined
  mem_joined [] m h = absurd (not-nil m)
  mem_joined (k ∷ ls) {l} {z} m h =
      cons_elim (λ u. Mem z u → Mem z (k ++ joined ls)) k ls (λ i. in_front (joined ls) i) (λ u j i. in-back k (mem_joined ls j i)) l m h

pub joined_snoc : {A B : Type 0} (f : A → List B) (xs : List A) (x : A) → joined (map f (xs ++ (x ∷ []))) ≡ joined (map f xs) ++ f x
unfolding joined
joined_snoc f [] x = append-nil (f x)
joined_snoc f (y ∷ ys) x = rw (joined_snoc f ys x, append_assoc) refl

-- ---- is_in

pub is_in-mem : (x : ℕ) (ys : List ℕ) → is_in x ys ≡ true → Mem x ys
unfolding is_in
is_in-mem x [] e = absurd (false≢true e)
is_in-mem x (y ∷ ys) e = go (or_either (eqb x y) (is_in x ys) e) (λ h. is_in-mem x ys h)
  where
    go : (eqb x y ≡ true) ⊎ (is_in x ys ≡ true) → (is_in x ys ≡ true → Mem x ys) → Mem x (y ∷ ys)
    go (inl d) ih = here (eqb-true x y d)
    go (inr h) ih = there (ih h)

pub mem-is_in : (x : ℕ) (ys : List ℕ) → Mem x ys → is_in x ys ≡ true
unfolding is_in
mem-is_in x [] m = absurd (not-nil m)
mem-is_in x (y ∷ ys) m = either_or (eqb x y) (is_in x ys) (go (cases m) (λ h. mem-is_in x ys h))
  where
    go : (x ≡ y) ⊎ Mem x ys → (Mem x ys → is_in x ys ≡ true) → (eqb x y ≡ true) ⊎ (is_in x ys ≡ true)
    go (inl e) ih = inl (eq-eqb x y e)
    go (inr h) ih = inr (ih h)

pub is_in-none : (x : ℕ) (ys : List ℕ) → is_in x ys ≡ false → ¬ Mem x ys
is_in-none x ys e m = not_both e (mem-is_in x ys m)

pub none-is_in : (x : ℕ) (ys : List ℕ) → ¬ Mem x ys → is_in x ys ≡ false
none-is_in x ys n = is_false (is_in x ys) (λ e. n (is_in-mem x ys e))

pub is_in-append : (x : ℕ) (ys zs : List ℕ) → is_in x (ys ++ zs) ≡ (is_in x ys || is_in x zs)
unfolding is_in
is_in-append x [] zs = refl
is_in-append x (y ∷ ys) zs = ap (λ (t : Bool). eqb x y || t) (is_in-append x ys zs) ∙ sym (or_assoc (eqb x y) (is_in x ys) (is_in x zs))

pub is_in_snoc : (x : ℕ) (ys : List ℕ) (z : ℕ) → is_in x (ys ++ (z ∷ [])) ≡ (is_in x ys || eqb x z)
unfolding is_in
is_in_snoc x ys z = is_in-append x ys (z ∷ []) ∙ ap (λ (t : Bool). is_in x ys || t) (or-false (eqb x z))

-- ---- runs of numbers

pub run-mem : (s k : ℕ) {z : ℕ} → Mem z (run s k) → (s ≤ z) × (z < s + k)
unfolding run
run-mem s zero m = absurd (not-nil m)
run-mem s (suc k) {z} m =
    cons_elim (λ u. (s ≤ u) × (u < s + suc k)) s (run (suc s) k) (omega arith, omega arith)
    (λ u h. let b = run-mem (suc s) k h in (omega arith, omega arith)) z m

pub mem-run : (s k z : ℕ) → s ≤ z → z < s + k → Mem z (run s k)
unfolding run
mem-run s zero z lo hi = absurd (omega arith)
mem-run s (suc k) z lo hi = go (eq-or-lt_of_le lo) (λ l. mem-run (suc s) k z l (omega arith))
  where
    go : (s ≡ z) ⊎ (s < z) → (s < z → Mem z (run (suc s) k)) → Mem z (s ∷ run (suc s) k)
    go (inl e) ih = here (sym e)
    go (inr l) ih = there (ih l)

-- a test that holds along a run holds at each number of it
pub each_run : (p : ℕ → Bool) (s k z : ℕ) → each p (run s k) ≡ true → s ≤ z → z < s + k → p z ≡ true
each_run p s k z t lo hi = each_mem p (run s k) t z (mem-run s k z lo hi)

pub length_run : (s k : ℕ) → length (run s k) ≡ k
unfolding run
length_run s zero = refl
length_run s (suc k) = ap suc (length_run (suc s) k)

pub length-upto : (n : ℕ) → length (upto n) ≡ n
unfolding upto
length-upto n = length_run 0 n

pub run_at : (s k i : ℕ) → i < k → get_or (run s k) i 0 ≡ s + i
unfolding run
run_at s zero i h = absurd (omega arith)
run_at s (suc k) zero h = omega arith
run_at s (suc k) (suc i) h = run_at (suc s) k i (omega arith) ∙ omega arith

-- two functions that agree along a run
pub run-same : {A : Type 0} (f g : ℕ → A) (s k : ℕ) → ((i : ℕ) → s ≤ i → i < s + k → f i ≡ g i) → map f (run s k) ≡ map g (run s k)
unfolding run
run-same f g s zero h = refl
run-same {A} f g s (suc k) h =
    ap₂ (λ (x : A) (xs : List A). x ∷ xs) (h s (omega arith) (omega arith)) (run-same f g (suc s) k (λ i lo hi. h i (omega arith) (omega arith)))

-- ---- groups

pub groups-mem : (k g : ℕ) (xs : List ℕ) {l : List ℕ} {z : ℕ} → Mem l (groups k g xs) → Mem z l → Mem z xs
unfolding groups
groups-mem zero g xs m h = absurd (not-nil m)
groups-mem (suc k) g xs {l} {z} m h =
    cons_elim (λ u. Mem z u → Mem z xs) (take g xs) (groups k g (drop g xs)) (λ i. take_mem g xs i)
    (λ u j i. drop_mem g xs (groups-mem k g (drop g xs) j i)) l m h

-- lists of one length, one after another: how many words, and that the groups are these lists
pub length-joined : {A : Type 0} (g : ℕ) (ls : List (List A)) → ((l : List A) → Mem l ls → length l ≡ g) → length (joined ls) ≡ length ls * g
unfolding joined
length-joined g [] f = sym (zero-mul g)
length-joined g (l ∷ ls) f =
    let a = length-append l (joined ls) in
    let b = f l (here refl) in
    let c = length-joined g ls (λ k m. f k (there m)) in
    let d = suc-mul (length ls) g in
    omega arith

pub groups-joined : (g : ℕ) (ls : List (List ℕ)) → ((l : List ℕ) → Mem l ls → length l ≡ g) → groups (length ls) g (joined ls) ≡ ls
unfolding groups joined
groups-joined g [] f = refl
groups-joined g (l ∷ ls) f =
    rw (take_at l (joined ls) g (f l (here refl)), drop_at l (joined ls) g (f l (here refl)))
    (ap (λ (k : List (List ℕ)). l ∷ k) (groups-joined g ls (λ k m. f k (there m))))

-- where the groups take up the whole list, each of it is in a group
pub mem-groups : (k g : ℕ) (xs : List ℕ) → length xs ≡ k * g → {z : ℕ} → Mem z xs → (l : List ℕ) × Mem l (groups k g xs) × Mem z l
unfolding groups
mem-groups zero g [] h m = absurd (not-nil m)
mem-groups zero g (x ∷ xs) h m = let z = zero-mul g in absurd (omega arith)
mem-groups (suc k) g xs h {z} m =
    let s = suc-mul k g in
    let d = length-drop g xs in
    append_elim (λ u. (l : List ℕ) × Mem l (take g xs ∷ groups k g (drop g xs)) × Mem u l) (take g xs) (drop g xs) (λ u i. (take g xs, here refl, i))
    (λ u i. let r = mem-groups k g (drop g xs) (omega arith) i in (r.0, there r.1, r.2)) z
    (subst (λ (l : List ℕ). Mem z l) (sym (take-append-drop g xs)) m)

-- the first a groups, and the others
pub groups_add : (a b g : ℕ) (xs : List ℕ) → groups (a + b) g xs ≡ groups a g (take (a * g) xs) ++ groups b g (drop (a * g) xs)
unfolding groups
groups_add zero b g xs = rw (zero-add, zero-mul) refl
groups_add (suc a) b g xs =
    let e : suc a * g ≡ g + a * g = suc-mul a g ∙ add_comm (a * g) g in
    let less : suc a * g - g ≡ a * g = omega arith in
    let first : take g (take (suc a * g) xs) ≡ take g xs = take-take g (suc a * g) xs (omega arith) in
    let front : drop g (take (suc a * g) xs) ≡ take (a * g) (drop g xs) = rw (drop_take g (suc a * g) xs, less) refl in
    let back : drop (suc a * g) xs ≡ drop (a * g) (drop g xs) = rw e (sym (drop-drop (a * g) g xs)) in
    rw (suc-add, first, front, back) (ap (λ (l : List (List ℕ)). take g xs ∷ l) (groups_add a b g (drop g xs)))

-- ---- by places

-- what stands at a place is in the list, whatever d is read beyond its end
pub mem-at : {A : Type 0} (d : A) (xs : List A) (k : ℕ) → k < length xs → Mem (get_or xs k d) xs
mem-at d [] k h = absurd (omega arith)
mem-at d (x ∷ xs) zero h = here refl
mem-at d (x ∷ xs) (suc k) h = there (mem-at d xs k (omega arith))

-- a test of every element from i on is the test of the one at i and of every one after it; from the end on there is none
pub each_step : (p : ℕ → Bool) (xs : List ℕ) (i : ℕ) → i < length xs → each p (drop i xs) ≡ (p (get_or xs i 0) && each p (drop (i + 1) xs))
unfolding each
each_step p xs i h = rw (add-one i, drop-cons xs i 0 h) refl

pub each_end : (p : ℕ → Bool) (xs : List ℕ) (i : ℕ) → length xs ≤ i → each p (drop i xs) ≡ true
unfolding each
each_end p xs i h = rw (drop_of_length-le xs h) refl

pub each_at : (p : ℕ → Bool) (xs : List ℕ) → ((k : ℕ) → k < length xs → p (get_or xs k 0) ≡ true) → each p xs ≡ true
unfolding each
each_at p [] f = refl
each_at p (x ∷ xs) f = rw (f 0 (omega arith)) (each_at p xs (λ k h. f (suc k) (omega arith)))

absent_at : (x : ℕ) (xs : List ℕ) → ((k : ℕ) → k < length xs → x ≡ get_or xs k 0 → ⊥) → is_in x xs ≡ false
unfolding is_in
absent_at x [] f = refl
absent_at x (y ∷ ys) f = rw (ne_eqb x y (f 0 (omega arith))) (absent_at x ys (λ k h. f (suc k) (omega arith)))

pub distinct-at : (xs : List ℕ) → ((a b : ℕ) → a < length xs → b < length xs → get_or xs a 0 ≡ get_or xs b 0 → a ≡ b) → distinct xs ≡ true
unfolding distinct
distinct-at [] f = refl
distinct-at (x ∷ xs) f =
    let no : is_in x xs ≡ false = absent_at x xs (λ k h e. let q : 0 ≡ suc k = f 0 (suc k) (omega arith) (omega arith) e in omega arith) in
    rw no (distinct-at xs (λ a b ha hb e. let q : suc a ≡ suc b = f (suc a) (suc b) (omega arith) (omega arith) e in omega arith))
