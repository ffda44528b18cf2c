-- The best of the frontier leaves it: in work it is closed, behind which all are closed.
use mathlib.Core.Path.{◌≡◌, refl, sym, ap, ◌∙◌}
use mathlib.Core.Bool.{true}
use mathlib.Core.List.{List, [], ◌∷◌, ◌++◌, append_assoc, map}
use Prim.Native.Nat.{ℕ, zero, suc, ◌-◌, ◌≤◌, ◌<◌}
use native.Mathlib.Omega.{arith}
use lib.ListN.{length, get_or, drop, set, length-append}
use lib.Seq.{take_at, get_or_at}
use Rattle.definition.specs.Beam.{Item, nobody, best, without_best}
use Rattle.laws.specs.All.{All}
use Rattle.laws.specs.Mapped.{map_set}
use Rattle.kept.specs.Kept.{Kept, key_of, keys_of, items, opens, opening, Closed, Falling}
use Rattle.kept.specs.Keyed.{shut, closed_key_lem, key_least, key_most}
use Rattle.kept.proofs.Keeping.{own, opens-first, opens_closed}

-- the one at place i is closed
pub close : ℕ → List Kept → List Kept
close i [] = []
close zero (k ∷ ks) = shut k ∷ ks
close (suc i) (k ∷ ks) = k ∷ close i ks

close_is : (i : ℕ) (ks : List Kept) → close i ks ≡ set ks i (shut (get_or ks i (opening nobody)))
unfolding close
close_is zero [] = refl
close_is (suc i) [] = refl
close_is zero (k ∷ ks) = refl
close_is (suc i) (k ∷ ks) = ap (λ (l : List Kept). k ∷ l) (close_is i ks)

pub keys_close : (i : ℕ) (ks : List Kept) → keys_of (close i ks) ≡ set (keys_of ks) i (key_of (shut (get_or ks i (opening nobody))))
keys_close i ks = ap (map key_of) (close_is i ks) ∙ map_set key_of ks i (shut (get_or ks i (opening nobody)))

pub items-close : (i : ℕ) (ks : List Kept) → items (close i ks) ≡ items ks
unfolding close
items-close zero [] = refl
items-close (suc i) [] = refl
items-close zero (k ∷ ks) = refl
items-close (suc i) (k ∷ ks) = ap (λ (l : List Item). k.of ∷ l) (items-close i ks)

-- what holds of each, and stays when one is closed
pub all-close : (P : Kept → Type 0) → ((k : Kept) → P k → P (shut k)) → (i : ℕ) (ks : List Kept) → All P ks → All P (close i ks)
unfolding close
all-close P f zero [] a = tt
all-close P f (suc i) [] a = tt
all-close P f zero (k ∷ ks) a = (f k a.0, a.1)
all-close P f (suc i) (k ∷ ks) a = (a.0, all-close P f i ks a.1)

pub closed_from : (i : ℕ) (ks : List Kept) → Closed (drop (suc i) ks) → Closed (drop i (close i ks))
unfolding close
closed_from zero [] c = tt
closed_from (suc i) [] c = tt
closed_from zero (k ∷ ks) c = (refl, c)
closed_from (suc i) (k ∷ ks) c = closed_from i ks c

-- with all behind it closed, it keeps its place: closed keys are even
pub falling_close : (i : ℕ) (ks : List Kept) → Closed (drop (suc i) ks) → Falling ks → Falling (close i ks)
unfolding close
falling_close zero [] c f = tt
falling_close (suc i) [] c f = tt
falling_close zero (k ∷ ks) c f = (behind ks c f.0, f.1)
  where
    behind : (us : List Kept) → Closed us → All (λ (l : Kept). key_of l ≤ key_of k) us → All (λ (l : Kept). key_of l ≤ key_of (shut k)) us
    behind [] c a = tt
    behind (u ∷ us) c a = (omega (arith, closed_key_lem u c.0, closed_key_lem (shut k) refl, key_most k, a.0), behind us c.1 a.1)
falling_close (suc i) (k ∷ ks) c f =
    (all-close (λ (l : Kept). key_of l ≤ key_of k) (λ l h. omega (arith, closed_key_lem (shut l) refl, key_least l)) i ks f.0, falling_close i ks c f.1)

-- the open one behind which all are closed is the last of the open ones
opens-last : (i : ℕ) (ks : List Kept) → i < length ks → (get_or ks i (opening nobody)).is_open ≡ true → Closed (drop (suc i) ks)
    → opens ks ≡ opens (close i ks) ++ ((get_or ks i (opening nobody)).of ∷ [])
unfolding close opens
opens-last i [] h o c = absurd (omega arith)
opens-last zero (k ∷ ks) h o c = rw (o, opens_closed ks c) refl
opens-last (suc i) (k ∷ ks) h o c =
    opens-first k ks ∙ ap (λ (l : List Item). own k ++ l) (opens-last i ks (omega arith) o c)
    ∙ sym (append_assoc (own k) (opens (close i ks)) ((get_or ks i (opening nobody)).of ∷ []))
    ∙ ap (λ (l : List Item). l ++ ((get_or ks i (opening nobody)).of ∷ [])) (sym (opens-first k (close i ks)))

-- ---- the last of a beam
length_last : (l : List Item) (x : Item) → length (l ++ (x ∷ [])) ≡ suc (length l)
length_last l x = length-append l (x ∷ []) ∙ omega arith

best_of : (l : List Item) (x : Item) → best (l ++ (x ∷ [])) ≡ x
unfolding best
best_of l x = get_or_at l x [] nobody (length (l ++ (x ∷ [])) - 1) (omega (arith, length_last l x))

without-best : (l : List Item) (x : Item) → without_best (l ++ (x ∷ [])) ≡ l
unfolding without_best
without-best l x = take_at l (x ∷ []) (length (l ++ (x ∷ [])) - 1) (omega (arith, length_last l x))

-- ---- the frontier, once the open one at place i, behind which all are closed, has left it
module _ (i : ℕ) (ks : List Kept) (rest frontier : List Item) (h : i < length ks) (o : (get_or ks i (opening nobody)).is_open ≡ true)
    (c : Closed (drop (suc i) ks)) (parts : frontier ≡ rest ++ opens ks) where
  abbrev x : Item
  x = (get_or ks i (opening nobody)).of

  abbrev front : List Item
  front = rest ++ opens (close i ks)

  last : frontier ≡ front ++ (x ∷ [])
  last = parts ∙ ap (λ (l : List Item). rest ++ l) (opens-last i ks h o c) ∙ sym (append_assoc rest (opens (close i ks)) (x ∷ []))

  pub best_is : best frontier ≡ x
  best_is = ap best last ∙ best_of front x

  pub without_is : without_best frontier ≡ front
  without_is = ap without_best last ∙ without-best front x

  pub frontier_some : 0 < length frontier
  frontier_some = omega (arith, ap length last, length_last front x)
