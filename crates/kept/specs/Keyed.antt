-- The key of a kept item: its upper half is the distance, its last bit says whether the item is open, and keys stand in the order of their items.
use Rattle.std.specs.Prelude.{◌≡◌, refl, ◌⊎◌, true, false, List, [], ◌∷◌, ◌++◌, map, ℕ, zero, suc, ◌-◌, ◌%◌, ◌≤◌, ◌<◌, ltb, length, get_or, replicate}
use Rattle.std.proofs.Common.{sym, ap₂, ◌∙◌, inl, inr, arith, lt-ltb, le-ltb, length-append}
use Rattle.std.proofs.lemmas.List.{length-map, length-replicate}
use Rattle.definition.specs.Beam.{Item, item, nobody, nearer}
use Rattle.laws.specs.Truth.{decide}
use Rattle.laws.specs.Items.{nearer_is, not_nearer}
use Rattle.laws.specs.All.{All, all_at}
use Rattle.laws.specs.Backwards.{rev, length_rev}
use Rattle.laws.specs.Descending.{Desc}
use Rattle.beam.specs.Keys.{half, none, closed_key, open_key, dist_of, id_of, item_of}
use Rattle.kept.specs.Kept.{Kept, key_of, keys_of, items, opening, Inside, Falling}

-- ---- one key
-- the item closed
abbrev pub shut : Kept → Kept
shut k = record { of = k.of; is_open = false }

pub open_key_lem : (k : Kept) → k.is_open ≡ true → key_of k ≡ open_key k.of.dist k.of.id
unfolding key_of
open_key_lem k e = rw e refl

pub closed_key_lem : (k : Kept) → k.is_open ≡ false → key_of k ≡ closed_key k.of.dist k.of.id
unfolding key_of
closed_key_lem k e = rw e refl

pub key_least : (k : Kept) → closed_key k.of.dist k.of.id ≤ key_of k
key_least k = decide k.is_open (λ t. omega (arith, open_key_lem k t)) (λ f. omega (arith, closed_key_lem k f))

pub key_most : (k : Kept) → key_of k ≤ open_key k.of.dist k.of.id
key_most k = decide k.is_open (λ t. omega (arith, open_key_lem k t)) (λ f. omega (arith, closed_key_lem k f))

-- its last bit
pub odd_open : (k : Kept) → key_of k % 2 ≡ 1 → k.is_open ≡ true
odd_open k e = decide k.is_open (λ t. t) (λ f. absurd (omega (arith, closed_key_lem k f)))

pub even_closed : (k : Kept) → key_of k % 2 ≡ 0 → k.is_open ≡ false
even_closed k e = decide k.is_open (λ t. absurd (omega (arith, open_key_lem k t))) (λ f. f)

-- ---- what a key tells, where the id fits
pub key_dist : (k : Kept) → k.of.id < 65536 → dist_of (key_of k) ≡ k.of.dist
key_dist k h = omega (arith, key_least k, key_most k)

pub key_id : (k : Kept) → k.of.id < 65536 → id_of (key_of k) ≡ k.of.id
key_id k h = omega (arith, key_least k, key_most k)

-- no key is as large as what stands in a free place
pub key_below : (k : Kept) → k.of.id < 65536 → k.of.dist < half → key_of k < none
key_below k h d = omega (arith, key_most k)

-- ---- the order of keys
-- x, open, stands to a key as x to its item
pub open_nearer : (x : Item) (k : Kept) → x.id < 65536 → k.of.id < 65536 → ltb (key_of (opening x)) (key_of k) ≡ nearer x k.of
open_nearer x k hx hk =
    decide (nearer x k.of) (λ t. lt-ltb (key_of (opening x)) (key_of k) (near (nearer_is x k.of t)) ∙ sym t)
    (λ f. le-ltb (key_of (opening x)) (key_of k) (far (not_nearer x k.of f)) ∙ sym f)
  where
    near : (x.dist < k.of.dist) ⊎ ((x.dist ≡ k.of.dist) × (x.id < k.of.id)) → key_of (opening x) < key_of k
    near (inl h) = omega (arith, key_most (opening x), key_least k)
    near (inr h) = omega (arith, key_most (opening x), key_least k)

    far : (k.of.dist < x.dist) ⊎ ((x.dist ≡ k.of.dist) × (k.of.id ≤ x.id)) → key_of k ≤ key_of (opening x)
    far (inl h) = omega (arith, key_most k, open_key_lem (opening x) refl)
    far (inr h) = omega (arith, key_most k, open_key_lem (opening x) refl)

-- a key that is no larger is that of an item that is no worse
pub key_behind : (k z : Kept) → k.of.id < 65536 → z.of.id < 65536 → key_of z ≤ key_of k → nearer k.of z.of ≡ false
key_behind k z hk hz h =
    sym (open_nearer k.of z hk hz) ∙ le-ltb (key_of (opening k.of)) (key_of z) (omega (arith, key_most k, open_key_lem (opening k.of) refl))

-- ---- lists of keys
pub length_keys : (ks : List Kept) → length (keys_of ks) ≡ length ks
length_keys ks = length-map ks key_of

-- the best first
pub length_front : (ks : List Kept) → length (rev (keys_of ks)) ≡ length ks
length_front ks = length_rev (keys_of ks) ∙ length_keys ks

-- with as many free places behind them as make 256
pub length-all : (ks : List Kept) → length ks ≤ 256 → length (rev (keys_of ks) ++ replicate (256 - length ks) none) ≡ 256
length-all ks h =
    length-append (rev (keys_of ks)) (replicate (256 - length ks) none)
    ∙ omega (arith, length_front ks, length-replicate (256 - length ks) none)

pub length-items : (ks : List Kept) → length (items ks) ≡ length ks
length-items ks = length-map ks (λ (k : Kept). k.of)

module _ (n : ℕ) (most : n ≤ 65536) where
  pub items_of : (ks : List Kept) → All (Inside n) ks → map item_of (keys_of ks) ≡ items ks
  items_of [] a = refl
  items_of (k ∷ ks) a =
      ap₂ (λ (c : Item) (l : List Item). c ∷ l) (ap₂ item (key_dist k (omega arith)) (key_id k (omega arith))) (items_of ks a.1)

  -- keys that fall: their items descend
  pub falling_desc : (ks : List Kept) → All (Inside n) ks → Falling ks → Desc (items ks)
  falling_desc [] a f = tt
  falling_desc (k ∷ ks) a f = (behind ks a.1 f.0, falling_desc ks a.1 f.1)
    where
      behind : (us : List Kept) → All (Inside n) us → All (λ (l : Kept). key_of l ≤ key_of k) us → All (λ (z : Item). nearer k.of z ≡ false) (items us)
      behind [] b l = tt
      behind (u ∷ us) b l = (key_behind k u (omega arith) (omega arith) l.0, behind us b.1 l.1)

pub falling_at : (ks : List Kept) → Falling ks → (i j : ℕ) → i ≤ j → j < length ks
    → key_of (get_or ks j (opening nobody)) ≤ key_of (get_or ks i (opening nobody))
falling_at [] f i j h l = absurd (omega arith)
falling_at (k ∷ ks) f zero zero h l = omega arith
falling_at (k ∷ ks) f zero (suc j) h l = all_at (λ (z : Kept). key_of z ≤ key_of k) (opening nobody) ks f.0 j (omega arith)
falling_at (k ∷ ks) f (suc i) zero h l = absurd (omega arith)
falling_at (k ∷ ks) f (suc i) (suc j) h l = falling_at ks f.1 i j (omega arith) (omega arith)
