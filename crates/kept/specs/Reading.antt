-- The keys of a work, place by place: what stands there, that they rise, and the bound that is read off them.
use Rattle.std.specs.Prelude.{◌≡◌, refl, List, [], ◌∷◌, ◌++◌, ℕ, ◌+◌, ◌-◌, ◌≤◌, ◌<◌, ltb, length, get_or, replicate}
use Rattle.std.proofs.Common.{ap, ◌∙◌, arith, ltb-true, ltb-false, get_or-append-add}
use Rattle.std.proofs.lemmas.List.{get_or-replicate}
use Rattle.std.proofs.Math.ListN.{get_or-append}
use Rattle.definition.specs.Beam.{nobody, worst}
use Rattle.laws.specs.Truth.{decide}
use Rattle.laws.specs.All.{All, all_at}
use Rattle.laws.specs.Backwards.{rev, get_or_rev}
use Rattle.laws.specs.Mapped.{map_at}
use Rattle.beam.specs.Keys.{none, dist_of, Rising}
use Rattle.kept.specs.Kept.{Kept, key_of, keys_of, items, opening, Inside, Falling}
use Rattle.kept.specs.Keyed.{key_below, key_dist, length_keys, length_front, length-all, length-items, falling_at}
use Rattle.kept.specs.Says.{bound_of, bound_k}

-- ---- the keys of kept items, the best first, and what comes behind them
module _ (ks : List Kept) (behind : List ℕ) where
  abbrev keys : List ℕ
  keys = rev (keys_of ks) ++ behind

  pub key_at : (i : ℕ) → i < length ks → get_or keys i 0 ≡ key_of (get_or ks (length ks - 1 - i) (opening nobody))
  key_at i h =
      get_or-append (rev (keys_of ks)) behind 0 i (omega (arith, length_front ks))
      ∙ get_or_rev 0 (keys_of ks) i (omega (arith, length_keys ks))
      ∙ ap (λ (m : ℕ). get_or (keys_of ks) (m - 1 - i) 0) (length_keys ks)
      ∙ map_at key_of (opening nobody) 0 ks (length ks - 1 - i) (omega arith)

  behind_at : (i : ℕ) → length ks ≤ i → get_or keys i 0 ≡ get_or behind (i - length ks) 0
  behind_at i h =
      let e : i ≡ length (rev (keys_of ks)) + (i - length ks) = omega (arith, length_front ks) in
      ap (λ (j : ℕ). get_or keys j 0) e ∙ get_or-append-add (rev (keys_of ks)) behind (i - length ks) 0

-- ---- and free places behind them
module _ (n : ℕ) (most : n ≤ 65536) (ks : List Kept) (inside : All (Inside n) ks) (sorted : Falling ks) (fits : length ks ≤ 256) where
  abbrev all : List ℕ
  all = rev (keys_of ks) ++ replicate (256 - length ks) none

  none-at : (i : ℕ) → length ks ≤ i → i < 256 → get_or all i 0 ≡ none
  none-at i h l = behind_at ks (replicate (256 - length ks) none) i h ∙ get_or-replicate (256 - length ks) (i - length ks) none 0 (omega arith)

  below_none : (i : ℕ) → i < length ks → get_or all i 0 < none
  below_none i h =
      let p = all_at (Inside n) (opening nobody) ks inside (length ks - 1 - i) (omega arith) in
      omega (arith, key_at ks (replicate (256 - length ks) none) i h, key_below (get_or ks (length ks - 1 - i) (opening nobody)) (omega arith) p.1)

  pub keys_rise : Rising all
  keys_rise i j h l =
      let w : j < 256 = omega (arith, length-all ks fits) in
      decide (ltb j (length ks))
      (λ t.
      let b : j < length ks = ltb-true j (length ks) t in
      omega (
        arith,
        key_at ks (replicate (256 - length ks) none) i (omega arith),
        key_at ks (replicate (256 - length ks) none) j b,
        falling_at ks sorted (length ks - 1 - j) (length ks - 1 - i) (omega arith) (omega arith),
      ))
      (λ f.
      let b : length ks ≤ j = ltb-false j (length ks) f in
      decide (ltb i (length ks))
      (λ t. omega (arith, none-at j b w, below_none i (ltb-true i (length ks) t)))
      (λ g. omega (arith, none-at j b w, none-at i (ltb-false i (length ks) g) (omega arith))))

-- the bound that the code reads is that of the items
pub bound_same : (n : ℕ) → n ≤ 65536 → (ks : List Kept) (behind : List ℕ) (len beam : ℕ) → All (Inside n) ks → length ks ≡ len → 0 < len
    → bound_k (rev (keys_of ks) ++ behind) len beam ≡ bound_of beam (items ks)
unfolding bound_k bound_of worst
bound_same n m [] behind len beam a e h = absurd (omega arith)
bound_same n m (k ∷ ks) behind len beam a e h = rw (length-items (k ∷ ks), e, at) refl
  where
    at : dist_of (get_or (rev (keys_of (k ∷ ks)) ++ behind) (len - 1) 0) ≡ k.of.dist
    at =
        let q : length (k ∷ ks) - 1 - (len - 1) ≡ 0 = omega arith in
        ap dist_of (key_at (k ∷ ks) behind (len - 1) (omega arith) ∙ ap (λ (i : ℕ). key_of (get_or (k ∷ ks) i (opening nobody))) q) ∙ key_dist k (omega arith)
