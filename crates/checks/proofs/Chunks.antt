-- A test of the exact chunks of a list, one after another: the list's groups.
use Rattle.std.specs.Prelude.{◌≡◌, refl, ℕ, zero, suc, ◌+◌, ◌*◌, ◌/◌, ◌<◌, ◌≤◌, Bool, true, false, not, ◌&&◌, Option, Some, None, List, [], ◌∷◌, slice_index_or, length, take, drop, MatchBool, IsTrue}
use Rattle.std.proofs.Common.{Bor, sym, ap, ◌∙◌, arith, zero-mul, drop-drop}
use Rattle.std.specs.Option.{IfSome, IsSomeAnd, option_map}
use Rattle.std.specs.List.{IsSubsliceAt}
use Rattle.std.specs.Fn.{Mut, Called}
use Rattle.std.specs.Iterator.Runs.{Run, IsChunksExactRun, AnyItemGives, AllItemsGive, CallKeepsClosure}
use Rattle.std.proofs.Math.Bool.{and-false}
use Rattle.std.proofs.Math.Nat.{le-div_iff_mul-le}
use Rattle.checks.specs.Bools.{not-true, not-false}
use Rattle.definition.specs.Lists.{each, groups}

module _ (good : List ℕ → Bool) (size : ℕ) where
  next : (xs : List ℕ) (i : ℕ) → take size (drop (suc i * size) xs) ≡ take size (drop (i * size) (drop size xs))
  next xs i =
      let q : suc i * size ≡ size + i * size = omega arith in
      ap (λ (k : ℕ). take size (drop k xs)) q ∙ ap (take size) (sym (drop-drop (i * size) size xs))

  first : (xs : List ℕ) → take size (drop (0 * size) xs) ≡ take size xs
  first xs = ap (λ (k : ℕ). take size (drop k xs)) (zero-mul size)

  all_good : (k : ℕ) (xs : List ℕ) → ((i : ℕ) → i < k → good (take size (drop (i * size) xs)) ≡ true) → each good (groups k size xs) ≡ true
  unfolding each groups
  all_good zero xs f = refl
  all_good (suc k) xs f =
      rw (sym (ap good (first xs)) ∙ f 0 (omega arith)) (all_good k (drop size xs) (λ i h. sym (ap good (next xs i)) ∙ f (suc i) (omega arith)))

  one_bad : (k : ℕ) (xs : List ℕ) (i : ℕ) → i < k → good (take size (drop (i * size) xs)) ≡ false → each good (groups k size xs) ≡ false
  unfolding each groups
  one_bad zero xs i h e = absurd (omega arith)
  one_bad (suc k) xs zero h e = rw (sym (ap good (first xs)) ∙ e) refl
  one_bad (suc k) xs (suc i) h e =
      ap (λ (t : Bool). good (take size xs) && t) (one_bad k (drop size xs) i (omega arith) (sym (ap good (next xs i)) ∙ e)) ∙ and-false (good (take size xs))

-- what `any` says of a closure that tells whether a chunk is bad
module _ {S F : Type 0} {steps : S → Option (Bor (List ℕ)) → S → Type 0} (p : Run steps) (size : ℕ) (xs : List ℕ) (g : Mut F (Bor (List ℕ) × Unit {0}) Bool) (f : F)
    (good : List ℕ → Bool) (some : 0 < size) (chunks : IsChunksExactRun p size xs) (keeps : CallKeepsClosure g f)
    (tells : (x : Bor (List ℕ)) (b : Bool) → Called g f (x, tt) b f → b ≡ not (good x.now)) where
  found : (k : ℕ) (o : Option (Bor (List ℕ))) → IfSome o (λ x. (length x.now ≡ size) × (k * size + size ≤ length xs) × IsSubsliceAt size xs (k * size) x.now)
      → IsSomeAnd o (λ x. Called g f (x, tt) true f) → (k < length xs / size) × (good (take size (drop (k * size) xs)) ≡ false)
  found k None h s = absurd s
  found k (Some x) h s =
      let fits : suc k * size ≤ length xs = omega (arith, h.1) in
      ((le-div_iff_mul-le some).1 fits, ap good (sym h.2.0) ∙ not-true _ (sym (tells x true s)))

  passed : (k : ℕ) (o : Option (Bor (List ℕ))) (items : List (Bor (List ℕ))) → k < length items
      → ((d : Bor (List ℕ)) → option_map (λ y. y) o ≡ Some (slice_index_or items k d))
      → IfSome o (λ x. (length x.now ≡ size) × (k * size + size ≤ length xs) × IsSubsliceAt size xs (k * size) x.now)
      → IfSome o (λ x. Called g f (x, tt) false f) → good (take size (drop (k * size) xs)) ≡ true
  passed k o [] l r h s = absurd (omega arith)
  passed k None (y ∷ ys) l r h s = let e = r y in cc
  passed k (Some x) (y ∷ ys) l r h s = ap good (sym h.2.0) ∙ not-false _ (sym (tells x false s))

  pub any_chunk : (r : Bool) → MatchBool r (AnyItemGives p g f true) (IsTrue p.whole × AllItemsGive p g f false)
      → r ≡ not (each good (groups (length xs / size) size xs))
  any_chunk true m =
      let hit = m keeps in
      let bad = found hit.0 (p.at hit.0) (chunks.2 hit.0) hit.2 in
      ap not (sym (one_bad good size (length xs / size) xs hit.0 bad.0 bad.1))
  any_chunk false m =
      let all : p.len ≡ length xs / size = chunks.1 m.0 in
      ap not (sym (all_good good size (length xs / size) xs
      (λ k h. passed k (p.at k) p.items (omega (arith, p.long)) (λ d. p.reads k d (omega arith)) (chunks.2 k) (m.1 keeps k))))
