-- "The first of r, r+1, .. mod n that is neither start nor in the group": where fewer than n are taken there is one, and it is found soon. At most as many
-- places are passed over as there are taken ones, since the places are distinct; so the bound n of the definition's loop never cuts it short.
use Prim.Native.Nat.{ℕ, zero, suc, ◌+◌, ◌%◌, ◌≤◌, ◌<◌}
use Rattle.std.proofs.Common.{le_refl, sym, ◌∙◌, inl, inr}
use native.Mathlib.Omega.{arith}
use Rattle.std.specs.Prelude.{◌≡◌, ◌⊎◌, length}
use Rattle.std.proofs.Math.Path.{ap, subst}
use mathlib.Core.List.Memᴰ.{of_map}
use mathlib.Core.List.{List, map, Memᴰ as Mem}
use Rattle.std.proofs.lemmas.List.{length-map}
use Rattle.definition.specs.Lists.{run, is_in}
use Rattle.definition.specs.Draws.{first_free}
use Rattle.laws.specs.Truth.{branch, decide, not_both}
use Rattle.laws.specs.Members.{is_in-mem, mem-is_in, is_in-none, run-mem, length_run}
use Rattle.laws.specs.Below.{one_further}
use Rattle.laws.specs.Apart.{Apart, apart-map, apart-run, apart_within}
use Rattle.laws.specs.Remainders.{window-one}

-- x is the first of r, r + 1, .. mod n that is not among the taken, and at most `most` places were passed over: one more was looked at
pub record FoundFrom (n : ℕ) (taken : List ℕ) (r most x : ℕ) : Type 0 where
  pub over : ℕ
  pub few : over ≤ most
  pub is : x ≡ (r + over) % n
  pub passed : (j : ℕ) → j < over → Mem ((r + j) % n) taken
  pub free : ¬ Mem x taken

module _ (n : ℕ) (taken : List ℕ) where
  -- the first free place is t places beyond r
  record Free (r t : ℕ) : Type 0 where
    passed : (j : ℕ) → j < t → Mem ((r + j) % n) taken
    free : ¬ Mem ((r + t) % n) taken

  -- of k places either one is the first that is free, or all are taken
  first_or_none : (r k : ℕ) → ((t : ℕ) × (t < k) × Free r t) ⊎ ((j : ℕ) → j < k → Mem ((r + j) % n) taken)
  first_or_none r zero = inr (λ j h. absurd (omega arith))
  first_or_none r (suc k) = go (first_or_none r k)
    where
      go : ((t : ℕ) × (t < k) × Free r t) ⊎ ((j : ℕ) → j < k → Mem ((r + j) % n) taken)
          → ((t : ℕ) × (t < suc k) × Free r t) ⊎ ((j : ℕ) → j < suc k → Mem ((r + j) % n) taken)
      go (inl f) = let l = f.1 in inl (f.0, omega arith, f.2)
      go (inr all) =
          decide (is_in ((r + k) % n) taken) (λ e. inr (one_further (λ j. Mem ((r + j) % n) taken) k all (is_in-mem ((r + k) % n) taken e)))
          (λ e. inl (k, le_refl (suc k), record { passed = all; free = is_in-none ((r + k) % n) taken e }))

  -- n places are distinct, so that no more are taken than there are
  places_few : (r k : ℕ) → k ≤ n → ((j : ℕ) → j < k → Mem ((r + j) % n) taken) → k ≤ length taken
  places_few r k h all =
      let f : ℕ → ℕ = λ j. (r + j) % n in
      let apart : Apart (map f (run 0 k)) =
      apart-map f (λ a b p q e. let x = run-mem 0 k p in let y = run-mem 0 k q in
      let one = window-one n r (r + a) (r + b) (omega arith) (omega arith) (omega arith) (omega arith) e in omega arith) (apart-run 0 k) in
      let le = apart_within taken apart (λ x m. let t = of_map f (run 0 k) m in let b = run-mem 0 k t.1 in
      subst (λ (z : ℕ). Mem z taken) t.2 (all t.0 (omega arith))) in
      omega (arith, length-map (run 0 k) f, length_run 0 k)

  -- so of k places, more than are taken, one is free
  free_among : (r k : ℕ) → length taken < k → k ≤ n → (t : ℕ) × (t < k) × Free r t
  free_among r k more h = go (first_or_none r k)
    where
      go : ((t : ℕ) × (t < k) × Free r t) ⊎ ((j : ℕ) → j < k → Mem ((r + j) % n) taken) → (t : ℕ) × (t < k) × Free r t
      go (inl f) = f
      go (inr all) = absurd (omega (arith, places_few r k h all))

  soon_free : (r : ℕ) → length taken < n → (t : ℕ) × (t ≤ length taken) × Free r t
  soon_free r h = let f = free_among r (suc (length taken)) (le_refl (suc (length taken))) (omega arith) in let l = f.1 in (f.0, omega arith, f.2)

  next_free : (r t : ℕ) → Free r (suc t) → Free (r + 1) t
  next_free r t f = record {
    passed = λ j h. let q : r + suc j ≡ r + 1 + j = omega arith in subst (λ (z : ℕ). Mem (z % n) taken) q (f.passed (suc j) (omega arith));
    free = let q : r + suc t ≡ r + 1 + t = omega arith in subst (λ (z : ℕ). ¬ Mem (z % n) taken) q f.free;
  }

  -- the loop comes to it, if it has that much fuel
  comes_to : (fuel r t : ℕ) → t ≤ fuel → Free r t → first_free n taken fuel r ≡ (r + t) % n
  unfolding first_free
  comes_to zero r t h f = let q : r ≡ r + t = omega arith in ap (λ (z : ℕ). z % n) q
  comes_to (suc fuel) r zero h f =
      let q : r ≡ r + 0 = omega arith in
      let here : r % n ≡ (r + 0) % n = ap (λ (z : ℕ). z % n) q in
      branch (λ (x : ℕ). x ≡ (r + 0) % n) (is_in (r % n) taken)
      (λ e. absurd (f.free (subst (λ (x : ℕ). Mem x taken) here (is_in-mem (r % n) taken e)))) (λ e. here)
  comes_to (suc fuel) r (suc t) h f =
      let q : r + 0 ≡ r = omega arith in
      let p : r + 1 + t ≡ r + suc t = omega arith in
      let here : Mem (r % n) taken = subst (λ (z : ℕ). Mem (z % n) taken) q (f.passed 0 (omega arith)) in
      branch (λ (x : ℕ). x ≡ (r + suc t) % n) (is_in (r % n) taken)
      (λ e. comes_to fuel (r + 1) t (omega arith) (next_free r t f) ∙ ap (λ (z : ℕ). z % n) p) (λ e. absurd (not_both e (mem-is_in (r % n) taken here)))

  -- with as much fuel as there are taken, or more, n among it
  pub first_free_tries : (fuel r : ℕ) → length taken < n → length taken ≤ fuel → FoundFrom n taken r (length taken) (first_free n taken fuel r)
  first_free_tries fuel r h k =
      let s = free_among r (suc (length taken)) (le_refl (suc (length taken))) h in
      let l = s.1 in
      let is = comes_to fuel r s.0 (omega arith) s.2 in
      record { over = s.0; few = omega arith; is = is; passed = s.2.passed; free = subst (λ (x : ℕ). ¬ Mem x taken) (sym is) s.2.free }

  -- so that more fuel gives nothing else
  pub first_free_enough : (fuel r : ℕ) → length taken < n → length taken ≤ fuel → first_free n taken fuel r ≡ first_free n taken n r
  first_free_enough fuel r h k =
      let s = free_among r (suc (length taken)) (le_refl (suc (length taken))) h in
      let l = s.1 in
      comes_to fuel r s.0 (omega arith) s.2 ∙ sym (comes_to n r s.0 (omega arith) s.2)
