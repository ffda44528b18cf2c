-- A drawn order is a permutation of 0..n-1: it passes 9.
use Rattle.std.specs.Prelude.{ℕ, zero, suc, ◌+◌, ◌-◌, ◌<◌, ◌≡◌, refl, false, cond, List, ltb, eqb}
use Rattle.std.proofs.Common.{arith, sym, ◌∙◌, subst, lt-ltb, eq-eqb, ne_eqb, eqb-true}
use Rattle.std.proofs.Math.Path.{ap}
use Rattle.std.proofs.lemmas.Bool.{eqb-false}
use Rattle.std.proofs.Math.ListN.{length, get_or, set, length-set}
use Rattle.std.proofs.Math.Seq.{get_or-set_same, get_or-set_other}
use Rattle.definition.specs.Lists.{upto}
use Rattle.definition.specs.Draws.{advance, drawn, exchanged, shuffled, order_drawn}
use Rattle.definition.specs.Refusals.{bad_order}
use Rattle.laws.specs.Truth.{decide}
use Rattle.laws.specs.Draws.{advance_lt, drawn_lt}
use Rattle.laws.specs.Members.{length-upto, run_at, each_at, distinct-at}

-- n numbers below n, no two places alike
pub record Permutation (n : ℕ) (xs : List ℕ) : Type 0 where
  pub size : length xs ≡ n
  pub below : (k : ℕ) → k < n → get_or xs k 0 < n
  pub once : (a b : ℕ) → a < n → b < n → get_or xs a 0 ≡ get_or xs b 0 → a ≡ b

upto_order : (n : ℕ) → Permutation n (upto n)
unfolding upto
upto_order n =
    record {
      size = length-upto n;
      below = λ k h. let e = run_at 0 n k h in omega arith;
      once = λ a b ha hb e. let ea = run_at 0 n a ha in let eb = run_at 0 n b hb in omega arith;
    }

-- the place from which place k of an exchange is taken
unfoldable swap : ℕ → ℕ → ℕ → ℕ
swap i j k = cond (eqb k j) i (cond (eqb k i) j k)

swap_j : (i j : ℕ) → swap i j j ≡ i
unfolding swap
swap_j i j = rw (eq-eqb j j refl) refl

swap_i : (i j : ℕ) → swap i j i ≡ j
unfolding swap
swap_i i j = decide (eqb i j) (λ e. rw e (eqb-true i j e)) (λ e. rw (e, eq-eqb i i refl) refl)

swap_else : (i j k : ℕ) → (k ≡ j → ⊥) → (k ≡ i → ⊥) → swap i j k ≡ k
unfolding swap
swap_else i j k nj ni = rw (ne_eqb k j nj, ne_eqb k i ni) refl

-- in three cases
module _ (i j k : ℕ) where
  which : {P : Type 0} → (k ≡ j → P) → ((k ≡ j → ⊥) → k ≡ i → P) → ((k ≡ j → ⊥) → (k ≡ i → ⊥) → P) → P
  which f g h =
      decide (eqb k j) (λ e. f (eqb-true k j e))
      (λ e. decide (eqb k i) (λ t. g (eqb-false k j e) (eqb-true k i t)) (λ t. h (eqb-false k j e) (eqb-false k i t)))

  swap_below : (n : ℕ) → i < n → j < n → k < n → swap i j k < n
  swap_below n hi hj hk =
      which (λ e. rw (e, swap_j i j) hi) (λ nj e. rw (e, swap_i i j) hj) (λ nj ni. rw (swap_else i j k nj ni) hk)

  swap_back : swap i j (swap i j k) ≡ k
  swap_back =
      which (λ e. ap (λ (z : ℕ). swap i j (swap i j z)) e ∙ ap (swap i j) (swap_j i j) ∙ swap_i i j ∙ sym e)
      (λ nj e. ap (λ (z : ℕ). swap i j (swap i j z)) e ∙ ap (swap i j) (swap_i i j) ∙ swap_j i j ∙ sym e)
      (λ nj ni. ap (swap i j) (swap_else i j k nj ni) ∙ swap_else i j k nj ni)

  exchanged_at : (xs : List ℕ) → i < length xs → j < length xs → get_or (exchanged xs i j) k 0 ≡ get_or xs (swap i j k) 0
  unfolding exchanged
  exchanged_at xs hi hj =
      let ys = set xs i (get_or xs j 0) in
      let hj' : j < length ys = omega (arith, length-set xs i (get_or xs j 0)) in
      which
      (λ e. rw (e, swap_j i j) (get_or-set_same ys j (get_or xs i 0) 0 hj'))
      (λ nj e. rw (swap_i' e) (get_or-set_other ys j k (get_or xs i 0) 0 nj ∙ ap (λ (z : ℕ). get_or ys z 0) e ∙ get_or-set_same xs i (get_or xs j 0) 0 hi))
      (λ nj ni. rw (swap_else i j k nj ni) (get_or-set_other ys j k (get_or xs i 0) 0 nj ∙ get_or-set_other xs i k (get_or xs j 0) 0 ni))
    where
      swap_i' : k ≡ i → swap i j k ≡ j
      swap_i' e = ap (swap i j) e ∙ swap_i i j

exchanged-size : (xs : List ℕ) (i j : ℕ) → length (exchanged xs i j) ≡ length xs
unfolding exchanged
exchanged-size xs i j = length-set (set xs i (get_or xs j 0)) j (get_or xs i 0) ∙ length-set xs i (get_or xs j 0)

exchange_order : (n : ℕ) (xs : List ℕ) (i j : ℕ) → i < n → j < n → Permutation n xs → Permutation n (exchanged xs i j)
exchange_order n xs i j hi hj o =
    let li : i < length xs = omega (arith, o.size) in
    let lj : j < length xs = omega (arith, o.size) in
    record {
      size = exchanged-size xs i j ∙ o.size;
      below = λ k h. subst (λ (z : ℕ). z < n) (sym (exchanged_at i j k xs li lj)) (o.below (swap i j k) (swap_below i j k n hi hj h));
      once = λ a b ha hb e.
          sym (swap_back i j a)
          ∙ ap (swap i j) (o.once (swap i j a) (swap i j b) (swap_below i j a n hi hj ha) (swap_below i j b n hi hj hb)
          (sym (exchanged_at i j a xs li lj) ∙ e ∙ exchanged_at i j b xs li lj))
          ∙ swap_back i j b;
    }

shuffled_order : (n k s : ℕ) (xs : List ℕ) → k < n → Permutation n xs → Permutation n (shuffled k xs s).words
unfolding shuffled
shuffled_order n zero s xs h o = o
shuffled_order n (suc k) s xs h o =
    let l = drawn_lt (suc k + 1) (advance s) (omega arith) (advance_lt s) in
    shuffled_order n k (advance s) (exchanged xs (suc k) (drawn (suc k + 1) (advance s))) (omega arith)
    (exchange_order n xs (suc k) (drawn (suc k + 1) (advance s)) h (omega (arith, l)) o)

-- ---- and so it passes

order_good : (n : ℕ) (xs : List ℕ) → Permutation n xs → bad_order n xs ≡ false
unfolding bad_order
order_good n xs o =
    let l = o.size in
    rw (
      eq-eqb (length xs) n o.size,
      each_at (λ u. ltb u n) xs (λ k h. lt-ltb (get_or xs k 0) n (o.below k (omega arith))),
      distinct-at xs
          (λ a b ha hb e. o.once a b (omega arith) (omega arith) e),
    ) refl

pub order_passes : (n s : ℕ) → 0 < n → bad_order n (order_drawn n s).words ≡ false
unfolding order_drawn
order_passes n s h = order_good n (shuffled (n - 1) (upto n) s).words (shuffled_order n (n - 1) s (upto n) (omega arith) (upto_order n))

pub order_many : (n s : ℕ) → 0 < n → length (order_drawn n s).words ≡ n
unfolding order_drawn
order_many n s h = (shuffled_order n (n - 1) s (upto n) (omega arith) (upto_order n)).size
