-- A group of seeds: what is taken, the first that is free, and the group as it grows.
use Rattle.std.specs.Prelude.{◌≡◌, ℕ, zero, suc, ◌+◌, ◌-◌, ◌%◌, ◌<◌, ◌≤◌, true, false, cond, List, [], ◌∷◌, ◌++◌, length, take, ◌≢◌, slice_set}
use Rattle.std.proofs.Math.Path.{refl, sym, ap, subst}
use Rattle.std.proofs.Common.{◌∙◌, mod-eq_of_lt, add-one, eq-eqb, ne_eqb}
use Rattle.std.proofs.Math.Nat.{sub-zero, mod-mod, mod-add-mod}
use native.Mathlib.Omega.{arith}
use Rattle.std.proofs.Math.Seq.{take-suc-set}
use Rattle.definition.specs.Lists.{is_in}
use Rattle.definition.specs.Draws.{advance, drawn, first_free, seeds_from, seeds_drawn}
use Rattle.draws.specs.Says.{Leaves}
use Rattle.laws.specs.Writing.{Writing, put, ends}

-- ---- is_taken
pub taken_start : (x y : ℕ) (l : List ℕ) → x ≡ y → true ≡ is_in x (y ∷ l)
unfolding is_in
taken_start x y l e = rw (eq-eqb x y e) refl

pub taken_group : (x y : ℕ) (l : List ℕ) → (x ≢ y) → is_in x l ≡ is_in x (y ∷ l)
unfolding is_in
taken_group x y l e = rw (ne_eqb x y e) refl

-- ---- first_free: x is below n, so that it is its own remainder

-- which entry is free first depends on r mod n only
free_mod : (n : ℕ) (t : List ℕ) (fuel r : ℕ) → first_free n t fuel (r % n) ≡ first_free n t fuel r
unfolding first_free
free_mod n t zero r = mod-mod r n
free_mod n t (suc fuel) r =
    let next : first_free n t fuel (r % n + 1) ≡ first_free n t fuel (r + 1) =
    sym (free_mod n t fuel (r % n + 1)) ∙ ap (first_free n t fuel) (mod-add-mod r n 1) ∙ free_mod n t fuel (r + 1) in
    rw (mod-mod r n, next) refl

module _ (n : ℕ) (t : List ℕ) (left x w : ℕ) (below : x < n) (h : first_free n t left x ≡ w) where
  opened : 0 < left → cond (is_in x t) (first_free n t (left - 1) (x + 1)) x ≡ w
  unfolding first_free
  opened l =
      let q : left ≡ suc (left - 1) = omega arith in
      let k : first_free n t (suc (left - 1)) x ≡ w = subst (λ (m : ℕ). first_free n t m x ≡ w) q h in
      rw (mod-eq_of_lt below) at k

  pub free_turn : 0 < left → true ≡ is_in x t → first_free n t (left - 1) ((x + 1) % n) ≡ w
  free_turn l e = free_mod n t (left - 1) (x + 1) ∙ (rw (sym e) at (opened l))

  pub free_here : 0 < left → false ≡ is_in x t → x ≡ w
  free_here l e = rw (sym e) at (opened l)

  pub free_end : left ≤ 0 → x ≡ w
  unfolding first_free
  free_end l =
      let q : left ≡ 0 = omega arith in
      sym (mod-eq_of_lt below) ∙ subst (λ (m : ℕ). first_free n t m x ≡ w) q h

-- ---- the group: k seeds of it are written, and s is the generator
pub record Grouping (n start extra s₀ : ℕ) (o out : List ℕ) (k s : ℕ) : Type 0 where
  pub written : Writing (take k out) o out k []
  pub leads : seeds_from n start (extra - k) (take k out) s ≡ seeds_from n start extra [] s₀

module _ (n start extra s₀ : ℕ) (o : List ℕ) where
  pub group_start : Grouping n start extra s₀ o o 0 s₀
  group_start = record { written = record { size = refl; whole = refl; beyond = refl }; leads = ap (λ (m : ℕ). seeds_from n start m [] s₀) (sub-zero extra) }

  module _ (out : List ℕ) (k s : ℕ) (g : Grouping n start extra s₀ o out k s) where
    one_more : (x : ℕ) → k < extra → k < length out → x ≡ first_free n (start ∷ take k out) n (drawn n (advance s))
        → Grouping n start extra s₀ o (slice_set out k x) (k + 1) (advance s)
    unfolding seeds_from
    one_more x h l is =
        let q : extra - k ≡ suc (extra - (k + 1)) = omega arith in
        let t : take (k + 1) (slice_set out k x) ≡ take k out ++ (x ∷ []) = ap (λ (m : ℕ). take m (slice_set out k x)) (add-one k) ∙ take-suc-set out k x l in
        let w : Writing (take k out ++ (x ∷ [])) o out k (x ∷ []) = record { size = g.written.size; whole = refl; beyond = g.written.beyond } in
        record {
          written = rw t (put (take k out ++ (x ∷ [])) o out k x [] l w);
          leads =
              ap (λ (z : List ℕ). seeds_from n start (extra - (k + 1)) z (advance s)) (t ∙ ap (λ (y : ℕ). take k out ++ (y ∷ [])) is)
              ∙ sym (ap (λ (m : ℕ). seeds_from n start m (take k out) s) q) ∙ g.leads;
        }

    -- as the code has it: the group is the part that ends at k
    pub group_turn : (s' r x : ℕ) → k < extra → k < length out → r ≡ drawn n s' → s' ≡ advance s → x ≡ first_free n (start ∷ take k out) n r
        → Grouping n start extra s₀ o (slice_set out k x) (k + 1) s'
    group_turn s' r x h l er es is =
        let e : x ≡ first_free n (start ∷ take k out) n (drawn n (advance s)) =
        is ∙ ap (first_free n (start ∷ take k out) n) (er ∙ ap (drawn n) es) in
        subst (λ (z : ℕ). Grouping n start extra s₀ o (slice_set out k x) (k + 1) z) (sym es) (one_more x h l e)

    pub group_end : extra ≤ k → k ≤ length out → Leaves (seeds_from n start extra [] s₀) o s out
    unfolding seeds_from
    group_end h l =
        let q : extra - k ≡ 0 = omega arith in
        let w : record { words = take k out; state = s } ≡ seeds_from n start extra [] s₀ =
        sym (ap (λ (m : ℕ). seeds_from n start m (take k out) s) q) ∙ g.leads in
        let all = ends (take k out) o out k l g.written in
        rw (← w) (record { words_are = all; state_is = refl })

pub seeds_leaves : (n start extra s s' : ℕ) (o after : List ℕ) → Leaves (seeds_from n start extra [] s) o s' after
    → Leaves (seeds_drawn n start extra s) o s' after
unfolding seeds_drawn
seeds_leaves n start extra s s' o after f = f
