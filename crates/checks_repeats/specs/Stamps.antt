-- A row's stamp at each id that was passed. Where an id does not find it, the id is new; where it does, only a look through the row tells.
use Rattle.std.specs.Prelude.{◌≡◌, Bool, not, ◌||◌, ℕ, ◌+◌, ◌%◌, ◌≤◌, ◌<◌, length, set, take, drop}
use Rattle.std.proofs.Math.Path.{refl, sym, ap}
use Rattle.std.proofs.Common.{◌∙◌, true≢false, mod-lt, add-one, arith, eqb-true, eq-eqb, ne_eqb, get_or-set_same, get_or-set_other, take-suc}
use Rattle.std.proofs.Math.Bool.{true, false, or-true, or_assoc, or_comm}
use mathlib.Core.List.{List, [], ◌∷◌}
use Rattle.std.proofs.lemmas.Bool.{eqb-false}
use Rattle.std.proofs.Math.Dec.{eqb}
use Rattle.std.proofs.Math.ListN.{get_or, length-set}
use Rattle.definition.specs.Lists.{is_in}
use Rattle.laws.specs.Members.{is_in_snoc}
use Rattle.checks_repeats.specs.Apart.{apart, apart_step, apart_end}

-- after i ids
pub record Stamped (own stamp : ℕ) (ids : List ℕ) (i : ℕ) (marks : List ℕ) : Type 0 where
  pub upto : i ≤ length ids
  pub size : length marks ≡ 16384
  pub seen : List ℕ
  pub same : apart seen (drop i ids) ≡ apart (own ∷ []) ids
  pub known : (y : ℕ) → is_in y seen ≡ (eqb y own || is_in y (take i ids))
  pub carried : (y : ℕ) → is_in y seen ≡ true → get_or marks (y % 16384) 0 ≡ stamp

-- what a store of the stamp keeps
module _ (marks : List ℕ) (stamp x : ℕ) (size : length marks ≡ 16384) where
  stored : get_or (set marks (x % 16384) stamp) (x % 16384) 0 ≡ stamp
  stored = get_or-set_same marks (x % 16384) stamp 0 (let l = mod-lt x {m = 16384} (omega arith) in omega arith)

  kept : (j : ℕ) → get_or marks j 0 ≡ stamp → get_or (set marks (x % 16384) stamp) j 0 ≡ stamp
  kept j e = go (eqb j (x % 16384)) refl
    where
      go : (t : Bool) → eqb j (x % 16384) ≡ t → get_or (set marks (x % 16384) stamp) j 0 ≡ stamp
      go true q = ap (λ (k : ℕ). get_or (set marks (x % 16384) stamp) k 0) (eqb-true j (x % 16384) q) ∙ stored
      go false q = get_or-set_other marks (x % 16384) j stamp 0 (eqb-false j (x % 16384) q) ∙ e

  all_carry : (seen : List ℕ) → ((y : ℕ) → is_in y seen ≡ true → get_or marks (y % 16384) 0 ≡ stamp)
      → (y : ℕ) → is_in y (x ∷ seen) ≡ true → get_or (set marks (x % 16384) stamp) (y % 16384) 0 ≡ stamp
  unfolding is_in
  all_carry seen old y = go (eqb y x) refl
    where
      go : (t : Bool) → eqb y x ≡ t → (t || is_in y seen) ≡ true → get_or (set marks (x % 16384) stamp) (y % 16384) 0 ≡ stamp
      go true q h = ap (λ (k : ℕ). get_or (set marks (x % 16384) stamp) (k % 16384) 0) (eqb-true y x q) ∙ stored
      go false q h = kept (y % 16384) (old y h)

module _ (own stamp : ℕ) (ids : List ℕ) where
  pub stamp_start : (marks : List ℕ) → length marks ≡ 16384 → Stamped own stamp ids 0 (set marks (own % 16384) stamp)
  unfolding is_in
  stamp_start marks size = record {
    upto = omega arith;
    size = length-set marks (own % 16384) stamp ∙ size;
    seen = own ∷ [];
    same = refl;
    known = λ y. refl;
    carried = all_carry marks stamp own size [] (λ y h. absurd (true≢false (sym h)));
  }

  module _ (i : ℕ) (marks : List ℕ) (w : Stamped own stamp ids i marks) where
    pub stamp_end : length ids ≤ i → false ≡ not (apart (own ∷ []) ids)
    stamp_end h = ap not (sym (apart_end w.seen ids i h) ∙ w.same)

    module _ (h : i < length ids) (x : ℕ) (x-is : x ≡ get_or ids i 0) where
      more : (y : ℕ) → is_in y (take (i + 1) ids) ≡ (is_in y (take i ids) || eqb y x)
      more y = rw (add-one i, take-suc ids i 0 h, x-is) (is_in_snoc y (take i ids) (get_or ids i 0))

      again : is_in x w.seen ≡ true → true ≡ not (apart (own ∷ []) ids)
      again e = let a : apart w.seen (drop i ids) ≡ false = apart_step w.seen ids i h x x-is ∙ rw e refl in ap not (sym a ∙ w.same)

      pub stamp_own : x ≡ own → true ≡ not (apart (own ∷ []) ids)
      stamp_own e = again (w.known x ∙ rw (eq-eqb x own e) refl)

      pub stamp_among : is_in x (take i ids) ≡ true → true ≡ not (apart (own ∷ []) ids)
      stamp_among e = again (w.known x ∙ rw e (or-true (eqb x own)))

      -- the id is new: by its mark, or by the look through the row
      on : is_in x w.seen ≡ false → Stamped own stamp ids (i + 1) (set marks (x % 16384) stamp)
      unfolding is_in
      on e = record {
        upto = omega arith;
        size = length-set marks (x % 16384) stamp ∙ w.size;
        seen = x ∷ w.seen;
        same = sym (apart_step w.seen ids i h x x-is ∙ rw e refl) ∙ w.same;
        known = λ y.
            ap (λ (t : Bool). eqb y x || t) (w.known y) ∙ or_comm (eqb y x) (eqb y own || is_in y (take i ids))
            ∙ or_assoc (eqb y own) (is_in y (take i ids)) (eqb y x) ∙ ap (λ (t : Bool). eqb y own || t) (sym (more y));
        carried = all_carry marks stamp x w.size w.seen w.carried;
      }

      pub stamp_fresh : (get_or marks (x % 16384) 0 ≡ stamp → ⊥) → Stamped own stamp ids (i + 1) (set marks (x % 16384) stamp)
      stamp_fresh ne = on (go (is_in x w.seen) refl)
        where
          go : (t : Bool) → is_in x w.seen ≡ t → t ≡ false
          go true e = absurd (ne (w.carried x e))
          go false e = refl

      pub stamp_looked : (x ≡ own → ⊥) → is_in x (take i ids) ≡ false → Stamped own stamp ids (i + 1) (set marks (x % 16384) stamp)
      stamp_looked ne e = on (w.known x ∙ rw (ne_eqb x own ne) e)
