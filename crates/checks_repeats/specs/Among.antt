-- Membership, id by id: `found` after i ids.
use Rattle.std.specs.Prelude.{◌≡◌, Bool, ◌||◌, List, ℕ, ◌+◌, ◌≤◌, ◌<◌, eqb, length, get_or, drop}
use Rattle.std.proofs.Math.Path.{refl, sym, ap}
use Rattle.std.proofs.Common.{◌∙◌, arith, drop_of_length-le, drop-cons}
use Rattle.std.proofs.Math.Bool.{false, or_assoc, or-false}
use Rattle.std.proofs.Math.Numerals.{add-one}
use Rattle.definition.specs.Lists.{is_in}

pub record Sought (x : ℕ) (ids : List ℕ) (i : ℕ) (found : Bool) : Type 0 where
  pub upto : i ≤ length ids
  pub same : (found || is_in x (drop i ids)) ≡ is_in x ids

module _ (x : ℕ) (ids : List ℕ) (i : ℕ) (found : Bool) (w : Sought x ids i found) where
  pub among_more : i < length ids → Sought x ids (i + 1) (found || eqb x (get_or ids i 0))
  unfolding is_in
  among_more h =
      let one : is_in x (drop i ids) ≡ (eqb x (get_or ids i 0) || is_in x (drop (i + 1) ids)) = rw (drop-cons ids i 0 h, add-one i) refl in
      record { upto = omega arith; same = or_assoc found (eqb x (get_or ids i 0)) (is_in x (drop (i + 1) ids)) ∙ ap (λ (t : Bool). found || t) (sym one) ∙ w.same }

  pub among_end : length ids ≤ i → found ≡ is_in x ids
  unfolding is_in
  among_end h =
      let none : is_in x (drop i ids) ≡ false = rw (drop_of_length-le ids h) refl in
      sym (or-false found) ∙ ap (λ (t : Bool). found || t) (sym none) ∙ w.same
