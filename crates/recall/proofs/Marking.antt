-- Marks made and marks counted, one id more.
use Rattle.std.proofs.Common.{ℕ, ◌+◌, ◌≤◌, ◌<◌, add-one, arith, ◌≡◌, refl, sym, ap, ◌∙◌, Bool, true, false, ◌||◌, List, [], ◌∷◌, ◌++◌, eqb-true, eq-eqb, ne_eqb}
use Rattle.std.proofs.Common.{eqb, length, get_or, take, set, length-set, take-suc, get_or-set_same, get_or-set_other}
use Rattle.std.proofs.Math.Bool.{or-false, or-true}
use Rattle.std.proofs.lemmas.Bool.{eqb-false}
use Rattle.std.specs.Int.{from_bool}
use Rattle.definition.specs.Lists.{keep, is_in}
use Rattle.definition.specs.Recall.{in_both}
use Rattle.laws.specs.Truth.{decide}
use Rattle.laws.specs.Members.{is_in_snoc}
use Rattle.laws.specs.Sums.{bit}
use Rattle.theory.specs.recall.Brought.{both_snoc}
use Rattle.recall.specs.Marks.{Unmarked, MarksOf, Counted}

-- ---- marking: the first j ids have theirs
pub record Marking (epoch : ℕ) (ids words₀ : List ℕ) (j : ℕ) (words : List ℕ) : Type 0 where
  pub size : length words ≡ length words₀
  pub marks : MarksOf epoch (take j ids) words

pub mark_start : (epoch : ℕ) (ids words : List ℕ) → Unmarked epoch words → Marking epoch ids words 0 words
unfolding is_in
mark_start epoch ids words u =
    record {
      size = refl;
      marks = record {
        seen = λ i h. ne_eqb (get_or words i 0) epoch (λ e. omega (arith, u.below_at i h));
        marks_le = λ i h. omega (arith, u.below_at i h);
      };
    }

module _ (epoch : ℕ) (ids words₀ words : List ℕ) (j : ℕ) (fits : j < length ids) (at : ℕ) (names : at ≡ get_or ids j 0)
    (m : Marking epoch ids words₀ j words) where
  front : take (j + 1) ids ≡ take j ids ++ (get_or ids j 0 ∷ [])
  front = ap (λ (k : ℕ). take k ids) (add-one j) ∙ take-suc ids j 0 fits

  among : (i : ℕ) → is_in i (take (j + 1) ids) ≡ (is_in i (take j ids) || eqb i at)
  among i = ap (is_in i) front ∙ is_in_snoc i (take j ids) (get_or ids j 0) ∙ ap (λ (k : ℕ). is_in i (take j ids) || eqb i k) (sym names)

  abbrev after : List ℕ
  after = set words at epoch

  own : (i : ℕ) → i < length words → eqb i at ≡ true → get_or after i 0 ≡ epoch
  own i h e = let q = eqb-true i at e in rw q (get_or-set_same words at epoch 0 (omega arith))

  other : (i : ℕ) → eqb i at ≡ false → get_or after i 0 ≡ get_or words i 0
  other i e = get_or-set_other words at i epoch 0 (eqb-false i at e)

  pub mark_more : Marking epoch ids words₀ (j + 1) after
  mark_more =
      record {
        size = size ∙ m.size;
        marks = record {
          seen = λ i h. decide (eqb i at)
              (λ e. rw (among i, e, or-true) (eq-eqb (get_or after i 0) epoch (own i (omega (arith, size)) e)))
              (λ e. rw (among i, e, or-false) (ap (λ (z : ℕ). eqb z epoch) (other i e) ∙ m.marks.seen i (omega (arith, size))));
          marks_le = λ i h. decide (eqb i at) (λ e. omega (arith, own i (omega (arith, size)) e))
              (λ e. omega (arith, other i e, m.marks.marks_le i (omega (arith, size))));
        };
      }
    where
      size : length after ≡ length words
      size = length-set words at epoch

-- ---- counting: r of the first j ids have the epoch as their mark
pub count-start : (epoch : ℕ) (words : List ℕ) → Counted epoch words [] 0
unfolding in_both keep
count-start epoch words = record { is = λ ys m. refl }

bit_is : (b : Bool) → from_bool b ≡ bit b
bit_is true = refl
bit_is false = refl

pub bit_few : (b : Bool) → from_bool b ≤ 1
bit_few true = omega arith
bit_few false = omega arith

module _ (epoch : ℕ) (words ids : List ℕ) (j r : ℕ) (fits : j < length ids) (inside : get_or ids j 0 < length words) where
  pub count_more : (x : ℕ) → x ≡ from_bool (eqb (get_or words (get_or ids j 0) 0) epoch) → Counted epoch words (take j ids) r
      → Counted epoch words (take (j + 1) ids) (r + x)
  count_more x e c =
      record {
        is = λ ys m. rw (add-one j, take-suc ids j 0 fits, both_snoc) (omega (arith, c.is ys m, e ∙ bit_is (eqb (get_or words (get_or ids j 0) 0) epoch), ap bit (m (get_or ids j 0) inside)));
      }
