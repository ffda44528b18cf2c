-- Outputs written from the front, one answer after another.
use Rattle.std.proofs.Common.{◌≡◌, ℕ, ◌+◌, ◌-◌, ◌<◌, ◌≤◌, List, ◌++◌, map, length, get_or, take, drop, set, sym, refl, ap, ◌∙◌, subst, arith, length-set, take_all}
use lib.Ieee.{Float}
use lib.ListN.{length-map}
use Rattle.definition.specs.Lists.{over}
use Rattle.definition.specs.Metric.{whole}
use Rattle.definition.specs.Beam.{Item, nobody}
use Rattle.laws.specs.Mapped.{map_at}
use Rattle.laws.specs.Writing.{copy_step}
use Rattle.beam.specs.Keys.{id_of, dist_of, item_of}
use Rattle.listing.specs.Listed.{Pairs, pairs, Listed, ListedTo}
use Rattle.listing.specs.Runs.{RunListed}

pub listed-none : (answers : List Item) (before : Pairs) → ListedTo 0 answers before before
listed-none answers before = record { ids_size = refl; dists_size = refl; ids_are = refl; dists_are = refl }

pub listed_at : {i m : ℕ} {answers : List Item} {before now : Pairs} → i ≡ m → ListedTo i answers before now → ListedTo m answers before now
listed_at {answers = answers} {before} {now} e l = subst (λ (k : ℕ). ListedTo k answers before now) e l

module _ {A : Type 0} (f : Item → A) where
  -- what f gives of the next answer goes to the next place
  next : (answers : List Item) (old now : List A) (i : ℕ) (v : A) → i < length answers → i < length old → v ≡ f (get_or answers i nobody)
      → now ≡ take i (map f answers) ++ drop i old → set now i v ≡ take (i + 1) (map f answers) ++ drop (i + 1) old
  next answers old now i v h k e is =
      ap (λ (z : List A). set z i v) is
      ∙ ap (λ (x : A). set (take i (map f answers) ++ drop i old) i x) (e ∙ sym (map_at f nobody (f nobody) answers i h))
      ∙ copy_step (f nobody) (map f answers) old i (omega (arith, length-map answers f)) k

  -- the first i are all that are listed
  over_first : (answers : List Item) (old : List A) (i : ℕ) → length answers ≡ i → take i (map f answers) ++ drop i old ≡ over (map f answers) old
  unfolding over
  over_first answers old i e =
      let n : length (map f answers) ≡ i = length-map answers f ∙ e in
      ap (λ (z : List A). z ++ drop i old) (take_all i (map f answers) (omega arith)) ∙ ap (λ (m : ℕ). map f answers ++ drop m old) (sym n)

module _ (answers : List Item) (before now : Pairs) (i : ℕ) (l : ListedTo i answers before now) where
  pub listed_more : (id : ℕ) (dist : Float) → i < length answers → i < length before.ids → i < length before.dists
      → id ≡ (get_or answers i nobody).id → dist ≡ whole (get_or answers i nobody).dist
      → ListedTo (i + 1) answers before (pairs (set now.ids i id) (set now.dists i dist))
  listed_more id dist h p q e f =
      record {
        ids_size = length-set now.ids i id ∙ l.ids_size;
        dists_size = length-set now.dists i dist ∙ l.dists_size;
        ids_are = next (λ c. c.id) answers before.ids now.ids i id h p e l.ids_are;
        dists_are = next (λ c. whole c.dist) answers before.dists now.dists i dist h q f l.dists_are;
      }

  pub listed_all : length answers ≡ i → Listed answers before now
  listed_all e =
      record {
        ids_are = l.ids_are ∙ over_first (λ c. c.id) answers before.ids i e;
        dists_are = l.dists_are ∙ over_first (λ c. whole c.dist) answers before.dists i e;
      }

-- ---- a run, from its end back
pub run_none : (keys : List ℕ) (first end : ℕ) (before : Pairs) → RunListed keys first end first before before
run_none keys first end before = record { goes_on = λ answers lent are few ids dists l. l }

pub run_more : (keys : List ℕ) (first end i : ℕ) (before now : Pairs) (id : ℕ) (dist : Float) → first ≤ i → RunListed keys first end i before now
    → id ≡ id_of (get_or keys (first + end - 1 - i) 0) → dist ≡ whole (dist_of (get_or keys (first + end - 1 - i) 0))
    → RunListed keys first end (i + 1) before (pairs (set now.ids i id) (set now.dists i dist))
run_more keys first end i before now id dist h r e f =
    record {
      goes_on = λ answers lent are few ids dists l.
          let item : get_or answers i nobody ≡ item_of (get_or keys (first + end - 1 - i) 0) = are i h (omega arith) in
          listed_more answers lent now i
          (r.goes_on answers lent (λ j a b. are j a (omega arith)) (omega arith) (omega arith) (omega arith) l)
          id dist (omega arith) (omega arith) (omega arith)
          (e ∙ ap (λ (c : Item). c.id) (sym item)) (f ∙ ap (λ (c : Item). whole c.dist) (sym item));
    }
