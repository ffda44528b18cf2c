-- The candidates that `choose` leaves may be measured, and the row pruned from them is the definition's.
use Rattle.std.specs.Prelude.{◌≡◌, Bool, true, false, cond, ℕ, ◌-◌, ◌≤◌, Float, length, take, drop}
use Rattle.std.proofs.Common.{sym, ap, ◌∙◌, arith, length-take-le}
use Rattle.std.proofs.Math.Path.{subst}
use mathlib.Core.List.{List, [], ◌∷◌}
use Rattle.definition.specs.Lists.{sort, is_in}
use Rattle.definition.specs.Beam.{Item, nearer}
use Rattle.definition.specs.Metric.{between}
use Rattle.definition.specs.Prune.{unseen, cut, candidates, pruned_from, prune}
use Rattle.whole.specs.Whole.{limit}
use Rattle.metric.specs.Exact.{VectorIn}
use Rattle.laws.specs.All.{All, all_take}
use Rattle.laws.specs.Paired.{items_of, items-ids, ids-items}
use Rattle.laws.specs.Sorted.{all_sort}
use Rattle.prune_pool.specs.Says.{Distinct, Pool, Chosen}
use Rattle.table.specs.Rows.{Written}
use Rattle.prune.specs.Says.{Measurable}

all_fresh : (P : Item → Type 0) (seen : List ℕ) (l : List Item) → All P l → All P (unseen seen l)
unfolding unseen
all_fresh P seen [] a = tt
all_fresh P seen (c ∷ cs) a = go (is_in c.id seen) (all_fresh P seen cs a.1) (all_fresh P (c.id ∷ seen) cs a.1)
  where
    go : (b : Bool) → All P (unseen seen cs) → All P (unseen (c.id ∷ seen) cs) → All P (cond b (unseen seen cs) (c ∷ unseen (c.id ∷ seen) cs))
    go true p q = p
    go false p q = (a.0, q)

all-candidates : (P : Item → Type 0) (node : ℕ) (l : List Item) → All P l → All P (candidates node l)
unfolding candidates
all-candidates P node l a = all_fresh P (node ∷ []) (take cut (sort nearer l)) (all_take P cut (sort nearer l) (all_sort nearer P l a))

pub as_pool : {dim : ℕ} {vectors ids dists : List ℕ} → Measurable dim vectors ids dists → Pool ids dists
as_pool m = record { same = m.same; small = m.small }

module _ (dim : ℕ) (vectors ids dists : List ℕ) (node : ℕ) (m : Measurable dim vectors ids dists) (apart : Distinct ids) (ci cd : List ℕ) (r : ℕ)
    (ch : Chosen ids dists node ci cd r) (ni : 750 ≤ length ci) (nd : 750 ≤ length cd) where
  -- the first r of a list, as they are lent
  abbrev front : List ℕ → List ℕ
  front l = take (r - 0) (drop 0 l)

  zero_off : r - 0 ≡ r
  zero_off = omega arith

  pub front_length : length (front ci) ≡ r
  front_length = length-take-le (r - 0) ci (omega (arith, ch.few)) ∙ zero_off

  items_are : items_of (front ci) (front cd) ≡ candidates node (items_of ids dists)
  items_are = ap (λ (k : ℕ). items_of (take k ci) (take k cd)) zero_off ∙ ch.items apart

  pub measurable : Measurable dim vectors (front ci) (front cd)
  measurable =
      let e : length (front ci) ≡ length (front cd) = front_length ∙ sym (length-take-le (r - 0) cd (omega (arith, ch.few)) ∙ zero_off) in
      let In : Item → Type 0 = λ c. VectorIn dim vectors c.id in
      let reach : All In (items_of (front ci) (front cd)) =
      subst (All In) (sym items_are) (all-candidates In node (items_of ids dists) (items-ids (VectorIn dim vectors) ids dists m.rows)) in
      record {
        same = e;
        narrow = m.narrow;
        rows = ids-items (VectorIn dim vectors) (front ci) (front cd) e reach;
        small = subst (λ (k : ℕ). All (λ (d : ℕ). d ≤ limit) (take k cd)) (sym zero_off) ch.small;
      }

  pub pruned : (row : List ℕ) (k width degree : ℕ) (alpha : Float)
      → Written row k width (pruned_from (between dim vectors) degree alpha (items_of (front ci) (front cd)))
      → Written row k width (prune (between dim vectors) degree alpha node (items_of ids dists))
  unfolding prune
  pruned row k width degree alpha w = subst (λ (l : List Item). Written row k width (pruned_from (between dim vectors) degree alpha l)) items_are w
