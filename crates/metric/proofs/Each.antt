-- The distances of some entries, one by one: what a loop over them has written so far.
use Rattle.std.proofs.Common.{◌≡◌, refl, sym, ap, ◌∙◌, List, map, ℕ, ◌+◌, ◌≤◌, ◌<◌, add-one, arith, below_more, length, get_or}
use Rattle.std.proofs.Common.{take, set, length-set}
use Rattle.std.proofs.Math.Seq.{take_all, take-suc, take-suc-set}
use Rattle.laws.specs.Mapped.{map_snoc}
use Rattle.whole.specs.Whole.{farthest}
use Rattle.metric.specs.Exact.{Exact, Distances}

-- the first j are written
pub record Measured (d : ℕ → ℕ) (ids dists : List ℕ) (j : ℕ) : Type 0 where
  pub within : j ≤ length ids
  pub size : length dists ≡ length ids
  pub are : take j dists ≡ map d (take j ids)
  pub small : (i : ℕ) → i < j → d (get_or ids i 0) ≤ farthest

module _ (d : ℕ → ℕ) (ids dists : List ℕ) where
  pub measured_none : length ids ≡ length dists → Measured d ids dists 0
  measured_none e = record { within = omega arith; size = sym e; are = refl; small = λ i h. absurd (omega arith) }

  module _ (j : ℕ) (m : Measured d ids dists j) where
    pub measured_more : j < length ids → (r : ℕ) → Exact (d (get_or ids j 0)) r → Measured d ids (set dists j r) (j + 1)
    measured_more h r x =
        record {
          within = omega arith;
          size = length-set dists j r ∙ m.size;
          are =
              ap (λ (k : ℕ). take k (set dists j r)) (add-one j) ∙ take-suc-set dists j r (omega (arith, m.size))
              ∙ rw (m.are, x.is) (sym (map_snoc d (take j ids) (get_or ids j 0)))
              ∙ ap (map d) (sym (ap (λ (k : ℕ). take k ids) (add-one j) ∙ take-suc ids j 0 h));
          small = below_more (λ (i : ℕ). d (get_or ids i 0) ≤ farthest) j m.small x.small;
        }

    pub measured_all : length ids ≤ j → Distances d ids dists
    measured_all h =
        record {
          are = sym (take_all j dists (omega (arith, m.size))) ∙ m.are ∙ ap (map d) (take_all j ids h);
          small = λ i k. m.small i (omega arith);
        }
