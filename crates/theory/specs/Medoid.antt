-- The medoid's score: "f32 distances to the pivots added in pivot order, rounding at each sum. Exact when dim is at most 32; otherwise within 21 of the exact
-- sum." And the choice, "least score wins, lower id on equality", over any scores that compare as numbers do. (Bytes; at most 256 samples and 8 pivots.)
use Prim.Native.Nat.{ℕ, zero, suc, ◌+◌, ◌*◌, ◌≤◌, ◌<◌}
use Rattle.std.proofs.Math.Nat.{add-zero}
use Rattle.std.proofs.Common.{arith, sym, ◌∙◌}
use Rattle.std.specs.Prelude.{◌≡◌, refl, List, [], ◌∷◌, length, Float}
use Rattle.std.proofs.Math.Path.{ap, subst}
use borrow.Author.Tests.{ltb-true, ltb-false}
use Rattle.std.proofs.Math.Dec.{ltb}
use Rattle.std.specs.Float.Ieee.{lt}
use Rattle.definition.specs.Metric.{whole, between}
use Rattle.definition.specs.Medoid.{score, Leader, challenge, leader, medoid}
use Rattle.laws.specs.Truth.{branch}
use Rattle.laws.specs.Below.{one_further}
use Rattle.whole.specs.Whole.{limit}
use Rattle.whole.specs.Sums.{Within}
use Rattle.whole.specs.Eight.{exact_score, score_exact, score_within}
use Rattle.theory.specs.Metric.{Bytes, between_most}

-- m is the entry of the least number, the lower id on equality
pub record Least (f : ℕ → ℕ) (n m : ℕ) : Type 0 where
  pub inside : m < n
  pub least : (j : ℕ) → j < n → f m ≤ f j
  pub first : (j : ℕ) → j < m → f m < f j

-- ---- exact while the sum is at most 2^24

sum_most : (pair : ℕ → ℕ → ℕ) (i : ℕ) (ps : List ℕ) (k : ℕ) → ((j : ℕ) → pair i j ≤ 65025 * 32) → length ps ≤ k → exact_score pair ps i ≤ 65025 * 32 * k
unfolding exact_score
sum_most pair i [] k b h = omega arith
sum_most pair i (p ∷ ps) zero b h = absurd (omega arith)
sum_most pair i (p ∷ ps) (suc k) b h = let a = b p in let c = sum_most pair i ps k b (omega arith) in omega arith

pub exact_score_most : (dim : ℕ) (vectors pivots : List ℕ) (i : ℕ) → dim ≤ 32 → length pivots ≤ 8 → Bytes vectors
    → exact_score (between dim vectors) pivots i ≤ limit
exact_score_most dim vectors pivots i small few bytes =
    let m = sum_most (between dim vectors) i pivots 8 (λ j. let b = between_most dim vectors bytes i j in omega arith) few in
    omega arith

pub medoid_exact : (dim : ℕ) (vectors pivots : List ℕ) (i : ℕ) → dim ≤ 32 → length pivots ≤ 8 → Bytes vectors
    → score (between dim vectors) pivots i ≡ whole (exact_score (between dim vectors) pivots i)
medoid_exact dim vectors pivots i small few bytes =
    score_exact (between dim vectors) pivots i (exact_score_most dim vectors pivots i small few bytes)

-- ---- beyond: the score's own value is a whole number within 21

pub medoid_within : (dim : ℕ) (vectors pivots : List ℕ) (i : ℕ) → dim ≤ 256 → length pivots ≤ 8 → Bytes vectors
    → Within (exact_score (between dim vectors) pivots i) 21 (score (between dim vectors) pivots i)
medoid_within dim vectors pivots i small few bytes =
    score_within (between dim vectors) pivots i (λ p. let b = between_most dim vectors bytes i p in omega arith) few

-- ---- the least wins: over any scores that compare as numbers do

module _ (f : ℕ → ℕ) (scores : ℕ → Float) (alike : (a b : ℕ) → lt (scores a) (scores b) ≡ ltb (f a) (f b)) where
  -- the leader of the entries below i
  record Leads (i : ℕ) (l : Leader) : Type 0 where
    total : l.total ≡ scores l.id
    among : Least f i l.id

  challenged : (i : ℕ) (l : Leader) → Leads i l → Leads (suc i) (challenge l i (scores i))
  unfolding challenge
  challenged i l h =
      let test : lt (scores i) l.total ≡ ltb (f i) (f l.id) = ap (lt (scores i)) h.total ∙ alike i l.id in
      let in-it = h.among.inside in
      branch (λ (k : Leader). Leads (suc i) k) (lt (scores i) l.total)
      (λ t.
      let near = ltb-true (f i) (f l.id) (sym test ∙ t) in
      let below : (j : ℕ) → j < i → f i < f j = λ j b. omega (arith, h.among.least j b) in
      record {
        total = refl;
        among = record {
          inside = omega arith;
          least = one_further (λ j. f i ≤ f j) i (λ j b. omega (arith, below j b))
              (omega arith);
          first = below;
        };
      })
      (λ t.
      let far = ltb-false (f i) (f l.id) (sym test ∙ t) in
      record {
        total = h.total;
        among = record {
          inside = omega arith;
          least = one_further (λ j. f l.id ≤ f j) i
              h.among.least far;
          first = h.among.first;
        };
      })

  leads : (k i : ℕ) (l : Leader) → Leads i l → Leads (i + k) (leader scores l i k)
  unfolding leader
  leads zero i l h = rw add-zero h
  leads (suc k) i l h =
      subst (λ (m : ℕ). Leads m (leader scores (challenge l i (scores i)) (suc i) k)) (omega arith)
      (leads k (suc i) (challenge l i (scores i)) (challenged i l h))

  -- the first entry leads alone
  alone : Leads 1 (record { id = 0; total = scores 0 })
  alone = record {
    total = refl;
    among = record {
      inside = omega arith;
      least = one_further (λ j. f 0 ≤ f j) 0 (λ j b. absurd (omega arith)) (omega arith);
      first = λ j b. absurd (omega arith);
    };
  }

pub chosen_least : (f : ℕ → ℕ) (pair : ℕ → ℕ → ℕ) (pivots : List ℕ)
    → ((a b : ℕ) → lt (score pair pivots a) (score pair pivots b) ≡ ltb (f a) (f b)) → (n : ℕ) → 0 < n → Least f n (medoid pair pivots n)
unfolding medoid
chosen_least f pair pivots alike zero h = absurd (omega arith)
chosen_least f pair pivots alike (suc n) h =
    let first : Leader = record { id = 0; total = score pair pivots 0 } in
    subst (λ (m : ℕ). Least f m (leader (score pair pivots) first 1 n).id) (omega arith)
    (leads f (score pair pivots) alike n 1 first (alone f (score pair pivots) alike)).among
