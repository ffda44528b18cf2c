-- A distance as f32, and an entry of the flat vectors as the code lends it. (What a distance is, is theory: crate theory, Metric.)
use Rattle.std.specs.Prelude.{◌≡◌, List, map, ℕ, ◌+◌, ◌-◌, ◌*◌, ◌≤◌, ◌<◌, T, pos, length, take, drop}
use Rattle.std.proofs.Math.Path.{refl}
use Rattle.std.proofs.Common.{ap, ◌∙◌, arith, length-take, length-drop}
use Rattle.std.proofs.Math.Nat.{add-sub_cancel_left}
use Rattle.std.specs.Float.{binary32}
use Rattle.std.specs.Float.Ieee.{in_float}
use Rattle.std.proofs.lemmas.List.{length-map}
use Rattle.definition.specs.Metric.{vector}
use Rattle.laws.specs.All.{All, all_of}
use Rattle.laws.specs.Mapped.{map_at}
use Rattle.laws.specs.Tables.{row_fits}
use Rattle.whole.specs.Whole.{limit, in_float_lem}
use Rattle.metric.specs.Exact.{Exact, VectorIn, Distances}

-- a distance as f32 is that number: what the cast asks
pub exact_in_float : (d r : ℕ) → Exact d r → T (in_float binary32 (pos r))
exact_in_float d r e = in_float_lem r (omega (arith, e.is, e.small))

-- distances are small enough to be floats
pub distances_small : (d : ℕ → ℕ) (ids dists : List ℕ) → Distances d ids dists → All (λ (x : ℕ). x ≤ limit) dists
distances_small d ids dists m =
    rw m.are
    (all_of (λ (x : ℕ). x ≤ limit) 0 (map d ids)
    (λ k h. let l : k < length ids = rw (length-map ids d) at h in rw (map_at d 0 0 ids k l) (omega (arith, m.small k l))))

-- entry i of n
pub vector_in : (dim : ℕ) (vectors : List ℕ) (n i : ℕ) → length vectors ≡ n * dim → i < n → VectorIn dim vectors i
vector_in dim vectors n i all h = record { reach = omega (arith, row_fits i n dim h) }

pub vector-length : (dim : ℕ) (vectors : List ℕ) (i : ℕ) → VectorIn dim vectors i → length (vector dim vectors i) ≡ dim
unfolding vector
vector-length dim vectors i h = simp (length-take, length-drop) (omega arith)

-- the vector of an entry as a part of the flat vectors lends it
module _ (dim : ℕ) (vectors : List ℕ) (i : ℕ) where
  pub lent_vector : take ((i * dim + dim) - i * dim) (drop (i * dim) vectors) ≡ vector dim vectors i
  unfolding vector
  lent_vector = rw add-sub_cancel_left refl

  pub lent_length : VectorIn dim vectors i → length (take ((i * dim + dim) - i * dim) (drop (i * dim) vectors)) ≡ dim
  lent_length h = ap length lent_vector ∙ vector-length dim vectors i h
