-- The distances of the answers are small: the samples are bytes, and there are at most 256 of them.
use mathlib.Core.Path.{◌≡◌}
use mathlib.Core.Bool.{true}
use mathlib.Core.List.{List}
use Prim.Native.Nat.{ℕ}
use native.Mathlib.Omega.{arith}
use lib.Ieee.{Float}
use lib.ListN.{get_or}
use Rattle.definition.specs.Metric.{from_query}
use Rattle.definition.specs.Tables.{row}
use Rattle.definition.specs.Refusals.{search_number}
use Rattle.definition.specs.Outcome.{found}
use Rattle.definition.specs.Seek.{well_formed, the_n, the_dim, the_degree, the_vectors, the_rows, the_query}
use Rattle.theory.specs.Metric.{query_small}
use Rattle.theory.specs.seek.Samples.{text_bytes}
use Rattle.accepted.specs.Search.{search_accepted}
use Rattle.laws.specs.All.{All}
use Rattle.seek_answer.proofs.Lent.{lent_call}
use Rattle.seek_answer.proofs.Lines.{Small}
use Rattle.seek_answer.proofs.Nearby.{all_answers}

pub small-found : (vs words : List ℕ) (floats : List Float) (ids : List ℕ) (dists : List Float) → well_formed vs ≡ true
    → search_number (lent_call vs words floats ids dists) ≡ 0 → All Small (found (lent_call vs words floats ids dists))
unfolding found
small-found vs words floats ids dists w z =
    let bytes = text_bytes vs w in
    let a = search_accepted (lent_call vs words floats ids dists) z in
    all_answers Small (from_query (the_dim vs) (the_vectors vs) (the_query vs))
    (λ i. omega (arith, query_small (the_dim vs) (the_vectors vs) (the_query vs) (omega (arith, a.dim_few, a.query_is)) bytes.0 bytes.1 i))
    (row (the_degree vs) (the_rows vs)) (the_n vs) (get_or vs 4 0) (get_or vs 3 0) (get_or vs 5 0)
