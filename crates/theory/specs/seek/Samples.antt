-- What a well-formed text holds: vectors and a query of bytes, the query of dim samples.
use Rattle.std.specs.Prelude.{ℕ, zero, suc, ◌+◌, ◌*◌, ◌≡◌, true, ◌&&◌, List, [], ◌∷◌, leb, eqb, length, take, drop}
use Rattle.std.proofs.Common.{arith, leb-true, eqb-true, length-drop, length-take-le}
use Rattle.definition.specs.Lists.{each}
use Rattle.definition.specs.Seek.{is_number, is_sample, is_row_word, part_at, the_n, the_dim, the_degree, the_vectors, the_rows, the_query, small_enough}
use Rattle.definition.specs.Seek.{shaped, filled, well_formed}
use Rattle.laws.specs.Truth.{and_both}
use Rattle.theory.specs.Metric.{Bytes}

samples-bytes : (l : List ℕ) → each is_sample l ≡ true → Bytes l
unfolding each is_sample
samples-bytes [] e k = omega arith
samples-bytes (x ∷ xs) e zero = omega (arith, leb-true x 255 (and_both (leb x 255) (each is_sample xs) e).0)
samples-bytes (x ∷ xs) e (suc k) = samples-bytes xs (and_both (leb x 255) (each is_sample xs) e).1 k

pub text_bytes : (vs : List ℕ) → well_formed vs ≡ true → Bytes (the_vectors vs) × Bytes (the_query vs)
unfolding well_formed filled
text_bytes vs t =
    let samples = each is_sample (the_query vs) in
    let f = (and_both (shaped vs) (filled vs) t).1 in
    let v = and_both (each is_sample (the_vectors vs)) (each is_row_word (the_rows vs) && samples) f in
    let q = and_both (each is_row_word (the_rows vs)) samples v.1 in
    (samples-bytes (the_vectors vs) v.0, samples-bytes (the_query vs) q.1)

pub query_length : (vs : List ℕ) → well_formed vs ≡ true → length (the_query vs) ≡ the_dim vs
unfolding well_formed shaped the_query part_at
query_length vs t =
    let a = (and_both (shaped vs) (filled vs) t).0 in
    let size = the_n vs * the_dim vs in
    let rows = the_n vs * the_degree vs in
    let words = eqb (length vs) (6 + size + rows + the_dim vs) in
    let b = (and_both (leb 6 (length vs)) (each is_number (take 6 vs) && (small_enough vs && words)) a).1 in
    let d = (and_both (each is_number (take 6 vs)) (small_enough vs && words) b).1 in
    let e = eqb-true (length vs) (6 + size + rows + the_dim vs) (and_both (small_enough vs) words d).1 in
    let l = length-drop (6 + size + rows) vs in
    length-take-le (the_dim vs) (drop (6 + size + rows) vs) (omega arith)
