-- A draw below m is below m; a state is below 2^64; how many ids an opening row has, and how many words.
use Rattle.std.specs.Prelude.{ℕ, ◌+◌, ◌-◌, ◌*◌, ◌/◌, ◌%◌, ◌^◌, ◌<◌, min, ◌≡◌, length}
use Rattle.std.proofs.Common.{mul-lt-mul_of_pos_right, arith, ◌∙◌}
use Rattle.std.proofs.lemmas.List.{length-map}
use Rattle.definition.specs.Lists.{run, upto}
use Rattle.definition.specs.Draws.{advance, drawn, row_ids, row_drawn}
use Rattle.laws.specs.Members.{length_run}
use Rattle.laws.specs.Tables.{length-padded}

pub advance_lt : (s : ℕ) → advance s < 2 ^ 64
unfolding advance
advance_lt s = omega arith

pub scaled_lt : (m q : ℕ) → 0 < m → q < 4294967296 → q * m / 4294967296 < m
scaled_lt m q h k =
    let p : q * m < 4294967296 * m = mul-lt-mul_of_pos_right k h in
    omega arith

pub drawn_lt : (m s : ℕ) → 0 < m → s < 2 ^ 64 → drawn m s < m
unfolding drawn
drawn_lt m s h k = scaled_lt m (s / 4294967296) h (omega arith)

pub length_ids : (n i r m : ℕ) → length (row_ids n i r (upto m)) ≡ m
unfolding row_ids upto
length_ids n i r m = length-map (run 0 m) (λ j. (i + 1 + (r + j) % (n - 1)) % n) ∙ length_run 0 m

pub length-row : (n degree i s : ℕ) → length (row_drawn n degree i s) ≡ degree
unfolding row_drawn
length-row n degree i s =
    let m = min degree (n - 1) in
    let l = length_ids n i (drawn (n - 1) s) m in
    length-padded degree (row_ids n i (drawn (n - 1) s) (upto m)) (omega arith)
