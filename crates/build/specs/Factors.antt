-- Close's factors: the front of the floats, lent and come back.
use Rattle.std.specs.Prelude.{ℕ, ◌≤◌, ◌≡◌, List, Float, length}
use Rattle.std.proofs.Common.{arith}
use Rattle.laws.specs.Parts.{part, put, Within, part_length, put_within, within_wider}
use Rattle.scratch.specs.Layout.{most_factors, floats_end}

module _ (n : ℕ) (floats : List Float) (room : floats_end n ≤ length floats) where
  pub factors_length : most_factors ≤ length (part 0 most_factors floats)
  factors_length = let l = part_length 0 most_factors floats (omega arith) in omega arith

  -- they lie within the room of a build
  pub factors_within : (fs : List Float) → length fs ≡ length (part 0 most_factors floats) → Within 0 (floats_end n) floats (put 0 most_factors floats fs)
  factors_within fs same =
      let kept = put_within 0 most_factors floats fs (omega arith) (omega arith) same in
      within_wider 0 most_factors floats (put 0 most_factors floats fs) kept 0 (floats_end n) (omega arith) (omega arith)
