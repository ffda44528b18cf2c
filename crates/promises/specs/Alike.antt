-- What does not matter to a call: "Close ignores the record's beam and extra seeds", and "NaN alpha and any alpha below 1.0 act as 1.0". Two calls that differ
-- only in that leave the same, on every input, refusals included.
use Rattle.std.specs.Prelude.{ℕ, ◌≡◌, true, false, Float}
use Rattle.std.proofs.Math.Path.{refl}
use Rattle.std.specs.Float.{nan}
use Rattle.std.specs.Float.Ieee.{lt, of_bits}
use Rattle.definition.specs.declared.Params.{Params}
use Rattle.definition.specs.Floats.{one}
use Rattle.definition.specs.Batch.{prune_ids, wide_row, wide_ids}
use Rattle.definition.specs.Build.{closed_ids, close}
use Rattle.definition.specs.Refusals.{BatchCall, CloseCall, BuildCall, close_number}
use Rattle.definition.specs.Outcome.{setting_of, close_kept, close_done, close_out}
use Rattle.theory.specs.build.Alphas.{below_not_above}

-- ---- the same call with other parameters

abbrev pub batch_by : Params → BatchCall → BatchCall
batch_by p c =
    record {
      n = c.n;
      dim = c.dim;
      vectors = c.vectors;
      params = p;
      start = c.start;
      nodes = c.nodes;
      seeds = c.seeds;
      wide = c.wide;
      words = c.words;
      floats = c.floats;
    }

abbrev pub close_by : Params → CloseCall → CloseCall
close_by p c = record { n = c.n; dim = c.dim; vectors = c.vectors; params = p; wide = c.wide; closed = c.closed; words = c.words; floats = c.floats }

abbrev pub build_by : Params → BuildCall → BuildCall
build_by p c =
    record {
      n = c.n;
      dim = c.dim;
      vectors = c.vectors;
      params = p;
      start = c.start;
      order = c.order;
      seeds = c.seeds;
      opening = c.opening;
      wide = c.wide;
      closed = c.closed;
      words = c.words;
      floats = c.floats;
    }

-- ---- close ignores beam and extra seeds

-- with another beam and another number of extra seeds
abbrev pub other_search : ℕ → ℕ → Params → Params
other_search beam extra p = record { degree = p.degree; beam = beam; alpha = p.alpha; extra = extra }

pub close_ignores : (c : CloseCall) (beam extra : ℕ) → close_out c ≡ close_out (close_by (other_search beam extra c.params) c)
unfolding close_out close_kept close_done close_number setting_of close closed_ids wide_ids wide_row prune_ids
close_ignores c beam extra = refl

-- ---- alpha: NaN, or below 1.0

pub data ActsAsOne : Float → Type 0 where
  not_a_number : ActsAsOne nan
  below_one : {alpha : Float} → lt alpha one ≡ true → ActsAsOne alpha

abbrev pub with_alpha : Float → Params → Params
with_alpha alpha p = record { degree = p.degree; beam = p.beam; alpha = alpha; extra = p.extra }

-- such an alpha is not above 1.0
pub acts_low : (alpha : Float) → ActsAsOne alpha → lt one alpha ≡ false
unfolding lt one of_bits
acts_low alpha not_a_number = refl
acts_low alpha (below_one h) = below_not_above alpha h
