-- Each public call is done on some input: one of each, on document 01's line, that no check refuses. So what is promised of accepted calls is promised of
-- calls that there are. And open, one batch of all four entries, and close leave the tables of the whole build.
use Rattle.std.specs.Prelude.{ℕ, List, [], ◌∷◌, ◌≡◌, refl, replicate}
use Rattle.std.specs.Float.{binary32}
use Rattle.std.specs.Float.Ieee.{of_bits}
use Rattle.definition.specs.declared.Params.{Params}
use Rattle.definition.specs.Floats.{nought}
use Rattle.definition.specs.Refusals.{BatchCall, OpenCall, CloseCall, BuildCall, build_words, build_floats}
use Rattle.definition.specs.Refusals.{distance_number, batch_number, open_number, close_number, build_number, medoid_number, search_number, records_number}
use Rattle.definition.specs.Refusals.{fit_number, exhaustive_number, report_number, rows_number, seeds_number, order_number, pivots_number}
use Rattle.definition.specs.Outcome.{open_out, batch_out, close_out, build_out, cleaned_call}
use Rattle.definition.specs.checked.Opened.{opened}
use Rattle.definition.specs.checked.Samples.{line, line_rows, line_call}
use Rattle.definition.specs.checked.Lookups.{stray_rows, table_call, enough}
use Rattle.definition.specs.checked.Recalls.{near_call, report_call}

-- ---- the calls. Degree 2, so slack 3; beam 2, alpha 1.2, one seed for each node

unfoldable pub line_params : Params
line_params = record { degree = 2; beam = 2; alpha = of_bits binary32 0x3F99999A; extra = 1 }

unfoldable pub line_order : List ℕ
line_order = 2 ∷ 0 ∷ 3 ∷ 1 ∷ []

unfoldable pub line_seeds : List ℕ
line_seeds = 3 ∷ 2 ∷ 1 ∷ 3 ∷ []

unfoldable pub line_opening : List ℕ
line_opening = 1 ∷ 3 ∷ 3 ∷ 0 ∷ 3 ∷ 0xFFFFFFFF ∷ 1 ∷ 0xFFFFFFFF ∷ []

unfoldable pub line_open : OpenCall
line_open = record { n = 4; degree = 2; opening = line_opening; wide = replicate 12 7 }

-- all four entries, on the rows as opened
unfoldable pub line_batch : BatchCall
line_batch =
    record {
      n = 4;
      dim = 1;
      vectors = line;
      params = line_params;
      start = 0;
      nodes = line_order;
      seeds = line_seeds;
      wide = (open_out line_open).wide;
      words = replicate (build_words 4) 7;
      floats = replicate (build_floats 4) nought;
    }

-- the table that the batch leaves
unfoldable pub line_close : CloseCall
line_close =
    record {
      n = 4;
      dim = 1;
      vectors = line;
      params = line_params;
      wide = (batch_out line_batch).wide;
      closed = replicate 8 7;
      words = replicate (build_words 4) 7;
      floats = replicate (build_floats 4) nought;
    }

unfoldable pub line_build : BuildCall
line_build =
    record {
      n = 4;
      dim = 1;
      vectors = line;
      params = line_params;
      start = 0;
      order = line_order;
      seeds = line_seeds;
      opening = line_opening;
      wide = replicate 12 7;
      closed = replicate 8 7;
      words = replicate (build_words 4) 7;
      floats = replicate (build_floats 4) nought;
    }

-- ---- none is refused

pub distance_passes : distance_number (record { first = 0 ∷ []; second = 254 ∷ [] }) ≡ 0
unfolding opened
distance_passes = refl

pub open_passes : open_number line_open ≡ 0
unfolding opened line_open line_opening
open_passes = refl

pub batch-passes : batch_number line_batch ≡ 0
unfolding opened line_batch line_open line_opening line line_params line_order line_seeds
batch-passes = refl

pub close-passes : close_number line_close ≡ 0
unfolding opened line_close line_batch line_open line_opening line line_params line_order line_seeds
close-passes = refl

pub build_passes : build_number line_build ≡ 0
unfolding opened line_build line_opening line line_params line_order line_seeds
build_passes = refl

pub medoid-passes : medoid_number (record { n = 4; dim = 1; vectors = line; pivots = 0 ∷ 3 ∷ [] }) ≡ 0
unfolding opened line
medoid-passes = refl

pub search_passes : search_number (line_call line 38 2 2) ≡ 0
unfolding opened line_call line_rows line
search_passes = refl

pub records_passes : records_number (line_call line 38 2 2) (replicate 2 (record { id = 7; distance = nought })) ≡ 0
unfolding opened line_call line_rows line
records_passes = refl

-- a lookup with stray words in its table
pub lookup_passes : search_number (cleaned_call (table_call stray_rows enough)) ≡ 0
unfolding opened table_call stray_rows enough line
lookup_passes = refl

pub fit_passes : fit_number (record { n = 4; degree = 2; table = line_rows }) ≡ 0
unfolding opened line_rows
fit_passes = refl

pub exhaustive_passes : exhaustive_number (near_call line (25 ∷ []) 2 2) ≡ 0
unfolding opened near_call line
exhaustive_passes = refl

pub report_passes : report_number (report_call line 4 2 (25 ∷ 38 ∷ [])) ≡ 0
unfolding opened report_call line_rows line
report_passes = refl

pub rows_passes : rows_number (record { n = 4; degree = 2; table = replicate 8 7; state = 0 }) ≡ 0
unfolding opened
rows_passes = refl

pub seeds_passes : seeds_number (record { n = 4; start = 0; extra = 1; out = 7 ∷ []; state = 0 }) ≡ 0
unfolding opened
seeds_passes = refl

pub order_passes : order_number (record { n = 4; out = replicate 4 7; state = 0 }) ≡ 0
unfolding opened
order_passes = refl

pub pivots_passes : pivots_number (record { n = 4; out = replicate 4 7; state = 0 }) ≡ 0
unfolding opened
pivots_passes = refl

-- ---- the tables: as opened, with a row over the degree after the batch, closed; and those of the whole build

pub line_by_calls : (open_out line_open).wide ∷ (batch_out line_batch).wide ∷ (close_out line_close).closed ∷ (build_out line_build).wide ∷ (build_out line_build).closed ∷ []
    ≡ (1 ∷ 3 ∷ 0xFFFFFFFF ∷ 3 ∷ 0 ∷ 0xFFFFFFFF ∷ 3 ∷ 0xFFFFFFFF ∷ 0xFFFFFFFF ∷ 1 ∷ 0xFFFFFFFF ∷ 0xFFFFFFFF ∷ [])
    ∷ (1 ∷ 0xFFFFFFFF ∷ 0xFFFFFFFF ∷ 0 ∷ 2 ∷ 3 ∷ 1 ∷ 3 ∷ 0xFFFFFFFF ∷ 1 ∷ 2 ∷ 0xFFFFFFFF ∷ [])
    ∷ (1 ∷ 0xFFFFFFFF ∷ 0 ∷ 2 ∷ 1 ∷ 3 ∷ 1 ∷ 2 ∷ [])
    ∷ (1 ∷ 0xFFFFFFFF ∷ 0xFFFFFFFF ∷ 0 ∷ 2 ∷ 3 ∷ 1 ∷ 3 ∷ 0xFFFFFFFF ∷ 1 ∷ 2 ∷ 0xFFFFFFFF ∷ [])
    ∷ (1 ∷ 0xFFFFFFFF ∷ 0 ∷ 2 ∷ 1 ∷ 3 ∷ 1 ∷ 2 ∷ [])
    ∷ []
unfolding opened line_build line_close line_batch line_open line_opening line line_params line_order line_seeds
line_by_calls = refl
