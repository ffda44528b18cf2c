-- "Search beam 0 acts as 1": the whole outcome of every call with beam 0, refused or not, is that of the same call with beam 1; with a run
-- of records too, and of a lookup.
use Rattle.std.specs.Prelude.{ℕ, ◌≡◌, List}
use Rattle.std.proofs.Common.{ap}
use Rattle.definition.specs.declared.Candidate.{Candidate}
use Rattle.definition.specs.Search.{searched, answers}
use Rattle.definition.specs.Refusals.{SearchCall, search_number, search_number_at, search_short, records_number, bad_beam, most_answers}
use Rattle.definition.specs.Outcome.{found, walked, found_ids, found_dists, found_records, search_out, search_kept, search_done, records_out, records_kept, records_done}
use Rattle.definition.specs.Outcome.{cleaned_call, lookup_out}

-- the call with another beam
abbrev pub with_beam : ℕ → SearchCall → SearchCall
with_beam beam c =
    record {
      n = c.n;
      dim = c.dim;
      vectors = c.vectors;
      degree = c.degree;
      beam = beam;
      k = c.k;
      start = c.start;
      table = c.table;
      query = c.query;
      words = c.words;
      floats = c.floats;
      ids = c.ids;
      dists = c.dists;
    }

pub search_beam_zero : (c : SearchCall) → c.beam ≡ 0 → search_out c ≡ search_out (with_beam 1 c)
unfolding search_out search_kept search_done search_number search_number_at search_short bad_beam most_answers found walked found_ids found_dists answers searched
search_beam_zero c e = ap (λ (b : ℕ). search_out (with_beam b c)) e

pub lookup_beam_zero : (c : SearchCall) → c.beam ≡ 0 → lookup_out c ≡ lookup_out (with_beam 1 c)
unfolding lookup_out cleaned_call search_out search_kept search_done search_number search_number_at search_short bad_beam most_answers
    found walked found_ids found_dists answers searched
lookup_beam_zero c e = ap (λ (b : ℕ). lookup_out (with_beam b c)) e

pub records_beam_zero : (c : SearchCall) (records : List Candidate) → c.beam ≡ 0 → records_out c records ≡ records_out (with_beam 1 c) records
unfolding records_out records_kept records_done search_done records_number search_number_at search_short bad_beam most_answers
    found walked found_ids found_dists found_records answers searched
records_beam_zero c records e = ap (λ (b : ℕ). records_out (with_beam b c) records) e
