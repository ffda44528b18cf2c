-- The entries, the parameters and the slack as one record; and what an accepted call has of them.
use Rattle.std.specs.Prelude.{ℕ, ◌*◌, ◌≤◌, ◌≡◌, false, List, length}
use Rattle.std.proofs.Common.{arith}
use Rattle.definition.specs.declared.Params.{Params}
use Rattle.definition.specs.Batch.{Setting}
use Rattle.definition.specs.Floats.{four, above}
use Rattle.definition.specs.Outcome.{setting_of}
use Rattle.definition.specs.Slack.{slack}
use Rattle.laws.specs.Words.{Searchable}
use Rattle.scratch.specs.Layout.{widest}
use Rattle.given.specs.declared.Ground.{Ground}

-- `width` is how many words a row of the wide table has
pub record Given : Type 0 where
  pub n : ℕ
  pub dim : ℕ
  pub vectors : List ℕ
  pub params : Params
  pub width : ℕ

-- as the code has them
abbrev pub given : Ground → Given
given g = record { n = g.n; dim = g.dim; vectors = g.vectors.now; params = g.params; width = g.slack }

abbrev pub setting : Given → Setting
setting g = setting_of g.n g.dim g.vectors g.params

pub degree-slack : (degree width : ℕ) → width ≡ slack degree → degree ≤ 64 → (degree ≤ width) × (width ≤ widest)
unfolding slack
degree-slack degree width e h = (omega arith, omega arith)

-- what close keeps to
pub record Limits (g : Given) : Type 0 where
  pub nodes : g.n ≤ 65536
  pub dim_few : g.dim ≤ 256
  pub vectors_are : length g.vectors ≡ g.n * g.dim
  pub degree_few : g.params.degree ≤ 64
  pub width_is : g.width ≡ slack g.params.degree

-- what a batch and a whole build keep to, whose walks go by the beam
pub record WalkLimits (g : Given) : Type 0 where
  pub limits : Limits g
  pub beam_few : g.params.beam ≤ 256
  pub alpha_low : above g.params.alpha four ≡ false

-- a wide table: each of its words is padding or an entry
pub record Wide (g : Given) (wide : List ℕ) : Type 0 where
  pub size : length wide ≡ g.n * g.width
  pub words : Searchable g.n wide
