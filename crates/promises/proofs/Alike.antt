-- NaN alpha and any alpha below 1.0 act as 1.0: of a batch, of close and of a whole build, the whole outcome.
use Rattle.std.specs.Prelude.{◌≡◌, length}
use Rattle.std.proofs.Math.Path.{refl, ap}
use Rattle.std.proofs.Common.{◌∙◌}
use Rattle.definition.specs.declared.Params.{Params}
use Rattle.definition.specs.Lists.{cleared}
use Rattle.definition.specs.Floats.{nought, one}
use Rattle.definition.specs.Metric.{between}
use Rattle.definition.specs.Prune.{target_of}
use Rattle.definition.specs.Build.{open', close, built}
use Rattle.definition.specs.Refusals.{BatchCall, CloseCall, BuildCall, batch_number, close_number, build_number, bad_alpha, build_words, build_floats}
use Rattle.definition.specs.Outcome.{by_number, setting_of, refused, done, batch_kept, batch_done, batch_out, close_kept, close_done, close_out, build_kept, built_wide}
use Rattle.definition.specs.Outcome.{build_done, build_out}
use Rattle.theory.specs.build.Alphas.{target_one, close_alike, batch_alike, batches_alike}
use Rattle.accepted.specs.Checks.{alpha_one}
use Rattle.promises.specs.Alike.{batch_by, close_by, build_by, ActsAsOne, with_alpha, acts_low}

module _ (p : Params) (h : ActsAsOne p.alpha) where
  not_5 : bad_alpha p.alpha ≡ bad_alpha one
  not_5 = alpha_one p.alpha (acts_low p.alpha h)

  target : target_of p.alpha ≡ target_of one
  target = target_one p.alpha (acts_low p.alpha h)

-- a batch

module _ (c : BatchCall) (h : ActsAsOne c.params.alpha) where
  abbrev batch_one : BatchCall
  batch_one = batch_by (with_alpha one c.params) c

  batch_number_lem : batch_number c ≡ batch_number batch_one
  unfolding batch_number
  batch_number_lem = rw (not_5 c.params h) refl

  batch_wide : (batch_done c).wide ≡ (batch_done batch_one).wide
  unfolding batch_done setting_of
  batch_wide =
      batch_alike c.n (between c.dim c.vectors) c.params.degree c.params.beam c.params.alpha one (target c.params h) c.start
      c.params.extra c.nodes c.seeds c.wide

  pub batch_alpha_one : batch_out c ≡ batch_out (batch_by (with_alpha one c.params) c)
  unfolding batch_out batch_kept batch_done
  batch_alpha_one =
      λ i. by_number (batch_number_lem i) (record { answer = refused (batch_number_lem i); wide = c.wide; words = c.words; floats = c.floats })
      (record {
        answer = done;
        wide = batch_wide i;
        words = cleared 0 (build_words c.n) c.words;
        floats = cleared nought (build_floats c.n) c.floats;
      })

-- close

module _ (c : CloseCall) (h : ActsAsOne c.params.alpha) where
  abbrev close_one : CloseCall
  close_one = close_by (with_alpha one c.params) c

  close_number_lem : close_number c ≡ close_number close_one
  unfolding close_number
  close_number_lem = rw (not_5 c.params h) refl

  close_closed : (close_done c).closed ≡ (close_done close_one).closed
  unfolding close_done setting_of
  close_closed =
      close_alike c.n (between c.dim c.vectors) c.params.degree c.params.beam c.params.alpha one (target c.params h) c.wide

  pub close_alpha_one : close_out c ≡ close_out (close_by (with_alpha one c.params) c)
  unfolding close_out close_kept close_done
  close_alpha_one =
      λ i. by_number (close_number_lem i) (record { answer = refused (close_number_lem i); closed = c.closed; words = c.words; floats = c.floats })
      (record {
        answer = done;
        closed = close_closed i;
        words = cleared 0 (build_words c.n) c.words;
        floats = cleared nought (build_floats c.n) c.floats;
      })

-- a whole build

module _ (c : BuildCall) (h : ActsAsOne c.params.alpha) where
  abbrev build_one : BuildCall
  build_one = build_by (with_alpha one c.params) c

  build_number_lem : build_number c ≡ build_number build_one
  unfolding build_number
  build_number_lem = rw (not_5 c.params h) refl

  build_wide : built_wide c ≡ built_wide build_one
  unfolding built_wide built setting_of
  build_wide =
      batches_alike c.n (between c.dim c.vectors) c.params.degree c.params.beam c.params.alpha one (target c.params h) c.start
      c.params.extra (length c.order) c.order c.seeds (open' c.n c.params.degree c.opening)

  build_closed : (build_done c).closed ≡ (build_done build_one).closed
  unfolding build_done setting_of
  build_closed =
      close_alike c.n (between c.dim c.vectors) c.params.degree c.params.beam c.params.alpha one (target c.params h) (built_wide c)
      ∙ ap (close (setting_of c.n c.dim c.vectors (with_alpha one c.params))) build_wide

  pub build_alpha_one : build_out c ≡ build_out (build_by (with_alpha one c.params) c)
  unfolding build_out build_kept build_done
  build_alpha_one =
      λ i. by_number (build_number_lem i)
      (record { answer = refused (build_number_lem i); wide = c.wide; closed = c.closed; words = c.words; floats = c.floats })
      (record {
        answer = done;
        wide = build_wide i;
        closed = build_closed i;
        words = cleared 0 (build_words c.n) c.words;
        floats = cleared nought (build_floats c.n) c.floats;
      })
