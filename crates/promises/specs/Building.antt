-- "Whole build: open, the order in runs of 256 with the last shorter, close; the wide table stays as after the last run." A whole build that is accepted is
-- those public calls: each of them is done, and they leave what it leaves.
use Prim.Native.Nat.{ℕ, zero, suc, ◌*◌, ◌≤◌, ◌<◌}
use native.Mathlib.Omega.{arith}
use Rattle.std.specs.Prelude.{◌≡◌, refl, Float}
use Rattle.std.proofs.Math.Path.{sym, ap, subst}
use Rattle.std.proofs.Common.{◌∙◌, length-drop}
use mathlib.Core.List.{List, [], ◌∷◌, ◌++◌}
use Rattle.std.proofs.Math.ListN.{length, take, drop, replicate, length-take}
use Rattle.definition.specs.Lists.{cleared}
use Rattle.definition.specs.Tables.{pad}
use Rattle.definition.specs.Floats.{nought}
use Rattle.definition.specs.Slack.{slack}
use Rattle.definition.specs.Batch.{Setting, batch}
use Rattle.definition.specs.Build.{open', close, batch_size, batches, built}
use Rattle.definition.specs.Refusals.{BatchCall, BuildCall, batch_number, open_number, close_number, build_number, bad_count, bad_vectors, bad_length}
use Rattle.definition.specs.Refusals.{bad_table, build_words, build_floats}
use Rattle.definition.specs.Outcome.{BatchOut, OpenOut, CloseOut, BuildOut, done, setting_of, batch_kept, batch_done, batch_out, open_kept, open_done, open_out}
use Rattle.definition.specs.Outcome.{close_kept, close_done, close_out, build_kept, built_wide, build_done, build_out}
use Rattle.laws.specs.Truth.{or_neither, neither_or}
use Rattle.laws.specs.Filled.{cleared_long, cleared_beyond}
use Rattle.theory.specs.Kept.{TableKept}
use Rattle.promises.specs.Calls.{Room, AlikeBeyond, opening_call, run_call, closing_call, Runs, all_run, next_run, ByCalls}
use Rattle.promises.specs.Rows.{open_keeps_rows, batch_keeps_rows, build_keeps_rows}
use Rattle.theory.specs.build.Stretches.{Stretch, stretch_taken, stretch_dropped}
use Rattle.accepted.specs.Chain.{pass}
use Rattle.accepted.specs.Outcomes.{by_success}
use Rattle.accepted.specs.Checks.{count_low, length-passes, table_passes, seeds_passes, nodes_passes, room-passes}
use Rattle.accepted.specs.Build.{build_passes, build_accepted}

-- a run shortens the order
shorter : (u : ℕ) (us : List ℕ) (fuel : ℕ) → length (u ∷ us) ≤ suc fuel → length (drop batch_size (u ∷ us)) ≤ fuel
unfolding batch_size
shorter u us fuel h = omega (arith, length-drop 256 (u ∷ us))

module _ (c : BuildCall) (e : build_number c ≡ 0) where
  low : c.n < pad
  low = count_low (build_accepted c e).entries.nodes

  -- the order with its groups of seeds
  ordered : Stretch c.n c.start c.params.extra c.order c.seeds
  ordered =
      let a = build_accepted c e in
      record { below = a.order.below; once = a.order.once; size = rw a.order_is a.seeds.size; good = rw a.order_is a.seeds.good }

  -- ---- open

  module _ (wide : List ℕ) (size : length wide ≡ c.n * slack c.params.degree) where
    opening_done : open_number (opening_call c wide) ≡ 0
    unfolding open_number bad_vectors
    opening_done =
        let p = build_passes c e in
        let width = slack c.params.degree in
        pass 2 _ _ (or_neither (bad_count c.n) _ p.vectors).0
        (pass 3 _ _ p.degree
        (pass 8 _ _
        (neither_or (bad_table c.n c.params.degree c.opening) (bad_length c.n width wide) p.opening
        (length-passes c.n width wide size)) refl))

    opening_leaves : (open_out (opening_call c wide)).wide ≡ open' c.n c.params.degree c.opening
    unfolding open_out open_done
    opening_leaves =
        let o = opening_call c wide in
        ap (λ (r : OpenOut). r.wide) (by_success (open_kept o) (open_done o) (open_number o) opening_done)

  -- ---- a run

  abbrev g : Setting
  g = setting_of c.n c.dim c.vectors c.params

  run_done : (order seeds wide words : List ℕ) (floats : List Float) → Stretch c.n c.start c.params.extra order seeds
      → TableKept c.n (slack c.params.degree) wide → Room c.n words floats → batch_number (run_call c order seeds wide words floats) ≡ 0
  unfolding batch_number batch_size
  run_done order seeds wide words floats s k r =
      let p = build_passes c e in
      let t = stretch_taken c.n c.start c.params.extra 256 order seeds s in
      let nodes = take 256 order in
      let own = take (256 * c.params.extra) seeds in
      pass 1 _ _ p.dim
      (pass 2 _ _ p.vectors
      (pass 3 _ _ p.degree
      (pass 4 _ _ p.beam
      (pass 5 _ _ p.alpha
      (pass 6 _ _ p.start
      (pass 7 _ _ (seeds_passes c.n c.params.extra c.start (length nodes) own (build_accepted c e).seeds.limits t.size t.good)
      (pass 8 _ _ (table_passes c.n (slack c.params.degree) wide low k)
      (pass 9 _ _ (nodes_passes c.n nodes (omega (arith, length-take 256 order)) t.below t.once)
      (pass 10 _ _ (room-passes c.n words floats r.words_enough r.floats_enough)
      refl)))))))))

  run_leaves : (b : BatchCall) → batch_number b ≡ 0
      → (batch_out b).wide ≡ batch (setting_of b.n b.dim b.vectors b.params) b.start b.params.extra b.nodes b.seeds b.wide
  unfolding batch_out batch_done
  run_leaves b z = ap (λ (r : BatchOut). r.wide) (by_success (batch_kept b) (batch_done b) (batch_number b) z)

  -- ---- close

  whole : build_out c ≡ build_done c
  unfolding build_out
  whole = by_success (build_kept c) (build_done c) (build_number c) e

  wide_is : (build_out c).wide ≡ built_wide c
  unfolding build_done
  wide_is = ap (λ (r : BuildOut). r.wide) whole

  module _ (closed words : List ℕ) (floats : List Float) (size : length closed ≡ c.n * c.params.degree) (r : Room c.n words floats) where
    closing_done : close_number (closing_call c (build_out c).wide closed words floats) ≡ 0
    unfolding close_number
    closing_done =
        let p = build_passes c e in
        let width = slack c.params.degree in
        pass 1 _ _ p.dim
        (pass 2 _ _ p.vectors
        (pass 3 _ _ p.degree
        (pass 5 _ _ p.alpha
        (pass 8 _ _
        (neither_or (bad_table c.n width (build_out c).wide) (bad_length c.n c.params.degree closed)
        (table_passes c.n width (build_out c).wide low (build_keeps_rows c e).0) (length-passes c.n c.params.degree closed size))
        (pass 10 _ _ (room-passes c.n words floats r.words_enough r.floats_enough) refl)))))

    closing_leaves : (close_out (closing_call c (build_out c).wide closed words floats)).closed ≡ (build_out c).closed
    unfolding close_out close_done build_done
    closing_leaves =
        let d = closing_call c (build_out c).wide closed words floats in
        ap (λ (o : CloseOut). o.closed) (by_success (close_kept d) (close_done d) (close_number d) closing_done) ∙ ap (close g) wide_is
        ∙ sym (ap (λ (o : BuildOut). o.closed) whole)

    closing_whole : AlikeBeyond c.n words c.words floats c.floats
        → close_out (closing_call c (build_out c).wide closed words floats)
        ≡ record { answer = (build_out c).answer; closed = (build_out c).closed; words = (build_out c).words; floats = (build_out c).floats }
    unfolding close_out close_done build_done cleared
    closing_whole a =
        let d = closing_call c (build_out c).wide closed words floats in
        by_success (close_kept d) (close_done d) (close_number d) closing_done
        ∙ (λ i. record {
          answer = done;
          closed = close g (wide_is i);
          words = replicate (build_words c.n) 0 ++ a.words_beyond i;
          floats = replicate (build_floats c.n) nought ++ a.floats_beyond i;
        })
        ∙ ap (λ (o : BuildOut). record { answer = o.answer; closed = o.closed; words = o.words; floats = o.floats }) (sym whole)

  pub build_is_calls : ByCalls c
  unfolding built_wide built setting_of batches
  build_is_calls =
      record {
        opens = opening_done;
        opened = opening_leaves;
        runs = λ wide size.
            let opened = (open_out (opening_call c wide)).wide in
            subst (λ (t : List ℕ). Runs c c.order c.seeds opened t)
            (ap (batches g c.start c.params.extra (length c.order) c.order c.seeds) (opening_leaves wide size) ∙ sym wide_is)
            (runs_from (length c.order) c.order c.seeds opened (omega arith) ordered
            (open_keeps_rows (opening_call c wide) (opening_done wide size)));
        closes = closing_done;
        closed_is = closing_leaves;
        leaves = closing_whole;
      }
    where
      -- the runs, from any table that keeps its rows
      runs_from : (fuel : ℕ) (order seeds wide : List ℕ) → length order ≤ fuel → Stretch c.n c.start c.params.extra order seeds
          → TableKept c.n (slack c.params.degree) wide → Runs c order seeds wide (batches g c.start c.params.extra fuel order seeds wide)
      runs_from zero [] seeds wide h s k = all_run
      runs_from zero (u ∷ us) seeds wide h s k = absurd (omega arith)
      runs_from (suc fuel) [] seeds wide h s k = all_run
      runs_from (suc fuel) (u ∷ us) seeds wide h s k =
          let rest = drop batch_size (u ∷ us) in
          let later = drop (batch_size * c.params.extra) seeds in
          let more : 0 < length (u ∷ us) = omega arith in
          next_run {last = batches g c.start c.params.extra (suc fuel) (u ∷ us) seeds wide} more
          (λ words floats r. run_done (u ∷ us) seeds wide words floats s k r)
          (λ words floats r.
          let b = run_call c (u ∷ us) seeds wide words floats in
          subst (λ (t : List ℕ). Runs c rest later (batch_out b).wide (batches g c.start c.params.extra fuel rest later t))
          (run_leaves b (run_done (u ∷ us) seeds wide words floats s k r))
          (runs_from fuel rest later (batch_out b).wide (shorter u us fuel h)
          (stretch_dropped c.n c.start c.params.extra batch_size (u ∷ us) seeds s) (batch_keeps_rows b k)))

-- ---- the scratch that an accepted batch leaves has the room for the next run and for close, and is untouched beyond it

pub batch_leaves_room : (b : BatchCall) → batch_number b ≡ 0
    → Room b.n (batch_out b).words (batch_out b).floats × AlikeBeyond b.n (batch_out b).words b.words (batch_out b).floats b.floats
unfolding batch_out batch_done
batch_leaves_room b z =
    rw (by_success (batch_kept b) (batch_done b) (batch_number b) z) (
      record { words_enough = cleared_long 0 (build_words b.n) b.words; floats_enough = cleared_long nought (build_floats b.n) b.floats },
      record { words_beyond = cleared_beyond 0 (build_words b.n) b.words; floats_beyond = cleared_beyond nought (build_floats b.n) b.floats },
    )
