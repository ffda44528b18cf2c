-- `run_batches` meets its contract. The invariant: the batches that are left of the order, on the table as it is, give what all give on the opened one; and
-- no mark is past the epoch.
use Prim.Native.Nat.{ℕ, min}
use Rattle.std.proofs.Common.{◌∙◌, length, ap}
use Rattle.build.specs.Runs.{begun_ready, runs_done, runs_end, run_asks, runs_more}
use Rattle.build.proofs.run_batches.Goals as goal

pub run_batch-epoch-requires : goal.run_batch-epoch-requires
run_batch-epoch-requires c =
    let cut = c.in-Some.ensures.steps.1 in
    let i = c.loop-run.invariant in
    run_asks (begun_ready c.requires c.first_epoch-epoch.ensures) i.1 _ _ cut.0 (cut.1 ∙ ap (λ (k : ℕ). min k (length c.loop-run.run-iterator.rest.now)) i.0)
    _ _ c.split_at.ensures.front c.split_at.ensures.back

pub loop-run-preserved : goal.loop-run-preserved
loop-run-preserved c =
    let size = c.in-Some.ensures.steps.0 in
    let cut = c.in-Some.ensures.steps.1 in
    let i = c.loop-run.invariant in (
      size ∙ i.0,
      runs_more (begun_ready c.requires c.first_epoch-epoch.ensures) i.1 _ _ cut.0 (cut.1 ∙ ap (λ (k : ℕ). min k (length c.loop-run.run-iterator.rest.now)) i.0)
          _ _ c.split_at.ensures.front c.split_at.ensures.back c.run_batch-epoch.ensures cut.2,
    )

pub returns : goal.returns
returns c =
    runs_done c.requires c.first_epoch-epoch.ensures
    (runs_end (begun_ready c.requires c.first_epoch-epoch.ensures) c.loop-run.invariant.1 c.in-None.ensures.steps.1.0)
