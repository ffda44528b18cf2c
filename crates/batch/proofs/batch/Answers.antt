-- `batch` meets its contract: the number, the run, the room.
use mathlib.Core.Path.{refl, sym}
use Rattle.laws.specs.Numbers.{number_nonzero}
use Rattle.batch.specs.Batched.{batch_degree, batch_marks, batch_ready, batch_room, batch-done, batch-refused}
use Rattle.batch.proofs.batch.Goals as goal

pub returns-in-Err : goal.returns-in-Err
returns-in-Err c =
    batch-refused (c.in-Err.ensures.is c.args.words.now c.args.floats.now refl refl) (number_nonzero c.in-Err.refusal) c.refused_for.ensures

pub slack-slack-requires : goal.slack-slack-requires
slack-slack-requires c =
    let numbered = c.in_default.ensures.is c.args.words.now c.args.floats.now refl refl in
    batch_degree _ (sym numbered)

pub first_epoch-epoch-requires : goal.first_epoch-epoch-requires
first_epoch-epoch-requires c =
    let numbered = c.in_default.ensures.is c.args.words.now c.args.floats.now refl refl in
    batch_marks _ (sym numbered)

pub run_batch-requires : goal.run_batch-requires
run_batch-requires c =
    let numbered = c.in_default.ensures.is c.args.words.now c.args.floats.now refl refl in
    batch_ready _ (sym numbered) c.slack-slack.ensures c.first_epoch-epoch.ensures

pub clear_room-requires : goal.clear_room-requires
clear_room-requires c =
    let numbered = c.in_default.ensures.is c.args.words.now c.args.floats.now refl refl in
    batch_room _ (sym numbered) c.slack-slack.ensures c.first_epoch-epoch.ensures c.run_batch.ensures

pub returns : goal.returns
returns c =
    let numbered = c.in_default.ensures.is c.args.words.now c.args.floats.now refl refl in
    batch-done _ (sym numbered) c.slack-slack.ensures c.first_epoch-epoch.ensures c.run_batch.ensures
    c.done.ensures c.clear_room.ensures
