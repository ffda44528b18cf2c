-- `build` meets its contract: the number, open, the runs, close, the room.
use mathlib.Core.Path.{refl, sym}
use Rattle.laws.specs.Numbers.{number_nonzero}
use native.Mathlib.Omega.{arith}
use Rattle.build.specs.Built.{build_degree, build_opens, build_runs, floats_left, build_closes, build_room, build_done_lem, build_refused}
use Rattle.build.proofs.build.Goals as goal

pub returns-in-Err : goal.returns-in-Err
returns-in-Err c =
    let a = c.args in
    let numbered = c.in-Err.ensures.is a.wide.now a.closed.now a.words.now a.floats.now refl refl refl refl in
    build_refused numbered (number_nonzero c.in-Err.refusal) c.refused_for.ensures

pub slack-slack-requires : goal.slack-slack-requires
slack-slack-requires c =
    let a = c.args in
    let numbered = c.in_default.ensures.is a.wide.now a.closed.now a.words.now a.floats.now refl refl refl refl in
    build_degree _ (sym numbered)

pub open_rows-requires : goal.open_rows-requires
open_rows-requires c =
    let a = c.args in
    let numbered = c.in_default.ensures.is a.wide.now a.closed.now a.words.now a.floats.now refl refl refl refl in
    build_opens _ (sym numbered) c.slack-slack.ensures

pub run_batches-requires : goal.run_batches-requires
run_batches-requires c =
    let a = c.args in
    let numbered = c.in_default.ensures.is a.wide.now a.closed.now a.words.now a.floats.now refl refl refl refl in
    build_runs _ (sym numbered) c.slack-slack.ensures c.open_rows.ensures

pub slice_bounds-close_rows-end : goal.slice_bounds-close_rows-end
slice_bounds-close_rows-end c =
    let a = c.args in
    let numbered = c.in_default.ensures.is a.wide.now a.closed.now a.words.now a.floats.now refl refl refl refl in
    omega (arith, floats_left _ (sym numbered) c.slack-slack.ensures c.open_rows.ensures c.run_batches.ensures)

pub close_rows-requires : goal.close_rows-requires
close_rows-requires c =
    let a = c.args in
    let numbered = c.in_default.ensures.is a.wide.now a.closed.now a.words.now a.floats.now refl refl refl refl in
    build_closes _ (sym numbered) c.slack-slack.ensures c.open_rows.ensures c.run_batches.ensures

pub clear_room-requires : goal.clear_room-requires
clear_room-requires c =
    let a = c.args in
    let numbered = c.in_default.ensures.is a.wide.now a.closed.now a.words.now a.floats.now refl refl refl refl in
    build_room _ (sym numbered) c.slack-slack.ensures c.open_rows.ensures c.run_batches.ensures
    c.close_rows.new.factors c.close_rows.auto.factors

pub returns : goal.returns
returns c =
    let a = c.args in
    let numbered = c.in_default.ensures.is a.wide.now a.closed.now a.words.now a.floats.now refl refl refl refl in
    build_done_lem _ (sym numbered) c.slack-slack.ensures c.open_rows.ensures c.run_batches.ensures
    c.close_rows.new.factors c.close_rows.auto.factors c.done.ensures c.close_rows.ensures c.clear_room.ensures
