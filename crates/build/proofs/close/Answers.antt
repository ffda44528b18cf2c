-- `close` meets its contract: the number, the rows, the room.
use mathlib.Core.Path.{refl, sym}
use Rattle.laws.specs.Numbers.{number_nonzero}
use native.Mathlib.Omega.{arith}
use Rattle.build.specs.Closed.{close_degree, close_room, close_ready, close-refused, close_done_lem}
use Rattle.build.proofs.close.Goals as goal

pub returns-in-Err : goal.returns-in-Err
returns-in-Err c =
    let a = c.args in
    close-refused (c.in-Err.ensures.is a.closed.now a.words.now a.floats.now refl refl refl) (number_nonzero c.in-Err.refusal) c.refused_for.ensures

pub slack-width-requires : goal.slack-width-requires
slack-width-requires c =
    let a = c.args in
    let numbered = c.in_default.ensures.is a.closed.now a.words.now a.floats.now refl refl refl in
    close_degree _ (sym numbered)

pub slice_bounds-close_rows-end : goal.slice_bounds-close_rows-end
slice_bounds-close_rows-end c =
    let a = c.args in
    let numbered = c.in_default.ensures.is a.closed.now a.words.now a.floats.now refl refl refl in
    omega (arith, (close_room _ (sym numbered)).2)

pub close_rows-requires : goal.close_rows-requires
close_rows-requires c =
    let a = c.args in
    let numbered = c.in_default.ensures.is a.closed.now a.words.now a.floats.now refl refl refl in
    close_ready _ (sym numbered) c.slack-width.ensures

pub clear_room-requires : goal.clear_room-requires
clear_room-requires c =
    let a = c.args in
    let numbered = c.in_default.ensures.is a.closed.now a.words.now a.floats.now refl refl refl in
    let r = close_room _ (sym numbered) in
    (r.0, r.1, omega (arith, r.2))

pub returns : goal.returns
returns c =
    let a = c.args in
    let numbered = c.in_default.ensures.is a.closed.now a.words.now a.floats.now refl refl refl in
    close_done_lem _ (sym numbered) c.close_rows.new.factors c.close_rows.auto.factors
    c.done.ensures c.close_rows.ensures c.clear_room.ensures
