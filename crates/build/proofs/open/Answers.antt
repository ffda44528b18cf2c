-- `open` meets its contract: the number, the rows.
use mathlib.Core.Path.{refl, sym}
use Rattle.laws.specs.Numbers.{number_nonzero}
use Rattle.accepted.specs.Build.{open_accepted}
use Rattle.build.specs.Opened.{open_ready, open_refused, open_done_lem}
use Rattle.build.proofs.open.Goals as goal

pub returns-in-Err : goal.returns-in-Err
returns-in-Err c = open_refused _ (c.in-Err.ensures.is c.args.wide.now refl) (number_nonzero c.in-Err.refusal) c.refused_for.ensures

pub slack-slack-requires : goal.slack-slack-requires
slack-slack-requires c =
    let numbered = c.in_default.ensures.is c.args.wide.now refl in
    (open_accepted _ (sym numbered)).degree.few

pub open_rows-requires : goal.open_rows-requires
open_rows-requires c =
    let numbered = c.in_default.ensures.is c.args.wide.now refl in
    open_ready _ (sym numbered) c.slack-slack.ensures

pub returns : goal.returns
returns c =
    let numbered = c.in_default.ensures.is c.args.wide.now refl in
    open_done_lem _ (sym numbered) c.done.ensures c.open_rows.ensures
