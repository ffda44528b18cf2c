-- `search_records`. It is refused by its number, and everything is as it came; or it is accepted, and the answers that the search left are copied to the run.
use Rattle.std.proofs.Common.{refl}
use Rattle.laws.specs.Numbers.{number_nonzero}
use Rattle.definition.specs.Outcome.{SearchOut}
use Rattle.search.specs.Statement.{out_of, beside-accepted}
use Rattle.search_records.specs.Statement.{in_all, records_refused, records_done_lem}
use Rattle.search_records.proofs.search_records.Goals as goal
use Rattle.search_records.proofs.search_records.Goals.{After-search_accepted-a}

pub returns-in-Err : goal.returns-in-Err
returns-in-Err c =
    let a = c.args in
    records_refused _ a.records.now _ (c.in-Err.ensures.is a.words.now a.floats.now a.ids.now a.dists.now refl refl refl refl)
    (number_nonzero c.in-Err.refusal) _ c.refused_for.ensures

pub search_accepted-a-requires : goal.search_accepted-a-requires
search_accepted-a-requires c =
    let a = c.args in
    (beside-accepted _ _ _ (c.in_default.ensures.is a.words.now a.floats.now a.ids.now a.dists.now refl refl refl refl) refl).0

-- what the search left
abbrev left : After-search_accepted-a → SearchOut
left c =
    let l = c.search_accepted-a.new in
    out_of c.search_accepted-a.result l.words l.floats l.ids l.dists

pub copy_run-requires : goal.copy_run-requires
copy_run-requires c =
    let p = goal.at.copy_run-requires c in
    let a = c.args in
    in_all _ a.records.now _ (c.in_default.ensures.is a.words.now a.floats.now a.ids.now a.dists.now refl refl refl refl) refl
    (left p.After-search_accepted-a) c.search_accepted-a.ensures

pub returns : goal.returns
returns c =
    let p = goal.at.returns c in
    let a = c.args in
    records_done_lem _ a.records.now _ (c.in_default.ensures.is a.words.now a.floats.now a.ids.now a.dists.now refl refl refl refl) refl
    (left p.After-search_accepted-a) c.search_accepted-a.ensures _ c.copy_run.ensures
