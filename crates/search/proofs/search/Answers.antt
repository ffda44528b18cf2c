-- `search`. It is refused by its number, or accepted.
use Rattle.std.proofs.Common.{refl}
use Rattle.laws.specs.Numbers.{number_nonzero}
use Rattle.search.specs.Statement.{beside-accepted, search_refused, search_done_lem}
use Rattle.search.proofs.search.Goals as goal

pub returns-in-Err : goal.returns-in-Err
returns-in-Err c =
    let a = c.args in
    search_refused _ _ (c.in-Err.ensures.is a.words.now a.floats.now a.ids.now a.dists.now refl refl refl refl)
    (number_nonzero c.in-Err.refusal) _ c.refused_for.ensures

pub search_accepted-requires : goal.search_accepted-requires
search_accepted-requires c =
    let a = c.args in
    (beside-accepted _ _ _ (c.in_default.ensures.is a.words.now a.floats.now a.ids.now a.dists.now refl refl refl refl) refl).0

pub returns : goal.returns
returns c =
    let a = c.args in
    search_done_lem _ _ (c.in_default.ensures.is a.words.now a.floats.now a.ids.now a.dists.now refl refl refl refl) refl _
    c.search_accepted.ensures
