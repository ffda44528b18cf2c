-- `lookup`. It is refused by its number, or accepted: as the search of the call whose table is cleaned.
use Rattle.std.proofs.Common.{refl}
use Rattle.laws.specs.Numbers.{number_nonzero}
use Rattle.definition.specs.Outcome.{cleaned_call}
use Rattle.search.specs.Statement.{searched-same, beside-accepted, search_refused, search_done_lem, lookup_meets}
use Rattle.search.proofs.lookup.Goals as goal

pub returns-in-Err : goal.returns-in-Err
unfolding cleaned_call
returns-in-Err c =
    let a = c.args in
    lookup_meets _ _
    (search_refused _ _ (c.in-Err.ensures.is a.words.now a.floats.now a.ids.now a.dists.now refl refl refl refl)
    (number_nonzero c.in-Err.refusal) _ c.refused_for.ensures)

pub lookup_accepted-brought-requires : goal.lookup_accepted-brought-requires
unfolding cleaned_call
lookup_accepted-brought-requires c =
    let a = c.args in
    (beside-accepted _ _ _ (c.in_default.ensures.is a.words.now a.floats.now a.ids.now a.dists.now refl refl refl refl) refl).0

pub returns : goal.returns
unfolding cleaned_call
returns c =
    let a = c.args in
    lookup_meets _ _
    (search_done_lem _ _ (c.in_default.ensures.is a.words.now a.floats.now a.ids.now a.dists.now refl refl refl refl) refl _
    (searched-same c.searched.ensures c.lookup_accepted-brought.ensures))
