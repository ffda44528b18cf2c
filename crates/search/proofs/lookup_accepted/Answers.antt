-- `lookup_accepted`. The marks are cleared, so that the walk may be made; what it wrote is wiped.
use mathlib.Core.Path.{◌∙◌}
use Rattle.definition.specs.Refusals.{SearchCall}
use Rattle.definition.specs.Outcome.{cleaned_call}
use Rattle.checks_number.specs.SearchNumber.{call_of}
use Rattle.search.proofs.Passing.{walk_room, wipe_room, done}
use borrow.Author.Rules.{rules}
use Rattle.search.proofs.lookup_accepted.Goals as goal
use Rattle.search.proofs.lookup_accepted.Goals.{Start}

-- the call, as cleaned
abbrev call : Start → SearchCall
call s =
    let a = s.args in
    cleaned_call (call_of a.asked a.words.now a.floats.now a.ids.now a.dists.now)

pub first_epoch-epoch-requires : goal.first_epoch-epoch-requires
unfolding cleaned_call
first_epoch-epoch-requires c = search rules

pub walk_answers-found-requires : goal.walk_answers-found-requires
unfolding cleaned_call
walk_answers-found-requires c =
    let s = (goal.at.walk_answers-found-requires c).Start in
    let room = walk_room (call s) s.requires _ _ c.first_epoch-epoch.ensures in
    record { walkable = room.0; epoch_bound = room.1 }

pub wipe-requires : goal.wipe-requires
unfolding cleaned_call
wipe-requires c =
    let s = (goal.at.wipe-requires c).Start in
    wipe_room (call s) s.requires _ _ c.first_epoch-epoch.ensures _ _ _ c.walk_answers-found.ensures

pub shape_of-words : goal.shape_of-words
unfolding cleaned_call
shape_of-words c =
    c.wipe.auto.words ∙ c.walk_answers-found.ensures.kept.size ∙ c.first_epoch-epoch.ensures.kept.size

pub returns : goal.returns
unfolding cleaned_call
returns c =
    let s = (goal.at.returns c).Start in
    done (call s) s.requires _ _ c.first_epoch-epoch.ensures _ _ _ c.walk_answers-found.ensures _ c.wipe.ensures
