-- `walk_answers`. The walk may begin, and its work may be listed from the keys.
use mathlib.Core.Path.{refl}
use mathlib.Core.List.{[]}
use Rattle.definition.specs.Refusals.{SearchCall}
use Rattle.definition.specs.Outcome.{cleaned_call}
use Rattle.checks_number.specs.SearchNumber.{call_of}
use Rattle.search.proofs.Passing.{start_ground, start_room, list_room, answered}
use Rattle.search.proofs.walk_answers.Goals as goal
use Rattle.search.proofs.walk_answers.Goals.{Start}

-- the call, as cleaned
abbrev call : Start → SearchCall
call s =
    let a = s.args in
    cleaned_call (call_of a.asked a.words.now [] a.ids.now a.dists.now)

pub greedy-walked-requires : goal.greedy-walked-requires
unfolding cleaned_call
greedy-walked-requires c =
    let s = (goal.at.greedy-walked-requires c).Start in
    let walkable = s.requires.walkable in
    let marks = s.requires.epoch_bound in
    record {
      epoch_bound = (marks.0, start_room (call s) walkable s.args.asked.table.now refl _ marks.1 _ c.max-most.ensures);
      keys_value = refl;
      ground = start_ground (call s) walkable s.args.asked.table.now refl _;
      start_lt_n = walkable.start_in;
    }

pub list_answers-requires : goal.list_answers-requires
unfolding cleaned_call
list_answers-requires c =
    let s = (goal.at.list_answers-requires c).Start in
    let room = list_room (call s) s.requires.walkable s.args.asked.table.now refl _ s.requires.epoch_bound.1 _ c.max-most.ensures
    _ _ _ c.greedy-walked.ensures _ c.min-count.ensures c.greedy-walked.auto.keys in
    record { rising = room.0; count_le_len = room.1 }

pub returns : goal.returns
unfolding cleaned_call
returns c =
    let s = (goal.at.returns c).Start in
    answered (call s) s.requires.walkable s.args.asked.table.now refl _ s.requires.epoch_bound.1 _ c.max-most.ensures
    _ _ _ c.greedy-walked.ensures _ c.min-count.ensures _ c.list_answers.ensures
