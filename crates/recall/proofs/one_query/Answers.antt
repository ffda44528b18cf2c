-- `one_query`. The walk leaves no mark above its epoch, and its answers are entries, as are the nearest: these may be marked with the next, and those counted.
use Rattle.std.proofs.Common.{sym, length-take-le}
use Rattle.recall.proofs.Answering.{walk_room, found_few, both_room, recalled}
use Rattle.recall.proofs.one_query.Goals as goal

pub walk_answers-found-requires-clause-walkable : goal.walk_answers-found-requires-clause-walkable
walk_answers-found-requires-clause-walkable c = walk_room c.requires.query_accepted

pub slice_bounds-in_both-end-3 : goal.slice_bounds-in_both-end-3
slice_bounds-in_both-end-3 c = found_few c.requires.query_accepted c.walk_answers-found.ensures

pub slice_bounds-in_both-end-4 : goal.slice_bounds-in_both-end-4
slice_bounds-in_both-end-4 c = sym (length-take-le _ _ (found_few c.requires.query_accepted c.walk_answers-found.ensures))

pub in_both-hits-requires : goal.in_both-hits-requires
in_both-hits-requires c =
    let room =
    both_room c.requires.query_accepted c.walk_answers-found.ensures c.next_epoch-next.ensures c.exhaustive_accepted-nearest.ensures in
    record { unmarked = room.0; places = room.1.0; places_2 = room.1.1 }

pub returns : goal.returns
returns c =
    recalled c.requires.query_accepted c.walk_answers-found.ensures c.next_epoch-next.ensures c.exhaustive_accepted-nearest.ensures
    c.in_both-hits.new.words c.in_both-hits.auto.words c.in_both-hits.ensures
