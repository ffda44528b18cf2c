-- `search_accepted`. Its table keeps the search rule, so that the call as cleaned is the call.
use Rattle.definition.specs.Refusals.{SearchCall}
use Rattle.checks_number.specs.SearchNumber.{call_of}
use Rattle.search.specs.Statement.{searched-same, cleaned_accepted, cleaned-searched}
use Rattle.search.proofs.search_accepted.Goals as goal
use Rattle.search.proofs.search_accepted.Goals.{Start}

-- the call
abbrev call : Start → SearchCall
call s =
    let a = s.args in
    call_of a.asked a.words.now a.floats.now a.ids.now a.dists.now

pub lookup_accepted-found-requires : goal.lookup_accepted-found-requires
lookup_accepted-found-requires c = cleaned_accepted (call (goal.at.lookup_accepted-found-requires c).Start) c.requires

pub returns : goal.returns
returns c =
    searched-same c.searched.ensures (cleaned-searched (call (goal.at.returns c).Start) c.requires _ c.lookup_accepted-found.ensures)
