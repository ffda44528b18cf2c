-- `report_accepted`. What is asked of the queries is the definition's, and what they leave of the room is cleared.
use Rattle.std.proofs.Common.{refl}
use Rattle.definition.specs.Outcome.{query_count, asked_each}
use Rattle.recall.specs.Asking.{call_of}
use Rattle.recall.proofs.Reporting.{done_is}
use Rattle.recall.proofs.report_accepted.Goals as goal

pub all_queries-t-requires : goal.all_queries-t-requires
unfolding query_count asked_each
all_queries-t-requires c =
    record {
      queries_accepted = record { floats = _; report = c.requires };
      each_value = c.min-each.ensures;
    }

pub returns : goal.returns
unfolding query_count asked_each
returns c =
    let a = c.args in
    done_is (call_of a.a a.vectors.now a.table.now a.queries.now a.words.now a.floats.now) refl c.min-each.ensures c.all_queries-t.ensures
    c.report_end-w.ensures c.clear_front.ensures c.reported.ensures
