-- `all_queries`. The loop's invariant: what was found in the first q queries, and in how many of them all, is the definition's; no mark is above the epoch,
-- and no word but the marks differs. The bytes of the queries from the q-th on are still to come.
use Rattle.std.proofs.Common.{[], length}
use Rattle.std.specs.Slice.Iter.{chunks_exact_rest, chunks_exact_size}
use Rattle.recall.specs.Asking.{call_of}
use Rattle.recall.proofs.Tallying.{Going, Outputs, Coming}
use Rattle.recall.proofs.all_queries.Given as goal

abbrev pub invariant-loop-query : goal.invariant-loop-query
invariant-loop-query l =
    record {
      going : Going (call_of l.a l.vectors l.table l.queries l.initial.words []) (length l.yielded) l.epoch l.found l.whole l.words;
      outputs : Outputs l.ids l.dists l.near l.apart;
      coming : Coming l.a.dim l.queries (length l.yielded) (chunks_exact_rest l.query-iterator) (chunks_exact_size l.query-iterator);
    }
