-- `all_queries`. The loop's invariant: what was found in the first q queries, and in how many of them all, is the definition's; no mark is above the epoch,
-- and no word but the marks differs.
use Rattle.std.proofs.Common.{refl, ◌∙◌}
use Rattle.std.proofs.lemmas.List.{length_push}
use Rattle.recall.proofs.Tallying.{go_start, coming_start, query_next, query_room, go_on, coming_more, no_more, go_end}
use Rattle.recall.proofs.all_queries.Goals as goal

pub loop-query-init : goal.loop-query-init
loop-query-init c =
    record {
      going = go_start _ c.first_epoch-epoch.ensures;
      outputs = record { ids_long = refl; dists_long = refl; near_long = refl; apart_long = refl };
      coming = rw c.into_iter-query-iterator.ensures.into_iter_gives
          (coming_start c.chunks_exact-query-items.ensures.rest c.chunks_exact-query-items.ensures.size);
    }

pub one_query-brought-requires-clause-query_accepted : goal.one_query-brought-requires-clause-query_accepted
one_query-brought-requires-clause-query_accepted c =
    let l = c.loop-query.invariant in
    let steps = c.in-Some.ensures.steps in
    let here = query_next c.requires.queries_accepted l.coming _ _ steps.1.0 steps.1.1 in
    query_room c.requires.queries_accepted here c.first_epoch-epoch.ensures l.going l.outputs

pub loop-query-preserved : goal.loop-query-preserved
loop-query-preserved c =
    let l = c.loop-query.invariant in
    let steps = c.in-Some.ensures.steps in
    let here = query_next c.requires.queries_accepted l.coming _ _ steps.1.0 steps.1.1 in
    let kept = c.one_query-brought.auto in
    rw length_push
    (record {
      going = go_on c.requires.queries_accepted here c.first_epoch-epoch.ensures l.going c.one_query-brought.ensures c.requires.each_value c.from-whole.ensures;
      outputs = record {
        ids_long = kept.ids ∙ l.outputs.ids_long;
        dists_long = kept.dists ∙ l.outputs.dists_long;
        near_long = kept.near ∙ l.outputs.near_long;
        apart_long = kept.apart ∙ l.outputs.apart_long;
      };
      coming = coming_more c.requires.queries_accepted l.coming _ _ steps.1.0 steps.1.1 steps.0;
    })

pub returns : goal.returns
returns c =
    let l = c.loop-query.invariant in
    go_end c.first_epoch-epoch.ensures (no_more c.requires.queries_accepted l.coming c.in-None.ensures.steps.1.0) l.going
