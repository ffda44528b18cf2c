-- `answer_values`: 13 for values that are not well formed, and the search for those that are.
use mathlib.Core.Path.{sym, ◌∙◌}
use native.Mathlib.Omega.{arith}
use Rattle.seek_answer.proofs.Texts.{values_bad, values_good}
use Rattle.seek_answer.proofs.answer_values.Goals as goal

pub returns-then-not-take_search : goal.returns-then-not-take_search
returns-then-not-take_search c =
    values_bad c.take_search.ensures c.if-not-take_search.true (rw (c.from.ensures) at c.put_refused.ensures)

pub search_values-requires : goal.search_values-requires
search_values-requires c =
    let k = c.take_search.auto in
    let r = c.requires in record {
      ready = c.take_search.ensures.ready c.if-not-take_search.false;
      room = record {
        vectors_room = omega (arith, r.vectors_room, k.vectors);
        query_room = omega (arith, r.query_room, k.query);
        words_room = r.words_room;
        floats_room = r.floats_room;
        ids-room = r.ids-room;
        dists_room = r.dists_room;
        out_room = r.out_room;
      };
    }

pub returns : goal.returns
returns c =
    values_good _ (sym c.take_search.ensures.says ∙ c.if-not-take_search.false) c.search_values.ensures
