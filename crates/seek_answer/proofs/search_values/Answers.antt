-- `search_values`: the search that the values ask for is made, and what it left is printed.
use native.Mathlib.Omega.{arith}
use Rattle.seek_print.specs.Printed.{put_same}
use Rattle.seek_answer.proofs.Calls.{search_tells}
use Rattle.seek_answer.proofs.search_values.Goals as goal

pub put_refused-requires : goal.put_refused-requires
put_refused-requires c = omega (arith, c.requires.room.out_room)

pub returns-then-number-ne0 : goal.returns-then-number-ne0
returns-then-number-ne0 c =
    let told =
    search_tells c.requires.ready c.requires.room c.the_n-n.ensures c.the_dim-dim.ensures
    c.the_degree-degree.ensures c.index_of-beam.ensures c.index_of-k.ensures c.find_places-p.ensures c.search-r.ensures in
    put_same (told.refused c.if-number-ne0.true) c.put_refused.ensures

pub put_found-requires : goal.put_found-requires
put_found-requires c =
    let told =
    search_tells c.requires.ready c.requires.room c.the_n-n.ensures c.the_dim-dim.ensures
    c.the_degree-degree.ensures c.index_of-beam.ensures c.index_of-k.ensures c.find_places-p.ensures c.search-r.ensures in
    let kept = c.search-r.auto in
    let few = told.few c.if-number-ne0.false kept.ids in
    let room = c.requires.room in record {
      n_in_bounds = (omega (arith, few, kept.ids), omega (arith, few, kept.dists, room.dists_room), omega (arith, few, room.out_room));
      wholes = told.whole c.if-number-ne0.false;
    }

pub returns : goal.returns
returns c =
    let told =
    search_tells c.requires.ready c.requires.room c.the_n-n.ensures c.the_dim-dim.ensures
    c.the_degree-degree.ensures c.index_of-beam.ensures c.index_of-k.ensures c.find_places-p.ensures c.search-r.ensures in
    put_same (told.text c.if-number-ne0.false) c.put_found.ensures
