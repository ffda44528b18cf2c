-- `expand`. The new ids are gathered, measured, kept where the visited are, and met.
use native.Mathlib.Omega.{arith}
use Rattle.laws.specs.Parts.{put}
use Rattle.greedy.proofs.Expanding.{lists_kept, lists_none, Fits, fits-put, fresh_most, fresh_small}
use Rattle.greedy.proofs.Expanding.{keep_asks, expanded}
use Rattle.greedy.proofs.expand.Goals as goal
use Rattle.greedy.proofs.expand.Goals.{After-touch_each, then-p, else-p}

-- there is room for the new ids, also where the touched came back
touched : (t : After-touch_each)
    → Fits t.gather-count.result t.gather-count.new.fresh (put 0 t.gather-count.result t.args.apart.now t.touch_each.new.out)
touched t =
    let few = t.gather-count.ensures.few in
    fits-put
    (record { ids = omega (arith, few, t.requires.rooms, t.gather-count.auto.fresh); dists = omega (arith, few, t.requires.rooms) })
    t.touch_each.new.out t.touch_each.auto.out

pub keep_each-requires : goal.keep_each-requires
keep_each-requires c =
    keep_asks c.requires.ready c.gather-count.ensures (touched (goal.at.keep_each-requires c).After-touch_each)
    c.from_query_each.auto.dists c.from_query_each.ensures c.if-p.true

pub meet-work-requires-clause-all : goal.meet-work-requires-clause-all
meet-work-requires-clause-all c = fresh_small c.requires.ready c.gather-count.ensures

pub overflow_add-visited : goal.overflow_add-visited
overflow_add-visited c =
    let r = c.requires.ready in
    omega (arith, fresh_most r c.gather-count.ensures, r.space.nodes)

pub returns : goal.returns
returns c =
    expanded c.requires.ready c.gather-count.ensures (touched (goal.at.returns c).After-touch_each)
    c.from_query_each.auto.dists c.from_query_each.ensures
    (elim c.if-p.branch [
      | then-p w ↦ rw w.words-is (lists_kept _ w.if-p.true w.keep_each.ensures)
      | else-p w ↦ rw w.words-is (lists_none _ w.if-p.false)
    ])
    c.meet-work.ensures

pub shape_of-words : goal.shape_of-words
shape_of-words c = (returns c).words_kept.size
