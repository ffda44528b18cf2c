-- `put_lines`: one line more, of the id and the distance that come next.
use Rattle.std.proofs.Common.{rules, length, ap, ◌∙◌, length-append}
use Rattle.std.specs.Float.{nan}
use Rattle.whole.specs.Whole.{count}
use Rattle.seek_print.proofs.Printing.{lines_start, lines_on, next_is}
use Rattle.seek_print.proofs.put_lines.Goals as goal

pub loop-id-init : goal.loop-id-init
loop-id-init c = record { lines = lines_start; ids_left = search rules; dists_left = search rules }

pub whole_number-requires : goal.whole_number-requires
whole_number-requires c =
    let done = length c.loop-id.yielded in
    let next = next_is c.args.dists.now c.args.n done c.in-Some.dist.now nan c.loop-id.invariant.dists_left c.in-Some.ensures.steps.1 in
    rw next.item (c.requires.wholes.at done next.few)

pub loop-id-preserved : goal.loop-id-preserved
loop-id-preserved c =
    let done = length c.loop-id.yielded in
    let id = next_is c.args.ids.now c.args.n done c.in-Some.id.now 0 c.loop-id.invariant.ids_left c.in-Some.ensures.steps.0 in
    let dist = next_is c.args.dists.now c.args.n done c.in-Some.dist.now nan c.loop-id.invariant.dists_left c.in-Some.ensures.steps.1 in
    rw length-append
    (record {
      lines = lines_on c.loop-id.invariant.lines id.few (c.whole_number.ensures ∙ ap count dist.item) (rw id.item at c.put_line-to.ensures);
      ids_left = id.left;
      dists_left = dist.left;
    })
