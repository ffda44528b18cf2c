-- `put_lines`: as many lines as were yielded, each of at most 42 bytes.
use Rattle.std.proofs.Common.{◌≡◌, length, drop, take}
use Rattle.seek_print.proofs.Printing.{Lines}
use Rattle.seek_print.proofs.put_lines.Given as goal

abbrev pub invariant-loop-id : goal.invariant-loop-id
invariant-loop-id l = record {
  lines : Lines l.ids l.dists l.n l.fn.out l.at l.out l.to (length l.yielded);
  ids_left : l.id-iterator.a.rest.now ≡ drop (length l.yielded) (take l.n l.ids);
  dists_left : l.id-iterator.b.rest.now ≡ drop (length l.yielded) (take l.n l.dists);
}
