-- `read_full`: what was read stands behind what was read before.
use Rattle.std.proofs.Common.{sym, subst, rules}
use Rattle.std.proofs.KnownBytes.{Consumes-trans}
use Rattle.std.specs.Io.KnownBytes.{Consumes}
use Rattle.seek_input.proofs.Reading.{front_more}
use Rattle.seek_input.proofs.read_full.Goals as goal

pub loop-done-preserved : goal.loop-done-preserved
loop-done-preserved g c =
    let more = front_more c.loop-done.done _ c.in_ok-got.got c.loop-done.text c.read.new.buf c.loop-done.invariant.inside c.in_ok-got.ensures.bound.0 in
    record {
      inside = search rules;
      taken = subst (Consumes _ _) (sym more) (Consumes-trans _ _ _ _ _ c.loop-done.invariant.taken c.in_ok-got.ensures.bytes.0);
    }
