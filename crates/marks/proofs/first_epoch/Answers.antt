-- `first_epoch`. The marks were cleared, and no other word.
use mathlib.Core.Path.{refl}
use Prim.Native.Nat.{zero-le}
use native.Mathlib.Nat.{zero-add}
use native.Mathlib.Omega.{arith}
use Rattle.scratch.specs.Zeroed.{zeroed_within, zeroed_at}
use Rattle.marks.proofs.first_epoch.Goals as goal

pub returns : goal.returns
returns c =
    let n = c.args.n in
    let zeros = c.clear_words.ensures in
    record {
      is = refl;
      marks = λ i h. omega (arith, rw (zero-add i) at (zeroed_at 0 n c.args.words.now zero-le c.requires zeros i (omega arith)));
      kept = zeroed_within 0 n c.args.words.now zero-le c.requires zeros;
    }
