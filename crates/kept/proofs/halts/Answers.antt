-- `halts`. Each return is a case of the stop, as the definition of `halts_k` tests it.
use mathlib.Core.Path.{refl}
use borrow.Author.Tests.{lt-ltb, le-ltb, lt-leb}
use Rattle.kept.specs.Says.{halts_k}
use Rattle.kept.proofs.halts.Goals as goal

pub returns-then-w-beam : goal.returns-then-w-beam
unfolding halts_k
returns-then-w-beam c =
    let a = c.args in
    rw (lt-leb a.w.len a.d c.requires.1, lt-ltb a.w.len a.beam c.if-w-beam.true) refl

pub returns : goal.returns
unfolding halts_k
returns c =
    let a = c.args in
    rw (c.dist_of.ensures, c.dist_of-2.ensures, lt-leb a.w.len a.d c.requires.1, le-ltb a.w.len a.beam c.if-w-beam.false) refl
