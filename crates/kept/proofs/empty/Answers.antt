-- `empty`. The bound of no work: with beam 0 no key is below it, else each is.
use mathlib.Core.Path.{refl}
use native.Mathlib.Omega.{arith}
use borrow.Author.Tests.{lt-ltb, le-ltb}
use Rattle.definition.specs.Beam.{worst}
use Rattle.kept.specs.Says.{bound_of}
use Rattle.kept.proofs.empty.Goals as goal

pub returns-then-beam-eq0 : goal.returns-then-beam-eq0
unfolding bound_of worst
returns-then-beam-eq0 c = rw (le-ltb 0 c.args.beam (omega arith)) refl

pub returns-else-beam-eq0 : goal.returns-else-beam-eq0
unfolding bound_of worst
returns-else-beam-eq0 c = rw (lt-ltb 0 c.args.beam (omega arith)) refl
