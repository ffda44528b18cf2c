-- `bound_of`. The last key without its lower half.
use mathlib.Core.Path.{refl}
use Prim.Native.Nat.{◌-◌}
use native.Mathlib.Omega.{arith}
use borrow.Author.Tests.{lt-ltb, le-ltb}
use Rattle.kept.specs.Says.{bound_k}
use Rattle.kept.proofs.bound_of.Goals as goal

pub returns-then-len-beam : goal.returns-then-len-beam
unfolding bound_k
returns-then-len-beam c = rw (lt-ltb c.args.len c.args.beam c.if-len-beam.true) refl

pub overflow_mul-result : goal.overflow_mul-result
overflow_mul-result c = omega (arith, c.type_inv.keys (c.args.len - 1))

pub returns : goal.returns
unfolding bound_k
returns c = rw (le-ltb c.args.len c.args.beam c.if-len-beam.false) refl
