-- `only_padding` meets its contract.
use Rattle.std.proofs.Common.{refl, arith}
use Rattle.laws.specs.Looked.{look_more, look_none}
use Rattle.definition.specs.Tables.{pad, only_pad}
use Rattle.table.proofs.only_padding.Goals as goal

pub loop-word-preserved : goal.loop-word-preserved
unfolding pad
loop-word-preserved c = look_more _ _ _ _ _ c.loop-word.invariant c.loop-word-test.true refl

pub returns : goal.returns
unfolding only_pad pad
returns c = look_none _ _ _ _ c.loop-word.invariant (omega arith)
