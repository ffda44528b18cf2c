-- `has_foreign` meets its contract.
use Rattle.std.proofs.Common.{refl, arith}
use Rattle.laws.specs.Looked.{look_more, look_end}
use Rattle.checks.specs.Foreign.{word_foreign}
use Rattle.definition.specs.Tables.{search_rule}
use Rattle.checks.proofs.tables.has_foreign.Goals as goal

pub loop-word-preserved : goal.loop-word-preserved
loop-word-preserved c =
    let o = c.loop-word in
    look_more _ _ _ _ _ o.invariant c.loop-word-test.true (word_foreign c.args.n _ _ (c.type_inv.words o.word-index).fits refl)

pub returns : goal.returns
unfolding search_rule
returns c = look_end _ _ _ _ c.loop-word.invariant (omega arith)
