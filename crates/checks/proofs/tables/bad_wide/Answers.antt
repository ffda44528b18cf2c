-- `bad_wide` meets its contract.
use Rattle.std.proofs.Common.{arith}
use Rattle.laws.specs.Tables.{slack-few}
use Rattle.checks.proofs.tables.bad_wide.Goals as goal

pub bad_table-requires : goal.bad_table-requires
bad_table-requires c = (c.requires.0, omega (arith, slack-few c.args.degree c.requires.1))
