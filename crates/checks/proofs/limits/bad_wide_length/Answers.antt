-- `bad_wide_length` meets its contract.
use Rattle.std.proofs.Common.{arith}
use Rattle.laws.specs.Tables.{slack-few}
use Rattle.checks.proofs.limits.bad_wide_length.Goals as goal

pub bad_length-requires : goal.bad_length-requires
bad_length-requires c = (c.requires.0, omega (arith, slack-few c.args.degree c.requires.1))
