-- `report`. It is refused by its number, or accepted.
use Rattle.std.proofs.Common.{refl}
use Rattle.laws.specs.Numbers.{number_nonzero}
use Rattle.recall.proofs.Reporting.{accepted, refused, done}
use Rattle.recall.proofs.report.Goals as goal

pub returns-in-Err : goal.returns-in-Err
returns-in-Err c = refused _ _ c.in-Err.ensures (number_nonzero c.in-Err.refusal) _ c.refused_report_for.ensures

pub report_accepted-requires : goal.report_accepted-requires
report_accepted-requires c = accepted _ _ c.in_default.ensures refl

pub returns : goal.returns
returns c = done _ _ c.in_default.ensures refl _ c.report_accepted.ensures
