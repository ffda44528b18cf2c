-- `put_row`: a row written into its stretch.
use Rattle.table.specs.Rows.{stretched}
use mathlib.Core.Path.{refl}
use native.Mathlib.Omega.{arith}
use Rattle.table.proofs.put_row.Goals as goal

pub returns : goal.returns
returns c = stretched _ _ _ _ _ _ (omega arith) (record { count = refl; words = c.write_padded.ensures })
