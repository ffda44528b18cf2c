-- `copy_run`. After i turns the run is `copied ids dists i`.
use Rattle.std.proofs.Common.{◌≡◌}
use Rattle.search_records.specs.Copied.{copied}
use Rattle.search_records.proofs.copy_run.Given as goal

abbrev pub invariant-loop-i : goal.invariant-loop-i
invariant-loop-i l = l.records ≡ copied l.ids l.dists l.i l.initial.records
