-- `take_samples`: the first i values are samples, and stand at the start of `out`.
use Rattle.seek_text.proofs.Forms.{Taking}
use Rattle.seek_text.proofs.take_samples.Given as goal

abbrev pub invariant-loop-i : goal.invariant-loop-i
invariant-loop-i l = Taking l.vals l.initial.out l.out l.i
