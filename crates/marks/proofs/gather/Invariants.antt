-- `gather`. The loop's invariant: what was done so far is what the words passed so far do.
use mathlib.Core.Path.{◌≡◌}
use lib.ListN.{length, take}
use Rattle.marks.specs.Marked.{Gathers}
use Rattle.marks.proofs.gather.Given as goal

abbrev pub invariant-loop-word : goal.invariant-loop-word
invariant-loop-word l =
    (length l.fresh ≡ length l.initial.fresh) × Gathers l.n l.epoch l.initial.words l.words (take l.word-index l.row) l.fresh l.count
