-- `read_values`: the values so far, and what the words from `at` on say, are the values of the text.
use Prim.Native.Nat.{◌-◌}
use lib.ListN.{length}
use Rattle.seek_text.proofs.Words.{Reading}
use Rattle.seek_text.proofs.read_values.Given as goal

abbrev pub invariant-loop-at : goal.invariant-loop-at
invariant-loop-at l = Reading l.text l.initial.vals l.vals l.at l.count

abbrev pub decreases-loop-at : goal.decreases-loop-at
decreases-loop-at l = length l.text - l.at
