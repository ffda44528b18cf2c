-- `build_short` meets its contract.
use Rattle.std.proofs.Common.{refl, le-ltb, lt-ltb}
use Rattle.definition.specs.Refusals.{build_words, build_floats}
use Rattle.checks.specs.Lengths.{build_short}
use Rattle.checks.proofs.rooms.build_short.Goals as goal

pub returns-then-words-n : goal.returns-then-words-n
unfolding build_short build_words
returns-then-words-n c = rw (lt-ltb _ _ c.if-words-n.true) refl

pub returns-else-words-n : goal.returns-else-words-n
unfolding build_short build_words build_floats
returns-else-words-n c = rw (le-ltb _ _ c.if-words-n.false) refl
