-- `report_short` meets its contract: the room is one sum.
use Rattle.std.proofs.Common.{refl, lt-ltb, le-ltb}
use Rattle.checks_recall.specs.Lengths.{report_short, report_words_lem, report_floats_lem}
use Rattle.checks_recall.proofs.report_short.Goals as goal

pub returns-then-words-n : goal.returns-then-words-n
unfolding report_short
returns-then-words-n c = rw (report_words_lem c.args.n, lt-ltb _ _ c.if-words-n.true) refl

pub returns-else-words-n : goal.returns-else-words-n
unfolding report_short
returns-else-words-n c = rw (report_words_lem c.args.n, report_floats_lem, le-ltb _ _ c.if-words-n.false) refl
