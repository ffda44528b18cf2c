-- `answer`: the buffer holds more than the longest text.
use Rattle.std.proofs.Common.{lit<}
use Rattle.definition.specs.Seek.{most_input}
use Rattle.seek_input.proofs.answer.Goals as goal

pub read_text-requires : goal.read_text-requires
unfolding most_input
read_text-requires g c = lit< tt
