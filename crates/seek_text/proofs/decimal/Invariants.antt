-- `decimal`: the first digits say v, which stays below 10 to their number.
use Rattle.seek_text.proofs.Words.{Decimal}
use Rattle.seek_text.proofs.decimal.Given as goal

abbrev pub invariant-loop-b : goal.invariant-loop-b
invariant-loop-b l = Decimal l.word l.v l.b-index
