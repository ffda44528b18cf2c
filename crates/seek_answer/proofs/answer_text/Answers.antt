-- `answer_text`: 13 for a text that is too long, and the answer of the values that it says for any other.
use Rattle.seek_answer.proofs.Texts.{text_long, text_read}
use Rattle.seek_answer.proofs.answer_text.Goals as goal

pub returns-then-text-gt65536 : goal.returns-then-text-gt65536
returns-then-text-gt65536 c = text_long _ c.if-text-gt65536.true (rw (c.from.ensures) at c.put_refused.ensures)

pub returns : goal.returns
returns c =
    text_read c.if-text-gt65536.false c.read_values-count.ensures c.answer_values.ensures
