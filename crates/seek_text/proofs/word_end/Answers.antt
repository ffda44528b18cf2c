-- `word_end`: the bytes from `at` on, as far as none splits.
use native.Mathlib.Omega.{arith}
use Rattle.seek_text.proofs.Words.{word_found}
use Rattle.seek_text.proofs.word_end.Goals as goal

pub overflow_add-result : goal.overflow_add-result
overflow_add-result c = omega (arith, (word_found _ _ _ c.requires.0 c.requires.1 c.word_length.ensures).fits)

pub returns : goal.returns
returns c = word_found _ _ _ c.requires.0 c.requires.1 c.word_length.ensures
