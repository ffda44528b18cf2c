-- `is_affected` meets its contract: a node is affected if it has a seat, or heads a chain.
use Rattle.batch_merge.proofs.Chains.{by_seat, by_head}
use Rattle.batch_merge.proofs.is_affected.Goals as goal

pub returns-then-words-seat-ne0 : goal.returns-then-words-seat-ne0
returns-then-words-seat-ne0 c =
    by_seat c.requires.gatherable c.requires.i_lt_n c.seats_at.ensures c.if-words-seat-ne0.true

pub returns-else-words-seat-ne0 : goal.returns-else-words-seat-ne0
returns-else-words-seat-ne0 c =
    by_head c.requires.gatherable c.requires.i_lt_n c.seats_at.ensures c.heads_at.ensures c.if-words-seat-ne0.false
