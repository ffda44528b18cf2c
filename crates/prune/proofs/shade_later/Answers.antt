-- `shade_later` meets its contract. The part lent as the query is the taken entry's vector.
use Rattle.metric.specs.Laws.{lent_vector}
use Rattle.prune.proofs.shade_later.Goals as goal

pub returns : goal.returns
returns c =
    c.shade_rest.ensures.are c.args.taken (lent_vector _ _ _)
