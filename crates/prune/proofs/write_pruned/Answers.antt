-- `write_pruned` meets its contract. Cleared factors, the rounds, and padding make the row.
use mathlib.Core.Path.{ap, ◌∙◌}
use Prim.Native.Nat.{ℕ}
use lib.ListN.{replicate}
use Rattle.definition.specs.Floats.{nought}
use Rattle.prune.proofs.Filling.{written}
use Rattle.prune.proofs.write_pruned.Goals as goal

pub returns : goal.returns
unfolding nought
returns c =
    let a = c.args in
    let zeros = c.clear_floats.ensures ∙ ap (λ (n : ℕ). replicate n nought) c.requires.factors_len.0 in
    written a.dim a.vectors.now a.ids.now a.dists.now a.degree a.alpha _ _ c.requires.measurable.same c.requires.factors_len.1
    c.take_rounds-count.auto.row zeros c.take_rounds-count.ensures c.pad_from.ensures
