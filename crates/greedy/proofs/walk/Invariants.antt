-- `walk`. The loop's invariant: what is left of the definition's n steps, from the state where the scratch is, leads where the whole walk leads.
use mathlib.Core.Path.{◌≡◌}
use lib.ListN.{length}
use Rattle.definition.specs.Metric.{from_query}
use Rattle.definition.specs.Tables.{row, cleaned}
use Rattle.greedy.specs.Scratch.{standing}
use Rattle.greedy.proofs.Runs.{Run}
use Rattle.greedy.proofs.walk.Given as goal

abbrev pub invariant-loop-expanded : goal.invariant-loop-expanded
invariant-loop-expanded l =
    (length l.keys ≡ length l.initial.keys) × (length l.fresh ≡ length l.initial.fresh) × (length l.apart ≡ length l.initial.apart)
    × Run l.p l.epoch (from_query l.p.dim l.vectors l.query) (row l.p.width (cleaned l.p.n l.table))
    (standing l.initial.words l.initial.keys l.initial.s) (standing l.words l.keys l.s) l.expanded
