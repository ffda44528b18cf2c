-- `take_rounds` meets its contract. The ids taken so far, and what the rest of this round and the rounds after it take, make up the result.
use Prim.Native.Nat.{◌-◌}
use lib.ListN.{length}
use Rattle.prune.specs.Says.{rounds_of}
use Rattle.prune.proofs.Steps.{from_round, Walk, Going}
use Rattle.prune.proofs.take_rounds.Given as goal

abbrev pub invariant-loop-i : goal.invariant-loop-i
invariant-loop-i l =
    Walk l.dim l.vectors l.ids l.dists l.target (8 - l.counter) l.current l.degree
    (from_round l.dim l.vectors l.ids l.dists l.target l.current l.degree l.counter l.initial.factors l.initial.row l.initial.count)
    (length l.initial.row) l.factors l.row l.count l.i

abbrev pub invariant-rounds : goal.invariant-rounds
invariant-rounds l =
    Going l.dim l.vectors l.ids l.dists l.target l.degree (rounds_of l.dim l.vectors l.ids l.dists l.degree l.alpha l.initial.factors)
    (length l.initial.row) l.factors l.row l.current l.count l.counter
