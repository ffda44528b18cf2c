-- `shade_rest` meets its contract. The factors shaded from place j on are, at every turn, what they are to become.
use Rattle.prune.proofs.Shading.{Shading}
use Rattle.prune.proofs.shade_rest.Given as goal

abbrev pub invariant-loop-j : goal.invariant-loop-j
invariant-loop-j l =
    Shading l.dim l.vectors l.query l.ids l.dists l.target l.from l.initial.factors l.factors l.j
