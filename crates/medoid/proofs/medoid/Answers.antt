-- `medoid` meets its contract: refused by its number, or the leader.
use Rattle.std.proofs.Common.{◌≡◌, sym, ap, ◌∙◌, ℕ, arith}
use Rattle.definition.specs.Floats.{nought}
use Rattle.definition.specs.Outcome.{answer, medoid_out}
use Rattle.definition.specs.Refusals.{MedoidCall, medoid_number}
use Rattle.laws.specs.Members.{mem-at}
use Rattle.laws.specs.Numbers.{number_positive}
use Rattle.answers.specs.Numbered.{refused_is, success_is}
use Rattle.accepted.specs.Medoid.{MedoidAccepted, medoid-accepted}
use Rattle.medoid.proofs.medoid.Goals as goal

-- a call with number 0 is not refused
accepted : (call : MedoidCall) → 0 ≡ medoid_number call → MedoidAccepted call
accepted call e = medoid-accepted call (sym e)

pub returns-in-Err : goal.returns-in-Err
unfolding medoid_out
returns-in-Err c = c.refused_for.ensures ∙ refused_is _ _ _ (number_positive c.in-Err.refusal) (sym c.in-Err.ensures.is)

pub leader-id-requires : goal.leader-id-requires
leader-id-requires c =
    let a = accepted _ c.in_default.ensures.is in
    (a.entries.nodes_some, a.entries.dim_few, a.entries.vectors_are, λ j h. a.pivots.below _ (mem-at 0 _ j h))

pub overflow_cast-id : goal.overflow_cast-id
overflow_cast-id c =
    let few = (accepted _ c.in_default.ensures.is).entries.nodes in record { fits = omega (arith, c.leader-id.ensures.1) }

pub returns : goal.returns
unfolding medoid_out
returns c =
    c.chosen.ensures ∙ ap (λ (id : ℕ). answer 0 0 id 0 nought) c.leader-id.ensures.0
    ∙ success_is _ _ (sym c.in_default.ensures.is)
