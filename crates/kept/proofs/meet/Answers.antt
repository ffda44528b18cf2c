-- `meet`. The loop's invariant: those that the iterator gave were met, and it has the others left.
use mathlib.Core.Path.{sym, ◌∙◌}
use borrow.Author.Rules.{rules}
use lib.ListN.{length, length-append}
use Rattle.kept.proofs.Meeting.{met_none, met_next}
use Rattle.kept.proofs.meet.Goals as goal

pub loop-id-init : goal.loop-id-init
loop-id-init c = (met_none _ _ _ _ c.requires.ids_len c.requires.working, search rules, search rules)

pub loop-id-preserved : goal.loop-id-preserved
loop-id-preserved c =
    let m = c.loop-id.invariant in
    let gave = c.in-Some.ensures.steps in
    met_next _ _ _ _ c.requires.ids_len _ (length c.loop-id.yielded) _ (length-append _ _) m.0 _ _ _ _ (sym m.1 ∙ gave.0) (sym m.2 ∙ gave.1) _
    c.admit-s.ensures c.requires.all
