-- `clear_front`: two fronts cleared.
use Rattle.scratch.specs.Clear.{front-clear}
use Rattle.scratch.proofs.clear_front.Goals as goal

pub returns : goal.returns
returns c =
    front-clear c.args.w c.args.f c.args.words.now c.args.floats.now _ _ c.requires.0 c.requires.1
    c.clear_words.ensures c.clear_floats.ensures
