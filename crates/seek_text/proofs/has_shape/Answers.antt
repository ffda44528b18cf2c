-- `has_shape`: the limits, then the count of words against where they end.
use mathlib.Core.Path.{sym, ◌∙◌}
use Rattle.seek_text.proofs.Forms.{shape_count}
use Rattle.seek_text.proofs.has_shape.Goals as goal

pub returns-then-has_limits : goal.returns-then-has_limits
returns-then-has_limits c = shape_count _ (sym c.has_limits.ensures ∙ c.if-has_limits.true) c.find_places.ensures
