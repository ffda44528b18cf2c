-- `take_search`: the tests of well formed values in their order, the two parts with samples taken on the way.
use mathlib.Core.Path.{◌≡◌, sym, ◌∙◌}
use mathlib.Core.Bool.{Bool, true}
use mathlib.Core.List.{List}
use Prim.Native.Nat.{ℕ}
use native.Mathlib.Omega.{arith}
use Rattle.definition.specs.Seek.{shaped}
use Rattle.seek_text.proofs.Forms.{limits_of, shape-parts, Room, room_of, form_shape, form_vector, form_row, form_query}
use Rattle.seek_text.specs.Text.{PlacesOf}
use Rattle.std.proofs.lemmas.Bool.{false≢true}
use Rattle.seek_text.proofs.take_search.Goals.{then-take_samples, else-take_samples}
use lib.ListN.{length-take, length-drop}
use Rattle.seek_text.proofs.take_search.Goals as goal

-- after the places were found: they lie within the values
room : {vs : List ℕ} {rows query end : ℕ} {r : Bool} → r ≡ shaped vs → r ≡ true → PlacesOf vs rows query end → Room vs rows query end
room e t p = room_of (sym e ∙ t) p

pub returns-then-not-has_shape : goal.returns-then-not-has_shape
returns-then-not-has_shape c = form_shape (sym c.has_shape.ensures ∙ c.if-not-has_shape.true)

pub find_places-p-requires : goal.find_places-p-requires
find_places-p-requires c = limits_of _ (shape-parts _ (sym c.has_shape.ensures ∙ c.if-not-has_shape.false)).0

pub slice_bounds-take_samples-end : goal.slice_bounds-take_samples-end
slice_bounds-take_samples-end c = omega (arith, room c.has_shape.ensures c.if-not-has_shape.false c.find_places-p.ensures)

pub take_samples-requires : goal.take_samples-requires
take_samples-requires c = simp (length-take, length-drop) (omega (arith, room c.has_shape.ensures c.if-not-has_shape.false c.find_places-p.ensures))

pub slice_bounds-are_row_words-end : goal.slice_bounds-are_row_words-end
slice_bounds-are_row_words-end c = omega (arith, room c.has_shape.ensures c.if-not-has_shape.false c.find_places-p.ensures)

pub slice_bounds-take_samples-end-then-are_row_words : goal.slice_bounds-take_samples-end-then-are_row_words
slice_bounds-take_samples-end-then-are_row_words c = omega (arith, room c.has_shape.ensures c.if-not-has_shape.false c.find_places-p.ensures)

pub take_samples-requires-then-are_row_words : goal.take_samples-requires-then-are_row_words
take_samples-requires-then-are_row_words c =
    simp (length-take, length-drop) (omega (arith, room c.has_shape.ensures c.if-not-has_shape.false c.find_places-p.ensures))

pub returns-then-are_row_words : goal.returns-then-are_row_words
returns-then-are_row_words c =
    elim c.if-take_samples.branch [
      | then-take_samples w ↦
          form_query (sym c.has_shape.ensures ∙ c.if-not-has_shape.false) c.find_places-p.ensures c.take_samples.ensures w.if-take_samples.true
          w.are_row_words.ensures (sym w.value-is ∙ c.if-are_row_words.true) c.take_samples-then-are_row_words.ensures
      | else-take_samples w ↦ absurd (false≢true (sym w.if-take_samples.false ∙ sym w.value-is ∙ c.if-are_row_words.true))
    ]

pub returns-else-are_row_words : goal.returns-else-are_row_words
returns-else-are_row_words c =
    elim c.if-take_samples.branch [
      | then-take_samples w ↦
          rw c.if-are_row_words.false
          (form_row (sym c.has_shape.ensures ∙ c.if-not-has_shape.false) c.find_places-p.ensures c.take_samples.ensures w.if-take_samples.true
          w.are_row_words.ensures (sym w.value-is ∙ c.if-are_row_words.false))
      | else-take_samples w ↦
          rw c.if-are_row_words.false
          (form_vector (sym c.has_shape.ensures ∙ c.if-not-has_shape.false) c.find_places-p.ensures c.take_samples.ensures w.if-take_samples.false)
    ]
