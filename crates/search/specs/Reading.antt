-- What a caller reads from a search that meets its statement: its number, how many answers there are, and what stands in the two outputs.
use Rattle.std.specs.Prelude.{◌≡◌, List, ◌++◌, map, ℕ, ◌<◌, length, get_or}
use Rattle.std.proofs.Math.Path.{refl, ap}
use Rattle.std.proofs.Common.{◌∙◌, arith}
use Rattle.std.proofs.lemmas.List.{length-map}
use Rattle.std.proofs.Math.ListN.{get_or-append}
use Rattle.definition.specs.declared.Answer.{Answer}
use Rattle.definition.specs.Lists.{over}
use Rattle.definition.specs.Metric.{whole}
use Rattle.definition.specs.Beam.{Item}
use Rattle.definition.specs.Refusals.{SearchCall, search_number}
use Rattle.definition.specs.Outcome.{SearchOut, SearchMeets, found, found_ids, found_dists, search_out, search_kept, search_done}
use Rattle.definition.specs.Outcome.{by_number, search_answer, refused, answer}
use Rattle.laws.specs.Mapped.{map_at}
use Rattle.accepted.specs.Outcomes.{said_number}

-- an answer's place in a list that begins with what f gives of each
pub front_at : {A : Type 0} (f : Item → A) (items : List Item) (rest : List A) (i : ℕ) (d : A) (e : Item) → i < length items
    → get_or (map f items ++ rest) i d ≡ f (get_or items i e)
front_at f items rest i d e h = get_or-append (map f items) rest d i (omega (arith, length-map items f)) ∙ map_at f e d items i h

module _ (c : SearchCall) (o : SearchOut) (m : SearchMeets c o) where
  pub number_is : o.answer.number ≡ search_number c
  unfolding search_out search_kept search_done search_answer refused answer
  number_is =
      ap (λ (a : Answer). a.number) m.answer_is
      ∙ said_number (search_kept c) (search_done c) (λ (p : SearchOut). p.answer.number) (search_number c) refl refl

  module _ (z : search_number c ≡ 0) where
    pub count_is : o.answer.count ≡ length (found c)
    unfolding search_out by_number search_done search_answer
    count_is = rw z at (ap (λ (a : Answer). a.count) m.answer_is)

    pub ids_are : o.ids ≡ over (map (λ (a : Item). a.id) (found c)) c.ids
    unfolding search_out by_number search_done found_ids
    ids_are = rw z at m.ids_are

    pub dists_are : o.dists ≡ over (map (λ (a : Item). whole a.dist) (found c)) c.dists
    unfolding search_out by_number search_done found_dists
    dists_are = rw z at m.dists_are
