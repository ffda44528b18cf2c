-- One query: its walk may be made, and what that and the exhaustive search leave may be marked and counted; what is counted are the definition's hits. The
-- marks are left so that the next query may follow.
use Rattle.std.proofs.Common.{ℕ, ◌+◌, ◌≤◌, ◌<◌, zero-le, arith, ◌≡◌, sym, ap, ap₂, ◌∙◌, subst, List, Float, length, get_or, take}
use Rattle.std.proofs.Common.{◌++◌, drop, length-append, length-take, length-take-le, get_or-take}
use mathlib.Core.List.{Memᴰ as Mem}
use Rattle.std.proofs.Math.ListN.{length-map, get_or-append}
use Rattle.definition.specs.Lists.{over}
use Rattle.definition.specs.Beam.{Item, nobody}
use Rattle.definition.specs.Recall.{in_both, hits}
use Rattle.definition.specs.Refusals.{SearchCall, ExhaustiveCall, ReportCall, most_answers}
use Rattle.definition.specs.Outcome.{ExhaustiveOut, answer, found, found_ids, cleaned_call, nearest_to, exhaustive_done}
use Rattle.laws.specs.Members.{mem-at}
use Rattle.laws.specs.Mapped.{map_at}
use Rattle.laws.specs.Items.{ids_of}
use Rattle.laws.specs.Writing.{over_front}
use Rattle.laws.specs.Parts.{Within, part-front, within_wider, within_trans, put_within}
use Rattle.theory.specs.recall.Nearest.{nearest_own}
use Rattle.theory.specs.recall.Brought.{both_most}
use Rattle.accepted.specs.Search.{cleaned-call, search_answers}
use Rattle.scratch.specs.Layout.{visited_at}
use Rattle.marks.specs.Marked.{Marks}
use Rattle.search.specs.declared.Found.{Found}
use Rattle.search.specs.Answering.{Walkable, accepted_walkable, Answered}
use Rattle.exhaustive.specs.Statement.{Exhausted}
use Rattle.recall.specs.Marks.{Places, Unmarked, CountedBoth}
use Rattle.recall.specs.Asking.{search_by, exhaustive_by, QueryAccepted, Recalled}

-- ---- items listed over the front of an output, each an entry below n
module _ (items : List Item) (out ids : List ℕ) (count : ℕ) (ids_are : ids ≡ over (ids_of items) out) (count_is : count ≡ length items) where
  size : length (ids_of items) ≡ count
  size = length-map items (λ (a : Item). a.id) ∙ sym count_is

  pub listed_first_lem : take count ids ≡ ids_of items
  listed_first_lem = ap (take count) ids_are ∙ over_front (ids_of items) out count size

  pub listed_few : count ≤ length ids
  unfolding over
  listed_few = omega (arith, ap length ids_are, length-append (ids_of items) (drop (length (ids_of items)) out), size)

  pub listed_places : (n : ℕ) → ((x : Item) → Mem x items → x.id < n) → Places (take count ids) n
  listed_places n below =
      rw listed_first_lem
      (record {
        inside = λ j h.
            let k : j < length items = omega (arith, size, count_is) in
            omega (arith, map_at (λ (a : Item). a.id) nobody 0 items j k, below (get_or items j nobody) (mem-at nobody items j k));
      })

-- ---- what the exhaustive search leaves
module _ (e : ExhaustiveCall) (o : ExhaustiveOut) (s : Exhausted e o) where
  nearest_count : o.answer.count ≡ length (nearest_to e)
  unfolding exhaustive_done answer
  nearest_count = ap (λ (x : ExhaustiveOut). x.answer.count) s.is

  nearest_over : o.ids ≡ over (ids_of (nearest_to e)) e.ids
  unfolding exhaustive_done
  nearest_over = ap (λ (x : ExhaustiveOut). x.ids) s.is

  pub nearest_first : take o.answer.count o.ids ≡ ids_of (nearest_to e)
  nearest_first = listed_first_lem (nearest_to e) e.ids o.ids o.answer.count nearest_over nearest_count

  pub nearest_places : Places (take o.answer.count o.ids) e.n
  unfolding nearest_to
  nearest_places =
      listed_places (nearest_to e) e.ids o.ids o.answer.count nearest_over nearest_count e.n (λ x m. (nearest_own _ e.n e.k x m).1)

-- ---- the query

module _ {c : ReportCall} {ids near : List ℕ} {dists apart : List Float} (a : QueryAccepted c ids dists near apart) where
  abbrev asked : SearchCall
  asked = search_by c ids dists

  -- its table keeps the search rule
  same_call : cleaned_call asked ≡ asked
  same_call = cleaned-call asked a.search.ruled

  pub walk_room : Walkable (cleaned_call asked)
  walk_room = subst Walkable (sym same_call) (accepted_walkable _ a.search c.words (omega (arith, a.search.word_room)))

  -- `after` are the words that the walk leaves, `outs` its answers
  module _ {epoch : ℕ} {after : List ℕ} {outs : _} {r : Found} (answered : Answered (cleaned_call asked) epoch after outs r) where
    walk : Answered asked epoch after outs r
    walk = subst (λ (s : SearchCall). Answered s epoch after outs r) same_call answered

    pub marks_fit : c.n ≤ length after
    marks_fit = omega (arith, walk.kept.size, a.search.word_room)

    -- as many marks as entries
    marks_size : length (take c.n after) ≡ c.n
    marks_size = length-take-le c.n after marks_fit

    found_over : outs.ids ≡ over (ids_of (found asked)) ids
    unfolding found_ids
    found_over = walk.ids_are

    pub found_few : r.count ≤ length outs.ids
    unfolding found
    found_few = listed_few (found asked) ids outs.ids r.count found_over walk.count_is

    found_places : Places (take r.count outs.ids) c.n
    unfolding found
    found_places =
        listed_places (found asked) ids outs.ids r.count found_over walk.count_is c.n (λ x m. (search_answers _ a.search x m).1)

    -- `next` is the epoch of the nearest, which are in `near-out`
    module _ {next : ℕ} (next_is : next ≡ r.epoch + 1) {near-out : ExhaustiveOut} (exhausted : Exhausted (exhaustive_by c near apart) near-out) where
      next_new : Unmarked next (take c.n after)
      next_new =
          record {
            below_at = λ i h.
                let k : i < c.n = omega (arith, marks_size) in
                omega (arith, get_or-take c.n after i 0 k, walk.marks i k, next_is);
          }

      pub both_room : Unmarked next (take c.n after)
          × (Places (take r.count outs.ids) (length (take c.n after)) × Places (take near-out.answer.count near-out.ids) (length (take c.n after)))
      both_room = (next_new, rw marks_size (found_places, nearest_places (exhaustive_by c near apart) near-out exhausted))

      -- the marks came back as `marks`
      module _ (marks : List ℕ) (same : length marks ≡ length (take c.n after)) {h : ℕ}
          (both : CountedBoth next (take r.count outs.ids) (take near-out.answer.count near-out.ids) marks h) where
        abbrev left : List ℕ
        left = marks ++ drop c.n after

        left_within : Within 0 c.n after left
        left_within =
            subst (λ (k : ℕ). Within 0 c.n after (marks ++ drop k after)) (omega arith)
            (put_within 0 c.n after marks zero-le marks_fit (same ∙ ap length (sym (part-front c.n after))))

        marks_left : Marks c.n left next
        marks_left i k =
            omega (
              arith,
              get_or-append marks (drop c.n after) 0 i (omega (arith, same, marks_size)),
              both.marks_le i (omega (arith, same, marks_size)),
            )

        pub recalled : Recalled c epoch left (record { epoch = next; hits = h })
        unfolding hits found nearest_to most_answers
        recalled =
            record {
              epoch_is = omega (arith, next_is, walk.epoch_is);
              hits_are = both.is
                  ∙ ap₂ in_both (listed_first_lem (found asked) ids outs.ids r.count found_over walk.count_is)
                  (nearest_first (exhaustive_by c near apart) near-out exhausted);
              few = omega (
                arith,
                both.is,
                both_most (take r.count outs.ids) (take near-out.answer.count near-out.ids),
                length-take r.count outs.ids,
                walk.few,
                a.nearest.k_few,
              );
              marks = marks_left;
              kept = within_trans 0 (visited_at c.n) c.words after left walk.kept
                  (within_wider 0 c.n after left left_within 0 (visited_at c.n) zero-le (omega arith));
            }
