-- A lookup that is accepted: what the walk is given, what is listed from it, and what is left. c is the call as cleaned, `table` the table that is lent. The
-- walk's room lies within the stated room, so all that it wrote is wiped, and what lies beyond is as it was lent.
use mathlib.Core.Path.{◌≡◌, refl, sym, ap, ◌∙◌}
use mathlib.Core.Bool.{false}
use mathlib.Core.List.{List}
use Prim.Native.Nat.{ℕ, ◌+◌, ◌≤◌, ◌<◌, min, max, zero-le}
use native.Mathlib.Omega.{arith}
use lib.ListN.{length, drop}
use Rattle.definition.specs.Metric.{from_query}
use Rattle.definition.specs.Tables.{cleaned}
use Rattle.definition.specs.Greedy.{State}
use Rattle.definition.specs.Search.{ranked}
use Rattle.definition.specs.Outcome.{search_answer, found, walked, found_ids, found_dists, search_done}
use Rattle.definition.specs.Refusals.{SearchCall, search_words, most_answers}
use Rattle.laws.specs.Parts.{Within, within_wider}
use Rattle.laws.specs.Filled.{cleared_same}
use Rattle.laws.specs.Cleaned.{length-cleaned}
use Rattle.scratch.specs.Lent.{Lent, lent}
use Rattle.scratch.specs.Layout.{visited_at, search_end, search_floats_end}
use Rattle.beam.specs.Keys.{Rising}
use Rattle.theory.specs.build.Walks.{epoch_end}
use Rattle.marks.specs.Marked.{Marks, FirstEpoch}
use Rattle.marks.specs.Visits.{first_then}
use Rattle.kept.specs.Says.{Tells}
use Rattle.greedy.specs.declared.Plan.{Plan}
use Rattle.greedy.specs.declared.Walked.{Walked}
use Rattle.greedy.specs.Scratch.{Ground, walk_of, walk_end, Room, Walks}
use Rattle.accepted.specs.Search.{SearchAccepted as Accepted}
use Rattle.listing.specs.Listed.{Pairs, pairs, items_in, Listed}
use Rattle.search.specs.declared.Found.{Found}
use Rattle.search.specs.Answering.{Wiped, Walkable, on_words, accepted_walkable, Answered, state_of, walked_is, found_count, found_ids_lem, found_dists_lem}
use Rattle.search.specs.Statement.{out_of, answer_of, Searched}

-- the plan of the walk, whose beam is b
abbrev pub plan_of : SearchCall → ℕ → Plan
plan_of c b = record { n = c.n; dim = c.dim; width = c.degree; beam = b; keep = false }

-- ---- one walk
module _ (c : SearchCall) (a : Walkable c) (table : List ℕ) (table_is : c.table ≡ cleaned c.n table) where
  pub start_ground : (b : ℕ) → Ground (plan_of c b) c.vectors c.query table
  start_ground b =
      record {
        measures = record { vectors_are = a.vectors_are; query_is = a.query_is; few = a.dim_few };
        size = sym (length-cleaned c.n table) ∙ ap length (sym table_is) ∙ a.table_is;
        narrow = omega (arith, a.degree_few);
      }

  module _ (epoch : ℕ) (marks : Marks c.n c.words epoch) (b : ℕ) (b-is : b ≡ max c.beam 1) where
    abbrev n : ℕ
    n = c.n

    -- it may begin
    pub start_room : Room (plan_of c b) epoch c.words
    unfolding walk_end
    start_room = record { space = record { nodes = a.nodes; room = a.word_room; beam_le = omega (arith, a.beam_few) }; marks = marks }

    module _ (after keys : List ℕ) (r : Walked)
        (walks : Walks (plan_of c b) epoch c.words after keys r (walk_of (plan_of c b) (from_query c.dim c.vectors c.query) table c.start))
        (count : ℕ) (count_is : count ≡ min c.k r.work) where
      few : count ≤ most_answers c.beam c.k
      unfolding most_answers
      few = omega (arith, walks.work_le)

      -- its answers may be listed
      pub list_room : (size : length keys ≡ 256)
          → Rising keys × ((count ≤ r.work) × (r.work ≤ length keys) × (count ≤ length c.ids) × (count ≤ length c.dists))
      list_room size = (
        walks.work_is.up,
        (omega arith, omega (arith, walks.work_le, a.beam_few), omega (arith, few, a.id_room), omega (arith, few, a.dist_room)),
      )

      -- the state that it comes to is the definition's
      state_is : walk_of (plan_of c b) (from_query c.dim c.vectors c.query) table c.start ≡ state_of c
      state_is = rw (b-is, ← table_is) refl

      told : Tells keys r.work (state_of c).work
      told = rw state_is at walks.work_is

      -- and those are its counts
      module _ (outs : Pairs) (l : Listed (ranked count (items_in keys r.work)) (pairs c.ids c.dists) outs) where
        pub answered : Answered c epoch after outs (record { epoch = r.epoch; count = count; expanded = r.expanded; measured = r.visited })
        unfolding walk_end
        answered =
            let end = state_is ∙ sym (walked_is c) in
            record {
              epoch_is = walks.epoch_is;
              count_is = found_count c keys r.work told count count_is;
              few = few;
              expanded_is = sym walks.expanded_is ∙ ap (λ (s : State). length s.expanded) end;
              measured_is = sym walks.visited_is ∙ ap (λ (s : State). length s.visited) end;
              ids_are = found_ids_lem c keys r.work told count count_is outs l;
              dists_are = found_dists_lem c keys r.work told count count_is outs l;
              marks = walks.room.marks;
              kept = walks.words_kept;
            }

-- ---- a whole lookup: the marks were cleared
module _ (c : SearchCall) (a : Accepted c) (marked : List ℕ) (epoch : ℕ) (first : FirstEpoch c.n c.words marked epoch) where
  pub walk_room : Walkable (on_words c marked) × ((epoch + 1 < epoch_end) × Marks c.n marked epoch)
  walk_room = (accepted_walkable c a marked (omega (arith, a.word_room, first.kept.size)), (omega (arith, first.is), first.marks))

  module _ (after : List ℕ) (outs : Pairs) (r : Found) (w : Answered (on_words c marked) epoch after outs r) where
    kept : Within 0 (search_end c.n) c.words after
    kept =
        first_then first (search_end c.n) (omega arith) (within_wider 0 (visited_at c.n) marked after w.kept 0 (search_end c.n) zero-le (omega arith))

    pub wipe_room : (c.n ≤ 65536) × (search_end c.n ≤ length after) × (search_floats_end ≤ length c.floats)
    wipe_room = (a.nodes, omega (arith, kept.size, a.word_room), a.float_room)

    beyond_words : drop (search_words c.n) after ≡ drop (search_words c.n) c.words
    unfolding search_words
    beyond_words = kept.above

    module _ (left : Lent) (z : Wiped c.n (lent after c.floats) left) where
      done_is : out_of (answer_of r) left.words left.floats outs.ids outs.dists ≡ search_done c
      unfolding search_done found walked found_ids found_dists
      done_is =
          rw (
            w.count_is,
            w.expanded_is,
            w.measured_is,
            z.words_are ∙ cleared_same 0 (search_words c.n) after c.words beyond_words,
            z.floats_are,
            w.ids_are,
            w.dists_are,
          ) refl

      pub done : Searched c (out_of (answer_of r) left.words left.floats outs.ids outs.dists)
      unfolding search_answer
      done = record { is = done_is; few = w.few }
