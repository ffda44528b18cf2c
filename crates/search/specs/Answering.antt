-- One walk and its answers: what it asks of its call, what it leaves, and the answers from the keys that it has then. And the room that is wiped.
use Rattle.std.specs.Prelude.{◌≡◌, refl, ℕ, ◌+◌, ◌*◌, ◌≤◌, ◌<◌, min, max, length}
use Rattle.std.proofs.Math.Path.{sym, ap}
use Rattle.std.proofs.Common.{◌∙◌, length-take}
use mathlib.Core.List.{List, []}
use Rattle.std.proofs.Math.ListN.{take}
use Rattle.definition.specs.Lists.{over, sort, cleared}
use Rattle.definition.specs.Metric.{from_query}
use Rattle.definition.specs.Tables.{row}
use Rattle.definition.specs.Beam.{Item}
use Rattle.definition.specs.Greedy.{State, greedy}
use Rattle.definition.specs.Floats.{nought}
use Rattle.definition.specs.Search.{listed_first, ranked, searched, answers}
use Rattle.definition.specs.Refusals.{SearchCall, search_words, search_floats, most_answers}
use Rattle.definition.specs.Outcome.{found, walked, found_ids, found_dists}
use Rattle.laws.specs.Backwards.{take_least}
use Rattle.laws.specs.Parts.{Within}
use Rattle.laws.specs.Sorting.{length_sort}
use Rattle.laws.specs.Sorted.{sort_rev}
use Rattle.laws.specs.Items.{ids_of, listed_order}
use Rattle.scratch.specs.Lent.{Lent}
use Rattle.scratch.specs.Layout.{visited_at}
use Rattle.accepted.specs.Search.{SearchAccepted as Accepted}
use Rattle.marks.specs.Marked.{Marks}
use Rattle.kept.specs.Says.{Tells}
use Rattle.listing.specs.Listed.{Pairs, pairs, items_in, dists_of, Listed}
use Rattle.search.specs.declared.Found.{Found}

-- the stated room is zero, what lies beyond it untouched
pub record Wiped (n : ℕ) (before after : Lent) : Type 0 where
  pub words_are : after.words ≡ cleared 0 (search_words n) before.words
  pub floats_are : after.floats ≡ cleared nought search_floats before.floats

-- what a walk asks of its call: as an accepted search, but of the words only room for the marks, and nothing of the floats
pub record Walkable (c : SearchCall) : Type 0 where
  pub dim_few : c.dim ≤ 256
  pub nodes : c.n ≤ 65536
  pub vectors_are : length c.vectors ≡ c.n * c.dim
  pub degree_few : c.degree ≤ 64
  pub beam_few : c.beam ≤ 256
  pub start_in : c.start < c.n
  pub table_is : length c.table ≡ c.n * c.degree
  pub word_room : visited_at c.n ≤ length c.words
  pub id_room : most_answers c.beam c.k ≤ length c.ids
  pub dist_room : most_answers c.beam c.k ≤ length c.dists
  pub query_is : length c.query ≡ c.dim

-- the call with other words, and no floats
abbrev pub on_words : SearchCall → List ℕ → SearchCall
on_words c words =
    record {
      n = c.n;
      dim = c.dim;
      vectors = c.vectors;
      degree = c.degree;
      beam = c.beam;
      k = c.k;
      start = c.start;
      table = c.table;
      query = c.query;
      words = words;
      floats = [];
      ids = c.ids;
      dists = c.dists;
    }

pub accepted_walkable : (c : SearchCall) → Accepted c → (words : List ℕ) → visited_at c.n ≤ length words → Walkable (on_words c words)
accepted_walkable c a words room =
    record {
      dim_few = a.dim_few;
      nodes = a.nodes;
      vectors_are = a.vectors_are;
      degree_few = a.degree_few;
      beam_few = a.beam_few;
      start_in = a.start_in;
      table_is = a.table_is;
      word_room = room;
      id_room = a.id_room;
      dist_room = a.dist_room;
      query_is = a.query_is;
    }

-- what one walk leaves: its answers, its counts, and marks that are at most its epoch
pub record Answered (c : SearchCall) (epoch : ℕ) (after : List ℕ) (outs : Pairs) (r : Found) : Type 0 where
  pub epoch_is : r.epoch ≡ epoch + 1
  pub count_is : r.count ≡ length (found c)
  pub few : r.count ≤ most_answers c.beam c.k
  pub expanded_is : r.expanded ≡ length (walked c).expanded
  pub measured_is : r.measured ≡ length (walked c).visited
  pub ids_are : outs.ids ≡ over (found_ids c) c.ids
  pub dists_are : outs.dists ≡ over (found_dists c) c.dists
  pub marks : Marks c.n after r.epoch
  pub kept : Within 0 (visited_at c.n) c.words after

-- ---- the answers, from what the keys tell of the work
-- the state that the walk comes to
abbrev pub state_of : SearchCall → State
state_of c = greedy (from_query c.dim c.vectors c.query) (row c.degree c.table) c.n (max c.beam 1) c.start

pub walked_is : (c : SearchCall) → walked c ≡ state_of c
unfolding walked searched
walked_is c = refl

module _ (c : SearchCall) (keys : List ℕ) (len : ℕ) (h : Tells keys len (state_of c).work) (count : ℕ) (least : count ≡ min c.k len) where
  abbrev work : List Item
  work = (state_of c).work

  least_sorted : count ≡ min c.k (length (sort listed_first work))
  least_sorted = least ∙ ap (min c.k) (sym (length_sort listed_first work ∙ h.size))

  -- a sort does not turn on the order in which the keys hold the work
  found_ranked : ranked count (items_in keys len) ≡ found c
  unfolding found answers ranked searched
  found_ranked =
      ap (λ (l : List Item). take count (sort listed_first l)) h.items_are ∙ ap (take count) (sort_rev listed_order work)
      ∙ take_least c.k count (sort listed_first work) least_sorted

  pub found_count : count ≡ length (found c)
  unfolding found answers ranked searched
  found_count = least_sorted ∙ sym (length-take c.k (sort listed_first work))

  module _ (outs : Pairs) (l : Listed (ranked count (items_in keys len)) (pairs c.ids c.dists) outs) where
    pub found_ids_lem : outs.ids ≡ over (found_ids c) c.ids
    unfolding found_ids
    found_ids_lem = l.ids_are ∙ ap (λ (a : List Item). over (ids_of a) c.ids) found_ranked

    pub found_dists_lem : outs.dists ≡ over (found_dists c) c.dists
    unfolding found_dists
    found_dists_lem = l.dists_are ∙ ap (λ (a : List Item). over (dists_of a) c.dists) found_ranked
