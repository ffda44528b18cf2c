-- The lines that are printed, from the answers that stand in the two outputs: line by line they are the definition's.
use mathlib.Core.Path.{◌≡◌, refl}
use mathlib.Core.List.{List, map}
use Prim.Native.Nat.{ℕ, zero, suc, ◌≤◌, ◌<◌}
use native.Mathlib.Omega.{arith}
use lib.Ieee.{Float, nan}
use lib.ListN.{length, take, get_or}
use lib.Seq.{take-suc, take-length}
use Rattle.definition.specs.Lists.{joined, over}
use Rattle.definition.specs.Metric.{whole}
use Rattle.definition.specs.Beam.{Item, nobody}
use Rattle.definition.specs.Seek.{print_item, print_found}
use Rattle.laws.specs.Members.{joined_snoc}
use Rattle.laws.specs.All.{All, all_at}
use Rattle.whole.specs.Whole.{limit, count_whole, is_whole}
use Rattle.search.specs.Reading.{front_at}
use Rattle.seek_print.specs.Printed.{Wholes, lines_up, found_text}

-- its distance is one that an f32 holds
abbrev pub Small : Item → Type 0
Small c = c.dist ≤ limit

module _ (items : List Item) (ids₀ ids : List ℕ) (dists₀ dists : List Float) (p : ids ≡ over (map (λ (a : Item). a.id) items) ids₀)
    (q : dists ≡ over (map (λ (a : Item). whole a.dist) items) dists₀) (t : All Small items) where
  id_at_lem : (i : ℕ) → i < length items → get_or ids i 0 ≡ (get_or items i nobody).id
  unfolding over
  id_at_lem i h = rw p (front_at (λ (a : Item). a.id) items _ i 0 nobody h)

  dist_at : (i : ℕ) → i < length items → get_or dists i nan ≡ whole (get_or items i nobody).dist
  unfolding over
  dist_at i h = rw q (front_at (λ (a : Item). whole a.dist) items _ i nan nobody h)

  pub wholes : Wholes dists (length items)
  wholes = record { at = λ i h. rw (dist_at i h) (is_whole (get_or items i nobody).dist (all_at Small nobody items t i h)) }

  lines_are : (i : ℕ) → i ≤ length items → lines_up ids dists i ≡ joined (map print_item (take i items))
  unfolding lines_up joined
  lines_are zero h = refl
  lines_are (suc i) h =
      let here = get_or items i nobody in
      let number = count_whole here.dist (all_at Small nobody items t i h) in
      rw (take-suc items i nobody h, joined_snoc print_item (take i items) here, lines_are i (omega arith), id_at_lem i h, dist_at i h, number) refl

  pub found_is : found_text ids dists (length items) ≡ print_found items
  unfolding found_text print_found
  found_is = rw (lines_are (length items) (omega arith), take-length items) refl
