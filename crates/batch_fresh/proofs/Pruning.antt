-- The row pruned from a pool within the two slices: ids and distances of the pool are read where they lie, and the factors are lent from the front of the
-- floats. The row is made beside the words, of which the pool is lent, and then put down in its place: as it is, since it is as wide.
use mathlib.Core.Path.{◌≡◌, sym, ap, ap₂, ◌∙◌}
use mathlib.Core.List.{List, ◌++◌, append-nil}
use Prim.Native.Nat.{ℕ, ◌+◌, ◌-◌, ◌≤◌}
use native.Mathlib.Omega.{arith}
use lib.Ieee.{Float}
use lib.ListN.{length, replicate}
use lib.Seq.{take_all}
use Rattle.definition.specs.Beam.{Item}
use Rattle.definition.specs.Metric.{between}
use Rattle.definition.specs.Prune.{prune}
use Rattle.definition.specs.Tables.{pad, row, padded}
use Rattle.laws.specs.Listed.{fresh_width}
use Rattle.laws.specs.Paired.{items_of}
use Rattle.laws.specs.Parts.{part, put, part_length, within_wider, put_part, put_within}
use Rattle.scratch.specs.Layout.{pool_at, pool_dists_at, most_factors, fresh_row_at}
use Rattle.scratch.specs.Lent.{Lent, lent}
use Rattle.given.specs.Given.{Given}
use Rattle.table.specs.Rows.{Written, Stretched, row_here}
use Rattle.batch_fresh.specs.Says.{lent_ids, lent_dists, Prunable, pruned_for, Fresh}

-- a list as long as a row is wide gets no padding
padded_full : (width : ℕ) (xs : List ℕ) → length xs ≡ width → padded width xs ≡ xs
unfolding padded
padded_full width xs e =
    let none : width - length xs ≡ 0 = omega arith in
    ap (λ (k : ℕ). xs ++ replicate k pad) none ∙ append-nil xs

-- put down as the only row of a table, it is the table
put_whole : (l t xs : List ℕ) (r : ℕ) → length l ≡ fresh_width → length t ≡ length l → length xs ≡ fresh_width → Stretched l t 0 fresh_width r xs → t ≡ xs
unfolding row
put_whole l t xs r nl nt nx s =
    sym (take_all fresh_width t (omega arith)) ∙ row_here l t 0 fresh_width r xs s (omega arith) (omega arith) ∙ padded_full fresh_width xs nx

-- `pool` and `dists` are where the code found that the regions begin
module _ {g : Given} {place len : ℕ} {at : Lent} (r : Prunable g place len at) {pool dists : ℕ} (pool-is : pool ≡ pool_at g.n)
    (dists-is : dists ≡ pool_dists_at g.n) where
  -- the pool as it is lent
  abbrev ids : List ℕ
  ids = part pool (pool + len) at.words

  abbrev ds : List ℕ
  ds = part dists (dists + len) at.words

  ids_are : ids ≡ lent_ids g.n len at.words
  ids_are = ap (λ (k : ℕ). part k (k + len) at.words) pool-is

  ds_are : ds ≡ lent_dists g.n len at.words
  ds_are = ap (λ (k : ℕ). part k (k + len) at.words) dists-is

  -- the row was made
  module _ (node : ℕ) (made : List ℕ) {k : ℕ}
      (written : Written made k fresh_width (prune (between g.dim g.vectors) g.params.degree g.params.alpha node (items_of ids ds))) where
    made_is : made ≡ padded fresh_width (pruned_for g node len at.words)
    unfolding pruned_for
    made_is =
        written.words
        ∙ ap (λ (l : List Item). padded fresh_width (prune (between g.dim g.vectors) g.params.degree g.params.alpha node l))
        (ap₂ items_of ids_are ds_are)

    -- and put down from `begin` on
    pub fresh : {begin : ℕ} (words : List ℕ) (fs : List Float) → begin ≡ fresh_row_at g.n place → length made ≡ fresh_width
        → length words ≡ length (part begin (begin + fresh_width) at.words) → length fs ≡ length (part 0 most_factors at.floats)
        → Stretched (part begin (begin + fresh_width) at.words) words 0 fresh_width (length made) made
        → Fresh g.n place (pruned_for g node len at.words) at
        (lent (put begin (begin + fresh_width) at.words words) (put 0 most_factors at.floats fs))
    fresh {begin} words fs begin-is nm nw nf s =
        let end = begin + fresh_width in
        let inside : begin + fresh_width ≤ length at.words = omega (arith, r.word_room, r.place_in) in
        let wide : length (part begin (begin + fresh_width) at.words) ≡ fresh_width = part_length begin end at.words inside ∙ omega arith in
        record {
          row = ap (λ (k : ℕ). part k (k + fresh_width) (put begin end at.words words)) (sym begin-is)
              ∙ put_part begin end at.words words (omega arith) inside nw
              ∙ put_whole (part begin end at.words) words made _ wide nw nm s
              ∙ made_is;
          words_kept =
              within_wider begin end at.words _ (put_within begin end at.words words (omega arith) inside nw) (fresh_row_at g.n place)
              (fresh_row_at g.n place + fresh_width) (omega arith) (omega arith);
          floats_kept = put_within 0 most_factors at.floats fs (omega arith) r.float_room nf;
        }
