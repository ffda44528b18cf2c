-- A batch from its stamps at 0 to the merged table: the fresh rows are made and then merged, each within the stated room. The merge leaves the marks alone.
use Prim.Native.Nat.{ℕ, ◌+◌, ◌≤◌, ◌<◌}
use native.Mathlib.Omega.{arith}
use mathlib.Core.Path.{◌≡◌, sym, ap, ◌∙◌}
use mathlib.Core.List.{List}
use lib.ListN.{length, get_or, replicate}
use Rattle.definition.specs.Batch.{batch, merged}
use Rattle.laws.specs.Parts.{part, put, Within, within_at, within_wider, within_trans}
use Rattle.theory.specs.build.Walks.{epoch_after, epoch_end}
use Rattle.scratch.specs.Layout.{stamps_at, pool_dists_at, most_factors, heads_at, links_end, fresh_row_at, fresh_end, floats_end}
use Rattle.scratch.specs.Lent.{Lent, lent}
use Rattle.scratch.specs.Zeroed.{zeroed_within, zeroed_at}
use Rattle.given.specs.Given.{Given, setting, WalkLimits, Wide}
use Rattle.given.specs.Listing.{Listing, walks_of, Listable}
use Rattle.given.specs.Held.{Held, held}
use Rattle.marks.specs.Marked.{Marks}
use Rattle.batch_fresh.specs.Made.{Between, FreshRows}
use Rattle.batch_fresh.specs.Once.{fresh_once, fresh_below, between_start}
use Rattle.batch_merge.specs.Says.{MergeReady, Merged}
use Rattle.batch.specs.Says.{BatchReady, BatchRun}

-- `a` and `e` are where the code found that the stamps begin, and the distances behind them
module _ {g : Given} {l : Listing} {epoch : ℕ} {h : Held} (r : BatchReady g l epoch h) {a e : ℕ} (at : a ≡ stamps_at g.n) (end : e ≡ pool_dists_at g.n)
    (zs : List ℕ) (ez : zs ≡ replicate (length (part a e h.lent.words)) 0) where
  -- the stamps at 0
  abbrev blank : List ℕ
  blank = put a e h.lent.words zs

  fits : e ≤ length h.lent.words
  fits = let w = r.roomy.words in omega arith

  zeroed : Within a e h.lent.words blank
  zeroed = zeroed_within a e h.lent.words (omega arith) fits ez

  marks : Marks g.n blank epoch
  marks i k = omega (arith, within_at a e h.lent.words blank zeroed i 0 (omega arith), r.marks i k)

  stamps : (i : ℕ) → i < g.n → get_or blank (stamps_at g.n + i) 0 ≡ 0
  stamps i k = ap (λ (j : ℕ). get_or blank (j + i) 0) (sym at) ∙ zeroed_at a e h.lent.words (omega arith) fits ez i (omega arith)

  word_room : fresh_end g.n ≤ length blank
  word_room = let w = r.roomy.words in let s = zeroed.size in omega arith

  float_room : most_factors ≤ length h.lent.floats
  float_room = let f = r.roomy.floats in omega arith

  pub fresh_asks : WalkLimits g × (Wide g h.wide × (Listable g l × (Between g epoch 0 blank × ((most_factors ≤ length h.lent.floats)
      × (epoch_after epoch (walks_of g h.wide l) < epoch_end)))))
  fresh_asks = (r.limits, (r.table, (r.listable, (between_start r.limits word_room marks stamps, (float_room, r.epochs)))))

  -- the fresh rows are made
  module _ {made : Lent} (f : FreshRows g h.wide l (lent blank h.lent.floats) made) where
    pub merge_asks : MergeReady g l.nodes (held h.wide made.words made.floats)
    merge_asks =
        let limits = r.limits.limits in
        let w = word_room in
        let v = float_room in
        let s = f.made.words_kept.size in
        let t = f.made.floats_kept.size in
        record {
          limits = limits;
          unlinked = record {
            nodes = limits.nodes;
            few = r.listable.few;
            real = r.listable.nodes_in;
            room = omega arith;
            once = record { apart = fresh_once f.made limits.nodes };
            below = fresh_below f.made;
          };
          table = r.table;
          room = omega arith;
        }

    pub batch_run : {last : ℕ} {after : Held} → Marks g.n made.words last → last ≡ epoch_after epoch (walks_of g h.wide l)
        → Merged g l.nodes (held h.wide made.words made.floats) after → BatchRun g l epoch last h after
    unfolding batch
    batch_run {last} {after} below is m =
        let few = r.listable.few in
        let n = g.n in
        let w = fresh_end g.n in
        let v = floats_end g.n in
        record {
          wide_is = m.wide_is ∙ ap (merged (setting g) h.wide) f.are;
          kept = record {
            words =
                within_trans 0 w h.lent.words blank after.lent.words (within_wider a e h.lent.words blank zeroed 0 w (omega arith) (omega arith))
                (within_trans 0 w blank made.words after.lent.words
                (within_wider 0 (fresh_row_at n (length l.nodes)) blank made.words f.made.words_kept 0 w (omega arith) (omega arith))
                (within_wider (heads_at n) (links_end n) made.words after.lent.words m.words_within 0 w (omega arith) (omega arith)));
            floats =
                within_trans 0 v h.lent.floats made.floats after.lent.floats
                (within_wider 0 most_factors h.lent.floats made.floats f.made.floats_kept 0 v (omega arith) (omega arith))
                (within_wider 0 most_factors made.floats after.lent.floats m.floats_within 0 v (omega arith) (omega arith));
          };
          marks = λ i k. omega (arith, within_at (heads_at n) (links_end n) made.words after.lent.words m.words_within i 0 k, below i k);
          epoch_is = is;
        }
