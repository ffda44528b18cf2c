-- The pool grows: by a row, by a walk, by one walk after another. A walk leaves the pool alone, and what it visited, with its distances, goes into it.
use mathlib.Core.Path.{◌≡◌, refl, sym, subst}
use mathlib.Core.List.{List, [], ◌++◌, map}
use Prim.Native.Nat.{ℕ, ◌+◌, ◌-◌, ◌*◌, ◌≤◌, ◌<◌}
use native.Mathlib.Numerals.{add-one}
use native.Mathlib.Omega.{arith}
use lib.ListN.{length, get_or, take}
use lib.Seq.{take-suc}
use borrow.Rule.Slice.PartMut.{put_mid}
use Rattle.definition.specs.Lists.{joined}
use Rattle.definition.specs.Tables.{ids}
use Rattle.laws.specs.Members.{joined_snoc}
use Rattle.laws.specs.Parts.{part, Within, within_above, within_wider, within_trans, within_none}
use Rattle.laws.specs.Tables.{part-row}
use Rattle.scratch.specs.Layout.{pool_at, pool_end}
use Rattle.greedy.specs.declared.Plan.{Plan}
use Rattle.greedy.specs.declared.Walked.{Walked}
use Rattle.greedy.specs.Scratch.{walk_of, walk_end_all, Walks}
use Rattle.batch_pool.specs.Pooled.{pool_as, Pooled, Added}
use Rattle.batch_pool.specs.Regions.{Walkable, Stage, stage, pool_words_of, pool_of, seen_of, Seen, SeenBelow, Filled, Holding, Grown, visits, pooled_ids}
use Rattle.batch_pool.proofs.Adding.{added_none, added_then}
use Rattle.batch_pool.proofs.Lending.{returned, words_lent, added_lent, room_kept}
use Rattle.batch_pool.proofs.Visits.{seen_below, seen_known, seen_visits}

-- ---- a walk, and what it visited
module _ {p : Plan} {vectors query table : List ℕ} (w : Walkable p vectors query table) (d : ℕ → ℕ) (start : ℕ) (low : start < p.n) {epoch : ℕ} {s₀ : Stage}
    (h : Holding p epoch s₀) {after keys : List ℕ} {r : Walked} (k : Walks p epoch s₀.words after keys r (walk_of p d table start)) where
  abbrev n : ℕ
  n = p.n

  -- the same pool, in the words as the walk left them
  abbrev s₁ : Stage
  s₁ = stage after s₀.stamp s₀.len

  -- a walk that keeps what it visits ends where the pool begins
  walk_kept : Within 0 (pool_at n) s₀.words after
  walk_kept = subst (λ (e : ℕ). Within 0 e s₀.words after) (walk_end_all p w.keeps) k.words_kept

  pool_same : pool_words_of n after ≡ pool_words_of n s₀.words
  pool_same = within_above 0 (pool_at n) s₀.words after walk_kept (pool_at n) (pool_end n) (omega arith)

  walked_room : pool_end n ≤ length after
  walked_room = omega (arith, walk_kept.size, h.pool_room)

  pub walked : Pooled n (pool_of n s₁) × (((n ≤ 65536) × (pool_end n ≤ length after) × (r.visited ≤ n)) × SeenBelow n after r.visited)
  walked = (
    rw pool_same h.pooled,
    ((h.room.space.nodes, walked_room, k.visited_le), seen_below p w.keeps table w.rows d start low k),
  )

  pub grown_walk : {s : Stage} → Filled n s₁ s r.visited → Grown p r.epoch s₀ s (visits p d table start) d
  grown_walk {s} g =
      record {
        holding =
            record {
              room = room_kept p r.epoch (pool_end n) after s.words k.room g.kept;
              pool_room = omega (arith, g.kept.size, walked_room);
              pooled = g.added.pooled;
            };
        added = rw (sym pool_same, sym (seen_visits p w.keeps table w.rows d start low k)) own;
        kept =
            within_trans 0 (pool_end n) s₀.words after s.words
            (within_wider 0 (pool_at n) s₀.words after walk_kept 0 (pool_end n) (omega arith) (omega arith))
            (within_wider (pool_at n) (pool_end n) after s.words g.kept 0 (pool_end n) (omega arith) (omega arith));
      }
    where
      known : Seen n after r.visited d
      known = seen_known p w.keeps table w.rows d start low k

      own : Added n (pool_of n s₁) (pool_of n s) (take r.visited (seen_of n after)) (λ f. f ≡ d)
      own =
          record {
            pooled = g.added.pooled;
            same = g.added.same;
            measured = λ f q m. g.added.measured f (subst (Seen n after r.visited) (sym q) known) m;
          }

-- ---- none, and one after another
module _ (p : Plan) (d : ℕ → ℕ) where
  pub grown_none : (epoch : ℕ) (s : Stage) → Holding p epoch s → Grown p epoch s s [] d
  grown_none epoch s h = record { holding = h; added = added_none (λ f. f ≡ d) h.pooled; kept = within_none 0 (pool_end p.n) s.words }

  pub grown_then : (e₁ e₂ : ℕ) (s₀ s₁ s₂ : Stage) (xs ys : List ℕ) → Grown p e₁ s₀ s₁ xs d → Grown p e₂ s₁ s₂ ys d → Grown p e₂ s₀ s₂ (xs ++ ys) d
  grown_then e₁ e₂ s₀ s₁ s₂ xs ys g h =
      record {
        holding = h.holding;
        added = added_then (λ f. f ≡ d) g.added h.added (λ f q. q) (λ f q. q);
        kept = within_trans 0 (pool_end p.n) s₀.words s₁.words s₂.words g.kept h.kept;
      }

  -- the row was added to the pool's region, lent as a part
  pub grown_row : (epoch : ℕ) (s : Stage) (h : Holding p epoch s) (pool : List ℕ) (same : length pool ≡ length (pool_words_of p.n s.words)) (r : ℕ)
      (xs : List ℕ) → Added p.n (pool_of p.n s) (pool_as pool s.stamp r) xs (λ f. f ≡ d) → Grown p epoch s (returned p.n s pool r) xs d
  grown_row epoch s h pool same r xs a =
      let w = words_lent p.n s pool h.pool_room same in
      let b = added_lent p.n s pool h.pool_room same r a in
      record {
        holding =
            record {
              room = room_kept p epoch (pool_end p.n) s.words _ h.room w;
              pool_room = omega (arith, w.size, h.pool_room);
              pooled = b.pooled;
            };
        added = b;
        kept = within_wider (pool_at p.n) (pool_end p.n) s.words _ w 0 (pool_end p.n) (omega arith) (omega arith);
      }

  -- the same, of a part that was lent by its bounds
  pub grown_part : {epoch stamp : ℕ} {words : List ℕ} (h : Holding p epoch (stage words stamp 0)) {from end : ℕ} (a : from ≡ pool_at p.n)
      (b : end ≡ pool_end p.n) {pool : List ℕ} (same : length pool ≡ length (part from end words)) {r : ℕ} {xs : List ℕ}
      → Added p.n (pool_as (part from end words) stamp 0) (pool_as pool stamp r) xs (λ f. f ≡ d)
      → Grown p epoch (stage words stamp 0) (stage (put_mid from (end - from) words pool) stamp r) xs d
  grown_part {epoch} {stamp} {words} h a b {pool} same {r} {xs} added =
      rw (a, b) (grown_row epoch (stage words stamp 0) h pool (rw (a, b) at same) r xs (rw (a, b) at added))

-- ---- the lists of several walks
pub joined_next : (f : ℕ → List ℕ) (l : List ℕ) (k : ℕ) → k < length l → joined (map f (take (k + 1) l)) ≡ joined (map f (take k l)) ++ f (get_or l k 0)
joined_next f l k h = rw (add-one k, take-suc l k 0 h) (joined_snoc f (take k l) (get_or l k 0))

pub joined-none : (f : ℕ → List ℕ) → joined (map f []) ≡ []
unfolding joined
joined-none f = refl

-- ---- the row, the walk from the start, the walks from the seeds
module _ (p : Plan) (d : ℕ → ℕ) (wide : List ℕ) (node start : ℕ) (seeds : List ℕ) (e₁ e₂ e₃ : ℕ) (s₀ s₁ s₂ s₃ : Stage) where
  pub grown_pool : Grown p e₁ s₀ s₁ (ids (part (node * p.width) (node * p.width + p.width) wide)) d → Grown p e₂ s₁ s₂ (visits p d wide start) d
      → Grown p e₃ s₂ s₃ (joined (map (visits p d wide) seeds)) d → Grown p e₃ s₀ s₃ (pooled_ids p d wide node start seeds) d
  unfolding pooled_ids joined
  grown_pool a b c =
      grown_then p d e₁ e₃ s₀ s₁ s₃ _ _ (subst (λ (l : List ℕ). Grown p e₁ s₀ s₁ (ids l) d) (part-row p.width wide node) a)
      (grown_then p d e₂ e₃ s₁ s₂ s₃ _ _ b c)
