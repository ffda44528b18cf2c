-- The pool's region lent, and come back: what is in it, and that nothing else differs; and so for the visited, put into the pool one after another.
use mathlib.Core.Path.{◌≡◌, sym, ap, ◌∙◌, subst}
use mathlib.Core.List.{List, [], ◌∷◌, ◌++◌}
use Prim.Native.Nat.{ℕ, ◌+◌, ◌-◌, ◌≤◌, ◌<◌}
use native.Mathlib.Omega.{arith}
use native.Mathlib.Numerals.{add-one}
use lib.ListN.{length, get_or, take}
use lib.Seq.{take-suc}
use borrow.Rule.Slice.PartMut.{put_mid}
use Rattle.laws.specs.Parts.{Within, part_length, part_at, within_at, within_trans, put_part, put_within}
use Rattle.scratch.specs.Layout.{visited_at, visited_end, visited_dists_at, pool_at, pool_end}
use Rattle.greedy.specs.declared.Plan.{Plan}
use Rattle.greedy.specs.Scratch.{space_kept, Room}
use Rattle.batch_pool.specs.Pooled.{pool_as, Added}
use Rattle.batch_pool.specs.Regions.{Stage, stage, pool_words_of, pool_of, seen_of, Seen, Filled}
use Rattle.batch_pool.proofs.Adding.{added_then}

-- the words of the pool came back, with r ids in it
abbrev pub returned : ℕ → Stage → List ℕ → ℕ → Stage
returned n s pool r = stage (put_mid (pool_at n) (pool_end n - pool_at n) s.words pool) s.stamp r

module _ (n : ℕ) (s : Stage) (pool : List ℕ) (room : pool_end n ≤ length s.words) (same : length pool ≡ length (pool_words_of n s.words)) where
  pub words_lent : Within (pool_at n) (pool_end n) s.words (put_mid (pool_at n) (pool_end n - pool_at n) s.words pool)
  words_lent = put_within (pool_at n) (pool_end n) s.words pool (omega arith) room same

  pub added_lent : {xs : List ℕ} {Known : (ℕ → ℕ) → Type 0} (r : ℕ) → Added n (pool_of n s) (pool_as pool s.stamp r) xs Known
      → Added n (pool_of n s) (pool_of n (returned n s pool r)) xs Known
  added_lent r a = rw (put_part (pool_at n) (pool_end n) s.words pool (omega arith) room same) a

-- a walk's room lies below the pool, so it is kept when nothing below the pool differs
pub room_kept : (p : Plan) (epoch end : ℕ) (a b : List ℕ) → Room p epoch a → Within (pool_at p.n) end a b → Room p epoch b
room_kept p epoch end a b m w =
    record {
      space = space_kept m.space w.size;
      marks = λ i h. subst (λ (k : ℕ). k ≤ epoch) (sym (within_at (pool_at p.n) end a b w i 0 (omega arith))) (m.marks i h);
    }

-- ---- the visited, one after another
module _ (n : ℕ) (s₀ s : Stage) (k : ℕ) (f : Filled n s₀ s k) (h : k < n) (room : pool_end n ≤ length s₀.words) where
  abbrev words₀ : List ℕ
  words₀ = s₀.words

  abbrev id : ℕ
  id = get_or s.words (visited_at n + k) 0

  abbrev dist : ℕ
  dist = get_or s.words (visited_dists_at n + k) 0

  words_room : pool_end n ≤ length s.words
  words_room = omega (arith, f.kept.size)

  -- what lies below the pool is as it was
  below : (i : ℕ) → i < pool_at n → get_or s.words i 0 ≡ get_or words₀ i 0
  below i l = within_at (pool_at n) (pool_end n) words₀ s.words f.kept i 0 l

  pub id_kept : id ≡ get_or words₀ (visited_at n + k) 0
  id_kept = below (visited_at n + k) (omega arith)

  dist_kept : dist ≡ get_or words₀ (visited_dists_at n + k) 0
  dist_kept = below (visited_dists_at n + k) (omega arith)

  seen_length : length (seen_of n words₀) ≡ n
  seen_length = part_length (visited_at n) (visited_end n) words₀ (omega arith) ∙ omega arith

  seen_more : take (k + 1) (seen_of n words₀) ≡ take k (seen_of n words₀) ++ (id ∷ [])
  seen_more =
      rw (add-one k)
      (take-suc (seen_of n words₀) k 0 (omega (arith, seen_length))
      ∙ ap (λ (x : ℕ). take k (seen_of n words₀) ++ (x ∷ [])) (part_at (visited_at n) (visited_end n) words₀ k 0 (omega arith) ∙ sym id_kept))

  pub filled_more : (pool : List ℕ) (same : length pool ≡ length (pool_words_of n s.words)) (r : ℕ)
      → Added n (pool_of n s) (pool_as pool s.stamp r) (id ∷ []) (λ d. dist ≡ d id) → Filled n s₀ (returned n s pool r) (k + 1)
  filled_more pool same r a =
      record {
        added =
            rw seen_more
            (added_then (Seen n words₀ (k + 1)) f.added (added_lent n s pool words_room same r a)
            (λ d known j l. known j (omega arith))
            (λ d known. dist_kept ∙ known k (omega arith) ∙ ap d (sym id_kept)));
        kept = within_trans (pool_at n) (pool_end n) words₀ s.words _ f.kept (words_lent n s pool words_room same);
      }
