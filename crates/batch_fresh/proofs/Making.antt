-- From the collected pool to the fresh row of the definition: the pool is the definition's in some order, its distances are the definition's, and pruning does
-- not depend on the order.
use mathlib.Core.Path.{◌≡◌, refl, sym, ap, ap₂, ◌∙◌, subst}
use mathlib.Core.Bool.{true}
use mathlib.Core.List.Memᴰ.{not-nil}
use mathlib.Core.List.{List, [], ◌∷◌, ◌++◌, map}
use Prim.Native.Nat.{ℕ, ◌+◌, ◌*◌, ◌-◌, ◌≤◌, ◌<◌}
use native.Mathlib.Nat.{le_trans}
use native.Mathlib.Omega.{arith}
use borrow.Author.Tests.{ne_eqb}
use lib.Ieee.{Float}
use lib.ListN.{length, get_or, take, drop, length-take, length-drop}
use lib.Seq.{length-take-le, take-take, drop-drop}
use Rattle.definition.specs.Lists.{is_in, joined}
use Rattle.definition.specs.Metric.{from_query, between}
use Rattle.definition.specs.Beam.{Item}
use Rattle.definition.specs.Tables.{padded}
use Rattle.definition.specs.Slack.{slack}
use Rattle.definition.specs.Prune.{measured, candidates, pruned_from, prune}
use Rattle.definition.specs.Batch.{prune_ids, wide_row, wide_ids, collected, pool, fresh_of}
use Rattle.definition.specs.Outcome.{setting_of}
use Rattle.laws.specs.All.{All}
use Rattle.laws.specs.Apart.{Apart, nobody}
use Rattle.laws.specs.Listed.{fresh_width}
use Rattle.laws.specs.Members.{Same}
use Rattle.laws.specs.Paired.{items_of, items-measured}
use Rattle.laws.specs.Parts.{part, drop_take, part_length, part_at, within_below, within_above, within_at, within_wider, within_trans}
use Rattle.laws.specs.Rising.{rising_keeps, rising_asc, asc_apart}
use Rattle.whole.specs.Whole.{limit}
use Rattle.scratch.specs.Layout.{pool_at, stamps_at, pool_dists_at, pool_end, most_factors, fresh_row_at}
use Rattle.scratch.specs.Lent.{Lent, lent}
use Rattle.given.specs.Given.{Given, setting, WalkLimits}
use Rattle.metric.specs.Exact.{VectorIn}
use Rattle.metric.specs.Laws.{vector_in}
use Rattle.prune_pool.specs.Says.{Distinct}
use Rattle.prune_pool.specs.Free.{all-mem, apart_distinct, candidates-free}
use Rattle.prune.specs.Says.{Measurable}
use Rattle.marks.specs.Counting.{count_none}
use Rattle.greedy.specs.declared.Plan.{Plan}
use Rattle.batch_pool.specs.declared.Collected.{Collected}
use Rattle.batch_pool.specs.Pooled.{pool_marks}
use Rattle.batch_pool.specs.Regions.{stage, pool_words_of, pool_of, Holding, visits, pooled_ids}
use Rattle.batch_pool.proofs.Adding.{mark_at, pooled_few}
use Rattle.batch_pool.proofs.Lending.{room_kept}
use Rattle.theory.specs.prune.Pruned.{pruned-ids}
use Rattle.theory.specs.Metric.{Bytes, between-small}
use Rattle.batch_fresh.specs.Made.{plan_of, Between, Insertion, fresh_for, from_node, NodePool, Fit, RowMade}
use Rattle.batch_fresh.specs.Says.{lent_ids, lent_dists, Prunable, pruned_for, Fresh}

-- ---- before a node: no stamp is its own, so the pool is empty
stamp_at : (n : ℕ) (words : List ℕ) (i : ℕ) → i < n → get_or (pool_words_of n words) (n + i) 0 ≡ get_or words (stamps_at n + i) 0
stamp_at n words i h =
    let q : pool_at n + (n + i) ≡ stamps_at n + i = omega arith in
    part_at (pool_at n) (pool_end n) words (n + i) 0 (omega arith) ∙ ap (λ (k : ℕ). get_or words k 0) q

pub holding_blank : {g : Given} {epoch p : ℕ} {words : List ℕ} → Between g epoch p words → Holding (plan_of g) epoch (stage words (p + 1) 0)
unfolding is_in
holding_blank {g} {epoch} {p} {words} b =
    let n = g.n in
    let there = pool_of g.n (stage words (p + 1) 0) in
    let w = b.word_room in
    let room : pool_end g.n ≤ length words = omega arith in
    let stamps : (i : ℕ) → i < g.n → get_or (pool_words_of g.n words) (g.n + i) 0 ≤ p =
    λ i h. subst (λ (k : ℕ). k ≤ p) (sym (stamp_at n words i h)) (b.stamps i h) in
    record {
      room = b.room;
      pool_room = room;
      pooled = record {
        size = part_length (pool_at n) (pool_end n) words room ∙ omega arith;
        counted = count_none (p + 1) (pool_marks n there)
            (λ i h e.
            let l : i < g.n = omega (arith, length-take n (drop n there.words)) in
            let k = stamps i l in
            let q = mark_at n there i l in
            omega arith);
        marks_le = λ i h. let k = stamps i h in omega arith;
        marks = λ i h. ne_eqb (get_or there.words (n + i) 0) (p + 1) (λ e. let k = stamps i h in omega arith);
        once = nobody;
        below = λ i m. absurd (not-nil m);
      };
    }

-- a stretch within a part: it begins k places behind where the part does
part_inner : {A : Type 0} (a e k b len : ℕ) (l : List A) → b ≡ a + k → b + len ≤ e → part b (b + len) l ≡ take len (drop k (part a e l))
part_inner a e k b len l q h =
    let r : (b + len) - b ≡ len = omega arith in
    ap₂ (λ (m c : ℕ). take m (drop c l)) r q
    ∙ ap (take len) (sym (drop-drop k a l))
    ∙ sym (take-take len ((e - a) - k) (drop k (drop a l)) (omega arith))
    ∙ ap (take len) (sym (drop_take k (e - a) (drop a l)))

-- ---- the pool is the definition's, in some order
module _ {g : Given} {wide : List ℕ} {i : Insertion} {before at : List ℕ} {c : Collected} (limits : WalkLimits g) (bytes : Bytes g.vectors)
    (pooled : NodePool g wide i before at c) where
  -- the distances between entries, and the ids of the pool as they lie, and their distances
  abbrev far : ℕ → ℕ → ℕ
  far = between g.dim g.vectors

  abbrev got : List ℕ
  got = take c.len (pool_words_of g.n at)

  abbrev got_dists : List ℕ
  got_dists = take c.len (drop (2 * g.n) (pool_words_of g.n at))

  distance_is : between g.dim g.vectors i.node ≡ from_node g i.node
  unfolding from_query between
  distance_is = refl

  few : c.len ≤ g.n
  few = pooled_few pooled.grown.holding.pooled

  ids_part : lent_ids g.n c.len at ≡ got
  ids_part = part_inner (pool_at g.n) (pool_end g.n) 0 (pool_at g.n) c.len at (omega arith) (omega (arith, few))

  dists_part : lent_dists g.n c.len at ≡ got_dists
  dists_part = part_inner (pool_at g.n) (pool_end g.n) (2 * g.n) (pool_dists_at g.n) c.len at (omega arith) (omega (arith, few))

  measured_is : got_dists ≡ map (between g.dim g.vectors i.node) got
  measured_is = pooled.grown.added.measured (far i.node) distance_is refl

  small : (xs : List ℕ) → All (λ (d : ℕ). d ≤ limit) (map (between g.dim g.vectors i.node) xs)
  small [] = tt
  small (j ∷ js) = (omega (arith, between-small g.dim g.vectors limits.limits.dim_few bytes i.node j), small js)

  ids-length : length got ≡ c.len
  ids-length = length-take-le c.len (pool_words_of g.n at) (omega (arith, few, pooled.grown.holding.pooled.size))

  dists_length : length got_dists ≡ c.len
  dists_length =
      let there = pool_words_of g.n at in
      length-take-le c.len (drop (2 * g.n) there) (omega (arith, few, length-drop (2 * g.n) there, pooled.grown.holding.pooled.size))

  pool_measurable : Measurable g.dim g.vectors (lent_ids g.n c.len at) (lent_dists g.n c.len at)
  pool_measurable =
      rw (ids_part, dists_part)
      (record {
        same = ids-length ∙ sym dists_length;
        narrow = limits.limits.dim_few;
        rows = all-mem (VectorIn g.dim g.vectors) got
            (λ j m. vector_in g.dim g.vectors g.n j limits.limits.vectors_are (pooled.grown.holding.pooled.below j m));
        small = subst (All (λ (d : ℕ). d ≤ limit)) (sym measured_is) (small got);
      })

  pool_distinct : Distinct (lent_ids g.n c.len at)
  pool_distinct = rw ids_part (apart_distinct pooled.grown.holding.pooled.once)

  items_are : items_of (lent_ids g.n c.len at) (lent_dists g.n c.len at) ≡ measured (between g.dim g.vectors i.node) got
  items_are = ap₂ items_of ids_part (dists_part ∙ measured_is) ∙ items-measured (far i.node) got

  -- all that went into the pool, by the definition
  abbrev all : List ℕ
  all = wide_ids (setting g) wide i.node ++ joined (map (collected (setting g) wide i.node) (i.start ∷ i.seeds))

  -- the same plan, whose rows have w words
  abbrev plan_at : ℕ → Plan
  plan_at w = record { n = g.n; dim = g.dim; width = w; beam = g.params.beam; keep = true }

  ids_are : pooled_ids (plan_at (slack g.params.degree)) (between g.dim g.vectors i.node) wide i.node i.start i.seeds ≡ all
  unfolding pooled_ids visits wide_ids wide_row collected setting_of
  ids_are = refl

  pooled_are : pooled_ids (plan_of g) (from_node g i.node) wide i.node i.start i.seeds ≡ all
  pooled_are =
      ap₂ (λ (d : ℕ → ℕ) (w : ℕ). pooled_ids (plan_at w) d wide i.node i.start i.seeds) (sym distance_is) limits.limits.width_is ∙ ids_are

  same_pool : Same got (pool (setting g) wide i.start i.node i.seeds)
  unfolding pool
  same_pool =
      let s : Same got all = subst (Same got) pooled_are pooled.grown.added.same in
      let k = rising_keeps all in
      record { to = λ z m. k.from z (s.to z m); from = λ z m. s.from z (k.to z m) }

  pool_apart : Apart (pool (setting g) wide i.start i.node i.seeds)
  unfolding pool
  pool_apart = asc_apart (rising_asc _)

  row_is : pruned_for g i.node c.len at ≡ fresh_for g wide i
  unfolding pruned_for fresh_for fresh_of prune_ids prune setting_of
  row_is =
      let same = pool (setting g) wide i.start i.node i.seeds in
      ap (λ (l : List Item). pruned_from far g.params.degree g.params.alpha (candidates i.node l)) items_are
      ∙ ap (pruned_from far g.params.degree g.params.alpha)
      (candidates-free (far i.node) i.node got same pooled.grown.holding.pooled.once pool_apart same_pool)

  row_fit : Fit g.n i.node (fresh_for g wide i)
  unfolding fresh_for fresh_of setting_of
  row_fit =
      let r = pruned-ids (setting g) limits.alpha_low i.node (pool (setting g) wide i.start i.node i.seeds) in
      record {
        once = r.once;
        below = λ x m. pooled.grown.holding.pooled.below x (same_pool.from x (r.within x m));
        not_own = r.not_own;
        most = le_trans r.most limits.limits.degree_few;
      }

  -- ---- the row is pruned
  module _ {epoch : ℕ} (ready : Between g epoch i.place before) (early : i.place < 256) {floats : List Float} where
    pub prune_asks : most_factors ≤ length floats → Prunable g i.place c.len (lent at floats)
    prune_asks room =
        record {
          nodes = limits.limits.nodes;
          place_in = early;
          len_in = few;
          degree_few = limits.limits.degree_few;
          word_room = omega (arith, ready.word_room, pooled.grown.kept.size);
          float_room = room;
          measurable = pool_measurable;
          apart = pool_distinct;
        }

    module _ {after : Lent} (made : Fresh g.n i.place (pruned_for g i.node c.len at) (lent at floats) after) where
      abbrev begin : ℕ
      begin = fresh_row_at g.n i.place

      abbrev end : ℕ
      end = fresh_row_at g.n i.place + fresh_width

      pub row_made : RowMade g wide i (lent before floats) after
      row_made =
          record {
            row = made.row ∙ ap (padded fresh_width) row_is;
            fit = row_fit;
            earlier = λ q h.
                let a = fresh_row_at g.n q in
                within_below begin end at after.words made.words_kept a (a + fresh_width) (omega arith)
                ∙ within_above 0 (pool_end g.n) before at pooled.grown.kept a (a + fresh_width) (omega arith);
            words_kept =
                within_trans 0 end before at after.words
                (within_wider 0 (pool_end g.n) before at pooled.grown.kept 0 end (omega arith) (omega arith))
                (within_wider begin end at after.words made.words_kept 0 end (omega arith) (omega arith));
            floats_kept = made.floats_kept;
          }

      pub row_between : Between g c.epoch (i.place + 1) after.words
      row_between =
          record {
            room =
                room_kept (plan_of g) c.epoch end at after.words pooled.grown.holding.room
                (within_wider begin end at after.words made.words_kept (pool_at g.n) end (omega arith) (omega arith));
            word_room = omega (arith, ready.word_room, row_made.words_kept.size);
            stamps = λ j h.
                let q =
                within_at begin end at after.words made.words_kept (stamps_at g.n + j) 0 (omega arith) ∙ sym (stamp_at g.n at j h) in
                let k = pooled.grown.holding.pooled.marks_le j h in
                omega arith;
          }
