-- What is drawn is acceptable: what a drawing call that is not refused leaves is not refused by the calls that take it. Opening rows: 8 does not come from
-- open or build. An order: 9 does not come from build. Pivots: 12 does not come from medoid. Groups of seeds, one for each node, each drawn from any state: 7
-- does not come from batch or build. A single draw below m, m not 0, is below m. Opening rows are full: min(degree, n-1) ids each. And each seed is found
-- within so many tries.
use Rattle.std.specs.Prelude.{ℕ, suc, ◌-◌, ◌*◌, ◌<◌, min, ◌≡◌, ◌≢◌, false, ◌||◌, get_or, take}
use Rattle.std.proofs.Common.{arith, sym, ap₂, ◌∙◌, subst, take-take, get_or-take}
use Rattle.std.proofs.Math.Path.{refl, ap}
use Rattle.std.proofs.Math.Bool.{true}
use mathlib.Core.List.{List, ◌∷◌, Memᴰ as Mem}
use borrow.Author.Tests.{eq-eqb}
use Rattle.std.proofs.Math.ListN.{length}
use Rattle.definition.specs.Lists.{each, joined, over}
use Rattle.definition.specs.Tables.{row, ids}
use Rattle.definition.specs.Slack.{slack}
use Rattle.definition.specs.Draws.{advance, drawn, rows_drawn, seeds_drawn, order_drawn, pivots_drawn}
use Rattle.definition.specs.Refusals.{RowsCall, SeedsCall, DrawsCall, BatchCall, OpenCall, BuildCall, MedoidCall, rows_number, seeds_number, order_number}
use Rattle.definition.specs.Refusals.{pivots_number, batch_number, open_number, build_number, medoid_number}
use Rattle.definition.specs.Refusals.{bad_length, bad_extra, bad_seeds, bad_table, bad_order, bad_pivots, good_group}
use Rattle.definition.specs.Outcome.{answer, FillOut, fill_kept, fill_done, draw_out, rows_out, seeds_out, order_out, pivots_out}
use Rattle.laws.specs.Truth.{neither_or}
use Rattle.laws.specs.Draws.{advance_lt, drawn_lt}
use Rattle.laws.specs.Members.{mem_each, length-joined, groups-joined}
use Rattle.laws.specs.Writing.{over_front, over_all}
use Rattle.theory.specs.Kept.{TableKept}
use Rattle.accepted.specs.Chain.{passed}
use Rattle.accepted.specs.Outcomes.{by_success}
use Rattle.accepted.specs.Checks.{count_good, count_low, extra_good, length_good, length-passes, table_passes}
use Rattle.accepted.specs.Numbers.{batch_not_7, open_not_8, build_not_7, build_not_8, build_not_9, medoid_not_12}
use Rattle.theory.specs.draws.States.{after}
use Rattle.theory.specs.draws.Tries.{FoundFrom}
use Rattle.theory.specs.draws.Pivots.{pivots_pass, pivots_many}
use Rattle.theory.specs.draws.Permutation.{order_passes, order_many}
use Rattle.theory.specs.draws.Group.{group_good, group_many, group-found}
use Rattle.theory.specs.draws.Opening.{rows_kept, rows_full}

-- a group that a seeds call left
pub record DrawnFor (n start extra : ℕ) (group : List ℕ) : Type 0 where
  pub call : SeedsCall
  pub done : seeds_number call ≡ 0
  pub n_is : call.n ≡ n
  pub start_is : call.start ≡ start
  pub extra_is : call.extra ≡ extra
  pub group_is : group ≡ take call.extra (seeds_out call).out

pub draw-below : (m s : ℕ) → 0 < m → (draw_out m s).answer.draw < m
unfolding draw_out answer
draw-below m s h = drawn_lt m (advance s) h (advance_lt s)

-- ---- opening rows

rows_are : (c : RowsCall) → rows_number c ≡ 0 → (rows_out c).out ≡ (rows_drawn c.n c.degree c.state).words
unfolding rows_out rows_number fill_done
rows_are c e =
    let p₂ = passed 1 _ _ e in
    let p₃ = passed 2 _ _ p₂.1 in
    let p₈ = passed 7 _ _ p₃.1 in
    let d = rows_drawn c.n c.degree c.state in
    let k = rows_kept c.n c.degree c.state (count_good c.n p₂.0).0 in
    let size = length_good c.n c.degree c.table p₈.0 in
    ap (λ (o : FillOut). o.out) (by_success (fill_kept (rows_number c) c.table c.state) (fill_done d c.table) (rows_number c) e) ∙ over_all
    d.words c.table (k.size ∙ sym size)

pub drawn_rows_kept : (c : RowsCall) → rows_number c ≡ 0 → TableKept c.n c.degree (rows_out c).out
unfolding rows_number
drawn_rows_kept c e =
    subst (λ (l : List ℕ). TableKept c.n c.degree l) (sym (rows_are c e))
    (rows_kept c.n c.degree c.state (count_good c.n (passed 1 _ _ e).0).0)

-- no row has fewer ids than it can: each has min(degree, n-1), none where n is 1
pub drawn_rows_full : (c : RowsCall) → rows_number c ≡ 0 → (i : ℕ) → i < c.n → length (ids (row c.degree (rows_out c).out i)) ≡ min c.degree (c.n - 1)
unfolding rows_number
drawn_rows_full c e i h =
    let count = (passed 1 _ _ e).0 in
    ap (λ (l : List ℕ). length (ids (row c.degree l i))) (rows_are c e)
    ∙ rows_full c.n c.degree c.state (count_good c.n count).0 (count_low (count_good c.n count).1) i h

rows_accepted : (c : RowsCall) → rows_number c ≡ 0 → (n degree : ℕ) (opening : List ℕ) → n ≡ c.n → degree ≡ c.degree → opening ≡ (rows_out c).out
    → bad_table n degree opening ≡ false
unfolding rows_number
rows_accepted c e n degree opening p q o =
    ap₂ (λ (m d : ℕ). bad_table m d opening) p q ∙ ap (bad_table c.n c.degree) o
    ∙ table_passes c.n c.degree (rows_out c).out (count_low (count_good c.n (passed 1 _ _ e).0).1) (drawn_rows_kept c e)

pub drawn_rows_open : (c : RowsCall) → rows_number c ≡ 0 → (o : OpenCall) → o.n ≡ c.n → o.degree ≡ c.degree → o.opening ≡ (rows_out c).out
    → length o.wide ≡ o.n * slack o.degree → open_number o ≢ 8
drawn_rows_open c e o p q r size =
    open_not_8 o
    (neither_or (bad_table o.n o.degree o.opening) (bad_length o.n (slack o.degree) o.wide)
    (rows_accepted c e o.n o.degree o.opening p q r)
    (length-passes o.n (slack o.degree) o.wide size))

pub drawn_rows_build : (c : RowsCall) → rows_number c ≡ 0 → (b : BuildCall) → b.n ≡ c.n → b.params.degree ≡ c.degree → b.opening ≡ (rows_out c).out
    → length b.wide ≡ b.n * slack b.params.degree → length b.closed ≡ b.n * b.params.degree → build_number b ≢ 8
drawn_rows_build c e b p q r wide closed =
    let w = bad_length b.n (slack b.params.degree) b.wide in
    let k = bad_length b.n b.params.degree b.closed in
    build_not_8 b
    (neither_or (bad_table b.n b.params.degree b.opening) (w || k) (rows_accepted c e b.n b.params.degree b.opening p q r)
    (neither_or w k (length-passes b.n (slack b.params.degree) b.wide wide) (length-passes b.n b.params.degree b.closed closed)))

-- ---- an order

pub drawn_order_build : (c : DrawsCall) → order_number c ≡ 0 → (b : BuildCall) → b.n ≡ c.n → b.order ≡ take c.n (order_out c).out → build_number b ≢ 9
unfolding order_out order_number fill_done
drawn_order_build c e b p o =
    let d = order_drawn c.n c.state in
    let some = (count_good c.n (passed 1 _ _ e).0).0 in
    let out : (order_out c).out ≡ over d.words c.out = ap (λ (w : FillOut). w.out)
    (by_success (fill_kept (order_number c) c.out c.state) (fill_done d c.out) (order_number c) e) in
    build_not_9 b
    (ap₂ bad_order p (o ∙ ap (take c.n) out ∙ over_front d.words c.out c.n (order_many c.n c.state some)) ∙ order_passes c.n
    c.state some)

-- ---- pivots

pub drawn_pivots_choose : (c : DrawsCall) → pivots_number c ≡ 0 → (m : MedoidCall) → m.n ≡ c.n → m.pivots ≡ take (min 8 c.n) (pivots_out c).out
    → medoid_number m ≢ 12
unfolding pivots_out pivots_number fill_done
drawn_pivots_choose c e m p o =
    let d = pivots_drawn c.n c.state in
    let out : (pivots_out c).out ≡ over d.words c.out = ap (λ (w : FillOut). w.out)
    (by_success (fill_kept (pivots_number c) c.out c.state) (fill_done d c.out) (pivots_number c) e) in
    medoid_not_12 m
    (ap₂ bad_pivots p (o ∙ ap (take (min 8 c.n)) out ∙ over_front d.words c.out (min 8 c.n) (pivots_many c.n c.state))
    ∙ pivots_pass c.n c.state (count_good c.n (passed 1 _ _ e).0).0)

-- ---- groups of seeds

seeds_are : (c : SeedsCall) → seeds_number c ≡ 0 → take c.extra (seeds_out c).out ≡ (seeds_drawn c.n c.start c.extra c.state).words
unfolding seeds_out fill_done
seeds_are c e =
    let d = seeds_drawn c.n c.start c.extra c.state in
    ap (λ (o : FillOut). take c.extra o.out) (by_success (fill_kept (seeds_number c) c.out c.state) (fill_done d c.out) (seeds_number c) e)
    ∙ over_front d.words c.out c.extra (group_many c.n c.start c.extra c.state)

-- the seed at place k is the first that is free of those from its draw on, with the start and the seeds before it taken. At most k + 1 places are passed over
-- (so at most `extra` for any seed), and one more is looked at
pub drawn_seeds_tries : (c : SeedsCall) → seeds_number c ≡ 0 → (k : ℕ) → k < c.extra
    → FoundFrom c.n (c.start ∷ take k (seeds_out c).out) (drawn c.n (after (suc k) c.state)) (suc k) (get_or (seeds_out c).out k 0)
unfolding seeds_number
drawn_seeds_tries c e k h =
    let p₂ = passed 1 _ _ e in
    let p₆ = passed 5 _ _ p₂.1 in
    let p₇ = passed 6 _ _ p₆.1 in
    let r = drawn c.n (after (suc k) c.state) in
    let words = (seeds_drawn c.n c.start c.extra c.state).words in
    let front : take k words ≡ take k (seeds_out c).out = ap (take k) (sym (seeds_are c e)) ∙ take-take k c.extra (seeds_out c).out (omega arith) in
    let at : get_or words k 0 ≡ get_or (seeds_out c).out k 0 =
    ap (λ (l : List ℕ). get_or l k 0) (sym (seeds_are c e)) ∙ get_or-take c.extra (seeds_out c).out k 0 h in
    subst (λ (x : ℕ). FoundFrom c.n (c.start ∷ take k (seeds_out c).out) r (suc k) x) at
    (subst (λ (l : List ℕ). FoundFrom c.n (c.start ∷ l) r (suc k) (get_or words k 0)) front
    (group-found c.n c.start c.extra c.state (extra_good c.n c.extra p₇.0).1 k h))

module _ (n start extra : ℕ) (limits : bad_extra n extra ≡ false) where
  -- it is some state's
  group_drawn : (group : List ℕ) (g : DrawnFor n start extra group) → group ≡ (seeds_drawn n start extra g.call.state).words
  group_drawn group g =
      g.group_is ∙ seeds_are g.call g.done
      ∙ ap₂ (λ (m s : ℕ). (seeds_drawn m s g.call.extra g.call.state).words) g.n_is g.start_is
      ∙ ap (λ (k : ℕ). (seeds_drawn n start k g.call.state).words) g.extra_is

  groups_pass : (gs : List (List ℕ)) → ((group : List ℕ) → Mem group gs → DrawnFor n start extra group) → (count : ℕ) → count ≡ length gs
      → bad_seeds n extra start count (joined gs) ≡ false
  unfolding bad_seeds
  groups_pass gs f count many =
      let size : (group : List ℕ) → Mem group gs → length group ≡ extra = λ l m. ap length (group_drawn l (f l m)) ∙ group_many n start extra
      (f l m).call.state in
      let good : each (good_group n start) gs ≡ true =
      mem_each (good_group n start) gs
      (λ l m. ap (good_group n start) (group_drawn l (f l m)) ∙ group_good n start extra (f l m).call.state (extra_good n extra limits).1) in
      rw (many, limits, eq-eqb (length (joined gs)) (length gs * extra) (length-joined extra gs size), groups-joined extra gs size, good) refl

-- as many groups as nodes. (With no node there is no seeds call; the limits on extra seeds are then checked all the same.)
pub drawn_seeds_batch : (b : BatchCall) → bad_extra b.n b.params.extra ≡ false → (gs : List (List ℕ))
    → ((group : List ℕ) → Mem group gs → DrawnFor b.n b.start b.params.extra group) → length b.nodes ≡ length gs → b.seeds ≡ joined gs
    → batch_number b ≢ 7
drawn_seeds_batch b limits gs f many s =
    batch_not_7 b (ap (bad_seeds b.n b.params.extra b.start (length b.nodes)) s ∙ groups_pass b.n b.start b.params.extra limits gs f
    (length b.nodes) many)

pub drawn_seeds_build : (b : BuildCall) → bad_extra b.n b.params.extra ≡ false → (gs : List (List ℕ))
    → ((group : List ℕ) → Mem group gs → DrawnFor b.n b.start b.params.extra group) → b.n ≡ length gs → b.seeds ≡ joined gs → build_number b ≢ 7
drawn_seeds_build b limits gs f many s =
    build_not_7 b (ap (bad_seeds b.n b.params.extra b.start b.n) s ∙ groups_pass b.n b.start b.params.extra limits gs f b.n many)
