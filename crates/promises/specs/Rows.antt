-- Demand 3, first sentence: after open, after any batches (refused ones included), after closing and after a whole build, each row has distinct ids below n,
-- never its own, at most slack of them in a wide table and degree in a closed one, then only padding (Kept).
-- So "8" does not come further on: not from the next batch, not from close, not from a search. And "a batch of no nodes alters no row";
-- "unaffected rows keep their words".
use Rattle.std.specs.Prelude.{ℕ, zero, suc, ◌*◌, ◌<◌, ◌≡◌, refl, ◌≢◌, false, length}
use Rattle.std.proofs.Common.{sym, ap, ap₂, ◌∙◌, subst}
use mathlib.Core.List.{List, [], Memᴰ as Mem}
use Rattle.definition.specs.Lists.{groups, cleared}
use Rattle.definition.specs.Tables.{row}
use Rattle.definition.specs.declared.Candidate.{Candidate}
use Rattle.definition.specs.Floats.{nought}
use Rattle.definition.specs.Slack.{slack}
use Rattle.definition.specs.Batch.{Listed, fresh_rows, affected, wide_row, merged_row, batch}
use Rattle.definition.specs.Build.{open', built}
use Rattle.definition.specs.Refusals.{BatchCall, OpenCall, CloseCall, BuildCall, SearchCall, batch_number, open_number, close_number, build_number, search_number}
use Rattle.definition.specs.Refusals.{records_number, bad_length, bad_table, bad_searched, build_words, build_floats}
use Rattle.definition.specs.Outcome.{OpenOut, CloseOut, BuildOut, by_number, setting_of, batch_kept, batch_done, batch_out, open_kept, open_done, open_out, close_kept}
use Rattle.definition.specs.Outcome.{done, close_done, close_out, build_kept, built_wide, build_done, build_out}
use Rattle.laws.specs.Truth.{neither_or}
use Rattle.theory.specs.Kept.{TableKept}
use Rattle.theory.specs.Rule.{ruled_kept}
use Rattle.theory.specs.build.Batches.{opened_kept, batch_kept_lem, batch_row, closed_kept, batches_kept}
use Rattle.theory.specs.build.Unaffected.{batch-none, fresh_node, affected-none}
use Rattle.accepted.specs.Outcomes.{by_success}
use Rattle.accepted.specs.Checks.{count_low, length-passes, table_passes, searched_kept}
use Rattle.accepted.specs.Build.{open_accepted, batch-accepted, close-accepted, build_accepted}
use Rattle.accepted.specs.Numbers.{batch_not_8, close_not_8, search_not_8}

-- the wide tables that batch calls with this n and degree lead to, refused calls included; all else may differ from call to call
pub data AfterBatches (n degree : ℕ) (opened : List ℕ) : List ℕ → Type 0 where
  none_yet : AfterBatches n degree opened opened
  one_more : (c : BatchCall) → c.n ≡ n → c.params.degree ≡ degree → AfterBatches n degree opened c.wide → AfterBatches n degree opened (batch_out c).wide

-- ---- open

pub open_keeps_rows : (c : OpenCall) → open_number c ≡ 0 → TableKept c.n (slack c.degree) (open_out c).wide
unfolding open_out open_done
open_keeps_rows c e =
    let a = open_accepted c e in
    subst (λ (r : OpenOut). TableKept c.n (slack c.degree) r.wide) (sym (by_success (open_kept c) (open_done c) (open_number c) e))
    (opened_kept c.n c.degree c.opening (count_low a.nodes) (ruled_kept a.opening))

-- ---- batches, accepted or refused

batch-done : (c : BatchCall) → batch_number c ≡ 0 → TableKept c.n (slack c.params.degree) (batch_done c).wide
unfolding batch_done setting_of
batch-done c e =
    let a = batch-accepted c e in
    batch_kept_lem (setting_of c.n c.dim c.vectors c.params) c.wide a.alpha_low (count_low a.entries.nodes) (ruled_kept a.wide) c.start
    c.params.extra c.nodes c.seeds a.start_in a.nodes.below a.seeds.below

pub batch_keeps_rows : (c : BatchCall) → TableKept c.n (slack c.params.degree) c.wide
    → TableKept c.n (slack c.params.degree) (batch_out c).wide
unfolding batch_out by_number batch_kept
batch_keeps_rows c k = go (batch_number c) refl
  where
    go : (j : ℕ) → batch_number c ≡ j → TableKept c.n (slack c.params.degree) (by_number j (batch_kept c) (batch_done c)).wide
    go zero e = batch-done c e
    go (suc j) e = k

after : (n degree : ℕ) (opened table : List ℕ) → TableKept n (slack degree) opened → AfterBatches n degree opened table → TableKept n (slack degree) table
after n degree opened table k none_yet = k
after n degree opened table k (one_more c p q a) =
    subst (λ (m : ℕ). TableKept m (slack degree) (batch_out c).wide) p (subst (λ (d : ℕ). TableKept c.n (slack d) (batch_out c).wide) q
    (batch_keeps_rows c (subst (λ (m : ℕ). TableKept m (slack c.params.degree) c.wide) (sym p)
    (subst (λ (d : ℕ). TableKept n (slack d) c.wide) (sym q) (after n degree opened c.wide k a)))))

pub batches_keep_rows : (o : OpenCall) → open_number o ≡ 0 → (table : List ℕ) → AfterBatches o.n o.degree (open_out o).wide table
    → TableKept o.n (slack o.degree) table
batches_keep_rows o e table a = after o.n o.degree (open_out o).wide table (open_keeps_rows o e) a

-- ---- close

pub closing_keeps_rows : (c : CloseCall) → close_number c ≡ 0 → TableKept c.n c.params.degree (close_out c).closed
unfolding close_out close_done setting_of
closing_keeps_rows c e =
    let a = close-accepted c e in
    subst (λ (r : CloseOut). TableKept c.n c.params.degree r.closed) (sym (by_success (close_kept c) (close_done c) (close_number c) e))
    (closed_kept (setting_of c.n c.dim c.vectors c.params) c.wide a.alpha_low (count_low a.entries.nodes) (ruled_kept a.wide))

-- ---- whole build

pub build_keeps_rows : (c : BuildCall) → build_number c ≡ 0
    → TableKept c.n (slack c.params.degree) (build_out c).wide × TableKept c.n c.params.degree (build_out c).closed
unfolding build_out build_done built_wide built setting_of
build_keeps_rows c e =
    let a = build_accepted c e in
    let g = setting_of c.n c.dim c.vectors c.params in
    let low = count_low a.entries.nodes in
    let wide = batches_kept g a.alpha_low low c.start c.params.extra (length c.order) c.order c.seeds
    (open' c.n c.params.degree c.opening) a.start_in a.order.below a.seeds.below
    (opened_kept c.n c.params.degree c.opening low (ruled_kept a.opening)) in
    subst (λ (r : BuildOut). TableKept c.n (slack c.params.degree) r.wide × TableKept c.n c.params.degree r.closed)
    (sym (by_success (build_kept c) (build_done c) (build_number c) e))
    (wide, closed_kept g (built_wide c) a.alpha_low low wide)

-- ---- 8 does not come further on

-- a wide table that open and batches led to
after-accepted : (o : OpenCall) → open_number o ≡ 0 → (n degree : ℕ) (table : List ℕ) → n ≡ o.n → degree ≡ o.degree
    → AfterBatches o.n o.degree (open_out o).wide table
    → bad_table n (slack degree) table ≡ false
after-accepted o e n degree table p q a =
    ap₂ (λ (m d : ℕ). bad_table m (slack d) table) p q
    ∙ table_passes o.n (slack o.degree) table (count_low (open_accepted o e).nodes)
    (after o.n o.degree (open_out o).wide table (open_keeps_rows o e) a)

pub batches_go_on : (o : OpenCall) → open_number o ≡ 0 → (c : BatchCall) → c.n ≡ o.n → c.params.degree ≡ o.degree
    → AfterBatches o.n o.degree (open_out o).wide c.wide → batch_number c ≢ 8
batches_go_on o e c p q a = batch_not_8 c (after-accepted o e c.n c.params.degree c.wide p q a)

pub batches-close : (o : OpenCall) → open_number o ≡ 0 → (c : CloseCall) → c.n ≡ o.n → c.params.degree ≡ o.degree
    → AfterBatches o.n o.degree (open_out o).wide c.wide → length c.closed ≡ c.n * c.params.degree → close_number c ≢ 8
batches-close o e c p q a size =
    close_not_8 c
    (neither_or (bad_table c.n (slack c.params.degree) c.wide) (bad_length c.n c.params.degree c.closed)
    (after-accepted o e c.n c.params.degree c.wide p q a) (length-passes c.n c.params.degree c.closed size))

kept_is_searched : (n degree : ℕ) (table : List ℕ) → TableKept n degree table → (c : SearchCall) → c.n ≡ n → c.degree ≡ degree → c.table ≡ table
    → (search_number c ≢ 8) × ((records : List Candidate) → records_number c records ≢ 8)
kept_is_searched n degree table k c p q t =
    search_not_8 c (ap₂ (λ (m d : ℕ). bad_searched m d c.table) p q ∙ ap (bad_searched n degree) t ∙ searched_kept n degree table k)

pub closed_is_searched : (b : CloseCall) → close_number b ≡ 0 → (c : SearchCall) → c.n ≡ b.n → c.degree ≡ b.params.degree → c.table ≡ (close_out b).closed
    → (search_number c ≢ 8) × ((records : List Candidate) → records_number c records ≢ 8)
closed_is_searched b e = kept_is_searched b.n b.params.degree (close_out b).closed (closing_keeps_rows b e)

pub build_is_searched : (b : BuildCall) → build_number b ≡ 0 → (c : SearchCall) → c.n ≡ b.n → c.degree ≡ b.params.degree → c.table ≡ (build_out b).closed
    → (search_number c ≢ 8) × ((records : List Candidate) → records_number c records ≢ 8)
build_is_searched b e = kept_is_searched b.n b.params.degree (build_out b).closed (build_keeps_rows b e).1

-- ---- a batch of no nodes

-- an accepted one leaves the table
table_left : (c : BatchCall) → batch_number c ≡ 0 → c.nodes ≡ [] → (batch_done c).wide ≡ c.wide
unfolding batch_done setting_of
table_left c e none =
    let g = setting_of c.n c.dim c.vectors c.params in
    ap (λ (us : List ℕ). batch g c.start c.params.extra us c.seeds c.wide) none
    ∙ batch-none g c.start c.params.extra c.seeds c.wide (batch-accepted c e).wide.size

-- accepted or refused
pub empty_batch : (c : BatchCall) → c.nodes ≡ [] → (batch_out c).wide ≡ c.wide
unfolding batch_out by_number batch_kept
empty_batch c none = go (batch_number c) refl
  where
    go : (j : ℕ) → batch_number c ≡ j → (by_number j (batch_kept c) (batch_done c)).wide ≡ c.wide
    go zero e = table_left c e none
    go (suc j) e = refl

-- "A batch of no nodes is done and alters no row": all that it leaves. The room is zero, as after every success
pub batch_empty : (c : BatchCall) → batch_number c ≡ 0 → c.nodes ≡ []
    → batch_out c
    ≡ record { answer = done; wide = c.wide; words = cleared 0 (build_words c.n) c.words; floats = cleared nought (build_floats c.n) c.floats }
unfolding batch_out batch_done
batch_empty c e none =
    by_success (batch_kept c) (batch_done c) (batch_number c) e
    ∙ (λ i. record {
      answer = done;
      wide = table_left c e none i;
      words = cleared 0 (build_words c.n) c.words;
      floats = cleared nought (build_floats c.n) c.floats;
    })

-- ---- "Unaffected rows keep their words"

-- the listed nodes of a call, with their fresh rows
unfoldable pub listed_by : BatchCall → List Listed
listed_by c =
    fresh_rows (setting_of c.n c.dim c.vectors c.params) c.wide c.start c.nodes (groups (length c.nodes) c.params.extra c.seeds)

row-left : (c : BatchCall) → batch_number c ≡ 0 → (i : ℕ) → i < c.n → affected (listed_by c) i ≡ false
    → row (slack c.params.degree) (batch_done c).wide i ≡ row (slack c.params.degree) c.wide i
unfolding batch_done setting_of listed_by merged_row wide_row
row-left c e i h free =
    let a = batch-accepted c e in
    let g = setting_of c.n c.dim c.vectors c.params in
    batch_row g c.wide a.alpha_low (count_low a.entries.nodes) (ruled_kept a.wide) c.start c.params.extra c.nodes c.seeds
    a.start_in a.nodes.below a.seeds.below i h
    ∙ rw free refl

-- accepted or refused
pub batch_unaffected : (c : BatchCall) (i : ℕ) → i < c.n → affected (listed_by c) i ≡ false
    → row (slack c.params.degree) (batch_out c).wide i ≡ row (slack c.params.degree) c.wide i
unfolding batch_out by_number batch_kept
batch_unaffected c i h free = go (batch_number c) refl
  where
    go : (j : ℕ) → batch_number c ≡ j
        → row (slack c.params.degree) (by_number j (batch_kept c) (batch_done c)).wide i ≡ row (slack c.params.degree) c.wide i
    go zero e = row-left c e i h free
    go (suc j) e = refl

-- in other words: the row of an entry that is not listed and that no fresh row names

listed_node : (c : BatchCall) (l : Listed) → Mem l (listed_by c) → Mem l.node c.nodes
unfolding listed_by
listed_node c =
    fresh_node (setting_of c.n c.dim c.vectors c.params) c.wide c.start c.nodes (groups (length c.nodes) c.params.extra c.seeds)

pub batch_unnamed : (c : BatchCall) (i : ℕ) → i < c.n → ¬ Mem i c.nodes → ((l : Listed) → Mem l (listed_by c) → ¬ Mem i l.fresh)
    → row (slack c.params.degree) (batch_out c).wide i ≡ row (slack c.params.degree) c.wide i
batch_unnamed c i h unlisted unnamed =
    batch_unaffected c i h
    (affected-none (listed_by c) i (λ l m. (λ e. unlisted (subst (λ (u : ℕ). Mem u c.nodes) e (listed_node c l m)), unnamed l m)))
