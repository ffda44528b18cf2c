-- The runs of a whole build, on accepted input: the definition's `batches`, one run at a time.
use Prim.Native.Nat.{ℕ, zero, suc, ◌+◌, ◌*◌, ◌≤◌, ◌<◌, min}
use Rattle.std.proofs.Common.{mul-le-mul_right, zero-mul, arith, sym, ap, ap₂, ◌∙◌, inl, inr, leb-true, leb-false, length-append, length-take-le, drop_of_length-le, take_all, take_at, drop_at}
use Rattle.std.specs.Prelude.{◌≡◌, ◌⊎◌, Bool, true, false, leb, length, get_or, take, drop}
use Rattle.std.proofs.Math.Path.{refl, subst}
use mathlib.Core.List.{List, [], ◌∷◌, ◌++◌, Memᴰ as Mem}
use Rattle.std.proofs.Math.ListN.{length-drop}
use Rattle.definition.specs.Tables.{pad}
use Rattle.definition.specs.Slack.{slack}
use Rattle.definition.specs.Batch.{Setting, batch}
use Rattle.definition.specs.Build.{batch_size, batches}
use Rattle.definition.specs.Outcome.{setting_of}
use Rattle.laws.specs.Members.{take_mem, drop_mem, mem-at}
use Rattle.laws.specs.Parts.{within_trans, within_none}
use Rattle.laws.specs.Words.{Below}
use Rattle.scratch.specs.Layout.{fresh_end, floats_end}
use Rattle.given.specs.Given.{Given, setting, WalkLimits}
use Rattle.given.specs.Listing.{Listing, listing, walks_of}
use Rattle.given.specs.Held.{Held, held, Roomy, RoomKept}
use Rattle.theory.specs.Kept.{TableKept}
use Rattle.theory.specs.Rule.{kept_searchable}
use Rattle.theory.specs.build.Runs.{batches_same}
use Rattle.theory.specs.build.Stretches.{seeds_cut}
use Rattle.theory.specs.build.Batches.{batch_kept_lem}
use Rattle.theory.specs.build.Walks.{run_walks, batch-walks, run-walks, epoch_after, epochs_fit}
use Rattle.marks.specs.Marked.{Marks, FirstEpoch}
use Rattle.marks.specs.Visits.{first_then}
use Rattle.batch.specs.Says.{BatchReady, BatchRun}

-- all ids are entries
abbrev pub Entries : ℕ → List ℕ → Type 0
Entries n xs = (u : ℕ) → Mem u xs → u < n

-- the order of a whole build is its listing, and each node has its group of seeds
pub record RunsReady (g : Given) (l : Listing) (h : Held) : Type 0 where
  pub limits : WalkLimits g
  pub start_in : l.start < g.n
  pub order_is : length l.nodes ≡ g.n
  pub order_in : Entries g.n l.nodes
  pub seeds_are : length l.seeds ≡ g.n * g.params.extra
  pub seeds_in : Entries g.n l.seeds
  pub extra_few : g.params.extra ≤ 16
  pub kept : TableKept g.n (slack g.params.degree) h.wide
  pub roomy : Roomy g.n h.lent

pub record RunsDone (g : Given) (l : Listing) (last : ℕ) (before after : Held) : Type 0 where
  pub wide_is : after.wide ≡ batches (setting g) l.start g.params.extra (length l.nodes) l.nodes l.seeds before.wide
  pub kept : TableKept g.n (slack g.params.degree) after.wide
  pub within : RoomKept g.n before.lent after.lent
  pub epoch_is : last ≡ epoch_after 1 (run_walks (setting g) l.start g.params.extra (length l.nodes) l.nodes l.seeds before.wide)

-- ---- the definition, one run at a time

module _ (g : Setting) (start extra : ℕ) where
  one_run : (f : ℕ) (order seeds wide : List ℕ) → 0 < length order → length order ≤ f
      → batches g start extra f order seeds wide
      ≡ batches g start extra f (drop 256 order) (drop (256 * extra) seeds) (batch g start extra (take 256 order) (take (256 * extra) seeds) wide)
  unfolding batches batch_size
  one_run f [] seeds wide h k = absurd (omega arith)
  one_run zero (u ∷ us) seeds wide h k = absurd (omega arith)
  one_run (suc f) (u ∷ us) seeds wide h k =
      let l = length-drop 256 (u ∷ us) in
      let first = batch g start extra (take 256 (u ∷ us)) (take (256 * extra) seeds) wide in
      batches_same g start extra f (suc f) (drop 256 (u ∷ us)) (drop (256 * extra) seeds) first (omega arith) (omega arith)

  -- all done
  none_left : (f : ℕ) (order seeds wide : List ℕ) → length order ≡ 0 → batches g start extra f order seeds wide ≡ wide
  unfolding batches
  none_left zero order seeds wide h = refl
  none_left (suc f) [] seeds wide h = refl
  none_left (suc f) (u ∷ us) seeds wide h = absurd (omega arith)

-- a cut at m or at k is one cut, where both lie at or past the end
cut-same : {A : Type 0} (m k : ℕ) (l : List A) → (k ≡ m) ⊎ ((length l ≤ m) × (length l ≤ k)) → (take m l ≡ take k l) × (drop m l ≡ drop k l)
cut-same m k l (inl e) = (ap (λ z. take z l) (sym e), ap (λ z. drop z l) (sym e))
cut-same {A} m k l (inr h) =
    let a = h.0 in
    let b = h.1 in
    let none : (z : ℕ) → length l ≤ z → drop z l ≡ [] = λ z q. drop_of_length-le l q in
    (take_all m l a ∙ sym (take_all k l b), none m a ∙ sym (none k b))

-- ---- the runs of the code

-- the definition's batches of a listing
abbrev pub batches_of : Given → ℕ → Listing → List ℕ → List ℕ
batches_of g fuel l wide = batches (setting g) l.start g.params.extra fuel l.nodes l.seeds wide

-- `order` and `seeds` are left: no mark is past the epoch, to which each id that is done has added one for itself and one for each of its seeds
pub record Running (g : Given) (l : Listing) (before after : Held) (epoch : ℕ) (order seeds : List ℕ) : Type 0 where
  pub most : length order ≤ g.n
  pub order_in : Entries g.n order
  pub seeds_are : length seeds ≡ length order * g.params.extra
  pub seeds_in : Entries g.n seeds
  pub kept : TableKept g.n (slack g.params.degree) after.wide
  pub same : batches_of g g.n (listing l.start order seeds) after.wide ≡ batches_of g (length l.nodes) l before.wide
  pub within : RoomKept g.n before.lent after.lent
  pub marks : Marks g.n after.lent.words epoch
  pub epoch_is : epoch + (length order + length seeds) ≡ 1 + (g.n + g.n * g.params.extra)

-- ---- the marks are cleared, once for all runs
module _ {g : Given} {l : Listing} {before : Held} (r : RunsReady g l before) where
  pub marks_fit : g.n ≤ length before.lent.words
  marks_fit = let w = r.roomy.words in omega arith

  module _ {words₁ : List ℕ} {epoch : ℕ} (first : FirstEpoch g.n before.lent.words words₁ epoch) where
    abbrev begun : Held
    begun = held before.wide words₁ before.lent.floats

    pub begun_ready : RunsReady g l begun
    begun_ready =
        record {
          limits = r.limits;
          start_in = r.start_in;
          order_is = r.order_is;
          order_in = r.order_in;
          seeds_are = r.seeds_are;
          seeds_in = r.seeds_in;
          extra_few = r.extra_few;
          kept = r.kept;
          roomy = record { words = omega (arith, r.roomy.words, first.kept.size); floats = r.roomy.floats };
        }

    pub runs_start : Running g l begun begun epoch l.nodes l.seeds
    runs_start =
        record {
          most = omega (arith, r.order_is);
          order_in = r.order_in;
          seeds_are = r.seeds_are ∙ ap (λ (k : ℕ). k * g.params.extra) (sym r.order_is);
          seeds_in = r.seeds_in;
          kept = r.kept;
          same = ap (λ (k : ℕ). batches_of g k l before.wide) (sym r.order_is);
          within = record {
            words = within_none 0 (fresh_end g.n) words₁;
            floats = within_none 0 (floats_end g.n) before.lent.floats;
          };
          marks = first.marks;
          epoch_is = omega (arith, first.is, r.order_is, r.seeds_are);
        }

    pub runs_done : {last : ℕ} {after : Held} → RunsDone g l last begun after → RunsDone g l last before after
    runs_done d =
        record {
          wide_is = d.wide_is;
          kept = d.kept;
          within = record { words = first_then first (fresh_end g.n) (omega arith) d.within.words; floats = d.within.floats };
          epoch_is = d.epoch_is;
        }

-- ---- run after run
module _ {g : Given} {l : Listing} {before : Held} (r : RunsReady g l before) where
  abbrev extra : ℕ
  extra = g.params.extra

  module _ {after : Held} {epoch : ℕ} {order seeds : List ℕ} (s : Running g l before after epoch order seeds) where
    pub runs_end : length order ≡ 0 → RunsDone g l epoch before after
    runs_end none =
        let groups : length l.seeds ≡ length l.nodes * extra = r.seeds_are ∙ ap (λ (k : ℕ). k * extra) (sym r.order_is) in
        let walks = run-walks (setting g) l.start extra (length l.nodes) l.nodes l.seeds before.wide (omega arith) groups in
        let no_seeds : length order * extra ≡ 0 = ap (λ (k : ℕ). k * extra) none ∙ zero-mul extra in
        record {
          wide_is = sym (none_left (setting g) l.start extra g.n order seeds after.wide none) ∙ s.same;
          kept = s.kept;
          within = s.within;
          epoch_is = omega (arith, s.epoch_is, s.seeds_are, r.order_is, r.seeds_are);
        }

    -- `run` comes off the front of the order, and its groups off that of the seeds
    module _ (run order' : List ℕ) (cut : order ≡ run ++ order') (size : length run ≡ min 256 (length order)) where
      whole : length order ≡ length run + length order'
      whole = ap length cut ∙ length-append run order'

      pub seeds_fit : length run * extra ≤ length seeds
      seeds_fit = let few : length run ≤ length order = omega (arith, whole) in omega (arith, s.seeds_are, mul-le-mul_right extra few)

      -- the last run may be shorter
      full_or_last : (length run ≡ 256) ⊎ ((length order ≤ 256) × (length order ≤ length run))
      full_or_last = go (leb 256 (length order)) refl
        where
          go : (b : Bool) → leb 256 (length order) ≡ b → (length run ≡ 256) ⊎ ((length order ≤ 256) × (length order ≤ length run))
          go true q = let h = leb-true 256 (length order) q in inl (omega arith)
          go false q = let h = leb-false 256 (length order) q in inr (omega arith, omega arith)

      module _ (own seeds' : List ℕ) (own_is : own ≡ take (length run * extra) seeds) (seeds'-is : seeds' ≡ drop (length run * extra) seeds) where
        -- what the definition cuts off is this run
        order_cut : (run ≡ take 256 order) × (order' ≡ drop 256 order)
        order_cut =
            let k = length run in
            let same = cut-same 256 k order full_or_last in
            (sym (take_at run order' k refl) ∙ ap (take k) (sym cut) ∙ sym same.0, sym (drop_at run order' k refl) ∙ ap (drop k) (sym cut) ∙ sym same.1)

        seeds_cut' : (own ≡ take (256 * extra) seeds) × (seeds' ≡ drop (256 * extra) seeds)
        seeds_cut' = let same = cut-same (256 * extra) (length run * extra) seeds (go full_or_last) in (own_is ∙ sym same.0, seeds'-is ∙ sym same.1)
          where
            go : (length run ≡ 256) ⊎ ((length order ≤ 256) × (length order ≤ length run))
                → (length run * extra ≡ 256 * extra) ⊎ ((length seeds ≤ 256 * extra) × (length seeds ≤ length run * extra))
            go (inl e) = inl (ap (λ (k : ℕ). k * extra) e)
            go (inr h) =
                inr (omega (arith, s.seeds_are, mul-le-mul_right extra h.0), omega (arith, s.seeds_are, mul-le-mul_right extra h.1))

        own_length : length own ≡ length run * extra
        own_length = ap length own_is ∙ length-take-le (length run * extra) seeds seeds_fit

        seeds'-length : length seeds' ≡ length order' * extra
        seeds'-length = ap length seeds_cut'.1 ∙ (seeds_cut extra 256 order seeds s.seeds_are).dropped ∙ ap (λ (xs : List ℕ). length xs * extra) (sym order_cut.1)

        run_in : Entries g.n run
        run_in u m = s.order_in u (take_mem 256 order (subst (Mem u) order_cut.0 m))

        own_in : Entries g.n own
        own_in u m = s.seeds_in u (take_mem (256 * extra) seeds (subst (Mem u) seeds_cut'.0 m))

        below : (xs : List ℕ) → Entries g.n xs → Below g.n xs
        below xs f k h = f (get_or xs k 0) (mem-at 0 xs k h)

        -- the epoch as its walks leave it
        epoch_then : epoch_after epoch (walks_of g after.wide (listing l.start run own)) + (length order' + length seeds') ≡ 1 + (g.n + g.n * extra)
        epoch_then =
            let walks = batch-walks after.wide l.start extra run own own_length in
            let rest = ap length seeds'-is ∙ length-drop (length run * extra) seeds in
            omega (arith, walks, rest, s.epoch_is, whole, own_length, seeds_fit)

        pub run_asks : BatchReady g (listing l.start run own) epoch after
        run_asks =
            let w = s.within.words.size in
            let f = s.within.floats.size in
            let x = r.roomy.words in
            let y = r.roomy.floats in
            record {
              limits = r.limits;
              table = record { size = rw r.limits.limits.width_is s.kept.size; words = kept_searchable s.kept };
              listable = record {
                start_in = r.start_in;
                few = omega arith;
                nodes_in = below run run_in;
                groups = own_length;
                seeds_in = below own own_in;
              };
              roomy = record { words = omega arith; floats = omega arith };
              marks = s.marks;
              epochs = omega (arith, epoch_then, epochs_fit r.limits.limits.nodes r.extra_few);
            }

        module _ {more : Held} {last : ℕ} (b : BatchRun g (listing l.start run own) epoch last after more) where
          wide_is : more.wide ≡ batch (setting g) l.start extra (take 256 order) (take (256 * extra) seeds) after.wide
          wide_is = b.wide_is ∙ ap₂ (λ (us ss : List ℕ). batch (setting g) l.start extra us ss after.wide) order_cut.0 seeds_cut'.0

          still_kept : TableKept g.n (slack g.params.degree) more.wide
          unfolding setting_of pad
          still_kept =
              let small = r.limits.limits.nodes in
              subst (TableKept g.n (slack g.params.degree)) (sym b.wide_is)
              (batch_kept_lem (setting g) after.wide r.limits.alpha_low (omega arith) s.kept l.start extra run own r.start_in run_in own_in)

          pub runs_more : 0 < length order → Running g l before more last order' seeds'
          runs_more some =
              record {
                most = omega (arith, s.most, whole);
                order_in = λ u m. s.order_in u (drop_mem 256 order (subst (Mem u) order_cut.1 m));
                seeds_are = seeds'-length;
                seeds_in = λ u m. s.seeds_in u (drop_mem (256 * extra) seeds (subst (Mem u) seeds_cut'.1 m));
                kept = still_kept;
                same =
                    ap₂ (λ (us ss : List ℕ). batches_of g g.n (listing l.start us ss) more.wide) order_cut.1 seeds_cut'.1
                    ∙ ap (batches_of g g.n (listing l.start (drop 256 order) (drop (256 * extra) seeds))) wide_is
                    ∙ sym (one_run (setting g) l.start extra g.n order seeds after.wide some s.most)
                    ∙ s.same;
                within = record {
                  words = within_trans 0 (fresh_end g.n) before.lent.words after.lent.words more.lent.words s.within.words b.kept.words;
                  floats =
                      within_trans 0 (floats_end g.n) before.lent.floats after.lent.floats more.lent.floats s.within.floats b.kept.floats;
                };
                marks = b.marks;
                epoch_is = ap (λ (k : ℕ). k + (length order' + length seeds')) b.epoch_is ∙ epoch_then;
              }
