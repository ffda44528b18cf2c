-- Rows closed in turn. A row under the build rule has ids that are apart, so fitted to the degree they are what the definition prunes from their rising order.
use Prim.Native.Nat.{ℕ, ◌+◌, ◌-◌, ◌*◌, ◌≤◌, ◌<◌}
use native.Mathlib.Omega.{arith}
use mathlib.Core.Path.{◌≡◌, refl, sym, ap, ◌∙◌, subst}
use mathlib.Core.Bool.{Bool, true, false, cond}
use mathlib.Core.List.{List, Memᴰ as Mem}
use borrow.Author.Tests.{leb-true, leb-false, lt-ltb, le-ltb}
use lib.Dec.{leb, ltb}
use lib.ListN.{length, take, drop, length-take}
use lib.Seq.{length-take-le}
use Rattle.definition.specs.Lists.{rising}
use Rattle.definition.specs.Tables.{row, ids, padded}
use Rattle.definition.specs.Prune.{prune, pruned_from}
use Rattle.definition.specs.Batch.{Setting, prune_ids, wide_row, wide_ids}
use Rattle.definition.specs.Build.{closed_ids, close}
use Rattle.definition.specs.Outcome.{setting_of}
use Rattle.laws.specs.Apart.{Apart}
use Rattle.laws.specs.Members.{Same}
use Rattle.laws.specs.Rising.{rising_keeps, rising-apart}
use Rattle.laws.specs.Tables.{part-row, row_fits}
use Rattle.scratch.specs.Layout.{widest, most_factors}
use Rattle.given.specs.Given.{Given, setting, degree-slack}
use Rattle.prune_pool.specs.Free.{candidates-free, apart_distinct}
use Rattle.prune_pool.specs.Says.{Distinct}
use Rattle.prune_fit.specs.Fits.{Fittable, Fitted, fitted_to, fitted-few}
use Rattle.prune_fit.specs.Fronts.{members_below}
use Rattle.build_rows.specs.Says.{RowCloses, RowClosed, CloseReady, closed_to}
use Rattle.laws.specs.Words.{ids-below, searchable_row}
use Rattle.table.specs.Rows.{stretched_as, IdsCopied}
use Rattle.table.specs.RowByRow.{RowsWritten, written_none, written_more, written_all}
use Rattle.build_rows.specs.Rule.{rule_row, row_apart}

-- ids that are apart are pruned alike in any order
pruned-free : (g : Setting) (i : ℕ) (xs : List ℕ) → Apart xs → prune_ids g i xs ≡ prune_ids g i (rising xs)
unfolding prune_ids prune
pruned-free g i xs a =
    let same : Same xs (rising xs) = record { to = (rising_keeps xs).from; from = (rising_keeps xs).to } in
    ap (pruned_from g.pair g.degree g.alpha) (candidates-free (g.pair i) i xs (rising xs) a (rising-apart xs) same)

closed_is : (g : Setting) (i : ℕ) (xs : List ℕ) → Apart xs → fitted_to g g.degree i xs ≡ closed_ids g i xs
unfolding fitted_to closed_ids
closed_is g i xs a = go (leb (length xs) g.degree) refl
  where
    by : (t : Bool) → ltb g.degree (length xs) ≡ t → cond t (prune_ids g i (rising xs)) xs ≡ cond (ltb g.degree (length xs)) (prune_ids g i (rising xs)) xs
    by t e = ap (λ (t : Bool). cond t (prune_ids g i (rising xs)) xs) (sym e)

    go : (b : Bool) → leb (length xs) g.degree ≡ b → cond b xs (prune_ids g i xs) ≡ cond (ltb g.degree (length xs)) (prune_ids g i (rising xs)) xs
    go true e = by false (le-ltb g.degree (length xs) (leb-true (length xs) g.degree e))
    go false e = pruned-free g i xs a ∙ by true (lt-ltb g.degree (length xs) (leb-false (length xs) g.degree e))

module _ {g : Given} {i : ℕ} {wide : List ℕ} {size room : ℕ} (r : RowCloses g i wide size room) where
  -- the row as it is lent
  abbrev lent : List ℕ
  lent = take (i * g.width + g.width - i * g.width) (drop (i * g.width) wide)

  apart : Apart (ids (row g.width wide i))
  apart = row_apart g.n i (row g.width wide i) r.rule

  wide_ids_lem : ids (row g.width wide i) ≡ wide_ids (setting g) wide i
  unfolding wide_ids wide_row setting_of
  wide_ids_lem = ap (λ (k : ℕ). ids (row k wide i)) r.limits.width_is

  closed_few : length (closed_to g wide i) ≤ g.params.degree
  unfolding setting_of closed_to
  closed_few =
      let xs = wide_ids (setting g) wide i in
      let fits : g.params.degree ≤ g.params.degree = omega arith in
      subst (λ (l : List ℕ). length l ≤ g.params.degree) (closed_is (setting g) i xs (subst Apart wide_ids_lem apart))
      (fitted-few (setting g) g.params.degree i xs fits)

  pub lent_few : length lent ≤ widest
  lent_few =
      let a = length-take (i * g.width + g.width - i * g.width) (drop (i * g.width) wide) in
      let b = (degree-slack g.params.degree g.width r.limits.width_is r.limits.degree_few).1 in
      omega arith

  module _ {list : List ℕ} {count : ℕ} (c : IdsCopied lent list count) where
    abbrev got : List ℕ
    got = take count list

    ids_are : got ≡ ids (row g.width wide i)
    ids_are = c.are ∙ ap ids (part-row g.width wide i)

    pub copied_few : count ≤ widest
    copied_few = let a = lent_few in let b = c.most in omega arith

    module _ {node : ℕ} (is : node ≡ i) where
      pub row_asks : (dists : List ℕ) → length list ≡ widest → length dists ≡ widest
          → Fittable g node g.params.degree got
          × ((length (take count dists) ≡ length got) × (most_factors ≤ room) × (node * g.params.degree + g.params.degree ≤ size))
      row_asks dists sl sd =
          let few = copied_few in
          let own = r.within in (
            record {
              limits = r.limits;
              node_in = omega arith;
              ids_in = members_below g.n got (λ z m. ids-below g.n (row g.width wide i) r.words z (subst (Mem z) ids_are m));
              apart = subst Distinct (sym ids_are) (apart_distinct apart);
              narrow = omega arith;
            },
            (
              length-take-le count dists (omega arith) ∙ sym (length-take-le count list (omega arith)),
              r.factors,
              subst (λ (k : ℕ). k * g.params.degree + g.params.degree ≤ size) (sym is) r.to,
            ),
          )

      pub row_closed : {closed₀ closed : List ℕ} → Fitted g node g.params.degree got closed₀ closed → RowClosed g i wide closed₀ closed
      unfolding setting_of closed_to
      row_closed {closed₀} {closed} f =
          record {
            row =
                stretched_as closed₀ closed node i g.params.degree _ _ _ is
                (ap (λ (k : ℕ). fitted_to (setting g) g.params.degree k got) is
                ∙ ap (fitted_to (setting g) g.params.degree i) ids_are
                ∙ closed_is (setting g) i (ids (row g.width wide i)) apart
                ∙ ap (closed_ids (setting g) i) wide_ids_lem)
                f.row;
          }

-- ---- the rows in turn
unfoldable pub closed_row : Given → List ℕ → ℕ → List ℕ
closed_row g wide i = padded g.params.degree (closed_to g wide i)

-- rows below i are closed
pub record Closing (g : Given) (wide closed₀ closed : List ℕ) (i : ℕ) : Type 0 where
  pub written : RowsWritten g.n g.params.degree (closed_row g wide) closed₀ closed i

module _ {g : Given} {wide : List ℕ} (closed₀ : List ℕ) {room : ℕ} (r : CloseReady g wide (length closed₀) room) where
  pub close_start : Closing g wide closed₀ closed₀ 0
  close_start = record { written = written_none g.n g.params.degree (closed_row g wide) closed₀ r.table }

  module _ {closed : List ℕ} {i : ℕ} (w : Closing g wide closed₀ closed i) (h : i < g.n) {now-room : ℕ} (same-room : now-room ≡ room) where
    pub close_asks : RowCloses g i wide (length closed) now-room
    close_asks =
        let f = r.factors in
        let d = g.params.degree in
        record {
          limits = r.limits;
          within = h;
          has = subst (λ (k : ℕ). i * g.width + g.width ≤ k) (sym r.rows.size) (row_fits i g.n g.width h);
          to = subst (λ (k : ℕ). i * d + d ≤ k) (sym w.written.size) (row_fits i g.n d h);
          rule = rule_row g.n g.width wide i r.rows.rule h;
          words = searchable_row g.n g.width i wide r.rows.words;
          factors = omega arith;
        }

    pub close_more : {closed' : List ℕ} → length closed' ≡ length closed → RowClosed g i wide closed closed' → Closing g wide closed₀ closed' (i + 1)
    unfolding closed_row
    close_more {closed'} same s =
        record {
          written =
              written_more g.n g.params.degree (closed_row g wide) closed₀ closed i w.written h closed' _ (closed_to g wide i) s.row same
              (closed_few close_asks) refl;
        }

  pub close_end : {closed : List ℕ} {i : ℕ} → Closing g wide closed₀ closed i → (i < g.n → ⊥) → closed ≡ close (setting g) wide
  unfolding close closed_row setting_of closed_to
  close_end {closed} {i} w h = written_all g.n g.params.degree (closed_row g wide) closed₀ closed i w.written h
