-- Opening rows in turn. A row under the build rule is its ids and then padding, so its words with more padding after them are its opened row.
use Prim.Native.Nat.{ℕ, ◌+◌, ◌-◌, ◌*◌, ◌≤◌, ◌<◌}
use native.Mathlib.Omega.{arith}
use mathlib.Core.Path.{◌≡◌, sym, ap, ◌∙◌, subst}
use mathlib.Core.List.{List}
use lib.ListN.{length, take, drop}
use Rattle.definition.specs.Tables.{row, ids, padded}
use Rattle.definition.specs.Slack.{slack as slackOf}
use Rattle.definition.specs.Build.{open'}
use Rattle.laws.specs.Tables.{part-row, row_fits, row-length}
use Rattle.given.specs.Given.{degree-slack}
use Rattle.build_rows.specs.Says.{Opened, OpenReady}
use Rattle.table.specs.Rows.{Stretched}
use Rattle.table.specs.RowByRow.{RowsWritten, written_none, written_more, written_all}
use Rattle.build_rows.specs.Rule.{rule_row, row_wider}

-- row i of the opened table
unfoldable pub opened_row : Opened → ℕ → List ℕ
opened_row o i = padded (slackOf o.degree) (ids (row o.degree o.rows i))

-- rows below i are opened
pub record Opening (o : Opened) (wide₀ wide : List ℕ) (i : ℕ) : Type 0 where
  pub written : RowsWritten o.n o.width (opened_row o) wide₀ wide i

module _ {o : Opened} (wide₀ : List ℕ) (r : OpenReady o (length wide₀)) where
  pub open_start : Opening o wide₀ wide₀ 0
  open_start = record { written = written_none o.n o.width (opened_row o) wide₀ r.table }

  module _ {wide : List ℕ} {i : ℕ} (w : Opening o wide₀ wide i) (h : i < o.n) where
    -- the row as it is lent
    abbrev lent : List ℕ
    lent = take (i * o.degree + o.degree - i * o.degree) (drop (i * o.degree) o.rows)

    pub opening_fits : i * o.degree + o.degree ≤ length o.rows
    opening_fits = subst (λ (k : ℕ). i * o.degree + o.degree ≤ k) (sym r.rows.size) (row_fits i o.n o.degree h)

    all : length (row o.degree o.rows i) ≡ o.degree
    all = row-length o.n o.degree o.rows r.rows.size i h

    lent_length : length lent ≡ o.degree
    lent_length = ap length (part-row o.degree o.rows i) ∙ all

    narrow : o.degree ≤ o.width
    narrow = (degree-slack o.degree o.width r.width_is r.degree_few).0

    pub put_asks : (i * o.width + o.width ≤ length wide) × (length lent ≤ o.width)
    put_asks =
        let d = narrow in
        let l = lent_length in
        (subst (λ (k : ℕ). i * o.width + o.width ≤ k) (sym w.written.size) (row_fits i o.n o.width h), omega arith)

    row_is : padded o.width lent ≡ opened_row o i
    unfolding opened_row
    row_is =
        let l = all in
        let d = narrow in
        let words = row o.degree o.rows i in
        ap (padded o.width) (part-row o.degree o.rows i)
        ∙ row_wider o.n i words (rule_row o.n o.degree o.rows i r.rows.rule h) o.width (omega arith)
        ∙ ap (λ (z : ℕ). padded z (ids words)) r.width_is

    pub open_more : {wide' : List ℕ} {k : ℕ} → length wide' ≡ length wide → Stretched wide wide' i o.width k lent → Opening o wide₀ wide' (i + 1)
    open_more {wide'} {k} same s =
        record { written = written_more o.n o.width (opened_row o) wide₀ wide i w.written h wide' k lent s same put_asks.1 row_is }

  pub open_end : {wide : List ℕ} {i : ℕ} → Opening o wide₀ wide i → (i < o.n → ⊥) → wide ≡ open' o.n o.degree o.rows
  unfolding open' opened_row
  open_end {wide} {i} w h = written_all o.n o.width (opened_row o) wide₀ wide i w.written h
