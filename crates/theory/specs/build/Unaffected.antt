-- The rows that a batch leaves as they were: all where it has no nodes, and of any batch those of entries that are not listed and that no fresh row names.
use Rattle.std.specs.Prelude.{ℕ, ◌*◌, ◌≡◌, refl, ◌≢◌, false, not, eqb, length}
use mathlib.Core.List.Memᴰ.{head as here}
use mathlib.Core.List.Memᴰ.{not-nil}
use mathlib.Core.List.Memᴰ.{tail as there}
use mathlib.Core.List.{List, [], ◌∷◌, map, Memᴰ as Mem}
use mathlib.Core.List.Memᴰ.{of_map}
use Rattle.definition.specs.Lists.{is_in, keep, groups}
use Rattle.definition.specs.Slack.{slack}
use Rattle.definition.specs.Batch.{Setting, Listed, fresh_of, fresh_rows, naming, is_listed, affected, wide_row, merged_row, merged, batch}
use Rattle.laws.specs.Truth.{neither_or}
use Rattle.laws.specs.Members.{cons_elim, keep_none, none-is_in}
use Rattle.laws.specs.Tables.{table_of_row}

pub batch-none : (g : Setting) (start extra : ℕ) (seeds wide : List ℕ) → length wide ≡ g.n * slack g.degree → batch g start extra [] seeds wide ≡ wide
unfolding batch fresh_rows merged merged_row affected is_listed naming wide_row is_in keep groups
batch-none g start extra seeds wide h = table_of_row g.n (slack g.degree) wide h

-- the listed nodes of the fresh rows are nodes
pub fresh_node : (g : Setting) (wide : List ℕ) (start : ℕ) (us : List ℕ) (gs : List (List ℕ)) (l : Listed) → Mem l (fresh_rows g wide start us gs)
    → Mem l.node us
unfolding fresh_rows fresh_of
fresh_node g wide start [] gs l m = absurd (not-nil m)
fresh_node g wide start (u ∷ us) [] l m = absurd (not-nil m)
fresh_node g wide start (u ∷ us) (s ∷ gs) l m =
    cons_elim (λ k. Mem k.node (u ∷ us)) (fresh_of g wide start u s) (fresh_rows g wide start us gs) (here refl)
    (λ k h. there (fresh_node g wide start us gs k h)) l m

pub affected-none : (ls : List Listed) (i : ℕ) → ((l : Listed) → Mem l ls → (l.node ≢ i) × ¬ Mem i l.fresh) → affected ls i ≡ false
unfolding affected is_listed naming
affected-none ls i f =
    neither_or (is_in i (map (λ l. l.node) ls)) (not (eqb (length (map (λ l. l.node) (keep (λ l. is_in i l.fresh) ls))) 0))
    (none-is_in i (map (λ l. l.node) ls) (λ m. let r = of_map (λ (l : Listed). l.node) ls m in (f r.0 r.1).0 r.2))
    (rw (keep_none (λ (l : Listed). is_in i l.fresh) ls (λ l m. none-is_in i l.fresh (f l m).1)) refl)
