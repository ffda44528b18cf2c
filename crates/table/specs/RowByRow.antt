-- Tables made row by row: the rows below i are written, the others are as they were.
use Rattle.std.specs.Prelude.{ℕ, ◌+◌, ◌*◌, ◌≤◌, ◌<◌, ◌≡◌, refl, List, length}
use Rattle.std.proofs.Common.{arith, sym, ap, ◌∙◌, subst, below_more}
use Rattle.definition.specs.Lists.{joined, upto}
use Rattle.definition.specs.Tables.{row, table_of, padded}
use Rattle.laws.specs.Members.{run-same}
use Rattle.laws.specs.Tables.{table_of_row, row_fits}
use Rattle.table.specs.Rows.{Stretched, row_here, row_lower, row_higher}

table_same : (n : ℕ) (f g : ℕ → List ℕ) → ((i : ℕ) → i < n → f i ≡ g i) → table_of n f ≡ table_of n g
unfolding table_of upto
table_same n f g h = ap joined (run-same f g 0 n (λ i lo hi. h i (omega arith)))

-- `rows` says what is written
pub record RowsWritten (n width : ℕ) (rows : ℕ → List ℕ) (table₀ table : List ℕ) (i : ℕ) : Type 0 where
  pub most : i ≤ n
  pub size : length table ≡ n * width
  pub done : (j : ℕ) → j < i → row width table j ≡ rows j
  pub later : (j : ℕ) → i ≤ j → row width table j ≡ row width table₀ j

module _ (n width : ℕ) (rows : ℕ → List ℕ) (table₀ : List ℕ) where
  pub written_none : length table₀ ≡ n * width → RowsWritten n width rows table₀ table₀ 0
  written_none s = record { most = omega arith; size = s; done = λ j h. absurd (omega arith); later = λ j h. refl }

  pub written_all : (table : List ℕ) (i : ℕ) → RowsWritten n width rows table₀ table i → (i < n → ⊥) → table ≡ table_of n rows
  written_all table i w h = sym (table_of_row n width table w.size) ∙ table_same n (row width table) rows (λ j l. w.done j (omega (arith, w.most)))

  module _ (table : List ℕ) (i : ℕ) (w : RowsWritten n width rows table₀ table i) (h : i < n) where
    -- row i is now the ids given
    pub written_more : (table' : List ℕ) (r : ℕ) (ids : List ℕ) → Stretched table table' i width r ids → length table' ≡ length table → length ids ≤ width
        → padded width ids ≡ rows i → RowsWritten n width rows table₀ table' (i + 1)
    written_more table' r ids s same few e =
        let fits : i * width + width ≤ length table = subst (λ (k : ℕ). i * width + width ≤ k) (sym w.size) (row_fits i n width h) in
        record {
          most = omega arith;
          size = same ∙ w.size;
          done =
              below_more (λ j. row width table' j ≡ rows j) i (λ j l. row_lower table table' i width r ids s fits few j l ∙ w.done j l)
              (row_here table table' i width r ids s fits few ∙ e);
          later = λ j l. row_higher table table' i width r ids s fits few j (omega arith) ∙ w.later j (omega arith);
        }

    -- row i stays, and is right
    pub written_same : row width table i ≡ rows i → RowsWritten n width rows table₀ table (i + 1)
    written_same e =
        record { most = omega arith; size = w.size; done = below_more (λ j. row width table j ≡ rows j) i w.done e; later = λ j l. w.later j (omega arith) }
