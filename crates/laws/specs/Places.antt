-- In a list in order what stands at an earlier place is ahead of what stands at a later one; a word of a table is in one of its rows.
use Rattle.std.specs.Prelude.{ℕ, zero, suc, ◌<◌, ◌≡◌, Bool, true, length, get_or}
use Rattle.std.proofs.Common.{arith, sym, subst}
use mathlib.Core.List.Memᴰ.{of_map}
use mathlib.Core.List.{List, map, Memᴰ as Mem}
use Rattle.definition.specs.Lists.{run, upto}
use Rattle.definition.specs.Tables.{table_of}
use Rattle.laws.specs.Members.{joined_mem, run-mem, mem-at}
use Rattle.laws.specs.Sorting.{Ordered, none, more}

module _ {A : Type 0} (d : A) where
  pub places_ordered : {ahead : A → A → Bool} {xs : List A} → Ordered ahead xs → (i j : ℕ) → i < j → j < length xs → ahead (get_or xs i d) (get_or xs j d) ≡ true
  places_ordered none i j h l = absurd (omega arith)
  places_ordered (more m o) i zero h l = absurd (omega arith)
  places_ordered (more {xs = xs} m o) zero (suc j) h l = m (get_or xs j d) (mem-at d xs j (omega arith))
  places_ordered (more m o) (suc i) (suc j) h l = places_ordered o i j (omega arith) (omega arith)

-- a word of a table is in one of its rows
pub table_of_mem : (n : ℕ) (rows : ℕ → List ℕ) {w : ℕ} → Mem w (table_of n rows) → (i : ℕ) × (i < n) × Mem w (rows i)
unfolding table_of upto
table_of_mem n rows {w} m =
    let r = joined_mem (map rows (run 0 n)) m in
    let t = of_map rows (run 0 n) r.1 in
    let b = run-mem 0 n t.1 in
    (t.0, omega arith, subst (λ (l : List ℕ). Mem w l) (sym t.2) r.2)
