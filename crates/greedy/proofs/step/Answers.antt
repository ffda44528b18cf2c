-- `step`. The row of an entry is a part of the table, which is within it.
use mathlib.Core.Path.{◌≡◌, sym, ap, ◌∙◌}
use mathlib.Core.List.{List}
use Prim.Native.Nat.{ℕ, ◌+◌, ◌*◌, ◌≤◌}
use native.Mathlib.Omega.{arith}
use lib.ListN.{length}
use Rattle.definition.specs.Tables.{row, cleaned}
use Rattle.laws.specs.Cleaned.{row-cleaned}
use Rattle.laws.specs.Parts.{part, part_length}
use Rattle.laws.specs.Tables.{part-row}
use Rattle.kept.specs.Laws.{works_fit}
use Rattle.greedy.specs.Scratch.{row_in}
use Rattle.greedy.proofs.step.Goals as goal
use Rattle.greedy.proofs.step.Goals.{Start}

-- the row of a cleaned table is the part, cleaned
row-lent : (n width : ℕ) (table : List ℕ) (i : ℕ) → row width (cleaned n table) i ≡ cleaned n (part (i * width) (i * width + width) table)
row-lent n width table i = row-cleaned n width table i ∙ ap (cleaned n) (sym (part-row width table i))

-- the row is within the table
fits : (s : Start)
    → let a = s.args in
    (a.id * a.p.width + a.p.width ≤ length a.table.now) × (length a.table.now ≤ 8388608)
fits s = row_in s.requires.ground s.requires.ready.space.nodes s.args.id s.requires.id_lt_n.0

pub overflow_mul-from : goal.overflow_mul-from
overflow_mul-from c = omega (arith, fits (goal.at.overflow_mul-from c).Start)

pub overflow_add-to : goal.overflow_add-to
overflow_add-to c = omega (arith, fits (goal.at.overflow_add-to c).Start)

pub touch_next-requires : goal.touch_next-requires
touch_next-requires c = record { len_in_bounds = works_fit c.requires.live.is.working; width_le_widest = (c.requires.ground.narrow, c.requires.id_lt_n.2) }

pub offset_bounds-table-from : goal.offset_bounds-table-from
offset_bounds-table-from c = omega (arith, fits (goal.at.offset_bounds-table-from c).Start)

pub slice_bounds-expand-end : goal.slice_bounds-expand-end
slice_bounds-expand-end c = omega (arith, fits (goal.at.slice_bounds-expand-end c).Start)

pub expand-requires : goal.expand-requires
expand-requires c =
    let g = c.requires.ground in
    let from = c.args.id * c.args.p.width in
    let size = part_length from (from + c.args.p.width) c.args.table.now (fits (goal.at.expand-requires c).Start).0 in
    record {
      ready = c.requires.ready;
      live = c.requires.live;
      measures = g.measures;
      rooms = record { ids_fit = omega (arith, size, g.narrow); dists_fit = omega arith; few = omega arith };
    }

pub returns : goal.returns
returns c =
    rw (row-lent c.args.p.n c.args.p.width c.args.table.now c.args.id) c.expand.ensures
