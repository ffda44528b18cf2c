-- Opening rows: one row, and the table of them.
use Rattle.std.specs.Prelude.{◌≡◌, ℕ, suc, ◌+◌, ◌-◌, ◌*◌, ◌%◌, ◌<◌, ◌≤◌, min, true, List, [], ◌++◌, length, take, drop, replicate, nat_le, refl}
use Rattle.std.proofs.Common.{sym, ap₂, ◌∙◌, zero-mul, mod-eq_of_lt, add-one, le-leb}
use Rattle.std.proofs.Math.Path.{ap, subst}
use Rattle.std.proofs.Math.Nat.{sub-zero, mod-add-mod}
use native.Mathlib.Omega.{arith}
use Rattle.std.proofs.lemmas.Bool.{lt-leb}
use borrow.Rule.Slice.PartMut.{put_mid, mid_len}
use Rattle.std.proofs.lemmas.List.{length-replicate}
use Rattle.definition.specs.Lists.{upto}
use Rattle.definition.specs.Tables.{pad, padded}
use Rattle.definition.specs.Draws.{Drawn, advance, drawn, row_ids, row_drawn, rows_from, rows_drawn}
use Rattle.draws.specs.Says.{Leaves}
use Rattle.laws.specs.Draws.{length_ids, length-row}
use Rattle.laws.specs.Parts.{part, part_length, put_part as part-put, put_within}
use Rattle.laws.specs.Tables.{row_fits}
use Rattle.laws.specs.Writing.{Writing, put_part, over_all}
use Rattle.draws.specs.Filling.{Filling, fill_start, fill_ends}

-- ---- one row

-- the id at place j of row i, from the draw r
abbrev pub id_at : ℕ → ℕ → ℕ → ℕ → ℕ
id_at n i r j = (i + 1 + (r + j) % (n - 1)) % n

pub step-first : (r m : ℕ) → r < m → r ≡ (r + 0) % m
step-first r m h =
    let q : r + 0 ≡ r = omega arith in
    sym (ap (λ (x : ℕ). x % m) q ∙ mod-eq_of_lt h)

pub step_next : (r j m step : ℕ) → step ≡ (r + j) % m → (step + 1) % m ≡ (r + (j + 1)) % m
step_next r j m step e =
    let q : r + j + 1 ≡ r + (j + 1) = omega arith in
    ap (λ (x : ℕ). (x + 1) % m) e ∙ mod-add-mod (r + j) m 1 ∙ ap (λ (x : ℕ). x % m) q

-- as the code has it: m ids in the part that ends at m, and padding from there on
pub row_written : (n i r m : ℕ) (o ids row : List ℕ) → m ≡ min (length o) (n - 1) → ids ≡ row_ids n i r (upto (length (part 0 m o)))
    → row ≡ padded (length (put_mid 0 (m - 0) o ids)) (take m (put_mid 0 (m - 0) o ids))
    → row ≡ padded (length o) (row_ids n i r (upto (min (length o) (n - 1))))
row_written n i r m o ids row em ei er =
    let fits : m ≤ length o = omega arith in
    let lm : length (part 0 m o) ≡ m = part_length 0 m o fits ∙ sub-zero m in
    let is : ids ≡ row_ids n i r (upto m) = ei ∙ ap (λ (k : ℕ). row_ids n i r (upto k)) lm in
    let li : length ids ≡ length (part 0 m o) = ap length is ∙ length_ids n i r m ∙ sym lm in
    let front : take m (put_mid 0 (m - 0) o ids) ≡ ids =
    ap (λ (k : ℕ). take k (put_mid 0 (m - 0) o ids)) (sym (sub-zero m)) ∙ part-put 0 m o ids (omega arith) fits li in
    er ∙ ap₂ padded (put_within 0 m o ids (omega arith) fits li).size (front ∙ is ∙ ap (λ (k : ℕ). row_ids n i r (upto k)) em)

-- ---- the table, i of its rows written
abbrev pub Rowing : ℕ → ℕ → ℕ → List ℕ → List ℕ → ℕ → ℕ → Type 0
Rowing n degree s₀ o out i s = Filling (rows_from n degree 0 n s₀) o out (i * degree) (rows_from n degree i (n - i) s)

pub row_within : (i n degree m : ℕ) → i < n → m ≡ n * degree → i * degree + degree ≤ m
row_within i n degree m h e = omega (arith, row_fits i n degree h)

-- what `write_row` leaves, in a part that has `degree` words, is the definition's row
row-drawn : (part row : List ℕ) (n degree i s r : ℕ) → length part ≡ degree → r ≡ drawn (n - 1) s
    → row ≡ padded (length part) (row_ids n i r (upto (min (length part) (n - 1)))) → row ≡ row_drawn n degree i s
unfolding row_drawn
row-drawn part row n degree i s r lp er e =
    e ∙ ap (λ (m : ℕ). padded m (row_ids n i r (upto (min m (n - 1))))) lp ∙ ap (λ (x : ℕ). padded degree (row_ids n i x (upto (min degree (n - 1))))) er

module _ (n degree s₀ : ℕ) (o : List ℕ) where
  pub rows_start : Rowing n degree s₀ o o 0 s₀
  rows_start = rw (zero-mul degree, sub-zero n) (fill_start (rows_from n degree 0 n s₀) o)

  module _ (out : List ℕ) (i s : ℕ) (f : Rowing n degree s₀ o out i s) where
    abbrev at : ℕ
    at = i * degree

    abbrev end : ℕ
    end = i * degree + degree

    abbrev d : Drawn
    d = rows_from n degree 0 n s₀

    -- the row itself
    row_put : (row : List ℕ) → i < n → end ≤ length out → row ≡ row_drawn n degree i (advance s)
        → Rowing n degree s₀ o (put_mid at (end - at) out row) (i + 1) (advance s)
    unfolding rows_from
    row_put row h l is =
        let q : n - i ≡ suc (n - (i + 1)) = omega arith in
        let e : end ≡ (i + 1) * degree = omega arith in
        let g = subst (λ (m : ℕ). Filling d o out at (rows_from n degree i m s)) q f in
        let len : length row ≡ end - at = ap length is ∙ length-row n degree i (advance s) ∙ omega arith in
        let rest = rows_from n degree (suc i) (n - (i + 1)) (advance s) in
        let k : Writing d.words o out at (row ++ rest.words) = subst (λ (z : List ℕ). Writing d.words o out at (z ++ rest.words)) (sym is) g.words in
        let p : Filling d o (put_mid at (end - at) out row) end rest =
        record { words = put_part d.words o out row at end _ (omega arith) l len k; state_is = g.state_is } in
        subst (λ (m : ℕ). Filling d o (put_mid at (end - at) out row) m (rows_from n degree (i + 1) (n - (i + 1)) (advance s))) e
        (subst (λ (m : ℕ). Filling d o (put_mid at (end - at) out row) end (rows_from n degree m (n - (i + 1)) (advance s))) (sym (add-one i)) p)

    pub rows_turn : (row : List ℕ) (s' r : ℕ) → i < n → length out ≡ n * degree → r ≡ drawn (n - 1) s' → s' ≡ advance s
        → row ≡ padded (length (take (end - at) (drop at out))) (row_ids n i r (upto (min (length (take (end - at) (drop at out))) (n - 1))))
        → Rowing n degree s₀ o (put_mid at (end - at) out row) (i + 1) s'
    rows_turn row s' r h len er es is =
        let fits = row_within i n degree (length out) h len in
        let lp : length (take (end - at) (drop at out)) ≡ degree = mid_len at end out fits ∙ omega arith in
        let e = row-drawn (take (end - at) (drop at out)) row n degree i (advance s) r lp (er ∙ ap (drawn (n - 1)) es) is in
        subst (λ (z : ℕ). Rowing n degree s₀ o (put_mid at (end - at) out row) (i + 1) z) (sym es) (row_put row h fits e)

    pub rows_end : n ≡ i → length out ≡ n * degree → Leaves d o s out
    unfolding rows_from
    rows_end e len =
        let q : n - i ≡ 0 = omega arith in
        let l : at ≤ length out = omega (arith, ap (λ (x : ℕ). x * degree) e) in
        fill_ends d o out at s l (subst (λ (m : ℕ). Filling d o out at (rows_from n degree i m s)) q f)

-- ---- one entry, and more
pub one-row : (n degree s : ℕ) (o after : List ℕ) → n ≡ 1 → length o ≡ n * degree → after ≡ padded (length o) [] → Leaves (rows_drawn n degree s) o s after
unfolding rows_drawn padded
one-row n degree s o after e len is =
    let le : nat_le n 1 ≡ true = le-leb n 1 (omega arith) in
    let q : length o - 0 ≡ n * degree = omega arith in
    let lw : length (replicate (n * degree) pad) ≡ length o = length-replicate (n * degree) pad ∙ sym len in
    rw le (record { words_are = is ∙ ap (λ (m : ℕ). replicate m pad) q ∙ sym (over_all (replicate (n * degree) pad) o lw); state_is = refl })

pub more_rows : (n degree s s' : ℕ) (o after : List ℕ) → 1 < n → Leaves (rows_from n degree 0 n s) o s' after → Leaves (rows_drawn n degree s) o s' after
unfolding rows_drawn
more_rows n degree s s' o after h f = rw (lt-leb n 1 h) f
