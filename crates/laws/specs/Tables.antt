-- Tables row by row, and rows as ids with padding after them.
use Prim.Native.Nat.{ℕ, zero, suc, ◌+◌, ◌-◌, ◌*◌, ◌≤◌, ◌<◌}
use Rattle.std.proofs.Common.{zero-mul, add-zero, zero-add, add-suc, suc-add, le_of_eq, le_trans, mul-le-mul_right, ap₂, ◌∙◌, eqb-true, eq-eqb, ne_eqb, length-drop, take-append-drop, take_at, drop_at, drop-drop, take-add, take_all, length-take-le, get_or-append-add}
use Rattle.std.proofs.Math.Nat.{suc-mul, add_comm, add-sub_cancel_left}
use native.Mathlib.Omega.{arith}
use Rattle.std.specs.Prelude.{◌≡◌, refl, Bool, true, not, eqb, length, get_or, replicate}
use Rattle.std.proofs.Math.Path.{sym, ap}
use mathlib.Core.List.{List, [], ◌∷◌, ◌++◌, map, append-nil, Memᴰ as Mem}
use Rattle.std.proofs.Math.ListN.{take, drop, length-append, get_or-append}
use Rattle.std.proofs.lemmas.List.{length-replicate, get_or-replicate}
use Rattle.definition.specs.Lists.{each, keep, joined, run, upto}
use Rattle.definition.specs.Slack.{slack}
use Rattle.definition.specs.Tables.{pad, row, ids, padded, table_of, only_pad, ids_first}
use Rattle.laws.specs.Truth.{and_both}
use Rattle.laws.specs.Parts.{part}
use Rattle.laws.specs.Members.{mem_each, replicate_mem, keep_append, keep_all, keep_none, keep_length, keep_full, take_mem, drop_mem}

-- ---- a table and its rows

pub row_fits : (i n width : ℕ) → i < n → i * width + width ≤ n * width
row_fits i n width h = le_trans (le_of_eq (sym (suc-mul i width))) (mul-le-mul_right width h)

pub row-length : (n width : ℕ) (table : List ℕ) → length table ≡ n * width → (i : ℕ) → i < n → length (row width table i) ≡ width
unfolding row
row-length n width table size i h =
    let f = row_fits i n width h in
    let d = length-drop (i * width) table in
    length-take-le width (drop (i * width) table) (omega arith)

-- the part that is lent is the row
pub part-row : (width : ℕ) (table : List ℕ) (i : ℕ) → part (i * width) (i * width + width) table ≡ row width table i
unfolding row
part-row width table i = rw add-sub_cancel_left refl

pub row-mem : (width : ℕ) (table : List ℕ) (i : ℕ) {w : ℕ} → Mem w (row width table i) → Mem w table
unfolding row
row-mem width table i m = drop_mem (i * width) table (take_mem width (drop (i * width) table) m)

module _ (width : ℕ) (rows : ℕ → List ℕ) where
  -- the rows s, s + 1, .., k of them, one after another
  abbrev Wide : ℕ → ℕ → Type 0
  Wide s k = (i : ℕ) → s ≤ i → i < s + k → length (rows i) ≡ width

  run_row : (k s i : ℕ) → Wide s k → i < k → take width (drop (i * width) (joined (map rows (run s k)))) ≡ rows (s + i)
  unfolding joined run
  run_row zero s i w h = absurd (omega arith)
  run_row (suc k) s zero w h =
      rw (zero-mul, add-zero) (take_at (rows s) (joined (map rows (run (suc s) k))) width (w s (omega arith) (omega arith)))
  run_row (suc k) s (suc i) w h =
      let t = joined (map rows (run (suc s) k)) in
      let cut : drop (suc i * width) (rows s ++ t) ≡ drop (i * width) t =
      ap (λ (x : ℕ). drop x (rows s ++ t)) (suc-mul i width ∙ add_comm (i * width) width)
      ∙ sym (drop-drop (i * width) width (rows s ++ t)) ∙ ap (λ (l : List ℕ). drop (i * width) l)
      (drop_at (rows s) t width (w s (omega arith) (omega arith))) in
      ap (λ (l : List ℕ). take width l) cut ∙ run_row k (suc s) i (λ j lo hi. w j (omega arith) (omega arith)) (omega arith) ∙ ap rows
      (suc-add s i ∙ sym (add-suc s i))

  run_length : (k s : ℕ) → Wide s k → length (joined (map rows (run s k))) ≡ k * width
  unfolding joined run
  run_length zero s w = sym (zero-mul width)
  run_length (suc k) s w =
      let a = length-append (rows s) (joined (map rows (run (suc s) k))) in
      let b = w s (omega arith) (omega arith) in
      let c = run_length k (suc s) (λ i lo hi. w i (omega arith) (omega arith)) in
      let d = suc-mul k width in
      omega arith

module _ (n width : ℕ) (rows : ℕ → List ℕ) (wide : (i : ℕ) → i < n → length (rows i) ≡ width) where
  pub table_length : length (table_of n rows) ≡ n * width
  unfolding table_of upto
  table_length = run_length width rows n 0 (λ i lo hi. wide i (omega arith))

  pub row_table_of : (i : ℕ) → i < n → row width (table_of n rows) i ≡ rows i
  unfolding row table_of upto
  row_table_of i h = run_row width rows n 0 i (λ j lo hi. wide j (omega arith)) h ∙ ap rows (zero-add i)

rows_of : (width : ℕ) (t : List ℕ) (k s : ℕ) → joined (map (row width t) (run s k)) ≡ take (k * width) (drop (s * width) t)
unfolding joined run row
rows_of width t zero s = rw zero-mul
rows_of width t (suc k) s =
    let rest : joined (map (row width t) (run (suc s) k)) ≡ take (k * width) (drop width (drop (s * width) t)) =
    rows_of width t k (suc s) ∙ ap (λ (l : List ℕ). take (k * width) l) (ap (λ (x : ℕ). drop x t) (suc-mul s width) ∙ sym (drop-drop width (s * width) t)) in
    ap (λ (l : List ℕ). row width t s ++ l) rest ∙ sym (take-add width (k * width) (drop (s * width) t))
    ∙ ap (λ (x : ℕ). take x (drop (s * width) t)) (add_comm width (k * width) ∙ sym (suc-mul k width))

pub table_of_row : (n width : ℕ) (t : List ℕ) → length t ≡ n * width → table_of n (row width t) ≡ t
unfolding table_of upto
table_of_row n width t h = rows_of width t n 0 ∙ rw zero-mul (take_all (n * width) t (le_of_eq h))

-- ---- how wide a row is

pub slack_wide : (degree : ℕ) → degree ≤ slack degree
unfolding slack
slack_wide degree = omega arith

pub slack-few : (degree : ℕ) → degree ≤ 64 → slack degree ≤ 84
unfolding slack
slack-few degree h = omega arith

-- ---- ids, then padding

pub length-padded : (width : ℕ) (xs : List ℕ) → length xs ≤ width → length (padded width xs) ≡ width
unfolding padded
length-padded width xs h = simp (length-append, length-replicate) (omega arith)

-- the word at a place of a padded row
pub padded_id : (width : ℕ) (xs : List ℕ) (k : ℕ) → k < length xs → get_or (padded width xs) k 0 ≡ get_or xs k 0
unfolding padded
padded_id width xs k h = get_or-append xs (replicate (width - length xs) pad) 0 k h

pub padded-pad : (width : ℕ) (xs : List ℕ) (k : ℕ) → length xs ≤ k → k < width → get_or (padded width xs) k 0 ≡ pad
unfolding padded
padded-pad width xs k h l =
    let past : k ≡ length xs + (k - length xs) = omega arith in
    ap (λ (j : ℕ). get_or (xs ++ replicate (width - length xs) pad) j 0) past
    ∙ get_or-append-add xs (replicate (width - length xs) pad) (k - length xs) 0 ∙ get_or-replicate (width - length xs) (k - length xs) pad 0 (omega arith)

pub only_pad_lem : (ws : List ℕ) → only_pad ws ≡ true → ws ≡ replicate (length ws) pad
unfolding only_pad each
only_pad_lem [] t = refl
only_pad_lem (w ∷ ws) t =
    let b = and_both (eqb w pad) (each (λ v. eqb v pad) ws) t in
    ap₂ (λ (x : ℕ) (l : List ℕ). x ∷ l) (eqb-true w pad b.0) (only_pad_lem ws b.1)

pub pad_only : (k : ℕ) → only_pad (replicate k pad) ≡ true
unfolding only_pad
pad_only k = mem_each (λ v. eqb v pad) (replicate k pad) (λ x m. eq-eqb x pad (replicate_mem k pad m))

-- an id in front, padding in front
pub ids-first : (w : ℕ) (ws : List ℕ) → (w ≡ pad → ⊥) → ids (w ∷ ws) ≡ w ∷ ids ws
unfolding ids keep
ids-first w ws h = rw (ne_eqb w pad h) refl

pub ids_skip : (w : ℕ) (ws : List ℕ) → w ≡ pad → ids (w ∷ ws) ≡ ids ws
unfolding ids keep
ids_skip w ws h = rw (eq-eqb w pad h) refl

pub no_ids : (k : ℕ) → ids (replicate k pad) ≡ []
unfolding ids
no_ids k = keep_none (λ w. not (eqb w pad)) (replicate k pad) (λ x m. ap not (eq-eqb x pad (replicate_mem k pad m)))

pub ids-append : (xs ys : List ℕ) → ids (xs ++ ys) ≡ ids xs ++ ids ys
unfolding ids
ids-append xs ys = keep_append (λ w. not (eqb w pad)) xs ys

-- padding has no ids
pub ids-pad : (xs : List ℕ) (k : ℕ) → ids (xs ++ replicate k pad) ≡ ids xs
ids-pad xs k = ids-append xs (replicate k pad) ∙ ap (λ (l : List ℕ). ids xs ++ l) (no_ids k) ∙ append-nil (ids xs)

pub ids-of : (xs : List ℕ) (k : ℕ) → ((x : ℕ) → Mem x xs → ¬ (x ≡ pad)) → ids (xs ++ replicate k pad) ≡ xs
unfolding ids
ids-of xs k f = ids-pad xs k ∙ keep_all (λ w. not (eqb w pad)) xs (λ x m. ap not (ne_eqb x pad (f x m)))

pub ids-padded : (width : ℕ) (xs : List ℕ) → ((x : ℕ) → Mem x xs → ¬ (x ≡ pad)) → ids (padded width xs) ≡ xs
unfolding padded
ids-padded width xs f = ids-of xs (width - length xs) f

pub ids-few : (words : List ℕ) → length (ids words) ≤ length words
unfolding ids
ids-few words = keep_length (λ w. not (eqb w pad)) words

-- words whose ids come first are those ids and then padding
pub ids_split : (words : List ℕ) → ids_first words ≡ true → words ≡ ids words ++ replicate (length words - length (ids words)) pad
unfolding ids_first ids
ids_split words t =
    let p : ℕ → Bool = λ w. not (eqb w pad) in
    let k = length (keep p words) in
    let few : k ≤ length words = keep_length p words in
    let rest : drop k words ≡ replicate (length words - k) pad = only_pad_lem (drop k words) t ∙ ap (λ (j : ℕ). replicate j pad) (length-drop k words) in
    let front : keep p words ≡ keep p (take k words) =
    ap (keep p) (sym (take-append-drop k words) ∙ ap (λ (l : List ℕ). take k words ++ l) rest) ∙ ids-pad (take k words) (length words - k) in
    let full : keep p words ≡ take k words = front ∙ keep_full p (take k words)
    (sym (ap (λ (l : List ℕ). length l) front) ∙ sym (length-take-le k words few)) in
    sym (take-append-drop k words) ∙ ap₂ (λ (a b : List ℕ). a ++ b) (sym full) rest
