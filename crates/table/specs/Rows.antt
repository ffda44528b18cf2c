-- A row that was written, and a table of which one row was: that row is what was written, and every other is as it was.
use Rattle.std.specs.Prelude.{◌≡◌, refl, List, [], ◌∷◌, ◌++◌, ℕ, zero, suc, ◌+◌, ◌-◌, ◌*◌, ◌≤◌, ◌<◌, length, take, drop}
use Rattle.std.proofs.Common.{sym, ap₂, ◌∙◌, arith, length-take-le, drop_at, take-take, drop-drop}
use Rattle.std.proofs.Math.Path.{ap}
use Rattle.std.proofs.Math.Nat.{add-sub_cancel_left}
use Rattle.std.proofs.Math.Seq.{take_at}
use borrow.Rule.Slice.PartMut.{put_mid}
use Rattle.definition.specs.Tables.{row, ids, padded}
use Rattle.laws.specs.Parts.{part, part_length}
use Rattle.laws.specs.Tables.{row_fits, length-padded}

-- the words are those ids, then padding; r says how many ids
pub record Written (row : List ℕ) (r width : ℕ) (ids : List ℕ) : Type 0 where
  pub count : r ≡ length ids
  pub words : row ≡ padded width ids

-- only the row at `place` of the table differs: it is those ids, then padding
pub record Stretched (table₀ table : List ℕ) (place width r : ℕ) (ids : List ℕ) : Type 0 where
  pub count : r ≡ length ids
  pub words : table ≡ take (place * width) table₀ ++ (padded width ids ++ drop (place * width + width) table₀)

-- the first r words are the ids of the row
pub record IdsCopied (words out : List ℕ) (r : ℕ) : Type 0 where
  pub are : take r out ≡ ids words
  pub most : r ≤ length words

-- ---- a row is lent as its stretch of the table, and comes back written

pub stretch_length : (table : List ℕ) (place width : ℕ) → place * width + width ≤ length table → length (part (place * width) (place * width + width) table) ≡ width
stretch_length table place width h = part_length (place * width) (place * width + width) table h ∙ add-sub_cancel_left (place * width) width

pub stretched : (table row : List ℕ) (place width r : ℕ) (ids : List ℕ) → place * width + width ≤ length table
    → Written row r (length (part (place * width) (place * width + width) table)) ids
    → Stretched table (put_mid (place * width) ((place * width + width) - place * width) table row) place width r ids
stretched table row place width r ids h w =
    let at = place * width in
    let is : row ≡ padded width ids = w.words ∙ ap (λ (k : ℕ). padded k ids) (stretch_length table place width h) in
    let rest : drop ((at + width) - at) (drop at table) ≡ drop (at + width) table = ap (λ (k : ℕ). drop k (drop at table)) (add-sub_cancel_left at width) ∙ drop-drop width at table in
    record { count = w.count; words = ap₂ (λ (l m : List ℕ). take at table ++ (l ++ m)) is rest }

-- the same row said by other words
pub stretched_as : (table₀ table : List ℕ) (p place width r : ℕ) (ids xs : List ℕ) → p ≡ place → ids ≡ xs
    → Stretched table₀ table p width r ids → Stretched table₀ table place width (length xs) xs
stretched_as table₀ table p place width r ids xs q e s =
    record {
      count = refl;
      words =
          s.words
          ∙ ap₂ (λ (k : ℕ) (l : List ℕ). take (k * width) table₀ ++ (padded width l ++ drop (k * width + width) table₀)) q e;
    }

-- ---- that row, and any other

-- a row lies in what stands before its end
row_before : (width : ℕ) (t : List ℕ) (j a : ℕ) → j * width + width ≤ a → row width t j ≡ row width (take a t) j
unfolding row
row_before width t j a h = go (j * width) t a h
  where
    go : (b : ℕ) (l : List ℕ) (c : ℕ) → b + width ≤ c → take width (drop b l) ≡ take width (drop b (take c l))
    go zero l c h = sym (take-take width c l (omega arith))
    go (suc b) l zero h = absurd (omega arith)
    go (suc b) [] (suc c) h = refl
    go (suc b) (x ∷ l) (suc c) h = go b l c (omega arith)

row-after : (width : ℕ) (t : List ℕ) (j e : ℕ) → e ≤ j * width → row width t j ≡ take width (drop (j * width - e) (drop e t))
unfolding row
row-after width t j e h = let q : j * width ≡ e + (j * width - e) = omega arith in ap (take width) (ap (λ (k : ℕ). drop k t) q ∙ sym (drop-drop (j * width - e) e t))

module _ (t₀ t : List ℕ) (place width r : ℕ) (ids : List ℕ) (s : Stretched t₀ t place width r ids) (fits : place * width + width ≤ length t₀) (few : length ids ≤ width) where
  abbrev at : ℕ
  at = place * width

  abbrev end : ℕ
  end = place * width + width

  abbrev rest : List ℕ
  rest = padded width ids ++ drop end t₀

  front : length (take at t₀) ≡ at
  front = length-take-le at t₀ (omega arith)

  from : drop at t ≡ rest
  from = ap (drop at) s.words ∙ drop_at (take at t₀) rest at front

  pub row_here : row width t place ≡ padded width ids
  unfolding row
  row_here = ap (take width) from ∙ take_at (padded width ids) (drop end t₀) width (length-padded width ids few)

  below : take at t ≡ take at t₀
  below = ap (take at) s.words ∙ take_at (take at t₀) rest at front

  above : drop end t ≡ drop end t₀
  above = sym (drop-drop width at t) ∙ ap (drop width) from ∙ drop_at (padded width ids) (drop end t₀) width (length-padded width ids few)

  pub row_lower : (j : ℕ) → j < place → row width t j ≡ row width t₀ j
  row_lower j h =
      let f = row_fits j place width h in
      row_before width t j at f ∙ ap (λ (l : List ℕ). row width l j) below ∙ sym (row_before width t₀ j at f)

  pub row_higher : (j : ℕ) → place < j → row width t j ≡ row width t₀ j
  row_higher j h =
      let f = row_fits place j width h in
      row-after width t j end f ∙ ap (λ (l : List ℕ). take width (drop (j * width - end) l)) above ∙ sym (row-after width t₀ j end f)
