-- A row of which all words from place i on became padding.
use Rattle.std.proofs.Common.{◌≡◌, refl, List, [], ℕ, ◌-◌, ◌≤◌, length, take, drop, replicate, append-nil, arith, length-drop, length-take-le, drop_of_length-le}
use borrow.Rule.Slice.PartMut.{put_mid, mid_len}
use Rattle.definition.specs.Tables.{pad, padded}

pub padded_tail : (l tail : List ℕ) (i : ℕ) → i ≤ length l → tail ≡ replicate (length (take (length l - i) (drop i l))) pad
    → put_mid i (length l - i) l tail ≡ padded (length l) (take i l)
unfolding padded
padded_tail l tail i h e =
    let none : drop (length l - i) (drop i l) ≡ [] = drop_of_length-le (drop i l) (omega (arith, length-drop i l)) in
    rw (e, none, append-nil (replicate (length (take (length l - i) (drop i l))) pad), mid_len i (length l) l (omega arith), length-take-le i l h) refl
