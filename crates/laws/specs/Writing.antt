-- A slice that is written from its front: w is what is to stand there, `rest` is what is still to be written. Where `rest` is the definition's own
-- recursive call at the loop's place, a turn of the loop is one equation of the definition and one `put`.
use Rattle.std.specs.Prelude.{◌≡◌, refl, ℕ, suc, ◌+◌, ◌-◌, ◌≤◌, ◌<◌, get_or, set}
use Rattle.std.proofs.Math.Path.{sym, ap}
use Rattle.std.proofs.Common.{◌∙◌, add-one, arith, length-append, length-set, take-append-drop, take-suc, take-suc-set, drop-set-lt, drop-cons, take_all}
use mathlib.Core.List.{List, [], ◌∷◌, ◌++◌, append_assoc, append-nil}
use Rattle.std.proofs.Math.ListN.{length, take, drop}
use Rattle.std.proofs.Math.Seq.{append_snoc, length-take-le, take_at, drop-length}
use Rattle.std.proofs.lemmas.List.{set_at}
use borrow.Rule.Slice.PartMut.{put_mid, same_len_mid, mid_len, drop_put}
use Rattle.definition.specs.Lists.{over}
use Rattle.laws.specs.Parts.{drop_more}

pub record Writing {A : Type 0} (w o out : List A) (j : ℕ) (rest : List A) : Type 0 where
  pub size : length out ≡ length o
  pub whole : take j out ++ rest ≡ w
  pub beyond : drop j out ≡ drop j o

module _ {A : Type 0} where
  pub start : (w o : List A) → Writing w o o 0 w
  start w o = record { size = refl; whole = refl; beyond = refl }

  -- one word
  pub put : (w o out : List A) (j : ℕ) (x : A) (rest : List A) → j < length out → Writing w o out j (x ∷ rest) → Writing w o (set out j x) (j + 1) rest
  put w o out j x rest h s =
      record {
        size = length-set out j x ∙ s.size;
        whole = ap (λ (m : ℕ). take m (set out j x) ++ rest) (add-one j) ∙ ap (λ (l : List A). l ++ rest) (take-suc-set out j x h) ∙ append_snoc
            (take j out) x rest ∙ s.whole;
        beyond = drop-set-lt (j + 1) out j x (omega arith) ∙ drop_more j (j + 1) out o (omega arith) s.beyond;
      }

  -- a part
  pub put_part : (w o out ys : List A) (a e : ℕ) (rest : List A) → a ≤ e → e ≤ length out → length ys ≡ e - a → Writing w o out a (ys ++ rest)
      → Writing w o (put_mid a (e - a) out ys) e rest
  put_part w o out ys a e rest le fits len s =
      let ta : length (take a out) ≡ a = length-take-le a out (omega arith) in
      let tl : length (take a out ++ ys) ≡ e = length-append (take a out) ys ∙ omega arith in
      record {
        size = same_len_mid a (e - a) out ys (len ∙ sym (mid_len a e out fits)) ∙ s.size;
        whole =
            ap (λ (l : List A). take e l ++ rest) (sym (append_assoc (take a out) ys (drop (e - a) (drop a out))))
            ∙ ap (λ (l : List A). l ++ rest) (take_at (take a out ++ ys) (drop (e - a) (drop a out)) e tl)
            ∙ append_assoc (take a out) ys rest ∙ s.whole;
        beyond = drop_put a e out ys le fits len ∙ drop_more a e out o le s.beyond;
      }

  pub ends : (w o out : List A) (j : ℕ) → j ≤ length out → Writing w o out j [] → out ≡ over w o
  unfolding over
  ends w o out j h s =
      let t : take j out ≡ w = sym (append-nil (take j out)) ∙ s.whole in
      let n : length w ≡ j = ap length (sym t) ∙ length-take-le j out h in
      sym (take-append-drop j out) ∙ ap (λ (l : List A). take j out ++ l) s.beyond ∙ ap (λ (l : List A). l ++ drop j o) t ∙ ap
      (λ (m : ℕ). w ++ drop m o) (sym n)

  -- where nothing is left beyond, it is the whole
  pub all_ends : (w o out : List A) (j : ℕ) → length out ≤ j → Writing w o out j [] → out ≡ w
  all_ends w o out j h s = sym (take_all j out h) ∙ sym (append-nil (take j out)) ∙ s.whole

  -- a turn of a loop that copies s over the front
  pub copy_step : (d : A) (s old : List A) (i : ℕ) → i < length s → i < length old
      → set (take i s ++ drop i old) i (get_or s i d) ≡ take (i + 1) s ++ drop (i + 1) old
  copy_step d s old i h k =
      ap (λ (z : List A). set (take i s ++ z) i (get_or s i d)) (drop-cons old i d k)
      ∙ set_at (take i s) (get_or old i d) (drop (suc i) old) (get_or s i d) i (length-take-le i s (omega arith))
      ∙ sym (append_snoc (take i s) (get_or s i d) (drop (suc i) old))
      ∙ ap (λ (z : List A). z ++ drop (suc i) old) (sym (take-suc s i d h))
      ∙ ap (λ (m : ℕ). take m s ++ drop m old) (sym (add-one i))

  -- ---- what was written over the front of a list

  pub over_front : (w o : List A) (k : ℕ) → length w ≡ k → take k (over w o) ≡ w
  unfolding over
  over_front w o k e = take_at w (drop (length w) o) k e

  pub over_all : (w o : List A) → length w ≡ length o → over w o ≡ w
  unfolding over
  over_all w o e = ap (λ (m : ℕ). w ++ drop m o) e ∙ ap (λ (z : List A). w ++ z) (drop-length o) ∙ append-nil w
