-- The ids of a row copied to the front of a list.
use Prim.Native.Nat.{ℕ, ◌+◌, ◌≤◌, ◌<◌}
use native.Mathlib.Numerals.{add-one}
use native.Mathlib.Omega.{arith}
use mathlib.Core.Path.{◌≡◌, sym, ap, ◌∙◌, subst}
use mathlib.Core.List.{List, [], ◌∷◌, ◌++◌, append_assoc, append-nil}
use lib.ListN.{length, get_or, take, drop, set, length-set, drop_of_length-le}
use lib.Seq.{drop-cons, take-suc-set}
use Rattle.definition.specs.Lists.{keep}
use Rattle.definition.specs.Tables.{pad, ids}
use Rattle.laws.specs.Tables.{ids-first, ids_skip}
use Rattle.table.specs.Rows.{IdsCopied}

pub record Copying (words out : List ℕ) (count i : ℕ) : Type 0 where
  pub most : i ≤ length words
  pub few : count ≤ i
  pub room : length words ≤ length out
  pub are : take count out ++ ids (drop i words) ≡ ids words

module _ (words out : List ℕ) (count i : ℕ) (s : Copying words out count i) (h : i < length words) where
  next : drop i words ≡ get_or words i 0 ∷ drop (i + 1) words
  next = drop-cons words i 0 h ∙ ap (λ (k : ℕ). get_or words i 0 ∷ drop k words) (sym (add-one i))

  pub copy_id : (get_or words i 0 ≡ pad → ⊥) → Copying words (set out count (get_or words i 0)) (count + 1) (i + 1)
  copy_id e =
      let f = s.few in
      let r = s.room in
      record {
        most = omega arith;
        few = omega arith;
        room = omega (arith, length-set out count (get_or words i 0));
        are =
            ap (λ (k : ℕ). take k (set out count (get_or words i 0)) ++ ids (drop (i + 1) words)) (add-one count)
            ∙ ap (λ (l : List ℕ). l ++ ids (drop (i + 1) words)) (take-suc-set out count (get_or words i 0) (omega arith))
            ∙ append_assoc (take count out) (get_or words i 0 ∷ []) (ids (drop (i + 1) words))
            ∙ ap (λ (l : List ℕ). take count out ++ l) (sym (ap ids next ∙ ids-first (get_or words i 0) (drop (i + 1) words) e))
            ∙ s.are;
      }

  pub copy_pad : get_or words i 0 ≡ pad → Copying words out count (i + 1)
  copy_pad e =
      let f = s.few in
      record {
        most = omega arith;
        few = omega arith;
        room = s.room;
        are = ap (λ (l : List ℕ). take count out ++ l) (sym (ap ids next ∙ ids_skip (get_or words i 0) (drop (i + 1) words) e)) ∙ s.are;
      }

pub copy_same : (words out out' : List ℕ) (count count' i : ℕ) → out' ≡ out → count' ≡ count → Copying words out count i → Copying words out' count' i
copy_same words out out' count count' i e q s =
    subst (λ (k : ℕ). Copying words out' k i) (sym q) (subst (λ (l : List ℕ). Copying words l count i) (sym e) s)

pub copy_end : (words out : List ℕ) (count i : ℕ) → Copying words out count i → (i < length words → ⊥) → IdsCopied words out count
unfolding ids keep
copy_end words out count i s h =
    let f = s.few in
    let m = s.most in
    let past : length words ≤ i = omega arith in
    let nothing : drop i words ≡ [] = drop_of_length-le words past in
    record {
      are = sym (append-nil (take count out)) ∙ ap (λ (l : List ℕ). take count out ++ ids l) (sym nothing) ∙ s.are;
      most = omega arith;
    }
