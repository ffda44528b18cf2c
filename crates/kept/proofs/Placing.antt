-- A key that was put among the keys of kept items: these are then the keys of the items with the new one put in, and what was walked is walked yet.
use mathlib.Core.Path.{◌≡◌, refl, sym, ap, ◌∙◌, subst}
use mathlib.Core.Bool.{true, false}
use mathlib.Core.List.{List, ◌∷◌, ◌++◌, map}
use Prim.Native.Nat.{ℕ, suc, ◌+◌, ◌-◌, ◌≤◌, ◌<◌}
use native.Mathlib.Omega.{arith}
use borrow.Author.Tests.{ltb-true, ltb-false, lt-ltb, le-ltb}
use lib.ListN.{length, get_or, take, drop}
use lib.Seq.{length-take-le, take_at, take-append-le, drop-append-add, drop-drop}
use Rattle.definition.specs.Beam.{Item, nobody, nearer}
use Rattle.laws.specs.All.{All, all_at}
use Rattle.laws.specs.Backwards.{rev, map-append, map-take, rev_put_in}
use Rattle.laws.specs.Mapped.{map_drop}
use Rattle.laws.specs.Parts.{part, drop_take}
use Rattle.beam.specs.Keys.{Put}
use Rattle.beam.specs.Placing.{put_is}
use Rattle.kept.specs.Kept.{Kept, key_of, keys_of, opening, Closed, Inside, Falling}
use Rattle.kept.specs.Keyed.{open_nearer, length_keys, length_front, falling_at}
use Rattle.kept.proofs.Keeping.{put, put_first}
use Rattle.kept.specs.Reading.{key_at}

module _ (n : ℕ) (most : n ≤ 65536) (x : Item) (own : x.id < 65536) (ks : List Kept) (inside : All (Inside n) ks) (sorted : Falling ks)
    (y : ℕ) (behind : List ℕ) (at : ℕ) (after : List ℕ) (p : Put (rev (keys_of ks) ++ y ∷ behind) (length ks) (key_of (opening x)) at after) where
  -- where it stands among the items, of which the worst comes first
  abbrev j : ℕ
  j = length ks - at

  abbrev keys : List ℕ
  keys = rev (keys_of ks)

  low : (k : ℕ) → k < length ks → (get_or ks k (opening nobody)).of.id < 65536
  low k h = omega (arith, (all_at (Inside n) (opening nobody) ks inside k h).0)

  near : (k : ℕ) → k < j → nearer x (get_or ks k (opening nobody)).of ≡ true
  near k h =
      let u : Kept = get_or ks k (opening nobody) in
      sym (open_nearer x u own (low k (omega arith)))
      ∙ lt-ltb (key_of (opening x)) (key_of u)
      (omega (
        arith,
        ltb-true (key_of (opening x)) (get_or (keys ++ y ∷ behind) at 0) p.behind,
        key_at ks (y ∷ behind) at (omega arith),
        falling_at ks sorted k (length ks - 1 - at) (omega arith) (omega arith),
      ))

  far : j < length ks → nearer x (get_or ks j (opening nobody)).of ≡ false
  far h =
      let u : Kept = get_or ks j (opening nobody) in
      let e : length ks - 1 - (at - 1) ≡ j = omega (arith, p.le) in
      sym (open_nearer x u own (low j h))
      ∙ le-ltb (key_of (opening x)) (key_of u)
      (omega (
        arith,
        ltb-false (key_of (opening x)) (get_or (keys ++ y ∷ behind) (at - 1) 0) (p.in_front (at - 1) (omega (arith, p.le))),
        key_at ks (y ∷ behind) (at - 1) (omega (arith, p.le)),
        ap (λ (i : ℕ). key_of (get_or ks i (opening nobody))) e,
      ))

  put_at : put x ks ≡ take j ks ++ opening x ∷ drop j ks
  put_at = put_first x ks j (omega arith) near far

  keys_in : keys_of (put x ks) ≡ take j (keys_of ks) ++ key_of (opening x) ∷ drop j (keys_of ks)
  keys_in =
      ap (map key_of) put_at ∙ map-append key_of (take j ks) (opening x ∷ drop j ks)
      ∙ ap (λ (l : List ℕ). l ++ key_of (opening x) ∷ map key_of (drop j ks)) (map-take key_of j ks)
      ∙ ap (λ (l : List ℕ). take j (keys_of ks) ++ key_of (opening x) ∷ l) (map_drop key_of j ks)

  pub keys_put : after ≡ rev (keys_of (put x ks)) ++ behind
  keys_put =
      put_is p ∙ rw (front, moved, back) refl
      ∙ ap (λ (l : List ℕ). l ++ behind)
      (sym (rev_put_in (key_of (opening x)) (keys_of ks) j at (omega (arith, length_keys ks, p.le))) ∙ ap rev (sym keys_in))
    where
      size : length keys ≡ length ks
      size = length_front ks

      front : take at (keys ++ y ∷ behind) ≡ take at keys
      front = take-append-le at keys (y ∷ behind) (omega (arith, size, p.le))

      moved : part at (length ks) (keys ++ y ∷ behind) ≡ drop at keys
      moved = sym (drop_take at (length ks) (keys ++ y ∷ behind)) ∙ ap (drop at) (take_at keys (y ∷ behind) (length ks) size)

      back : drop (length ks + 1) (keys ++ y ∷ behind) ≡ behind
      back =
          let e : length ks + 1 ≡ length keys + 1 = omega (arith, size) in
          ap (λ (i : ℕ). drop i (keys ++ y ∷ behind)) e ∙ drop-append-add keys (y ∷ behind) 1

  -- what is behind it among the items stands as it stood
  pub closed_put : (m : ℕ) → m ≤ at → Closed (drop (length ks - m) ks) → Closed (drop (suc (length ks) - m) (put x ks))
  closed_put m h c = subst Closed (sym same) c
    where
      front : length (take j ks) ≡ j
      front = length-take-le j ks (omega arith)

      later : drop (suc j) (put x ks) ≡ drop j ks
      later =
          let e : suc j ≡ length (take j ks) + 1 = omega (arith, front) in
          ap (drop (suc j)) put_at ∙ ap (λ (i : ℕ). drop i (take j ks ++ opening x ∷ drop j ks)) e
          ∙ drop-append-add (take j ks) (opening x ∷ drop j ks) 1

      same : drop (suc (length ks) - m) (put x ks) ≡ drop (length ks - m) ks
      same =
          let e : suc (length ks) - m ≡ suc j + (at - m) = omega (arith, p.le) in
          let f : j + (at - m) ≡ length ks - m = omega (arith, p.le) in
          ap (λ (i : ℕ). drop i (put x ks)) e ∙ sym (drop-drop (at - m) (suc j) (put x ks)) ∙ ap (drop (at - m)) later
          ∙ drop-drop (at - m) j ks ∙ ap (λ (i : ℕ). drop i ks) f
