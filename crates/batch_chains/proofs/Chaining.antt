-- One entry more in the chains, and one node more in its seat. An entry is read before it is linked, and links and heads lie below the fresh rows: so each
-- entry reads as it did at first, and putting entry e at the front of its id's chain turns `last` of e entries into `last` of e + 1.
use Prim.Native.Nat.{ℕ, suc, ◌+◌, ◌≤◌, ◌<◌}
use native.Mathlib.Omega.{arith}
use mathlib.Core.Path.{◌≡◌, refl, sym, ap, ◌∙◌, subst}
use mathlib.Core.Logic.{◌⊎◌, inl, inr}
use mathlib.Core.Bool.{Bool, true, false}
use mathlib.Core.List.{List, [], ◌∷◌, ◌++◌}
use borrow.Author.Tests.{eqb-true, eqb-false, ltb-true, ltb-false}
use lib.Dec.{eqb, ltb}
use lib.ListN.{length, get_or, take, drop, set, length-set, length-append, drop_of_length-le}
use lib.Seq.{get_or-set_same, get_or-set_other, drop-cons, get_or-append_seam, get_or-take, take_at, take_all, take-take}
use Rattle.laws.specs.Words.{Below}
use Rattle.scratch.specs.Layout.{heads_at, links_at, links_end, fresh_at}
use Rattle.given.specs.Fresh.{entry}
use Rattle.batch_chains.specs.Last.{last, last_none, last_hit, last_miss, last-same, seat, seat-none, seat_hit, seat_miss}
use Rattle.batch_chains.specs.Says.{Laid, OneLinked, Kept, Linked, Seated}

differ : (a b : ℕ) → (a ≡ b) ⊎ (a ≡ b → ⊥)
differ a b = go (eqb a b) refl
  where
    go : (t : Bool) → eqb a b ≡ t → (a ≡ b) ⊎ (a ≡ b → ⊥)
    go true e = inl (eqb-true a b e)
    go false e = inr (eqb-false a b e)

-- entry e goes to the front of the chain of t
abbrev fronted : ℕ → ℕ → ℕ → List ℕ → List ℕ
fronted n e t w = set (set w (links_at n + e) (get_or w (heads_at n + t) 0)) (heads_at n + t) (e + 1)

-- what is read and written, where `f`, `l` and `h` are the offsets that the code asked for
module _ (n e : ℕ) (w : List ℕ) {f t : ℕ} (q : f ≡ fresh_at n) (is : t ≡ get_or w (f + e) 0) where
  target : t ≡ entry n w e
  target = is ∙ ap (λ (k : ℕ). get_or w (k + e) 0) q

  pub one_past : n ≤ t → OneLinked n e w w
  one_past h = let r = target in record { past = λ g. refl; linked = λ g. absurd (omega arith) }

  pub one_linked : {l h : ℕ} → l ≡ links_at n → h ≡ heads_at n → t < n → OneLinked n e w (set (set w (l + e) (get_or w (h + t) 0)) (h + t) (e + 1))
  one_linked {l} {h} v u low =
      let r = target in
      record {
        past = λ g. absurd (omega arith);
        linked = λ g.
            ap (λ (k : ℕ). set (set w (k + e) (get_or w (h + t) 0)) (h + t) (e + 1)) v
            ∙ ap (λ (k : ℕ). set (set w (links_at n + e) (get_or w (k + t) 0)) (k + t) (e + 1)) u
            ∙ ap (λ (k : ℕ). fronted n e k w) r;
      }

-- the first e of m entries are linked; entries are read off the words as they were
pub record Linking (n m : ℕ) (w₀ w : List ℕ) (e : ℕ) : Type 0 where
  pub most : e ≤ m
  pub size : length w ≡ length w₀
  pub heads : (i : ℕ) → i < n → get_or w (heads_at n + i) 0 ≡ last (entry n w₀) i e
  pub nexts : (a : ℕ) → a < e → entry n w₀ a < n → get_or w (links_at n + a) 0 ≡ last (entry n w₀) (entry n w₀ a) a
  pub kept : Kept n e w₀ w

module _ {n m : ℕ} {w₀ : List ℕ} (laid : Laid n m (length w₀)) where
  pub linking_start : ((i : ℕ) → i < n → get_or w₀ (heads_at n + i) 0 ≡ 0) → Linking n m w₀ w₀ 0
  linking_start z =
      record {
        most = omega arith;
        size = refl;
        heads = λ i h. z i h ∙ sym (last_none (entry n w₀) i);
        nexts = λ a h. absurd (omega arith);
        kept = record { below = λ k h. refl; between = λ k h g. refl; above = λ k h. refl };
      }

  module _ {w : List ℕ} {e : ℕ} (s : Linking n m w₀ w e) (go_on : e < m) where
    same : entry n w e ≡ entry n w₀ e
    same = let l = laid.entries in s.kept.above (fresh_at n + e) (omega arith)

    past : n ≤ entry n w₀ e → Linking n m w₀ w (suc e)
    past h =
        record {
          most = omega arith;
          size = s.size;
          heads = λ i g. s.heads i g ∙ sym (last_miss (entry n w₀) i e (λ q. omega arith));
          nexts = λ a g t. nx a t (differ a e) g;
          kept = record { below = s.kept.below; between = s.kept.between; above = λ k g. s.kept.above k (omega arith) };
        }
      where
        nx : (a : ℕ) → entry n w₀ a < n → (a ≡ e) ⊎ (a ≡ e → ⊥) → a < suc e → get_or w (links_at n + a) 0 ≡ last (entry n w₀) (entry n w₀ a) a
        nx a t (inl q) g = let u : entry n w₀ a ≡ entry n w₀ e = ap (entry n w₀) q in absurd (omega arith)
        nx a t (inr q) g = s.nexts a (omega arith) t

    module _ (t : ℕ) (at : entry n w₀ e ≡ t) (h : t < n) where
      abbrev head : ℕ
      head = heads_at n + t

      abbrev linked : List ℕ
      linked = set w (links_at n + e) (get_or w head 0)

      abbrev new : List ℕ
      new = fronted n e t w

      size_linked : length linked ≡ length w₀
      size_linked = length-set w (links_at n + e) (get_or w head 0) ∙ s.size

      elsewhere : (k : ℕ) → (k ≡ head → ⊥) → (k ≡ links_at n + e → ⊥) → get_or new k 0 ≡ get_or w k 0
      elsewhere k p q = get_or-set_other linked head k (e + 1) 0 p ∙ get_or-set_other w (links_at n + e) k (get_or w head 0) 0 q

      here_head : get_or new head 0 ≡ e + 1
      here_head = let l = laid.high in let z = size_linked in get_or-set_same linked head (e + 1) 0 (omega arith)

      here_link : get_or new (links_at n + e) 0 ≡ get_or w head 0
      here_link =
          let b = laid.entries in
          let l = laid.high in
          let z = s.size in
          get_or-set_other linked head (links_at n + e) (e + 1) 0 (λ q. omega arith) ∙ get_or-set_same w (links_at n + e) (get_or w head 0) 0 (omega arith)

      hd : (i : ℕ) → i < n → (i ≡ t) ⊎ (i ≡ t → ⊥) → get_or new (heads_at n + i) 0 ≡ last (entry n w₀) i (suc e)
      hd i g (inl q) =
          let one : e + 1 ≡ suc e = omega arith in
          ap (λ (k : ℕ). get_or new (heads_at n + k) 0) q ∙ here_head ∙ one ∙ sym (last_hit (entry n w₀) i e (at ∙ sym q))
      hd i g (inr q) =
          elsewhere (heads_at n + i) (λ p. q (omega arith)) (λ p. omega arith)
          ∙ s.heads i g
          ∙ sym (last_miss (entry n w₀) i e (λ p. q (sym p ∙ at)))

      nx : (a : ℕ) → a < suc e → entry n w₀ a < n → (a ≡ e) ⊎ (a ≡ e → ⊥) → get_or new (links_at n + a) 0 ≡ last (entry n w₀) (entry n w₀ a) a
      nx a g u (inl q) =
          ap (λ (k : ℕ). get_or new (links_at n + k) 0) q
          ∙ here_link
          ∙ s.heads t h
          ∙ ap (λ (k : ℕ). last (entry n w₀) k e) (sym at)
          ∙ ap (λ (k : ℕ). last (entry n w₀) (entry n w₀ k) k) (sym q)
      nx a g u (inr q) = elsewhere (links_at n + a) (λ p. omega arith) (λ p. q (omega arith)) ∙ s.nexts a (omega arith) u

      stored : Linking n m w₀ new (suc e)
      stored =
          record {
            most = omega arith;
            size = length-set linked head (e + 1) ∙ size_linked;
            heads = λ i g. hd i g (differ i t);
            nexts = λ a g u. nx a g u (differ a e);
            kept = record {
              below = λ k g. elsewhere k (λ p. omega arith) (λ p. omega arith) ∙ s.kept.below k g;
              between = λ k g v. elsewhere k (λ p. omega arith) (λ p. omega arith) ∙ s.kept.between k g v;
              above = λ k g. elsewhere k (λ p. omega arith) (λ p. omega arith) ∙ s.kept.above k (omega arith);
            };
          }

    pub linking_on : {w' : List ℕ} → OneLinked n e w w' → Linking n m w₀ w' (e + 1)
    linking_on {w'} o = let q : e + 1 ≡ suc e = omega arith in rw q (cases (ltb (entry n w₀ e) n) refl)
      where
        cases : (b : Bool) → ltb (entry n w₀ e) n ≡ b → Linking n m w₀ w' (suc e)
        cases true p =
            let lt : entry n w₀ e < n = ltb-true _ _ p in
            let eq : w' ≡ fronted n e (entry n w₀ e) w = o.linked (omega (arith, same)) ∙ ap (λ (t : ℕ). fronted n e t w) same in
            subst (λ (z : List ℕ). Linking n m w₀ z (suc e)) (sym eq) (stored (entry n w₀ e) refl lt)
        cases false p =
            let le : n ≤ entry n w₀ e = ltb-false _ _ p in
            subst (λ (z : List ℕ). Linking n m w₀ z (suc e)) (sym (o.past (omega (arith, same)))) (past le)

  pub linking_end : {w : List ℕ} {e : ℕ} → Linking n m w₀ w e → (e < m → ⊥) → Linked n m w₀ w
  linking_end {w} {e} s h =
      let few = laid.entries in
      let le = s.most in
      let q : e ≡ m = omega arith in
      let back : (a : ℕ) → entry n w₀ a ≡ entry n w a = λ a. sym (s.kept.above (fresh_at n + a) (omega arith)) in
      record {
        chained = record {
          heads = λ i g. s.heads i g ∙ last-same (entry n w₀) (entry n w) i e back ∙ ap (last (entry n w) i) q;
          nexts = λ a g u.
              s.nexts a (omega arith) (omega (arith, back a))
              ∙ last-same (entry n w₀) (entry n w) (entry n w₀ a) a back
              ∙ ap (λ (k : ℕ). last (entry n w) k a) (back a);
        };
        kept = record { below = s.kept.below; between = s.kept.between; above = λ k g. s.kept.above k (omega arith) };
      }

  pub requires_one : {w : List ℕ} {e : ℕ} → Linking n m w₀ w e → e < m → (n ≤ 65536) × (links_at n + e < links_end n) × (fresh_at n + e < length w)
  requires_one s h =
      let a = laid.nodes in
      let b = laid.entries in
      let c = laid.high in
      let z = s.size in
      omega arith

-- ---- seats, from the last place to the first, where `rest` is still to come
pub record Seating (nodes s₀ slots rest : List ℕ) : Type 0 where
  pub most : length rest ≤ length nodes
  pub begins : rest ≡ take (length rest) nodes
  pub size : length slots ≡ length s₀
  pub seats : (i : ℕ) → i < length s₀ → get_or slots i 0 ≡ seat (drop (length rest) nodes) i (length rest)

module _ {nodes s₀ : List ℕ} where
  pub seating_start : ((i : ℕ) → i < length s₀ → get_or s₀ i 0 ≡ 0) → Seating nodes s₀ s₀ nodes
  seating_start z =
      record {
        most = omega arith;
        begins = sym (take_all (length nodes) nodes (omega arith));
        size = refl;
        seats = λ i h. z i h ∙ sym (ap (λ (l : List ℕ). seat l i (length nodes)) (drop_of_length-le nodes {i = length nodes} (omega arith)) ∙ seat-none i (length nodes));
      }

  pub seating_on : {slots rest rest' : List ℕ} {p u x : ℕ} → Below (length s₀) nodes → Seating nodes s₀ slots rest → rest ≡ rest' ++ x ∷ [] → p ≡ length rest' → u ≡ x
      → Seating nodes s₀ (set slots u (p + 1)) rest'
  seating_on {slots} {rest} {rest'} {p} {u} {x} b s e is own =
      let q = length rest' in
      let more : length rest ≡ suc q = ap (λ (l : List ℕ). length l) e ∙ length-append rest' (x ∷ []) ∙ omega arith in
      let m = s.most in
      let node : u ≡ get_or nodes q 0 =
      own
      ∙ sym (get_or-append_seam rest' x [] 0)
      ∙ ap (λ (l : List ℕ). get_or l q 0) (sym e ∙ s.begins)
      ∙ get_or-take (length rest) nodes q 0 (omega arith) in
      let z = b q (omega arith) in
      let one : p + 1 ≡ suc q = omega arith in
      rw one record {
        most = omega arith;
        begins = sym (take_at rest' (x ∷ []) q refl) ∙ ap (take q) (sym e ∙ s.begins) ∙ take-take q (length rest) nodes (omega arith);
        size = length-set slots u (suc q) ∙ s.size;
        seats = λ i v. at q more node (omega arith) i v (differ i u);
      }
    where
      at : (q : ℕ) → length rest ≡ suc q → u ≡ get_or nodes q 0 → u < length s₀ → (i : ℕ) → i < length s₀ → (i ≡ u) ⊎ (i ≡ u → ⊥)
          → get_or (set slots u (suc q)) i 0 ≡ seat (drop q nodes) i q
      at q more node g i v (inl z) =
          let m = s.most in
          let y = s.size in
          ap (λ (j : ℕ). get_or (set slots u (suc q)) j 0) z
          ∙ get_or-set_same slots u (suc q) 0 (omega arith)
          ∙ sym (ap (λ (l : List ℕ). seat l i q) (drop-cons nodes q 0 (omega arith)) ∙ seat_hit (get_or nodes q 0) (drop (suc q) nodes) i q (z ∙ node))
      at q more node g i v (inr z) =
          let m = s.most in
          get_or-set_other slots u i (suc q) 0 z
          ∙ s.seats i v
          ∙ ap (λ (k : ℕ). seat (drop k nodes) i k) more
          ∙ sym (ap (λ (l : List ℕ). seat l i q) (drop-cons nodes q 0 (omega arith)) ∙ seat_miss (get_or nodes q 0) (drop (suc q) nodes) i q (λ w. z (w ∙ sym node)))

  pub seating_end : {slots rest : List ℕ} → Seating nodes s₀ slots rest → length rest ≡ 0 → Seated nodes slots
  seating_end {slots} {rest} s q =
      let y = s.size in
      record { seats = λ i g. s.seats i (omega arith) ∙ ap (λ (k : ℕ). seat (drop k nodes) i k) q }
