-- The chains' sources are the definition's `naming`: an entry e names its id for the listed node at place e / 64. So base and sources, put in one by one, are
-- its `merged_ids`.
use Rattle.std.specs.Prelude.{ℕ, zero, suc, ◌+◌, ◌-◌, ◌*◌, ◌/◌, ◌≤◌, ◌<◌, ◌≡◌, refl, ◌⊎◌, Bool, false, ◌||◌, cond, eqb, take, drop}
use native.Mathlib.Omega.{arith}
use Rattle.std.proofs.Math.Path.{sym, ap, subst}
use Rattle.std.proofs.Common.{◌∙◌, inl, inr, eqb-true, eq-eqb, ne_eqb}
use Rattle.std.proofs.Math.Bool.{true, not}
use Rattle.std.proofs.lemmas.Bool.{false≢true, eqb-false}
use mathlib.Core.List.{List, [], ◌∷◌, ◌++◌, map}
use mathlib.Core.List.Memᴰ.{cases_cons as cases}
use mathlib.Core.List.Memᴰ.{head as here}
use mathlib.Core.List.Memᴰ.{not-nil}
use mathlib.Core.List.Memᴰ.{tail as there}
use mathlib.Core.List.{Memᴰ as Mem}
use mathlib.Core.List.Memᴰ.{append_cases as split}
use mathlib.Core.List.Memᴰ.{append_left as in_front}
use mathlib.Core.List.Memᴰ.{append_right as in-back}
use mathlib.Core.List.Memᴰ.{map as mem-map}
use mathlib.Core.List.Memᴰ.{of_map}
use Rattle.std.proofs.Math.ListN.{length, get_or, length-drop}
use Rattle.std.proofs.Math.Seq.{get_or-drop}
use Rattle.definition.specs.Lists.{keep, is_in}
use Rattle.definition.specs.Tables.{ids, pad}
use Rattle.definition.specs.Batch.{Setting, Listed, naming, base, merged_ids}
use Rattle.laws.specs.Listed.{fresh_width, listed, listed_at}
use Rattle.laws.specs.Members.{Same, keep_mem, mem_keep}
use Rattle.scratch.specs.Layout.{fresh_at}
use Rattle.given.specs.Fresh.{Merging, entry, entries_of, listed_in}
use Rattle.batch_ids.specs.Grown.{grown, wanted, others, grown-append, grown-rising}
use Rattle.batch_chains.specs.Last.{named}
use Rattle.batch_chains.specs.Says.{sources}

-- ---- an id in a row
pub record Stands (i k : ℕ) (t : List ℕ) : Type 0 where
  pub place : ℕ
  pub near : place < k
  pub is : get_or t place 0 ≡ i

later : (i k x : ℕ) (t : List ℕ) → Stands i k t → Stands i (suc k) (x ∷ t)
later i k x t s = let h = s.near in record { place = suc s.place; near = omega arith; is = s.is }

row_to : (i k : ℕ) (t : List ℕ) → is_in i (ids (take k t)) ≡ true → Stands i k t
unfolding is_in ids keep
row_to i zero t h = absurd (false≢true h)
row_to i (suc k) [] h = absurd (false≢true h)
row_to i (suc k) (x ∷ t) h = go (not (eqb x pad)) (eqb i x) refl (row_to i k t) h
  where
    go : (b c : Bool) → eqb i x ≡ c → (is_in i (ids (take k t)) ≡ true → Stands i k t) → is_in i (cond b (x ∷ ids (take k t)) (ids (take k t))) ≡ true
        → Stands i (suc k) (x ∷ t)
    go true true e ih h = record { place = 0; near = omega arith; is = sym (eqb-true i x e) }
    go true false e ih h = later i k x t (ih (sym (ap (λ (b : Bool). b || is_in i (ids (take k t))) e) ∙ h))
    go false c e ih h = later i k x t (ih h)

row_from : (i k : ℕ) (t : List ℕ) (j : ℕ) → (i ≡ pad → ⊥) → j < k → j < length t → get_or t j 0 ≡ i → is_in i (ids (take k t)) ≡ true
unfolding is_in ids keep
row_from i zero t j n h l e = absurd (omega arith)
row_from i (suc k) [] j n h l e = absurd (omega arith)
row_from i (suc k) (x ∷ t) zero n h l e =
    let ne : x ≡ pad → ⊥ = λ q. n (sym e ∙ q) in
    rw (ne_eqb x pad ne, eq-eqb i x (sym e)) refl
row_from i (suc k) (x ∷ t) (suc j) n h l e = go (not (eqb x pad)) (eqb i x) (row_from i k t j n (omega arith) (omega arith) e)
  where
    go : (b c : Bool) → is_in i (ids (take k t)) ≡ true → is_in i (cond b (x ∷ ids (take k t)) (ids (take k t))) ≡ true
    go true c ih = or_true (eqb i x) ih
      where
        or_true : (a : Bool) → is_in i (ids (take k t)) ≡ true → (a || is_in i (ids (take k t))) ≡ true
        or_true true q = refl
        or_true false q = q
    go false c ih = ih

-- ---- an id in the fresh row of place p: `t` is the words from the first fresh row on
abbrev nodes_of : List Listed → List ℕ
nodes_of ls = map (λ l. l.node) ls

-- those of the later rows that name i
abbrev namers : ℕ → List ℕ → List ℕ → List Listed
namers i us t = keep (λ l. is_in i l.fresh) (listed_at us (drop fresh_width t))

pub record Named (nodes t : List ℕ) (i z : ℕ) : Type 0 where
  pub seat_of : ℕ
  pub entry_of : ℕ
  pub low : seat_of < length nodes
  pub near : entry_of < fresh_width
  pub who : z ≡ get_or nodes seat_of 0
  pub is : get_or t (seat_of * fresh_width + entry_of) 0 ≡ i

name_next : (u : ℕ) (us t : List ℕ) (i z : ℕ) → Named us (drop fresh_width t) i z → Named (u ∷ us) t i z
name_next u us t i z s =
    let l = s.low in
    let q : fresh_width + (s.seat_of * fresh_width + s.entry_of) ≡ suc s.seat_of * fresh_width + s.entry_of = omega arith in
    record {
      seat_of = suc s.seat_of;
      entry_of = s.entry_of;
      low = omega arith;
      near = s.near;
      who = s.who;
      is = ap (λ (k : ℕ). get_or t k 0) (sym q) ∙ sym (get_or-drop fresh_width t (s.seat_of * fresh_width + s.entry_of) 0) ∙ s.is;
    }

pub naming_to : (nodes t : List ℕ) (i z : ℕ) → Mem z (naming (listed_at nodes t) i) → Named nodes t i z
unfolding naming listed_at keep
naming_to [] t i z m = absurd (not-nil m)
naming_to (u ∷ us) t i z m₀ = go (is_in i (ids (take fresh_width t))) refl (naming_to us (drop fresh_width t) i z) m₀
  where
    first : z ≡ u → Stands i fresh_width t → Named (u ∷ us) t i z
    first e s =
        let q : 0 * fresh_width + s.place ≡ s.place = omega arith in
        record { seat_of = 0; entry_of = s.place; low = omega arith; near = s.near; who = e; is = ap (λ (k : ℕ). get_or t k 0) q ∙ s.is }

    go : (b : Bool) → is_in i (ids (take fresh_width t)) ≡ b → (Mem z (naming (listed_at us (drop fresh_width t)) i) → Named us (drop fresh_width t) i z)
        → Mem z (nodes_of (cond b (listed u (ids (take fresh_width t)) ∷ namers i us t) (namers i us t))) → Named (u ∷ us) t i z
    go true e ih m = at (cases m)
      where
        at : (z ≡ u) ⊎ Mem z (nodes_of (namers i us t)) → Named (u ∷ us) t i z
        at (inl q) = first q (row_to i fresh_width t e)
        at (inr h) = name_next u us t i z (ih h)
    go false e ih m = name_next u us t i z (ih m)

naming_from : (nodes t : List ℕ) (i p j : ℕ) → (i ≡ pad → ⊥) → p < length nodes → j < fresh_width → p * fresh_width + j < length t
    → get_or t (p * fresh_width + j) 0 ≡ i
    → Mem (get_or nodes p 0) (naming (listed_at nodes t) i)
unfolding naming listed_at keep
naming_from [] t i p j n l h b e = absurd (omega arith)
naming_from (u ∷ us) t i zero j n l h b e =
    let q : 0 * fresh_width + j ≡ j = omega arith in
    let yes : is_in i (ids (take fresh_width t)) ≡ true = row_from i fresh_width t j n h (omega arith) (ap (λ (k : ℕ). get_or t k 0) (sym q) ∙ e) in
    rw yes (here refl)
naming_from (u ∷ us) t i (suc p) j n l h b e =
    let q : fresh_width + (p * fresh_width + j) ≡ suc p * fresh_width + j = omega arith in
    let len : length (drop fresh_width t) ≡ length t - fresh_width = length-drop fresh_width t in
    go (is_in i (ids (take fresh_width t)))
    (naming_from us (drop fresh_width t) i p j n (omega arith) h (omega arith)
    (get_or-drop fresh_width t (p * fresh_width + j) 0 ∙ ap (λ (k : ℕ). get_or t k 0) q ∙ e))
  where
    go : (c : Bool) → Mem (get_or us p 0) (naming (listed_at us (drop fresh_width t)) i)
        → Mem (get_or us p 0) (nodes_of (cond c (listed u (ids (take fresh_width t)) ∷ namers i us t) (namers i us t)))
    go true m = there m
    go false m = m

-- ---- the entries that name i
named_to : (f : ℕ → ℕ) (i m a : ℕ) → Mem a (named f i m) → (a < m) × (f a ≡ i)
unfolding named
named_to f i zero a h = absurd (not-nil h)
named_to f i (suc m) a h = go (eqb (f m) i) refl (named_to f i m a) h
  where
    go : (b : Bool) → eqb (f m) i ≡ b → (Mem a (named f i m) → (a < m) × (f a ≡ i)) → Mem a (cond b (m ∷ named f i m) (named f i m))
        → (a < suc m) × (f a ≡ i)
    go true e ih k = at (cases k)
      where
        at : (a ≡ m) ⊎ Mem a (named f i m) → (a < suc m) × (f a ≡ i)
        at (inl q) = (omega arith, ap f q ∙ eqb-true (f m) i e)
        at (inr r) = let y = (ih r).0 in (omega arith, (ih r).1)
    go false e ih k = let y = (ih k).0 in (omega arith, (ih k).1)

named_from : (f : ℕ → ℕ) (i m a : ℕ) → a < m → f a ≡ i → Mem a (named f i m)
unfolding named
named_from f i zero a h e = absurd (omega arith)
named_from f i (suc m) a h e = go (eqb (f m) i) refl (λ k. named_from f i m a k e) (eqb a m) refl
  where
    go : (b : Bool) → eqb (f m) i ≡ b → (a < m → Mem a (named f i m)) → (c : Bool) → eqb a m ≡ c → Mem a (cond b (m ∷ named f i m) (named f i m))
    go true q ih true r = here (eqb-true a m r)
    go true q ih false r = let ne = eqb-false a m r in there (ih (omega arith))
    go false q ih true r = absurd (eqb-false (f m) i q (ap f (sym (eqb-true a m r)) ∙ e))
    go false q ih false r = let ne = eqb-false a m r in ih (omega arith)

module _ (f : Merging) (i : ℕ) (id : i ≡ pad → ⊥) (fits : fresh_at f.n + entries_of f.nodes ≤ length f.words) where
  -- the words from the first fresh row on
  abbrev rows : List ℕ
  rows = drop (fresh_at f.n) f.words

  abbrev at : ℕ → ℕ
  at = entry f.n f.words

  -- the listed node at whose row an entry stands
  abbrev whose : ℕ → ℕ
  whose e = get_or f.nodes (e / fresh_width) 0

  sources_to : (z : ℕ) → Mem z (sources f i (entries_of f.nodes)) → Mem z (naming (listed_in f) i)
  unfolding sources
  sources_to z m =
      let c = of_map whose (named at i (entries_of f.nodes)) m in
      let n = named_to at i (entries_of f.nodes) c.0 c.1 in
      let p = c.0 / fresh_width in
      let lt = n.0 in
      let q : p * fresh_width + (c.0 - p * fresh_width) ≡ c.0 = omega arith in
      let len : length rows ≡ length f.words - fresh_at f.n = length-drop (fresh_at f.n) f.words in
      subst (λ (y : ℕ). Mem y (naming (listed_in f) i)) c.2
      (naming_from f.nodes rows i p (c.0 - p * fresh_width) id (omega arith) (omega arith) (omega arith)
      (ap (λ (k : ℕ). get_or rows k 0) q ∙ get_or-drop (fresh_at f.n) f.words c.0 0 ∙ n.1))

  sources_from : (z : ℕ) → Mem z (naming (listed_in f) i) → Mem z (sources f i (entries_of f.nodes))
  unfolding sources
  sources_from z m =
      let s = naming_to f.nodes rows i z m in
      let e = s.seat_of * fresh_width + s.entry_of in
      let l = s.low in
      let h = s.near in
      let q : e / fresh_width ≡ s.seat_of = omega arith in
      let is : at e ≡ i = sym (get_or-drop (fresh_at f.n) f.words e 0) ∙ s.is in
      subst (λ (y : ℕ). Mem y (map whose (named at i (entries_of f.nodes)))) (ap (λ (k : ℕ). get_or f.nodes k 0) q ∙ sym s.who)
      (mem-map whose (named_from at i (entries_of f.nodes) e (omega arith) is))

  -- the contract of the chains: the same ids
  pub sources_naming : Same (sources f i (entries_of f.nodes)) (naming (listed_in f) i)
  sources_naming = record { to = sources_to; from = sources_from }

  module _ (g : Setting) (wide bw : List ℕ) (real : (p : ℕ) → p < length f.nodes → get_or f.nodes p 0 ≡ pad → ⊥)
      (eq : base g wide (listed_in f) i ≡ ids bw) where
    to_it : (z : ℕ) → Mem z (wanted i bw) ⊎ Mem z (wanted i (sources f i (entries_of f.nodes)))
        → Mem z (keep (λ v. not (eqb v i)) (base g wide (listed_in f) i ++ naming (listed_in f) i))
    unfolding wanted others ids
    to_it z (inl m) =
        let k = keep_mem (λ v. not (eqb v i)) (ids bw) m in
        mem_keep (λ v. not (eqb v i)) _ (in_front _ (subst (λ (l : List ℕ). Mem z l) (sym eq) k.0)) k.1
    to_it z (inr m) =
        let k = keep_mem (λ v. not (eqb v i)) (ids (sources f i (entries_of f.nodes))) m in
        let j = keep_mem (λ v. not (eqb v pad)) (sources f i (entries_of f.nodes)) k.0 in
        mem_keep (λ v. not (eqb v i)) _ (in-back (base g wide (listed_in f) i) (sources_naming.to z j.0)) k.1

    from_it : (z : ℕ) → not (eqb z i) ≡ true → Mem z (base g wide (listed_in f) i) ⊎ Mem z (naming (listed_in f) i)
        → Mem z (wanted i bw ++ wanted i (sources f i (entries_of f.nodes)))
    unfolding wanted others ids
    from_it z o (inl m) = in_front _ (mem_keep (λ v. not (eqb v i)) (ids bw) (subst (λ (l : List ℕ). Mem z l) eq m) o)
    from_it z o (inr m) =
        let s = naming_to f.nodes rows i z m in
        let ne : z ≡ pad → ⊥ = λ q. real s.seat_of s.low (sym s.who ∙ q) in
        let no : not (eqb z pad) ≡ true = ap not (ne_eqb z pad ne) in
        in-back (wanted i bw) (mem_keep (λ v. not (eqb v i)) _ (mem_keep (λ v. not (eqb v pad)) _ (sources_naming.from z m) no) o)

    -- base and sources, put in one by one
    pub gathered : grown (wanted i (sources f i (entries_of f.nodes))) (grown (wanted i bw) []) ≡ merged_ids g wide (listed_in f) i
    unfolding merged_ids
    gathered =
        sym (grown-append (wanted i bw) (wanted i (sources f i (entries_of f.nodes))) [])
        ∙ grown-rising _ _
        (record {
          to = λ z m. to_it z (split (wanted i bw) m);
          from = λ z m. let k = keep_mem (λ v. not (eqb v i)) _ m in from_it z k.1 (split (base g wide (listed_in f) i) k.0);
        })
