-- One word more of a row. Where its mark is the epoch, nothing differs: it is an entry that was seen, or no entry at all. Else it is a new id.
use mathlib.Core.Path.{◌≡◌, refl, sym, ap, ◌∙◌, subst}
use mathlib.Core.Bool.{Bool, true, false, cond, ◌||◌, or-true, or-false}
use mathlib.Core.List.{List, [], ◌∷◌, ◌++◌, append-nil, append_assoc}
use Prim.Native.Nat.{ℕ, suc, ◌+◌, ◌≤◌, ◌<◌}
use native.Mathlib.Numerals.{add-one}
use native.Mathlib.Omega.{arith}
use borrow.Author.Tests.{eq-eqb, ne_eqb, eqb-true, eqb-false, lt-ltb, ltb-true, ltb-false}
use lib.Dec.{eqb, ltb}
use lib.ListN.{length, get_or, take, set, length-set, length-append}
use lib.Seq.{length-take-le, get_or-take, get_or-set_same, get_or-set_other, set-get_or, take_all, take-suc, take-suc-set, take-set-lt, take-set-le}
use Rattle.definition.specs.Lists.{is_in}
use Rattle.definition.specs.Tables.{pad, cleaned}
use Rattle.laws.specs.All.{All, all_more}
use Rattle.laws.specs.Backwards.{map-append}
use Rattle.laws.specs.Parts.{within_wider, within_trans, within_none, set_within}
use Rattle.laws.specs.Truth.{decide}
use Rattle.scratch.specs.Layout.{stray_at, visited_at}
use Rattle.marks.specs.Marked.{count, visited_of, news, Marked, Seen, mark_of, new_of, Notes, Gathers}
use Rattle.marks.specs.Counting.{count_set, in-snoc}
use Rattle.marks.specs.News.{news_pad, news_old, news_new, id_real, news_more}

-- a word as a row that is cleaned has it
abbrev clean : ℕ → ℕ → ℕ
clean n w = cond (ltb w n) w pad

cleaned_more : (n : ℕ) (row : List ℕ) (w : ℕ) → cleaned n (row ++ (w ∷ [])) ≡ cleaned n row ++ (clean n w ∷ [])
unfolding cleaned
cleaned_more n row w = map-append (clean n) row (w ∷ [])

-- a row is gathered; then comes the word w
module _ {n epoch : ℕ} {words₀ words row fresh : List ℕ} {k : ℕ} (g : Gathers n epoch words₀ words row fresh k) (room : k < length fresh) (w : ℕ) where
  abbrev at : ℕ
  at = mark_of n w

  abbrev words₁ : List ℕ
  words₁ = set words at epoch

  abbrev fresh₁ : List ℕ
  fresh₁ = set fresh k at

  -- what was seen, with the new ids of the row
  abbrev known : List ℕ → List ℕ
  known seen = seen ++ news seen (cleaned n row)

  news_are : (seen : List ℕ) → news seen (cleaned n (row ++ (w ∷ []))) ≡ news seen (cleaned n row) ++ news (known seen) (clean n w ∷ [])
  news_are seen = ap (news seen) (cleaned_more n row w) ∙ news_more seen (cleaned n row) (clean n w ∷ [])

  row-length : length (row ++ (w ∷ [])) ≡ length row + 1
  row-length = length-append row (w ∷ [])

  -- ---- its mark is the epoch
  module _ (e : get_or words at 0 ≡ epoch) where
    none_new : (seen : List ℕ) → Seen n epoch words seen → news seen (clean n w ∷ []) ≡ []
    none_new seen s = go (ltb w n) refl
      where
        go : (t : Bool) → ltb w n ≡ t → news seen (cond t w pad ∷ []) ≡ []
        go false t = news_pad seen pad refl
        go true t =
            let h = ltb-true w n t in
            let q : at ≡ w = omega arith in
            news_old seen w (sym (s w h) ∙ eq-eqb (get_or words w 0) epoch (ap (λ (z : ℕ). get_or words z 0) (sym q) ∙ e))

    no_more : (seen : List ℕ) → Seen n epoch words₀ seen → news seen (cleaned n (row ++ (w ∷ []))) ≡ news seen (cleaned n row)
    no_more seen s =
        news_are seen ∙ ap (λ (z : List ℕ). news seen (cleaned n row) ++ z) (none_new (known seen) (g.seen seen s)) ∙ append-nil (news seen (cleaned n row))

    fresh_same : take k fresh₁ ≡ take k fresh
    fresh_same = take-set-le k fresh k at (omega arith)

    old_still : Gathers n epoch words₀ words (row ++ (w ∷ [])) fresh₁ k
    old_still =
        record {
          marked = g.marked;
          grow = g.grow;
          few = omega (arith, g.few, row-length);
          fresh_are = λ seen s. fresh_same ∙ g.fresh_are seen s ∙ sym (no_more seen s);
          seen = λ seen s. subst (λ (l : List ℕ). Seen n epoch words (seen ++ l)) (sym (no_more seen s)) (g.seen seen s);
          inside = subst (All (λ (i : ℕ). i < n)) (sym fresh_same) g.inside;
          kept = g.kept;
        }

    old_then : Gathers n epoch words₀ words₁ (row ++ (w ∷ [])) fresh₁ k
    old_then =
        subst (λ (l : List ℕ). Gathers n epoch words₀ l (row ++ (w ∷ [])) fresh₁ k) (sym (ap (set words at) (sym e) ∙ set-get_or words at 0)) old_still

  -- ---- it is not
  module _ (unmarked : get_or words at 0 ≡ epoch → ⊥) where
    -- so it is an entry
    entry : w < n
    entry =
        decide (ltb w n) (λ t. ltb-true w n t)
        (λ f.
        let h = ltb-false w n f in
        let q : at ≡ stray_at n = omega arith in
        absurd (unmarked (ap (λ (z : ℕ). get_or words z 0) q ∙ g.marked.stray)))

    at_is : at ≡ w
    at_is = let h = entry in omega arith

    front : length (take n words) ≡ n
    front = length-take-le n words (omega (arith, g.marked.room))

    marks_are : take n words₁ ≡ set (take n words) at epoch
    marks_are = take-set-lt n words at epoch (omega (arith, entry))

    counts : visited_of n epoch words₁ ≡ suc (visited_of n epoch words)
    counts =
        ap (count epoch) marks_are
        ∙ count_set epoch (take n words) at (omega (arith, front, entry)) (λ e. unmarked (sym (get_or-take n words at 0 (omega (arith, entry))) ∙ e))

    own : get_or words₁ at 0 ≡ epoch
    own = get_or-set_same words at epoch 0 (omega (arith, g.marked.room))

    other : (i : ℕ) → (i ≡ at → ⊥) → get_or words₁ i 0 ≡ get_or words i 0
    other i h = get_or-set_other words at i epoch 0 h

    marked : Marked n epoch words₁
    marked =
        record {
          nodes = g.marked.nodes;
          room = omega (arith, g.marked.room, length-set words at epoch);
          stray = other (stray_at n) (λ e. omega (arith, entry)) ∙ g.marked.stray;
          marks_le = λ i h.
              decide (eqb i at) (λ t. omega (arith, ap (λ (z : ℕ). get_or words₁ z 0) (eqb-true i at t), own))
              (λ f. omega (arith, other i (eqb-false i at f), g.marked.marks_le i h));
        }

    seen_more : (seen : List ℕ) → Seen n epoch words seen → Seen n epoch words₁ (seen ++ (w ∷ []))
    seen_more seen s i h = decide (eqb i w) yes no ∙ sym (in-snoc i seen w)
      where
        yes : eqb i w ≡ true → eqb (get_or words₁ i 0) epoch ≡ (is_in i seen || eqb i w)
        yes t =
            eq-eqb (get_or words₁ i 0) epoch (ap (λ (z : ℕ). get_or words₁ z 0) (eqb-true i w t ∙ sym at_is) ∙ own) ∙ rw t (sym (or-true (is_in i seen)))

        no : eqb i w ≡ false → eqb (get_or words₁ i 0) epoch ≡ (is_in i seen || eqb i w)
        no f =
            ap (λ (z : ℕ). eqb z epoch) (other i (λ e. eqb-false i w f (e ∙ at_is))) ∙ s i h ∙ rw f (sym (or-false (is_in i seen)))

    one_new : (seen : List ℕ) → Seen n epoch words seen → news seen (clean n w ∷ []) ≡ w ∷ []
    one_new seen s =
        let q : get_or words w 0 ≡ epoch → ⊥ = λ e. unmarked (ap (λ (z : ℕ). get_or words z 0) at_is ∙ e) in
        ap (λ (b : Bool). news seen (cond b w pad ∷ [])) (lt-ltb w n entry)
        ∙ news_new seen w (id_real n w g.marked.nodes entry) (sym (s w entry) ∙ ne_eqb (get_or words w 0) epoch q)

    more : (seen : List ℕ) → Seen n epoch words₀ seen → news seen (cleaned n (row ++ (w ∷ []))) ≡ news seen (cleaned n row) ++ (w ∷ [])
    more seen s = news_are seen ∙ ap (λ (z : List ℕ). news seen (cleaned n row) ++ z) (one_new (known seen) (g.seen seen s))

    new_then : Gathers n epoch words₀ words₁ (row ++ (w ∷ [])) fresh₁ (suc k)
    new_then =
        record {
          marked = marked;
          grow = omega (arith, counts, g.grow);
          few = omega (arith, g.few, row-length);
          fresh_are = λ seen s.
              take-suc-set fresh k at room ∙ ap (λ (l : List ℕ). l ++ (at ∷ [])) (g.fresh_are seen s)
              ∙ ap (λ (z : ℕ). news seen (cleaned n row) ++ (z ∷ [])) at_is ∙ sym (more seen s);
          seen = λ seen s.
              subst (Seen n epoch words₁) (append_assoc seen (news seen (cleaned n row)) (w ∷ []) ∙ ap (λ (l : List ℕ). seen ++ l) (sym (more seen s)))
              (seen_more (known seen) (g.seen seen s));
          inside = all_more (λ (i : ℕ). i < n) fresh k at room g.inside (omega (arith, entry));
          kept =
              within_trans 0 (visited_at n) words₀ words words₁ g.kept
              (within_wider at (suc at) words words₁ (set_within words at epoch) 0 (visited_at n) (omega arith) (omega (arith, entry)));
        }

  pub note_then : Gathers n epoch words₀ words₁ (row ++ (w ∷ [])) fresh₁ (k + new_of (get_or words at 0) epoch)
  note_then =
      decide (eqb (get_or words at 0) epoch)
      (λ t. subst (Gathers n epoch words₀ words₁ (row ++ (w ∷ [])) fresh₁) (sym (count_is true t)) (old_then (eqb-true (get_or words at 0) epoch t)))
      (λ f. subst (Gathers n epoch words₀ words₁ (row ++ (w ∷ [])) fresh₁) (sym (count_is false f)) (new_then (eqb-false (get_or words at 0) epoch f)))
    where
      count_is : (b : Bool) → eqb (get_or words at 0) epoch ≡ b → k + new_of (get_or words at 0) epoch ≡ cond b k (suc k)
      count_is true e = ap (λ (b : Bool). k + cond b 0 1) e ∙ omega arith
      count_is false e = ap (λ (b : Bool). k + cond b 0 1) e ∙ omega arith

-- ---- one word as the code notes it: `at` is the place of its mark
pub noted : {n epoch word : ℕ} (words fresh : List ℕ) (len : ℕ) {at new : ℕ} → at ≡ mark_of n word → new ≡ new_of (get_or words at 0) epoch
    → Notes n epoch word words (set words at epoch) fresh (set fresh len at) len (len + new)
noted {n} {epoch} {word} words fresh len {at} {new} e q =
    record {
      marks_are = ap (λ (i : ℕ). set words i epoch) e;
      fresh_are = ap (set fresh len) e;
      is = ap (λ (i : ℕ). len + i) (q ∙ ap (λ (i : ℕ). new_of (get_or words i 0) epoch) e);
    }

-- ---- the loop of `gather`, where the first k words are gathered
pub gather_none : {n epoch : ℕ} {words : List ℕ} (fresh : List ℕ) → Marked n epoch words → Gathers n epoch words words [] fresh 0
unfolding news cleaned
gather_none {n} {epoch} {words} fresh m =
    record {
      marked = m;
      grow = omega arith;
      few = omega arith;
      fresh_are = λ seen s. refl;
      seen = λ seen s. subst (Seen n epoch words) (sym (append-nil seen)) s;
      inside = tt;
      kept = within_none 0 (visited_at n) words;
    }

module _ {n epoch : ℕ} {words₀ words fresh : List ℕ} {len : ℕ} (row : List ℕ) (k : ℕ) (g : Gathers n epoch words₀ words (take k row) fresh len) where
  -- there is room for one more
  pub gather_fits : k < length row → len < length row
  gather_fits h = omega (arith, g.few, length-take-le k row (omega arith))

  pub gather_more : {words₁ fresh₁ : List ℕ} {r : ℕ} → k < length row → len < length fresh → Notes n epoch (get_or row k 0) words words₁ fresh fresh₁ len r
      → Gathers n epoch words₀ words₁ (take (k + 1) row) fresh₁ r
  gather_more h room q = rw (q.marks_are, q.fresh_are, q.is, add-one k, take-suc row k 0 h) (note_then g room (get_or row k 0))

  pub gather_end : length row ≤ k → Gathers n epoch words₀ words row fresh len
  gather_end h = subst (λ (l : List ℕ). Gathers n epoch words₀ words l fresh len) (take_all k row h) g
