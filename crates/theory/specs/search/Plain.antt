-- Rows that a greedy search reads alike: one in which each own id and each repeat is padding, and one in which the ids come first, read
-- as the row itself.
use Rattle.std.specs.Prelude.{ℕ, suc, ◌-◌, ◌≡◌, refl, ◌≢◌, ◌⊎◌, Bool, true, false, not, ◌||◌, cond, length, replicate}
use Rattle.std.proofs.Math.Path.{sym, ap}
use Rattle.std.proofs.Common.{◌∙◌, subst, inl, inr, eqb-true, ne_eqb}
use mathlib.Core.List.Memᴰ.{head as here}
use mathlib.Core.List.Memᴰ.{tail as there}
use mathlib.Core.List.{List, [], ◌∷◌, Memᴰ as Mem}
use Rattle.std.proofs.lemmas.Bool.{eqb-false, not-true}
use Rattle.std.proofs.Math.Dec.{eqb}
use Rattle.definition.specs.Lists.{keep, is_in, once_only}
use Rattle.definition.specs.Tables.{pad, ids, padded}
use Rattle.laws.specs.Truth.{either, decide, or_either, either_or, is_false, not_both}
use Rattle.laws.specs.Members.{cons_elim, append_elim, keep_mem, replicate_mem}
use Rattle.laws.specs.Tables.{ids-of, ids-first, ids_skip}
use Rattle.theory.specs.search.Alike.{read_of}

-- `seen`: the own id, and the words so far
unfoldable pub plain_from : List ℕ → List ℕ → List ℕ
plain_from seen [] = []
plain_from seen (w ∷ ws) = cond (is_in w seen) pad w ∷ plain_from (w ∷ seen) ws

unfoldable pub plain_row : ℕ → List ℕ → List ℕ
plain_row own words = plain_from (own ∷ []) words

-- the row of entry 1: its own id, a repeat of 3
plain_example : plain_row 1 (1 ∷ 3 ∷ pad ∷ 3 ∷ 2 ∷ []) ≡ pad ∷ 3 ∷ pad ∷ pad ∷ 2 ∷ []
unfolding plain_row plain_from is_in pad
plain_example = refl

pub plain_length : (seen ws : List ℕ) → length (plain_from seen ws) ≡ length ws
unfolding plain_from
plain_length seen [] = refl
plain_length seen (w ∷ ws) = ap suc (plain_length (w ∷ seen) ws)

pub plain_words : (P : ℕ → Type 0) → P pad → (ws seen : List ℕ) → ((w : ℕ) → Mem w ws → P w) → (w : ℕ) → Mem w (plain_from seen ws) → P w
unfolding plain_from
plain_words P p [] seen f w m = f w m
plain_words P p (x ∷ ws) seen f w m =
    cons_elim P (cond (is_in x seen) pad x) (plain_from (x ∷ seen) ws) (either P (is_in x seen) p (f x (here refl)))
    (λ u h. plain_words P p ws (x ∷ seen) (λ v k. f v (there k)) u h) w m

-- one word, by cases: of once_only
once_old : (seen : List ℕ) (x : ℕ) (xs : List ℕ) → is_in x seen ≡ true → once_only seen (x ∷ xs) ≡ once_only seen xs
unfolding once_only
once_old seen x xs e = rw e

once_new : (seen : List ℕ) (x : ℕ) (xs : List ℕ) → is_in x seen ≡ false → once_only seen (x ∷ xs) ≡ x ∷ once_only (x ∷ seen) xs
unfolding once_only
once_new seen x xs e = rw e

-- once more changes nothing
once_again : (a b xs : List ℕ) → ((u : ℕ) → is_in u a ≡ true → is_in u b ≡ true) → once_only a (once_only b xs) ≡ once_only b xs
unfolding once_only is_in
once_again a b [] f = refl
once_again a b (x ∷ xs) f =
    decide (is_in x b)
    (λ e. ap (once_only a) (once_old b x xs e) ∙ once_again a b xs f ∙ sym (once_old b x xs e))
    (λ e.
    ap (once_only a) (once_new b x xs e)
    ∙ once_new a x (once_only (x ∷ b) xs) (is_false (is_in x a) (λ t. not_both e (f x t)))
    ∙ ap (λ (l : List ℕ). x ∷ l) (once_again (x ∷ a) (x ∷ b) xs (λ u t. further u (or_either (eqb u x) (is_in u a) t)))
    ∙ sym (once_new b x xs e))
  where
    further : (u : ℕ) → (eqb u x ≡ true) ⊎ (is_in u a ≡ true) → (eqb u x || is_in u b) ≡ true
    further u (inl t) = either_or (eqb u x) (is_in u b) (inl t)
    further u (inr t) = either_or (eqb u x) (is_in u b) (inr (f u t))

-- the ids left are those that once_only leaves: padding among the words so far tells no id from another
abbrev Agree : List ℕ → List ℕ → Type 0
Agree a b = (u : ℕ) → u ≢ pad → is_in u a ≡ is_in u b

module _ (a b : List ℕ) (w : ℕ) (h : Agree a b) where
  agree_pad : w ≡ pad → Agree (w ∷ a) b
  unfolding is_in
  agree_pad e u n = ap (λ (t : Bool). t || is_in u a) (ne_eqb u w (λ p. n (p ∙ e))) ∙ h u n

  agree_old : is_in w a ≡ true → Agree (w ∷ a) b
  unfolding is_in
  agree_old e u n =
      decide (eqb u w)
      (λ t. ap (λ (z : Bool). z || is_in u a) t ∙ sym e ∙ ap (λ (v : ℕ). is_in v a) (sym (eqb-true u w t)) ∙ h u n)
      (λ f. ap (λ (z : Bool). z || is_in u a) f ∙ h u n)

  agree_new : Agree (w ∷ a) (w ∷ b)
  unfolding is_in
  agree_new u n = ap (λ (z : Bool). eqb u w || z) (h u n)

plain_ids : (ws a b : List ℕ) → Agree a b → ids (plain_from a ws) ≡ once_only b (ids ws)
unfolding plain_from once_only ids keep
plain_ids [] a b h = refl
plain_ids (w ∷ ws) a b h =
    decide (eqb w pad) (λ e. by_pad (eqb-true w pad e) (plain_ids ws (w ∷ a) b))
    (λ e. by_seen (eqb-false w pad e) (is_in w a) refl (plain_ids ws (w ∷ a) b) (plain_ids ws (w ∷ a) (w ∷ b)))
  where
    rest : List ℕ
    rest = plain_from (w ∷ a) ws

    by_pad : w ≡ pad → (Agree (w ∷ a) b → ids rest ≡ once_only b (ids ws)) → ids (cond (is_in w a) pad w ∷ rest) ≡ once_only b (ids (w ∷ ws))
    by_pad e ih =
        ids_skip (cond (is_in w a) pad w) rest (either (λ (u : ℕ). u ≡ pad) (is_in w a) refl e) ∙ ih (agree_pad a b w h e)
        ∙ ap (once_only b) (sym (ids_skip w ws e))

    by_seen : w ≢ pad → (t : Bool) → is_in w a ≡ t → (Agree (w ∷ a) b → ids rest ≡ once_only b (ids ws))
        → (Agree (w ∷ a) (w ∷ b) → ids rest ≡ once_only (w ∷ b) (ids ws)) → ids (cond t pad w ∷ rest) ≡ once_only b (ids (w ∷ ws))
    by_seen n true e ih new =
        ids_skip pad rest refl ∙ ih (agree_old a b w h e)
        ∙ sym (ap (once_only b) (ids-first w ws n) ∙ once_old b w (ids ws) (sym (h w n) ∙ e))
    by_seen n false e ih new =
        ids-first w rest n ∙ ap (λ (l : List ℕ). w ∷ l) (new (agree_new a b w h))
        ∙ sym (ap (once_only b) (ids-first w ws n) ∙ once_new b w (ids ws) (sym (h w n) ∙ e))

pub plain_read : (own : ℕ) (ws : List ℕ) → read_of own (plain_row own ws) ≡ read_of own ws
unfolding plain_row
plain_read own ws =
    ap (once_only (own ∷ [])) (plain_ids ws (own ∷ []) (own ∷ []) (λ u n. refl)) ∙ once_again (own ∷ []) (own ∷ []) (ids ws) (λ u t. t)

-- and so does one in which the ids come first, then only padding
pub padded_read : (own width : ℕ) (ws : List ℕ) → read_of own ws ≡ read_of own (padded width (ids ws))
unfolding padded ids
padded_read own width ws =
    ap (once_only (own ∷ []))
    (sym (ids-of (ids ws) (width - length (ids ws)) (λ x m. eqb-false x pad (not-true (eqb x pad) (keep_mem (λ v. not (eqb v pad)) ws m).1))))

pub padded_words : (P : ℕ → Type 0) → P pad → (width : ℕ) (ws : List ℕ) → ((w : ℕ) → Mem w ws → P w) → (w : ℕ) → Mem w (padded width (ids ws)) → P w
unfolding padded ids
padded_words P p width ws f =
    append_elim P (ids ws) (replicate (width - length (ids ws)) pad) (λ v m. f v (keep_mem (λ x. not (eqb x pad)) ws m).0)
    (λ v m. subst P (sym (replicate_mem (width - length (ids ws)) pad m)) p)
