-- The new ids of a row: of one word, and of a row in two pieces.
use Rattle.std.specs.Prelude.{◌≡◌, Bool, ◌||◌, ℕ, ◌≤◌, ◌<◌, eqb}
use Rattle.std.proofs.Math.Path.{refl}
use Rattle.std.proofs.Common.{sym, ap, ◌∙◌, arith, eq-eqb, ne_eqb}
use Rattle.std.proofs.Math.Bool.{true, false, cond}
use mathlib.Core.List.{List, [], ◌∷◌, ◌++◌, append-nil}
use Rattle.std.proofs.Math.Seq.{append_snoc}
use Rattle.definition.specs.Lists.{is_in}
use Rattle.definition.specs.Tables.{pad}
use Rattle.marks.specs.Marked.{news}

-- ---- one word
module _ (l : List ℕ) (x : ℕ) where
  pub news_pad : x ≡ pad → news l (x ∷ []) ≡ []
  unfolding news
  news_pad e = rw (eq-eqb x pad e) refl

  pub news_old : is_in x l ≡ true → news l (x ∷ []) ≡ []
  unfolding news
  news_old e = rw e (go (eqb x pad))
    where
      go : (t : Bool) → cond (t || true) [] (x ∷ []) ≡ []
      go true = refl
      go false = refl

  pub news_new : (x ≡ pad → ⊥) → is_in x l ≡ false → news l (x ∷ []) ≡ x ∷ []
  unfolding news
  news_new real e = rw (ne_eqb x pad real, e) refl

-- an id is no padding
pub id_real : (n x : ℕ) → n ≤ 65536 → x < n → x ≡ pad → ⊥
unfolding pad
id_real n x h k e = omega arith

pub news-one : (x : ℕ) → (x ≡ pad → ⊥) → news [] (x ∷ []) ≡ x ∷ []
unfolding is_in
news-one x real = news_new [] x real refl

-- ---- one piece after another
pub news_more : (l a b : List ℕ) → news l (a ++ b) ≡ news l a ++ news (l ++ news l a) b
unfolding news
news_more l [] b = ap (λ (z : List ℕ). news z b) (sym (append-nil l))
news_more l (w ∷ ws) b = go (eqb w pad || is_in w l) (news_more l ws b) (news_more (l ++ (w ∷ [])) ws b)
  where
    go : (t : Bool) → news l (ws ++ b) ≡ news l ws ++ news (l ++ news l ws) b
        → news (l ++ (w ∷ [])) (ws ++ b) ≡ news (l ++ (w ∷ [])) ws ++ news ((l ++ (w ∷ [])) ++ news (l ++ (w ∷ [])) ws) b
        → cond t (news l (ws ++ b)) (w ∷ news (l ++ (w ∷ [])) (ws ++ b))
        ≡ cond t (news l ws) (w ∷ news (l ++ (w ∷ [])) ws) ++ news (l ++ cond t (news l ws) (w ∷ news (l ++ (w ∷ [])) ws)) b
    go true p q = p
    go false p q = ap (λ (z : List ℕ). w ∷ z) (q ∙ ap (λ (z : List ℕ). news (l ++ (w ∷ [])) ws ++ news z b) (append_snoc l w (news (l ++ (w ∷ [])) ws)))
