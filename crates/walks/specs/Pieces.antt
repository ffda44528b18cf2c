-- Tokens, what arguments own, and last values are each a star of formulas that ends in `ftrue`: P₁ ∗ (P₂ ∗ .. ∗ ftrue).
--     pieces_of    the first n of such a star, entry k of the context, as entries of their own, at the head.        pieces      of the head
--     gathers      the entries at these places as such a star, at the head
--     fronts       the first n of the star that is entry k, in front of the star at the head
--     past         what stands behind the first n of a star
--     unsaid       n times `ftrue` in front: what is said at exit of n parameters that stay as they are
use Rattle.std.proofs.Math.Option.{Option, none, some}
use Rattle.std.specs.Prelude.{ℕ, zero, suc, Bool, true, false, ltb, length, List, [], ◌∷◌, ◌++◌}
use seplogic.Ra.Ura.{Ura}
use base.Logic.{SProp, ent, sep, emp, id⊢, via, assoc', mono∗, mono_l, mono_r, emp∗, snd∗}
use contract.Monad.{top}
use base.Fml.{Fml, ftrue, ffalse, feq, flt, fsep, fand, for, fwand, fex, fall, fupd, fat}
use base.Fml.{fhide, froom, fleft, fdies, flft, fdead, fobs, fauth, fres, fown, fbor, fobor, flent, fshr_bor}
use base.Fml.{finv, fnamed, ftok, fkid, fme, fsent}
use types.Logic.{Logic, sem}
use types.Kit.{Item, ‵, raw, ◌⊛◌, some as any, given, later, ⋆, mean, nth, del, pull, sel, sel⊢, ++⊢, push, pop, Goal, Step, step, by, cut, use1}

-- ---- the two sides of a star
abbrev sides : Fml → Option (Fml × Fml)
sides (fsep P Q) = some (P, Q)
sides ftrue = none
sides ffalse = none
sides (feq X x y) = none
sides (flt m n) = none
sides (fand P Q) = none
sides (for P Q) = none
sides (fwand P Q) = none
sides (fex X F) = none
sides (fall X F) = none
sides (fupd P) = none
sides (fhide P) = none
sides (fat q τ b o v) = none
sides (froom τ b o) = none
sides (fleft q τ τs b o) = none
sides (fdies τ b) = none
sides (flft κ q) = none
sides (fdead κ) = none
sides (fobs γ u) = none
sides (fauth γ u) = none
sides (fres γ u) = none
sides (fown R γ x) = none
sides (fbor κ P) = none
sides (fobor κ q P) = none
sides (flent κ P) = none
sides (fshr_bor κ P) = none
sides (finv P) = none
sides (fnamed n P) = none
sides (ftok E) = none
sides (fkid h a) = none
sides (fme h) = none
sides (fsent h) = none

abbrev left-of : Option (Fml × Fml) → Fml
left-of none = ftrue
left-of (some p) = p.0

abbrev right_of : Option (Fml × Fml) → Fml
right_of none = ftrue
right_of (some p) = p.1

abbrev pub parts : ℕ → Fml → List Fml
parts zero F = []
parts (suc n) F = left-of (sides F) ∷ parts n (right_of (sides F))

-- what stands behind the first n of a star
abbrev pub behind : ℕ → Fml → Fml
behind zero F = F
behind (suc n) F = behind n (right_of (sides F))

module _ {M : Type 1} {𝓤 : Ura M} (𝓛 : Logic 𝓤) where
  let_go : (P : SProp 𝓤) → ent 𝓤 P (sep 𝓤 (emp 𝓤) (emp 𝓤))
  let_go P = via 𝓤 (emp 𝓤) (top 𝓤 P) (emp∗ 𝓤 (emp 𝓤))

  -- a formula that is no star is let go, and has `ftrue` for its sides
  two_sides : (F : Fml) → ent 𝓤 (sem 𝓛 F) (sep 𝓤 (sem 𝓛 (left-of (sides F))) (sem 𝓛 (right_of (sides F))))
  two_sides (fsep P Q) = id⊢ 𝓤 (sep 𝓤 (sem 𝓛 P) (sem 𝓛 Q))
  two_sides ftrue = let_go (sem 𝓛 ftrue)
  two_sides ffalse = let_go (sem 𝓛 ffalse)
  two_sides (feq X x y) = let_go (sem 𝓛 (feq X x y))
  two_sides (flt m n) = let_go (sem 𝓛 (flt m n))
  two_sides (fand P Q) = let_go (sem 𝓛 (fand P Q))
  two_sides (for P Q) = let_go (sem 𝓛 (for P Q))
  two_sides (fwand P Q) = let_go (sem 𝓛 (fwand P Q))
  two_sides (fex X F) = let_go (sem 𝓛 (fex X F))
  two_sides (fall X F) = let_go (sem 𝓛 (fall X F))
  two_sides (fupd P) = let_go (sem 𝓛 (fupd P))
  two_sides (fhide P) = let_go (sem 𝓛 (fhide P))
  two_sides (fat q τ b o v) = let_go (sem 𝓛 (fat q τ b o v))
  two_sides (froom τ b o) = let_go (sem 𝓛 (froom τ b o))
  two_sides (fleft q τ τs b o) = let_go (sem 𝓛 (fleft q τ τs b o))
  two_sides (fdies τ b) = let_go (sem 𝓛 (fdies τ b))
  two_sides (flft κ q) = let_go (sem 𝓛 (flft κ q))
  two_sides (fdead κ) = let_go (sem 𝓛 (fdead κ))
  two_sides (fobs γ u) = let_go (sem 𝓛 (fobs γ u))
  two_sides (fauth γ u) = let_go (sem 𝓛 (fauth γ u))
  two_sides (fres γ u) = let_go (sem 𝓛 (fres γ u))
  two_sides (fown R γ x) = let_go (sem 𝓛 (fown R γ x))
  two_sides (fbor κ P) = let_go (sem 𝓛 (fbor κ P))
  two_sides (fobor κ q P) = let_go (sem 𝓛 (fobor κ q P))
  two_sides (flent κ P) = let_go (sem 𝓛 (flent κ P))
  two_sides (fshr_bor κ P) = let_go (sem 𝓛 (fshr_bor κ P))
  two_sides (finv P) = let_go (sem 𝓛 (finv P))
  two_sides (fnamed n P) = let_go (sem 𝓛 (fnamed n P))
  two_sides (ftok E) = let_go (sem 𝓛 (ftok E))
  two_sides (fkid h a) = let_go (sem 𝓛 (fkid h a))
  two_sides (fme h) = let_go (sem 𝓛 (fme h))
  two_sides (fsent h) = let_go (sem 𝓛 (fsent h))

  abbrev pub entries : List Fml → List (Item 𝓤)
  entries [] = []
  entries (P ∷ Ps) = ‵ P ∷ entries Ps

  apart : (n : ℕ) (F : Fml) → ent 𝓤 (sem 𝓛 F) (⋆ 𝓛 (entries (parts n F)))
  apart zero F = top 𝓤 (sem 𝓛 F)
  apart (suc n) F =
      via 𝓤 (sep 𝓤 (sem 𝓛 (left-of (sides F))) (sem 𝓛 (right_of (sides F)))) (two_sides F)
      (via 𝓤 (sep 𝓤 (sem 𝓛 (left-of (sides F))) (⋆ 𝓛 (entries (parts n (right_of (sides F))))))
      (mono_r 𝓤 (sem 𝓛 (left-of (sides F))) (apart n (right_of (sides F))))
      (push 𝓛 (‵ (left-of (sides F))) (entries (parts n (right_of (sides F))))))

  behind_it : (n : ℕ) (F : Fml) → ent 𝓤 (sem 𝓛 F) (sem 𝓛 (behind n F))
  behind_it zero F = id⊢ 𝓤 (sem 𝓛 F)
  behind_it (suc n) F = via 𝓤 (sep 𝓤 (sem 𝓛 (left-of (sides F))) (sem 𝓛 (right_of (sides F)))) (two_sides F)
      (via 𝓤 (sem 𝓛 (right_of (sides F))) (snd∗ 𝓤 (sem 𝓛 (left-of (sides F))) (sem 𝓛 (right_of (sides F)))) (behind_it n (right_of (sides F))))

-- ---- entries of a context, as formulas
abbrev formula : {M : Type 1} {𝓤 : Ura M} → Item 𝓤 → Fml
formula (‵ P) = P
formula (raw P) = ftrue
formula (i ⊛ j) = ftrue
formula (any F) = ftrue
formula (given φ i) = ftrue
formula (later i) = ftrue

module _ {M : Type 1} {𝓤 : Ura M} where
  -- the first n entries, onto the star that follows them
  abbrev pub star : ℕ → List (Item 𝓤) → Fml
  star n [] = ftrue
  star zero (i ∷ Γ) = formula i
  star (suc n) (i ∷ Γ) = fsep (formula i) (star n Γ)

  abbrev pub after : ℕ → List (Item 𝓤) → List (Item 𝓤)
  after n [] = []
  after zero (i ∷ Γ) = Γ
  after (suc n) (i ∷ Γ) = after n Γ

  -- `ftrue` behind the first n entries
  abbrev pub ending : ℕ → List (Item 𝓤) → List (Item 𝓤)
  ending zero Γ = ‵ ftrue ∷ Γ
  ending (suc n) [] = ‵ ftrue ∷ []
  ending (suc n) (i ∷ Γ) = i ∷ ending n Γ

abbrev pub unsaying : ℕ → Fml → Fml
unsaying zero P = P
unsaying (suc n) P = fsep ftrue (unsaying n P)

module _ {M : Type 1} {𝓤 : Ura M} (𝓛 : Logic 𝓤) where
  as_formula : (i : Item 𝓤) → ent 𝓤 (mean 𝓛 i) (sem 𝓛 (formula i))
  as_formula (‵ P) = id⊢ 𝓤 (sem 𝓛 P)
  as_formula (raw P) = top 𝓤 P
  as_formula (i ⊛ j) = top 𝓤 (mean 𝓛 (i ⊛ j))
  as_formula (any F) = top 𝓤 (mean 𝓛 (any F))
  as_formula (given φ i) = top 𝓤 (mean 𝓛 (given φ i))
  as_formula (later i) = top 𝓤 (mean 𝓛 (later i))

  joined : (n : ℕ) (Γ : List (Item 𝓤)) → ent 𝓤 (⋆ 𝓛 Γ) (sep 𝓤 (sem 𝓛 (star n Γ)) (⋆ 𝓛 (after n Γ)))
  joined n [] = emp∗ 𝓤 (emp 𝓤)
  joined zero (i ∷ Γ) = via 𝓤 (sep 𝓤 (mean 𝓛 i) (⋆ 𝓛 Γ)) (pop 𝓛 i Γ) (mono_l 𝓤 (⋆ 𝓛 Γ) (as_formula i))
  joined (suc n) (i ∷ Γ) =
      via 𝓤 (sep 𝓤 (mean 𝓛 i) (⋆ 𝓛 Γ)) (pop 𝓛 i Γ)
      (via 𝓤 (sep 𝓤 (sem 𝓛 (formula i)) (sep 𝓤 (sem 𝓛 (star n Γ)) (⋆ 𝓛 (after n Γ)))) (mono∗ 𝓤 (as_formula i) (joined n Γ))
      (assoc' 𝓤 (sem 𝓛 (formula i)) (sem 𝓛 (star n Γ)) (⋆ 𝓛 (after n Γ))))

  ends_so : (n : ℕ) (Γ : List (Item 𝓤)) → ent 𝓤 (⋆ 𝓛 Γ) (⋆ 𝓛 (ending n Γ))
  ends_so zero Γ = via 𝓤 (sep 𝓤 (emp 𝓤) (⋆ 𝓛 Γ)) (emp∗ 𝓤 (⋆ 𝓛 Γ)) (push 𝓛 (‵ ftrue) Γ)
  ends_so (suc n) [] = id⊢ 𝓤 (emp 𝓤)
  ends_so (suc n) (i ∷ Γ) =
      via 𝓤 (sep 𝓤 (mean 𝓛 i) (⋆ 𝓛 Γ)) (pop 𝓛 i Γ)
      (via 𝓤 (sep 𝓤 (mean 𝓛 i) (⋆ 𝓛 (ending n Γ))) (mono_r 𝓤 (mean 𝓛 i) (ends_so n Γ)) (push 𝓛 i (ending n Γ)))

  fronted : (n : ℕ) (P : Fml) → ent 𝓤 (sem 𝓛 P) (sem 𝓛 (unsaying n P))
  fronted zero P = id⊢ 𝓤 (sem 𝓛 P)
  fronted (suc n) P = via 𝓤 (sem 𝓛 (unsaying n P)) (fronted n P) (emp∗ 𝓤 (sem 𝓛 (unsaying n P)))

-- places in a context as it stands, as `Types/Kit.antt`'s `move` has them: each relative to what is left once the earlier ones are taken out
abbrev less_if : Bool → ℕ → ℕ
less_if true zero = zero
less_if true (suc n) = n
less_if false n = n

abbrev lowered : List ℕ → ℕ → ℕ → ℕ
lowered [] i n = n
lowered (s ∷ ss) i n = lowered ss i (less_if (ltb s i) n)

abbrev relative : List ℕ → List ℕ → List ℕ
relative seen [] = []
relative seen (i ∷ is) = lowered seen i i ∷ relative (i ∷ seen) is

module _ {M : Type 1} {𝓤 : Ura M} (𝓛 : Logic 𝓤) where
  -- the entries at these places first
  abbrev pub chosen : List ℕ → List (Item 𝓤) → List (Item 𝓤)
  chosen π Γ = sel 𝓛 (relative [] π) Γ

  -- the pieces of entry k, n of them, before the others
  abbrev pub opened : ℕ → ℕ → List (Item 𝓤) → List (Item 𝓤)
  opened k n Γ = entries 𝓛 (parts n (formula (nth 𝓛 k Γ))) ++ del 𝓛 k Γ

  opens_so : (k n : ℕ) (Γ : List (Item 𝓤)) → ent 𝓤 (⋆ 𝓛 Γ) (⋆ 𝓛 (opened k n Γ))
  opens_so k n Γ =
      via 𝓤 (sep 𝓤 (mean 𝓛 (nth 𝓛 k Γ)) (⋆ 𝓛 (del 𝓛 k Γ))) (pull 𝓛 k Γ)
      (via 𝓤 (sep 𝓤 (⋆ 𝓛 (entries 𝓛 (parts n (formula (nth 𝓛 k Γ))))) (⋆ 𝓛 (del 𝓛 k Γ)))
      (mono_l 𝓤 (⋆ 𝓛 (del 𝓛 k Γ)) (via 𝓤 (sem 𝓛 (formula (nth 𝓛 k Γ))) (as_formula 𝓛 (nth 𝓛 k Γ))
      (apart 𝓛 n (formula (nth 𝓛 k Γ)))))
      (++⊢ 𝓛 (entries 𝓛 (parts n (formula (nth 𝓛 k Γ)))) (del 𝓛 k Γ)))

  -- the first n of Γ as one
  abbrev pub as_one : ℕ → List (Item 𝓤) → List (Item 𝓤)
  as_one n Γ = ‵ (star n Γ) ∷ after n Γ

  one : (n : ℕ) (Γ : List (Item 𝓤)) → ent 𝓤 (⋆ 𝓛 Γ) (⋆ 𝓛 (as_one n Γ))
  one n Γ = via 𝓤 (sep 𝓤 (sem 𝓛 (star n Γ)) (⋆ 𝓛 (after n Γ))) (joined 𝓛 n Γ) (push 𝓛 (‵ (star n Γ)) (after n Γ))

module _ {M : Type 1} {𝓤 : Ura M} {𝓛 : Logic 𝓤} {K : Type 0} {Γ : List (Item 𝓤)} {G : Goal 𝓤 𝓛.H} where
  pub pieces : K → (n : ℕ) {F : Fml} → Step K 𝓛 (entries 𝓛 (parts n F) ++ Γ) G (‵ F ∷ Γ) G
  pieces t n {F} = cut (‵ F ∷ []) (entries 𝓛 (parts n F)) Γ (apart 𝓛 n F)

  -- of entry k
  pub pieces_of : K → (k n : ℕ) → Step K 𝓛 (opened 𝓛 k n Γ) G Γ G
  pieces_of t k n = step (λ s. by t (via 𝓤 (⋆ 𝓛 (opened 𝓛 k n Γ)) (opens_so 𝓛 k n Γ) s.prf))

  pub fronts : K → (k n : ℕ) → Step K 𝓛 (as_one 𝓛 n (opened 𝓛 k n Γ)) G Γ G
  fronts t k n = step (λ s. by t (via 𝓤 (⋆ 𝓛 (opened 𝓛 k n Γ)) (opens_so 𝓛 k n Γ) (via 𝓤 _ (one 𝓛 n (opened 𝓛 k n Γ)) s.prf)))

  pub gathers : K → (π : List ℕ) → Step K 𝓛 (as_one 𝓛 (length π) (ending (length π) (chosen 𝓛 π Γ))) G Γ G
  gathers t π = step (λ s.
      let Δ : List (Item 𝓤) = chosen 𝓛 π Γ in
      by t (via 𝓤 (⋆ 𝓛 Δ) (sel⊢ 𝓛 (relative [] π) Γ)
      (via 𝓤 (⋆ 𝓛 (ending (length π) Δ)) (ends_so 𝓛 (length π) Δ) (via 𝓤 _ (one 𝓛 (length π) (ending (length π) Δ)) s.prf))))

  pub past : K → (n : ℕ) {F : Fml} → Step K 𝓛 (‵ (behind n F) ∷ Γ) G (‵ F ∷ Γ) G
  past t n {F} = use1 𝓛 (‵ (behind n F)) (behind_it 𝓛 n F)

  pub unsaid : K → (n : ℕ) {P : Fml} → Step K 𝓛 (‵ (unsaying n P) ∷ Γ) G (‵ P ∷ Γ) G
  unsaid t n {P} = use1 𝓛 (‵ (unsaying n P)) (fronted 𝓛 n P)
