-- A slice x in a walk: it is opened; lent again for a call, as `&mut` or as `&`, for a lifetime ν made for it, and comes back; or is given up for what
-- says its last value. While it is lent on, its holder keeps the lender's part at ν, and its own borrow at κ, open, with both halves of its ghost variable
-- (`Kept`). It is the kit's `lends_again` and `comes_back` (`denote.Lend`), of a slice.
--     opens_mut, opens_shr         its elements, and its borrow, open: of a `&`, the way back to its token (the kit's `denote.Opens.Shut`)
--     relent, came_back            as `&mut`, under the name δ: it comes back at the last list zs
--     shared, came_back_shared     as `&`, where the elements' type is shared by tokens ts (the kit's `denote.Shares`): it comes back as it was
--     given_up, all_given_up       what is said at exit of one, of several
-- Assumes `Logic`.
use Rattle.std.specs.Prelude.{◌≡◌, refl, ℕ, List, [], ◌∷◌, length}
use Rattle.std.proofs.Common.{sym, ap, subst}
use mathlib.Core.List.{not-mem-nil}
use seplogic.Ra.Ura.{Ura}
use base.Fraction.{full_share}
use mir.Syntax.{Lifetime}
use mir.Val.{Val}
use base.Logic.{ent, sep, emp, id⊢, via, comm∗, fst∗, emp∗}
use base.Fml.{Lft, Incl, Incl-refl, Incl-trans, GName, Share, Fml, ftrue, fsep, feq, flft, fobs, fauth, fres, flent, fobor}
use contract.BorrowLft.{meet_⊑_left, meet_⊑_right}
use ghost.Rules.{Toks, span}
use types.Logic.{Logic, sem, lfts}
use types.Kit.{Item, ‵, raw, ◌⊛◌, some, later, Goal, Soaks, Seq, Step, step, ◌$◌, ◌∵◌, !, qed, by}
use types.Kit.{frame as framed, move, use1, use2, use3, drop, split, pick, fsplit, fjoin, feq_l, feq_i, rewrite, await}
use types.SemTy.{cells, Arr}
use types.Share.{arr_parts}
use types.Tokens.{lft_new, lft_end, lent_back}
use denote.RattleType.{RattleType, Denots, Valss, owns}
use denote.Shadow.{shadow, pure_l, pure_i}
use denote.Memory.{mem, shares}
use denote.Opens.{Shut}
use denote.Shares.{Shares}
use denote.Ref.{Bor, MutBor, as_bor, at_last}
use denote.Slice.{slice_val, mut_slice_vals, MutSlice, ShrSlice, heres, Room, finally, res-finally, shr_slice_at, mut_slice_at, coded_holeys}
use denote.Lend.{Held, lends_slice, slice_back, lends_shr_slice}
use denote.Index.{row, whole_out, whole_in, opens_slice, closes_slice, looks_slice}
use denote.Struct.Field.{Field}
use denote.Struct.Laws.{FLaws, Copyable}

-- the same slice under another name
abbrev pub under : {X : Type 0} → MutBor X → GName → MutBor X
under x δ = record { ref_ptr = x.ref_ptr; ghost_name = δ; now = x.now }

module _ (R : RattleType) (κ : Lft) (q : Share) (x : MutBor (List R.Denot)) where
  abbrev holder : Fml
  holder =
      fsep (fobor κ q (Held R (length x.now) x.ref_ptr.0 x.ref_ptr.1 x.ghost_name))
      (fsep (fobs x.ghost_name ((coded_holeys R).code (heres R x.now))) (fauth x.ghost_name ((coded_holeys R).code (heres R x.now))))

  abbrev pub Kept : ℕ → GName → Fml
  Kept ν δ = fsep (flent (ν ∷ []) (Held R (length x.now) x.ref_ptr.0 x.ref_ptr.1 δ)) holder

  abbrev pub KeptShared : ℕ → Fml
  KeptShared ν = fsep (flent (ν ∷ []) ((arr_parts (shares R) (length x.now)).part full_share x.now x.ref_ptr.0 x.ref_ptr.1)) holder

-- one token more, and one fewer
within_first : (κ : Lft) (q : Share) (ts : Toks) → Incl (span ((κ, q) ∷ ts)) κ
within_first κ q [] = Incl-refl κ
within_first κ q (t ∷ ts) = meet_⊑_left κ (span (t ∷ ts))

within_one : (κ : Lft) (q : Share) (ts : Toks) (l : Lft) → Incl (span ts) l → Incl (span ((κ, q) ∷ ts)) l
within_one κ q [] l inc = λ a m. absurd (not-mem-nil (inc a m))
within_one κ q (t ∷ ts) l inc = Incl-trans (meet_⊑_right κ (span (t ∷ ts))) inc

module _ {M : Type 1} {𝓤 : Ura M} (𝓛 : Logic 𝓤) where
  open 𝓛 use {A}

  one_more : (κ : Lft) (q : Share) (ts : Toks) → ent 𝓤 (sep 𝓤 (A.lft κ q) (lfts 𝓛 ts)) (lfts 𝓛 ((κ, q) ∷ ts))
  one_more κ q [] = fst∗ 𝓤 (A.lft κ q) (emp 𝓤)
  one_more κ q (t ∷ ts) = id⊢ 𝓤 _

  one_fewer : (κ : Lft) (q : Share) (ts : Toks) → ent 𝓤 (lfts 𝓛 ((κ, q) ∷ ts)) (sep 𝓤 (A.lft κ q) (lfts 𝓛 ts))
  one_fewer κ q [] = via 𝓤 (sep 𝓤 (emp 𝓤) (A.lft κ q)) (emp∗ 𝓤 (A.lft κ q)) (comm∗ 𝓤 (emp 𝓤) (A.lft κ q))
  one_fewer κ q (t ∷ ts) = id⊢ 𝓤 _

module _ {M : Type 1} {𝓤 : Ura M} {𝓛 : Logic 𝓤} {K : Type 0} {Γ : List (Item 𝓤)} {G : Goal 𝓤 𝓛.H} {κ : Lft} {q : Share} where
  pub opens_mut : K → Soaks G → (R : RattleType) (ℓ : Lifetime) (x : MutBor (List R.Denot)) (vs : List Val)
      → (Room R (length x.now) → Seq K 𝓛 (‵ (row R full_share x.now x.ref_ptr.0 x.ref_ptr.1)
      ∷ ‵ (fobor κ q (Held R (length x.now) x.ref_ptr.0 x.ref_ptr.1 x.ghost_name))
      ∷ ‵ (fobs x.ghost_name ((coded_holeys R).code (heres R x.now))) ∷ ‵ (fauth x.ghost_name ((coded_holeys R).code (heres R x.now))) ∷ Γ) G)
      → Seq K 𝓛 (‵ ((MutSlice ℓ κ R).own_val x vs) ∷ ‵ (flft κ q) ∷ Γ) G
  opens_mut t z R ℓ x vs k = fsplit t $ pure_l t (mut_slice_at R x vs) (λ p. fsplit t $ opens_slice t z R x.now x.ref_ptr.0 x.ref_ptr.1 $ k p.1)

  pub opens_shr : K → Soaks G → (F : Field) → FLaws F → Copyable F → (ℓ : Lifetime) (x : Bor (List F.row.Denot)) (vs : List Val)
      → ((p : Share × Room F.row (length x.now)) → Seq K 𝓛 (‵ (row F.row p.0 x.now x.ref_ptr.0 x.ref_ptr.1)
      ∷ Shut 𝓛 κ q (row F.row p.0 x.now x.ref_ptr.0 x.ref_ptr.1) ∷ Γ) G)
      → Seq K 𝓛 (‵ ((ShrSlice ℓ κ F.row).own_val x vs) ∷ ‵ (flft κ q) ∷ Γ) G
  opens_shr t z F L copies ℓ x vs k = fsplit t $ pure_l t (shr_slice_at F.row x vs) (λ p.
      looks_slice t z F.row (copies.copied M 𝓤 𝓛) x.now x.ref_ptr.0 x.ref_ptr.1 (λ q'.
      move t (2 ∷ []) $ drop t $ k (q', p.1)))

  pub relent : K → Soaks G → (R : RattleType) (ℓ ℓ' : Lifetime) (x : MutBor (List R.Denot))
      → ((p : ℕ × GName × Room R (length x.now))
      → Seq K 𝓛 (‵ ((MutSlice ℓ' (p.0 ∷ []) R).own_val (under x p.1) (mut_slice_vals x)) ∷ ‵ (flft (p.0 ∷ []) full_share)
      ∷ ‵ (Kept R κ q x p.0 p.1) ∷ Γ) G)
      → Seq K 𝓛 (‵ ((MutSlice ℓ κ R).own_val x (mut_slice_vals x)) ∷ ‵ (flft κ q) ∷ Γ) G
  relent t z R ℓ ℓ' x k =
      let b : ℕ = x.ref_ptr.0 in
      let o : ℕ = x.ref_ptr.1 in
      let ys : List R.Denot = x.now in
      fsplit t $ pure_l t (mut_slice_at R x (mut_slice_vals x)) (λ p. fsplit t $ opens_slice t z R ys b o $ lft_new t z (λ ν. move t (1 ∷ []) $
      use1 𝓛 (‵ (cells (mem R) ys b o)) (whole_in 𝓛 R ys b o) $
      use1 𝓛 (later (some (λ (δ : GName). ‵ ((MutSlice ℓ' (ν ∷ []) R).own_val (under x δ) (mut_slice_vals x))
      ⊛ ‵ (flent (ν ∷ []) (Held R (length ys) b o δ)))))
      (lends_slice 𝓛 R ℓ' (ν ∷ []) ys b o p.1) $ await t z $ pick t (λ δ. split t $
      -- [the new slice; the lender's part at ν; ν's token; the open borrow at κ; obs; auth]
      move t (4 ∷ 5 ∷ []) $ fjoin t $ move t (4 ∷ 0 ∷ []) $ fjoin t $ move t (2 ∷ 0 ∷ []) $ fjoin t $ move t (1 ∷ 2 ∷ 0 ∷ []) $ k (ν, δ, p.1))))

  pub came_back : K → Soaks G → (R : RattleType) (ℓ : Lifetime) (x : MutBor (List R.Denot)) {ν : ℕ} (δ : GName) (zs : List R.Denot)
      → Room R (length x.now)
      → (length zs ≡ length x.now → Seq K 𝓛 (‵ ((MutSlice ℓ κ R).own_val (at_last x zs) (mut_slice_vals x)) ∷ ‵ (flft κ q) ∷ Γ) G)
      → Seq K 𝓛 (‵ (flft (ν ∷ []) full_share) ∷ ‵ (Kept R κ q x ν δ) ∷ ‵ (fsep (finally R δ zs) (feq ℕ (length zs) (length x.now))) ∷ Γ) G
  came_back t z R ℓ x {ν} δ zs room k =
      let b : ℕ = x.ref_ptr.0 in
      let o : ℕ = x.ref_ptr.1 in
      let ys : List R.Denot = x.now in
      lft_end t z $ move t (2 ∷ []) $ fsplit t $ move t (1 ∷ []) $ feq_l t (λ e. move t (2 ∷ []) $ fsplit t $ move t (3 ∷ 0 ∷ 2 ∷ []) $
      use3 𝓛 (later (‵ ((Arr (mem R) (length ys)).own_at zs b o))) (slice_back 𝓛 R (ν ∷ []) δ zs (length ys) b o) $ await t z $ fsplit t $ drop t $
      use1 𝓛 (‵ (row R full_share zs b o)) (whole_out 𝓛 R zs b o) $
      move t (1 ∷ []) $ fsplit t $ move t (1 ∷ []) $ fsplit t $ move t (3 ∷ 2 ∷ 0 ∷ 1 ∷ []) $ closes_slice t z R ys zs e b o $
      fjoin t $ pure_i t (mut_slice_at R (at_last x zs) (mut_slice_vals x)) (tt, (tt, tt))
      (ap (λ (m : ℕ). slice_val (b, o) m ∷ []) (sym e), subst (Room R) (sym e) room) $ fjoin t $ k e)

  pub shared : K → Soaks G → (R : RattleType) (ℓ ℓ' : Lifetime) (x : MutBor (List R.Denot)) (vs : List Val)
      (l : Lft) → Shares 𝓛 R l → (ts : Toks) → Incl (span ts) l
      → ((p : ℕ × shadow (mut_slice_at R x vs))
      → Seq K 𝓛 (‵ ((ShrSlice ℓ' (p.0 ∷ []) R).own_val (as_bor x) vs) ∷ ‵ (flft (p.0 ∷ []) full_share)
      ∷ ‵ (KeptShared R κ q x p.0) ∷ raw (lfts 𝓛 ts) ∷ Γ) G)
      → Seq K 𝓛 (‵ ((MutSlice ℓ κ R).own_val x vs) ∷ ‵ (flft κ q) ∷ raw (lfts 𝓛 ts) ∷ Γ) G
  shared t z R ℓ ℓ' x vs l shares_R ts inc k =
      let b : ℕ = x.ref_ptr.0 in
      let o : ℕ = x.ref_ptr.1 in
      let ys : List R.Denot = x.now in
      let part : Fml = (arr_parts (shares R) (length ys)).part full_share ys b o in
      fsplit t $ pure_l t (mut_slice_at R x vs) (λ p. fsplit t $ opens_slice t z R ys b o $ lft_new t z (λ ν. move t (1 ∷ []) $
      feq_i t ℕ (length ys) (length ys) refl $ fjoin t $
      -- [the elements; ν's token; the open borrow at κ; obs; auth; the tokens ts]
      let all : Toks = (ν ∷ [], full_share) ∷ ts in
      move t (1 ∷ 5 ∷ []) $ use2 𝓛 (raw (lfts 𝓛 all)) (one_more 𝓛 (ν ∷ []) full_share ts) $ move t (1 ∷ 0 ∷ []) $
      use2 𝓛 (later ((‵ ((ShrSlice ℓ' (ν ∷ []) R).own_val (as_bor x) (mut_slice_vals x)) ⊛ ‵ (flent (ν ∷ []) part)) ⊛ raw (lfts 𝓛 all)))
      (lends_shr_slice 𝓛 R ℓ' (ν ∷ []) full_share ys b o p.1 l shares_R all (within_one (ν ∷ []) full_share ts l inc) (within_first (ν ∷ []) full_share ts)) $
      await t z $ split t $ split t $
      move t (2 ∷ []) $ use1 𝓛 (‵ (flft (ν ∷ []) full_share) ⊛ raw (lfts 𝓛 ts)) (one_fewer 𝓛 (ν ∷ []) full_share ts) $ split t $
      -- [ν's token; the tokens ts; the new slice; the lender's part at ν; the open borrow at κ; obs; auth]
      rewrite t 2 (λ (us : List Val). ‵ ((ShrSlice ℓ' (ν ∷ []) R).own_val (as_bor x) us)) (sym p.0) refl $
      move t (5 ∷ 6 ∷ []) $ fjoin t $ move t (5 ∷ 0 ∷ []) $ fjoin t $ move t (4 ∷ 0 ∷ []) $ fjoin t $ move t (3 ∷ 1 ∷ 0 ∷ 2 ∷ []) $ k (ν, p)))

  pub came_back_shared : K → Soaks G → (R : RattleType) (ℓ : Lifetime) (x : MutBor (List R.Denot)) (vs : List Val) {ν : ℕ} → shadow (mut_slice_at R x vs)
      → Step K 𝓛 (‵ ((MutSlice ℓ κ R).own_val x vs) ∷ ‵ (flft κ q) ∷ Γ) G (‵ (flft (ν ∷ []) full_share) ∷ ‵ (KeptShared R κ q x ν) ∷ Γ) G
  came_back_shared t z R ℓ x vs p = step (λ s.
      let b : ℕ = x.ref_ptr.0 in
      let o : ℕ = x.ref_ptr.1 in
      let ys : List R.Denot = x.now in
      lft_end t z $ move t (1 ∷ []) $ fsplit t $ move t (2 ∷ 0 ∷ []) $ lent_back t z $ fsplit t $ drop t $
      move t (1 ∷ []) $ fsplit t $ move t (1 ∷ []) $ fsplit t $ move t (3 ∷ 2 ∷ 0 ∷ 1 ∷ []) $ closes_slice t z R ys ys refl b o $
      fjoin t $ pure_i t (mut_slice_at R x vs) (tt, (tt, tt)) p $ fjoin t $ s)

module _ {M : Type 1} {𝓤 : Ura M} {𝓛 : Logic 𝓤} {K : Type 0} {Γ : List (Item 𝓤)} {G : Goal 𝓤 𝓛.H} where
  -- once its borrow is closed at ys
  pub said_last : K → (R : RattleType) (ℓ : Lifetime) (κ : Lft) (γ : GName) (ys : List R.Denot) {n : ℕ} → length ys ≡ n
      → Step K 𝓛 (‵ (fsep (finally R γ ys) (feq ℕ (length ys) n)) ∷ Γ) G (‵ (fobs γ ((coded_holeys R).code (heres R ys))) ∷ Γ) G
  said_last t R ℓ κ γ ys {n} e = step (λ s.
      use1 𝓛 (‵ (fres γ ((coded_holeys R).code (heres R ys)))) (𝓛.names.obs-res γ ((coded_holeys R).code (heres R ys))) $
      use1 𝓛 (‵ (finally R γ ys)) (res-finally 𝓛 ℓ κ R γ ys) $ feq_i t ℕ (length ys) n e $ move t (1 ∷ 0 ∷ []) $ fjoin t $ s)

module _ {M : Type 1} {𝓤 : Ura M} {𝓛 : Logic 𝓤} {K : Type 0} {Γ : List (Item 𝓤)} {G : Goal 𝓤 𝓛.H} where
  pub given_up : K → (R : RattleType) (ℓ : Lifetime) (κ : Lft) (x : MutBor (List R.Denot)) (vs : List Val) {n : ℕ} → length x.now ≡ n
      → Step K 𝓛 (‵ (fsep (finally R x.ghost_name x.now) (feq ℕ (length x.now) n)) ∷ Γ) G (‵ ((MutSlice ℓ κ R).own_val x vs) ∷ Γ) G
  given_up t R ℓ κ x vs e = step (λ s. fsplit t $ drop t $ fsplit t $ move t (1 ∷ []) $ drop t $ said_last t R ℓ κ x.ghost_name x.now e $ s)

-- ---- several that are given up at once: what they own, in a star, for what is said of each
pub record Lent : Type 2 where
  pub name : Lifetime
  pub lft : Lft
  pub row : RattleType

abbrev pub slices : List Lent → List RattleType
slices [] = []
slices (l ∷ ls) = MutSlice l.name l.lft l.row ∷ slices ls

abbrev pub said_of : (ls : List Lent) → Denots (slices ls) → Fml
said_of [] xs = ftrue
said_of (l ∷ ls) xs = fsep (fsep (finally l.row xs.0.ghost_name xs.0.now) (feq ℕ (length xs.0.now) (length xs.0.now))) (said_of ls xs.1)

module _ {M : Type 1} {𝓤 : Ura M} (𝓛 : Logic 𝓤) where
  all_go : (ls : List Lent) (xs : Denots (slices ls)) (vss : Valss (slices ls)) → ent 𝓤 (sem 𝓛 (owns (slices ls) xs vss)) (sem 𝓛 (said_of ls xs))
  all_go [] xs vss = id⊢ 𝓤 _
  all_go (l ∷ ls) xs vss =
      qed 𝓛 (‵ (owns (slices (l ∷ ls)) xs vss) ∷ []) ∵ fsplit ! $ given_up ! l.row l.name l.lft xs.0 vss.0 refl $
      framed ! $ by ! (all_go ls xs.1 vss.1)

module _ {M : Type 1} {𝓤 : Ura M} {𝓛 : Logic 𝓤} {K : Type 0} {Γ : List (Item 𝓤)} {G : Goal 𝓤 𝓛.H} where
  pub all_given_up : K → (ls : List Lent) (xs : Denots (slices ls)) (vss : Valss (slices ls))
      → Step K 𝓛 (‵ (said_of ls xs) ∷ Γ) G (‵ (owns (slices ls) xs vss) ∷ Γ) G
  all_given_up t ls xs vss = use1 𝓛 (‵ (said_of ls xs)) (all_go 𝓛 ls xs vss)
