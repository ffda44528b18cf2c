-- Statements that walks have in common, on the frame of `Frame`. `i ∷ Γ` is the context, whose last entry is the frame cs of the environment E.
-- A local's number, and `refl` for what the frame has there, is all that a step asks of its frame.
--     here                      the evidence that cs is the frame, and E its environment: `(refl, refl)`
--     local_is, field_is        a local as an operand, and a field of one;        through, pointee   a place in a local, behind one
--     sets, sets_as, sets_last  a local takes a value: before other statements, under another spelling, as the last statement of a block
--     counts                    `s.len()`, into a local
--     relends                   `&mut *s` of a slice in a local p, into two new locals: its pointer, and the slice
--     values                    the operands of a call, each a local as it is
--     lands_as, lands_field     what a call returned, into a local: a struct, and a field's type
--     leaves, leaves_within     the function returns its first local: at the end of the code, and within a branch
use Rattle.std.specs.Prelude.{◌≡◌, refl, ℕ, zero, suc, T}
use Rattle.std.proofs.Common.{sym, ap, ◌∙◌, subst}
use Rattle.std.proofs.Math.Option.{Option, none, some, some-injective, none-ne-some}
use mathlib.Core.List.{List, [], ◌∷◌, nil≢cons, cons≢nil, head-eq_of_cons-eq, tail-eq_of_cons-eq}
use seplogic.Ra.Ura.{Ura}
use base.Fraction.{full_share}
use mir.Syntax.{Mutability, Lifetime, Sym, Width, w64, Ty, Tys, ty_int, ty_ref, ty_struct, deref, field}
use mir.Syntax.{Step as PStep, place, Opd as Operand, copy, int, int_neg, int_big, float, opd_true, opd_false}
use mir.Syntax.{opd_unit, ptr_const, size_of, align_of, num_of, fn_addr, vtable, Rv as Rvalue, addr_of, aggregate, rv_opd, Body, skip, seq, assign, return}
use mir.Val.{Val, Vals, vint, vptr, vstruct, WT, has_ty}
use mir.Fields.{get_v}
use prog.Memory.{field_at}
use base.Logic.{SProp, ent, sep, wand, all, via, all_e, apply∗}
use base.Fml.{fat}
use prog.Wp.{Heap, next, returns as returned, Env, Spot, spot_of, after_seq, Calls, Loops, Wp, at_return}
use types.Logic.{Logic}
use types.Kit.{Item, ‵, raw, ◌⊛◌, ⋆, mean, Goal, Post, any_q, post, prop, runs, lands}
use types.Kit.{at_ret, aim, Seq, Step, step, ◌$◌, ◌∵◌, !, qed, by, move, use1, use2, split}
use types.Run.{Reads, Walks, Finds, Opd, Opds, Rv, stop, hop, fld, from, load, addr, of_opd}
use types.Run.{and_then, no_more, assigns, assigns_last, land, skips, exec, well_typed}
use types.Part.{Part, agg, sub}
use Rattle.std.specs.Borrow.{RattleType}
use denote.Laws.{Is, shows, Tells, Lawful, Typed}
use denote.Slice.{slice_ty, slice_val}
use denote.Plain.{UInt, uint_Makes}
use denote.Steps.{only, owned, peeks}
use denote.Struct.Declared.{Declared, row}
use denote.Struct.Field.{Field}
use denote.Struct.Laws as LL
use denote.Struct.Laws.{FLaws}
use Rattle.walks.specs.Frame.{Cell, vacant, holds, kind, block, env, putc, nthc, Has, At, locals, last, before, first_put}
use Rattle.walks.specs.Frame.{rest_put, put_last, last_put, pull_last, fill_last, same_last, at_local, in_last, into, leaves_at}

-- ---- of lists of locals
has_at : (cs : List Cell) (n : ℕ) (τ : Ty) (b : ℕ) (v : Val) → Has cs n (holds τ b v) → At cs n τ b
has_at [] n τ b v h = absurd (none-ne-some (holds τ b v) h)
has_at (c ∷ cs) zero τ b v h = ap {B = Option (Ty × ℕ)} (λ (x : Cell). some (kind x, block x)) (some-injective c (holds τ b v) h)
has_at (c ∷ cs) (suc n) τ b v h = has_at cs n τ b v h

abbrev pub Apart : ℕ → ℕ → Type 0
Apart zero zero = ⊥
Apart zero (suc n) = Unit {0}
Apart (suc m) zero = Unit {0}
Apart (suc m) (suc n) = Apart m n

pub has_other : (cs : List Cell) (m n : ℕ) (c c' : Cell) → Apart m n → Has cs n c → Has (putc cs m c') n c
has_other [] m n c c' a h = h
has_other (c₀ ∷ cs) zero zero c c' a h = absurd a
has_other (c₀ ∷ cs) zero (suc n) c c' a h = h
has_other (c₀ ∷ cs) (suc m) zero c c' a h = h
has_other (c₀ ∷ cs) (suc m) (suc n) c c' a h = has_other cs m n c c' a h

pub at_other : (cs : List Cell) (m n : ℕ) (τ : Ty) (b : ℕ) (c' : Cell) → Apart m n → At cs n τ b → At (putc cs m c') n τ b
at_other [] m n τ b c' a h = h
at_other (c₀ ∷ cs) zero zero τ b c' a h = absurd a
at_other (c₀ ∷ cs) zero (suc n) τ b c' a h = h
at_other (c₀ ∷ cs) (suc m) zero τ b c' a h = h
at_other (c₀ ∷ cs) (suc m) (suc n) τ b c' a h = at_other cs m n τ b c' a h

pub has_same : (cs : List Cell) (n : ℕ) (τ : Ty) (b : ℕ) (v : Val) → At cs n τ b → Has (putc cs n (holds τ b v)) n (holds τ b v)
has_same [] n τ b v h = absurd (none-ne-some {A = Ty × ℕ} (τ, b) h)
has_same (c ∷ cs) zero τ b v h = refl
has_same (c ∷ cs) (suc n) τ b v h = has_same cs n τ b v h

pub env-put : (cs : List Cell) (n : ℕ) (τ : Ty) (b : ℕ) (v : Val) → At cs n τ b → env cs ≡ env (putc cs n (holds τ b v))
env-put [] n τ b v h = refl
env-put (c ∷ cs) zero τ b v h = ap (λ (p : Ty × ℕ). p ∷ env cs) (some-injective {A = Ty × ℕ} (kind c, block c) (τ, b) h)
env-put (c ∷ cs) (suc n) τ b v h = ap (λ (E : List (Ty × ℕ)). (kind c, block c) ∷ E) (env-put cs n τ b v h)

next_apart : (n : ℕ) → Apart n (suc n)
next_apart zero = tt
next_apart (suc n) = next_apart n

module _ {M : Type 1} (𝓤 : Ura M) (H : Heap 𝓤) where
  spot_at : (cs : List Cell) (n : ℕ) (τ : Ty) (b : ℕ) → At cs n τ b → spot_of 𝓤 H (env cs) n ≡ (τ, b, 0)
  spot_at [] n τ b h = absurd (none-ne-some {A = Ty × ℕ} (τ, b) h)
  spot_at (c ∷ cs) zero τ b h = ap {B = Ty × ℕ × ℕ} (λ (p : Ty × ℕ). (p.0, p.1, 0)) (some-injective {A = Ty × ℕ} (kind c, block c) (τ, b) h)
  spot_at (c ∷ cs) (suc n) τ b h = spot_at cs n τ b h

-- cs is the frame of the context, and E its environment
abbrev pub Framed : {M : Type 1} {𝓤 : Ura M} → List (Ty × ℕ) → List Cell → Item 𝓤 → List (Item 𝓤) → Type 2
Framed E cs i Γ = (last i Γ ≡ locals cs) × (E ≡ env cs)

abbrev pub here {α β} : {X : Type α} {Y : Type β} {x : X} {y : Y} → (x ≡ x) × (y ≡ y)
here = (refl, refl)

-- ---- reading the frame
module _ {M : Type 1} {𝓤 : Ura M} (𝓛 : Logic 𝓤) (K : Type 0) (i : Item 𝓤) (Γ : List (Item 𝓤))
    (cs : List Cell) (e : last i Γ ≡ locals cs) where
  -- a local, as a part of the last entry
  open 𝓛 use {H}

  part_of : K → (n : ℕ) (τ : Ty) (b : ℕ) (v : Val) → Has cs n (holds τ b v) → Part K 𝓛 (last i Γ) full_share τ b 0 v (λ u. locals (putc cs n (holds τ b u)))
  part_of t n τ b v h = subst (λ (x : Item 𝓤). Part K 𝓛 x full_share τ b 0 v (λ u. locals (putc cs n (holds τ b u)))) (sym e) (at_local t n h)

  -- what a local holds is of its type
  typed_local : (t : K) (n : ℕ) (τ : Ty) (b : ℕ) (v : Val) (G : Goal 𝓤 H) → Has cs n (holds τ b v)
      → (T (has_ty τ v) × WT v → Seq K 𝓛 (i ∷ Γ) G) → Seq K 𝓛 (i ∷ Γ) G
  typed_local t n τ b v G h k =
      let C : Val → SProp 𝓤 = λ u. H.at full_share τ b 0 u in
      let back : Val → Item 𝓤 = λ u. locals (putc cs n (holds τ b u)) in
      let Rest : SProp 𝓤 = ⋆ 𝓛 (before i Γ) in
      let p : Part K 𝓛 (last i Γ) full_share τ b 0 v back = part_of t n τ b v h in
      record {
        prf = via 𝓤 (sep 𝓤 (mean 𝓛 (last i Γ)) Rest) (pull_last 𝓛 i Γ)
            (qed 𝓛 (last i Γ ∷ raw Rest ∷ []) ∵
            use1 𝓛 (‵ (fat full_share τ b 0 v) ⊛ raw (all 𝓤 (λ (u : Val). wand 𝓤 (C u) (mean 𝓛 (back u))))) p.out $ split ! $
            well_typed ! (λ wt. move ! (1 ∷ []) $
            use1 𝓛 (raw (wand 𝓤 (C v) (mean 𝓛 (back v)))) (all_e 𝓤 (λ (u : Val). wand 𝓤 (C u) (mean 𝓛 (back u))) v) $
            move ! (1 ∷ 0 ∷ []) $ use2 𝓛 (back v) (apply∗ 𝓤 (C v) (mean 𝓛 (back v))) $
            by ! (via 𝓤 (⋆ 𝓛 (put_last (back v) i Γ)) (fill_last 𝓛 (back v) i Γ)
            (subst (λ (Δ : List (Item 𝓤)). ent 𝓤 (⋆ 𝓛 Δ) (aim 𝓤 H G))
            (sym (ap (λ (x : Item 𝓤). put_last x i Γ) p.same ∙ same_last 𝓛 i Γ)) (k wt).prf))));
      }

module _ {M : Type 1} {𝓤 : Ura M} (𝓛 : Logic 𝓤) (K : Type 0) (i : Item 𝓤) (Γ : List (Item 𝓤))
    (E : Env 𝓤 𝓛.H) (cs : List Cell) (f : Framed E cs i Γ) where
  -- a place that begins in a local of this type and block
  open 𝓛 use {H}

  from_local : K → (n : ℕ) (τ : Ty) (b : ℕ) (st : List PStep) (sp : Spot 𝓤 H) → At cs n τ b → Walks K 𝓛 (i ∷ Γ) E (τ, b, 0) st sp
      → Finds K 𝓛 (i ∷ Γ) E (place n st) sp
  from_local t n τ b st sp h w =
      from t (subst (λ (s : Spot 𝓤 H). Walks K 𝓛 (i ∷ Γ) E s st sp) (sym (ap (λ (F : Env 𝓤 H). spot_of 𝓤 H F n) f.1 ∙ spot_at 𝓤 H cs n τ b h)) w)

  module _ (t : K) (n : ℕ) (ℓ : Lifetime) (μ : Mutability) (σ : Ty) (b : ℕ) (p : ℕ × ℕ) (m : ℕ)
      (h : Has cs n (holds (slice_ty (ty_ref ℓ μ σ)) b (slice_val p m))) where
    -- the pointer and the count of a slice
    points : (τ : Ty) → Finds K 𝓛 (i ∷ Γ) E (place n (field 0 ∷ deref τ ∷ [])) (τ, p.0, p.1)
    points τ = from_local t n _ b _ _ (has_at cs n _ b _ h)
        (fld t refl (hop t (in_last t (sub t 0 refl (part_of 𝓛 K i Γ cs f.0 t n _ b _ h))) (stop t)))

    count_is : Opd K 𝓛 (i ∷ Γ) E (copy (place n (field 1 ∷ []))) (vint w64 m)
    count_is = load t (from_local t n _ b _ _ (has_at cs n _ b _ h) (fld t refl (stop t)))
        (in_last t (sub t 1 refl (part_of 𝓛 K i Γ cs f.0 t n _ b _ h)))

-- what a number in a local owns is had for nothing
module _ {M : Type 1} {𝓤 : Ura M} {𝓛 : Logic 𝓤} {K : Type 0} {i : Item 𝓤} {Γ : List (Item 𝓤)} {G : Goal 𝓤 𝓛.H} where
  pub number_in : K → (n : ℕ) {cs : List Cell} {w : Width} {b x : ℕ} → last i Γ ≡ locals cs → Has cs n (holds (ty_int w) b (vint w x))
      → Step K 𝓛 (‵ ((UInt w).own_val x (vint w x ∷ [])) ∷ i ∷ Γ) G (i ∷ Γ) G
  number_in t n {cs} {w} {b} {x} e h = step (λ s. typed_local 𝓛 K i Γ cs e t n (ty_int w) b (vint w x) G h (λ wt.
      owned t (UInt w) (Is (UInt w)) (uint_Makes 𝓛 w) x (vint w x ∷ []) (refl, wt.1.fits) $ s))

-- ---- statements
-- the code of `&mut *s`, s in the local p; and what the context is then: the locals n and n + 1 take c and d
abbrev relending : ℕ → ℕ → Ty → Body → Body
relending n p τ rest =
    seq (assign (place n []) (addr_of (place p (field 0 ∷ deref τ ∷ []))))
    (seq (assign (place (suc n) []) (aggregate (copy (place n []) ∷ copy (place p (field 1 ∷ [])) ∷ []))) rest)

abbrev both_put : {M : Type 1} {𝓤 : Ura M} → List Cell → ℕ → Cell → Cell → Item 𝓤 → List (Item 𝓤) → List (Item 𝓤)
both_put cs n c d i Γ = put_last (locals (putc (putc cs n c) (suc n) d)) (first_put (locals (putc cs n c)) i Γ) (rest_put (locals (putc cs n c)) i Γ)

module _ {M : Type 1} {𝓤 : Ura M} {𝓛 : Logic 𝓤} {K : Type 0} {i : Item 𝓤} {Γ : List (Item 𝓤)} {E : Env 𝓤 𝓛.H} where
  -- a place that begins in a local which holds something
  open 𝓛 use {H}

  pub through : K → {n : ℕ} {cs : List Cell} {τ : Ty} {b : ℕ} {v : Val} {st : List PStep} {sp : Spot 𝓤 H} → Framed E cs i Γ
      → Has cs n (holds τ b v) → Walks K 𝓛 (i ∷ Γ) E (τ, b, 0) st sp
      → Finds K 𝓛 (i ∷ Γ) E (place n st) sp
  through t {n} {cs} {τ} {b} {v} {st} {sp} f h w = from_local 𝓛 K i Γ E cs f t n τ b st sp (has_at cs n τ b v h) w

  -- one that begins where a local points
  pub pointee : K → (n : ℕ) {cs : List Cell} {σ τ : Ty} {b x y : ℕ} {st : List PStep} {sp : Spot 𝓤 H} → Framed E cs i Γ → Has cs n (holds σ b (vptr x y))
      → Walks K 𝓛 (i ∷ Γ) E (τ, x, y) st sp → Finds K 𝓛 (i ∷ Γ) E (place n (deref τ ∷ st)) sp
  pointee t n {cs} {σ} {τ} {b} {x} {y} f h w = through t f h (hop t (in_last t (part_of 𝓛 K i Γ cs f.0 t n σ b (vptr x y) h)) w)

  -- a local as it is
  pub local_is : K → (n : ℕ) {cs : List Cell} {τ : Ty} {b : ℕ} {v : Val} → Framed E cs i Γ → Has cs n (holds τ b v) → Opd K 𝓛 (i ∷ Γ) E (copy (place n [])) v
  local_is t n {cs} {τ} {b} {v} f h = load t (from_local 𝓛 K i Γ E cs f t n τ b _ _ (has_at cs n τ b v h) (stop t))
      (in_last t (part_of 𝓛 K i Γ cs f.0 t n τ b v h))

  -- a field of a struct in a local
  pub field_is : K → (n k : ℕ) {cs : List Cell} {ν : Sym} {τs : Tys} {b : ℕ} {vs : Vals} {τ : Ty} {d : ℕ} → Framed E cs i Γ
      → Has cs n (holds (ty_struct ν τs) b (vstruct vs))
      → field_at 0 τs k ≡ some (τ, d) → Opd K 𝓛 (i ∷ Γ) E (copy (place n (field k ∷ []))) (get_v vs k)
  field_is t n k {cs} {ν} {τs} {b} {vs} f h e =
      load t (through t f h (fld t e (stop t))) (in_last t (sub t k e (part_of 𝓛 K i Γ cs f.0 t n (ty_struct ν τs) b (vstruct vs) h)))

module _ {M : Type 1} {𝓤 : Ura M} {𝓛 : Logic 𝓤} {K : Type 0} {i : Item 𝓤} {Γ : List (Item 𝓤)} {E : Env 𝓤 𝓛.H} where
  -- the function returns what its first local holds, and its locals are freed: at the end of the code, and within a branch
  open 𝓛 use {H}

  pub leaves_within : K → (Kf : Val → SProp 𝓤) {C : Calls 𝓤 H} {Λ : Loops 𝓤 H} {q : Post 𝓤 H} {cs : List Cell} {τ : Ty} {b : ℕ} {r : Val}
      → post 𝓤 H q returned ≡ at_return 𝓤 H E Kf returned
      → Framed E cs i Γ → Has cs 0 (holds τ b r) → Step K 𝓛 (before i Γ) (prop (Kf r)) (i ∷ Γ) (runs C Λ E return q)
  leaves_within t Kf {C} {Λ} {q} {cs} {τ} {b} {r} ends f h = leaves_at t Kf ends f.0 f.1
      (subst (λ (s : Spot 𝓤 H). Reads K 𝓛 (i ∷ Γ) s.0 s.1 0 r)
      (sym (ap (λ (F : Env 𝓤 H). spot_of 𝓤 H F 0) f.1 ∙ spot_at 𝓤 H cs 0 τ b (has_at cs 0 τ b r h)))
      (in_last t (part_of 𝓛 K i Γ cs f.0 t 0 τ b r h)))

  pub leaves : K → {C : Calls 𝓤 H} {Λ : Loops 𝓤 H} {Kf : Val → SProp 𝓤} {cs : List Cell} {τ : Ty} {b : ℕ} {r : Val} → Framed E cs i Γ → Has cs 0 (holds τ b r)
      → Step K 𝓛 (before i Γ) (prop (Kf r)) (i ∷ Γ) (runs C Λ E return (at_ret E Kf))
  leaves t {Kf = Kf} f h = leaves_within t Kf refl f h

  -- the last statement of a turn, likewise
  pub sets_last : K → {C : Calls 𝓤 H} {Λ : Loops 𝓤 H} {q : Post 𝓤 H} {n : ℕ} {rv : Rvalue} {cs : List Cell} {τ : Ty} {b : ℕ} {u v : Val}
      → Framed E cs i Γ → Rv K 𝓛 (i ∷ Γ) E rv u → u ≡ v
      → At cs n τ b → T (has_ty τ v) × WT v
      → Step K 𝓛 (put_last (locals (putc cs n (holds τ b v))) i Γ) (prop (post 𝓤 H q next)) (i ∷ Γ) (runs C Λ E (assign (place n []) rv) q)
  sets_last t {n = n} {rv = rv} {cs = cs} {τ = τ} {b = b} f r e h wt =
      assigns_last t (subst (λ (x : Val). Rv K 𝓛 (i ∷ Γ) E rv x) e r) (from_local 𝓛 K i Γ E cs f t n τ b _ _ h (stop t)) (into t n f.0 h wt)

  module _ {C : Calls 𝓤 H} {Λ : Loops 𝓤 H} {q : Post 𝓤 H} {rest : Body} where
    -- a local n takes what rv gives
    pub sets : K → {n : ℕ} {rv : Rvalue} {cs : List Cell} {τ : Ty} {b : ℕ} {v : Val} → Framed E cs i Γ → Rv K 𝓛 (i ∷ Γ) E rv v
        → At cs n τ b → T (has_ty τ v) × WT v
        → Step K 𝓛 (put_last (locals (putc cs n (holds τ b v))) i Γ) (runs C Λ E rest q) (i ∷ Γ) (runs C Λ E (seq (assign (place n []) rv) rest) q)
    sets t {n} {rv} {cs} {τ} {b} {v} f r h wt = assigns t r (from_local 𝓛 K i Γ E cs f t n τ b _ _ h (stop t)) (into t n f.0 h wt)

    -- the same, where what rv gives is another spelling of v
    pub sets_as : K → {n : ℕ} {rv : Rvalue} {cs : List Cell} {τ : Ty} {b : ℕ} {u v : Val} → Framed E cs i Γ → Rv K 𝓛 (i ∷ Γ) E rv u
        → u ≡ v → At cs n τ b → T (has_ty τ v) × WT v
        → Step K 𝓛 (put_last (locals (putc cs n (holds τ b v))) i Γ) (runs C Λ E rest q) (i ∷ Γ) (runs C Λ E (seq (assign (place n []) rv) rest) q)
    sets_as t {rv = rv} f r e h wt = sets t f (subst (λ (x : Val). Rv K 𝓛 (i ∷ Γ) E rv x) e r) h wt

    -- `s.len()`
    pub counts : K → {p n : ℕ} {cs : List Cell} {ℓ : Lifetime} {μ : Mutability} {σ : Ty} {b x y m b₁ : ℕ} → Framed E cs i Γ
        → Has cs p (holds (slice_ty (ty_ref ℓ μ σ)) b (slice_val (x, y) m)) → At cs n (ty_int w64) b₁
        → Step K 𝓛 (put_last (locals (putc cs n (holds (ty_int w64) b₁ (vint w64 m)))) i Γ) (runs C Λ E rest q)
        (i ∷ Γ) (runs C Λ E (seq (assign (place n []) (rv_opd (copy (place p (field 1 ∷ []))))) rest) q)
    counts t {p} {n} {cs} {ℓ} {μ} {σ} {b} {x} {y} {m} {b₁} f h h₁ = step (λ s.
        typed_local 𝓛 K i Γ cs f.0 t p _ b _ _ h
        (λ wt. sets t f (of_opd t (count_is 𝓛 K i Γ E cs f t p ℓ μ σ b (x, y) m h)) h₁ (tt, wt.1.1.0) $ s))

    -- `&mut *s`, or `&*s` of a `&mut`: its pointer into the local n, and the slice into the next
    pub relends : K → {p n : ℕ} {τ : Ty} {cs : List Cell} {ℓ ℓ₁ ℓ₂ : Lifetime} {μ μ₁ μ₂ : Mutability} {σ σ₁ σ₂ : Ty} {b x y m b₁ b₂ : ℕ}
        → Framed E cs i Γ → Has cs p (holds (slice_ty (ty_ref ℓ μ σ)) b (slice_val (x, y) m))
        → At cs n (ty_ref ℓ₁ μ₁ σ₁) b₁ → At cs (suc n) (slice_ty (ty_ref ℓ₂ μ₂ σ₂)) b₂ → Apart n p
        → Step K 𝓛 (both_put cs n (holds (ty_ref ℓ₁ μ₁ σ₁) b₁ (vptr x y)) (holds (slice_ty (ty_ref ℓ₂ μ₂ σ₂)) b₂ (slice_val (x, y) m)) i Γ)
        (runs C Λ E rest q) (i ∷ Γ) (runs C Λ E (relending n p τ rest) q)
    relends t {p} {n} {τ} {cs} {ℓ} {ℓ₁} {ℓ₂} {μ} {μ₁} {μ₂} {σ} {σ₁} {σ₂} {b} {x} {y} {m} {b₁} {b₂} f h h₁ h₂ a = step (λ s.
        let c : Cell = holds (ty_ref ℓ₁ μ₁ σ₁) b₁ (vptr x y) in
        let cs' : List Cell = putc cs n c in
        let j : Item 𝓤 = first_put (locals cs') i Γ in
        let Δ : List (Item 𝓤) = rest_put (locals cs') i Γ in
        let f' : Framed E cs' j Δ = (last_put (locals cs') i Γ, f.1 ∙ env-put cs n _ b₁ _ h₁) in
        let h₂' : At cs' (suc n) (slice_ty (ty_ref ℓ₂ μ₂ σ₂)) b₂ = at_other cs n (suc n) _ b₂ c (next_apart n) h₂ in
        let pointer : Finds K 𝓛 (i ∷ Γ) E (place p (field 0 ∷ deref τ ∷ [])) (τ, x, y) = points 𝓛 K i Γ E cs f t p ℓ μ σ b (x, y) m h τ in
        let copied : Opd K 𝓛 (j ∷ Δ) E (copy (place n [])) (vptr x y) = local_is t n f' (has_same cs n _ b₁ _ h₁) in
        let count : Opd K 𝓛 (j ∷ Δ) E (copy (place p (field 1 ∷ []))) (vint w64 m) =
        count_is 𝓛 K j Δ E cs' f' t p ℓ μ σ b (x, y) m (has_other cs n p _ c a h) in
        typed_local 𝓛 K i Γ cs f.0 t p _ b _ _ h (λ wt.
        assigns t (addr t pointer) (from_local 𝓛 K i Γ E cs f t n _ b₁ _ _ h₁ (stop t)) (into t n f.0 h₁ (tt, tt)) $
        assigns t (agg t (and_then t copied (and_then t count (no_more t)))) (from_local 𝓛 K j Δ E cs' f' t (suc n) _ b₂ _ _ h₂' (stop t))
        (into t (suc n) f'.0 h₂' (tt, (tt, (wt.1.1.0, tt)))) $ s))

module _ {M : Type 1} {𝓤 : Ura M} {𝓛 : Logic 𝓤} {K : Type 0} {Γ : List (Item 𝓤)} {E : Env 𝓤 𝓛.H}
    {C : Calls 𝓤 𝓛.H} {Λ : Loops 𝓤 𝓛.H} {q : Post 𝓤 𝓛.H} {rest : Body} where
  -- what a call returned, into a local: it is held as the laws of its type spell it
  lands_spelt : K → (R : RattleType) (val : R.Denot → Val) → Tells R (Is R) (λ y. val y ∷ []) → Lawful 𝓛 R
      → (r : R.Denot) {n : ℕ} {cs : List Cell} {τ : Ty} {b : ℕ} {w : Val}
      → Framed E cs (‵ (R.own_val r (w ∷ []))) Γ → R.mir ≡ τ ∷ [] → At cs n τ b
      → (Is R r (val r ∷ []) → Seq K 𝓛 (put_last (locals (putc cs n (holds τ b (val r)))) (‵ (R.own_val r (val r ∷ []))) Γ) (runs C Λ E rest q))
      → Seq K 𝓛 (‵ (R.own_val r (w ∷ [])) ∷ Γ) (lands C Λ E (place n []) w rest q)
  lands_spelt t R val tells lawful r {n} {cs} {τ} {b} {w} f one h k = peeks t R (Is R) (shows 𝓛 R) r (w ∷ []) (λ is.
      let same : w ≡ val r = ap only (tells r (w ∷ []) is) in
      let ok : Typed (τ ∷ []) (w ∷ []) = subst (λ (τs : List Ty). Typed τs (w ∷ [])) one (lawful.typed r (w ∷ []) is) in
      land t (from_local 𝓛 K (‵ (R.own_val r (w ∷ []))) Γ E cs f t n τ b _ _ h (stop t)) (into t n f.0 h ok.0) $
      subst (λ (u : Val). Seq K 𝓛 (put_last (locals (putc cs n (holds τ b u))) (‵ (R.own_val r (u ∷ []))) Γ) (runs C Λ E rest q)) (sym same)
      (k (subst (λ (u : Val). Is R r (u ∷ [])) same is)))

  pub lands_field : K → (F : Field) (L : FLaws F) (r : F.row.Denot) {n : ℕ} {cs : List Cell} {τ : Ty} {b : ℕ} {w : Val}
      → Framed E cs (‵ (F.row.own_val r (w ∷ []))) Γ → F.row.mir ≡ τ ∷ [] → At cs n τ b
      → (Is F.row r (L.val r ∷ [])
      → Seq K 𝓛 (put_last (locals (putc cs n (holds τ b (L.val r)))) (‵ (F.row.own_val r (L.val r ∷ []))) Γ) (runs C Λ E rest q))
      → Seq K 𝓛 (‵ (F.row.own_val r (w ∷ [])) ∷ Γ) (lands C Λ E (place n []) w rest q)
  lands_field t F L r f one h k = lands_spelt t F.row L.val L.tells (L.lawful 𝓛) r f one h k

  pub lands_as : K → (D : Declared) (L : LL.Laws D) (r : D.D) {n : ℕ} {cs : List Cell} {τ : Ty} {b : ℕ} {w : Val}
      → Framed E cs (‵ ((row D).own_val r (w ∷ []))) Γ → (row D).mir ≡ τ ∷ [] → At cs n τ b
      → (Is (row D) r (LL.vals D L r)
      → Seq K 𝓛 (put_last (locals (putc cs n (holds τ b (LL.val D L r)))) (‵ ((row D).own_val r (LL.vals D L r))) Γ) (runs C Λ E rest q))
      → Seq K 𝓛 (‵ ((row D).own_val r (w ∷ [])) ∷ Γ) (lands C Λ E (place n []) w rest q)
  lands_as t D L r f one h k = lands_spelt t (row D) (LL.val D L) (LL.tells D L) (LL.lawful D L 𝓛) r f one h k

-- ---- the arm of a branch that does nothing: what follows the branch runs
module _ {M : Type 1} {𝓤 : Ura M} {𝓛 : Logic 𝓤} {K : Type 0} {Γ : List (Item 𝓤)} {E : Env 𝓤 𝓛.H}
    {C : Calls 𝓤 𝓛.H} {Λ : Loops 𝓤 𝓛.H} where
  open 𝓛 use {H}

  pub goes_on : K → (b : Body) (q : Post 𝓤 H)
      → Step K 𝓛 Γ (runs C Λ E b q) Γ (runs C Λ E skip (any_q (after_seq 𝓤 H (Wp 𝓤 H C Λ E b (post 𝓤 H q)) (post 𝓤 H q))))
  goes_on t b q = step (λ s. skips t $ exec t C Λ E b q $ s)

-- ---- the operands of a call, each a local as it is
abbrev value : Option Cell → Option Val
value none = none
value (some (vacant τ b)) = none
value (some (holds τ b v)) = some v

abbrev named : List Cell → Operand → Option Val
named cs (copy (place n [])) = value (nthc cs n)
named cs (copy (place n (s ∷ st))) = none
named cs (int w n) = none
named cs (int_neg w n) = none
named cs (int_big w n) = none
named cs (float f n) = none
named cs opd_true = none
named cs opd_false = none
named cs opd_unit = none
named cs (ptr_const n) = none
named cs (size_of τ) = none
named cs (align_of τ) = none
named cs (num_of w τ) = none
named cs (fn_addr k σ) = none
named cs (vtable τ ss) = none

abbrev pub held : List Cell → List Operand → List (Option Val)
held cs [] = []
held cs (x ∷ xs) = named cs x ∷ held cs xs

abbrev pub all_some : List Val → List (Option Val)
all_some [] = []
all_some (v ∷ vs) = some v ∷ all_some vs

valued : (o : Option Cell) (v : Val) → ◌≡◌ {A = Option Val} (value o) (some v) → (τ : Ty) × (b : ℕ) × ◌≡◌ {A = Option Cell} o (some (holds τ b v))
valued none v e = absurd (none-ne-some v e)
valued (some (vacant τ b)) v e = absurd (none-ne-some v e)
valued (some (holds τ b u)) v e = (τ, b, ap {B = Option Cell} (λ (x : Val). some (holds τ b x)) (some-injective u v e))

module _ {M : Type 1} {𝓤 : Ura M} {𝓛 : Logic 𝓤} {K : Type 0} {i : Item 𝓤} {Γ : List (Item 𝓤)} {E : Env 𝓤 𝓛.H} where
  operand : K → (x : Operand) (v : Val) {cs : List Cell} → Framed E cs i Γ → ◌≡◌ {A = Option Val} (named cs x) (some v) → Opd K 𝓛 (i ∷ Γ) E x v
  operand t (copy (place n [])) v {cs} f e = let p : (τ : Ty) × (b : ℕ) × Has cs n (holds τ b v) = valued (nthc cs n) v e in local_is t n f p.2
  operand t (copy (place n (s ∷ st))) v f e = absurd (none-ne-some v e)
  operand t (int w n) v f e = absurd (none-ne-some v e)
  operand t (int_neg w n) v f e = absurd (none-ne-some v e)
  operand t (int_big w n) v f e = absurd (none-ne-some v e)
  operand t (float g n) v f e = absurd (none-ne-some v e)
  operand t opd_true v f e = absurd (none-ne-some v e)
  operand t opd_false v f e = absurd (none-ne-some v e)
  operand t opd_unit v f e = absurd (none-ne-some v e)
  operand t (ptr_const n) v f e = absurd (none-ne-some v e)
  operand t (size_of τ) v f e = absurd (none-ne-some v e)
  operand t (align_of τ) v f e = absurd (none-ne-some v e)
  operand t (num_of w τ) v f e = absurd (none-ne-some v e)
  operand t (fn_addr k σ) v f e = absurd (none-ne-some v e)
  operand t (vtable τ ss) v f e = absurd (none-ne-some v e)

  operands : K → (xs : List Operand) (vs : List Val) {cs : List Cell} → Framed E cs i Γ → held cs xs ≡ all_some vs → Opds K 𝓛 (i ∷ Γ) E xs vs
  operands t [] [] f e = no_more t
  operands t [] (v ∷ vs) f e = absurd (nil≢cons e)
  operands t (x ∷ xs) [] f e = absurd (cons≢nil e)
  operands t (x ∷ xs) (v ∷ vs) f e = and_then t (operand t x v f (head-eq_of_cons-eq e)) (operands t xs vs f (tail-eq_of_cons-eq e))

  pub values : K → {xs : List Operand} {vs : List Val} {cs : List Cell} → Framed E cs i Γ → held cs xs ≡ all_some vs → Opds K 𝓛 (i ∷ Γ) E xs vs
  values t {xs} {vs} f e = operands t xs vs f e
