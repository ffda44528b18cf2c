-- The locals of a function as one entry of a context, its last: each is found by its number in the code, and no step on another entry moves it.
-- The frame is closed to the checker (`unfoldable`): a walk looks its locals up in the list cs, and a context stays as short as its borrows.
--     Cell, frame      a local: its type, its block, and what it holds. `frame cs` owns them all, and may free them
--     Has, At          the local n of cs is so; it has this type and block.        locals      the frame as an entry
--     at_local         a local of the frame, as a part of that entry (the kit's `types.Part`);        in_last      such a part is read
--     into             a local is written.        forgets      what some locals hold is forgotten, so that two paths meet
--     enters           a function begins: its locals are allocated, and hold the arguments.        leaves_at      it returns, and they are freed
use Rattle.std.specs.Prelude.{◌≡◌, T}
use Rattle.std.proofs.Math.Path.{refl, subst}
use Rattle.std.proofs.Common.{sym, ap, ◌∙◌}
use Prim.Native.Nat.{ℕ, zero, suc}
use Rattle.std.proofs.Math.Option.{Option, none, some, some-injective, none-ne-some}
use mathlib.Core.List.{List, [], ◌∷◌, ◌++◌}
use seplogic.Ra.Ura.{Ura}
use base.Fraction.{full_share}
use mir.Syntax.{Ty, Local, local, Fn, return}
use mir.Val.{Val, WT, has_ty}
use base.Logic.{SProp, ent, sep, wand, all, ex, emp, id⊢, via, comm∗, assoc∗, mono_r, emp∗, snd∗, wand_i, apply∗, all_i, all_e}
use base.Fml.{Share, Fml, ftrue, feq, fsep, fat, froom, fdies}
use prog.Wp.{returns as returned, Env, Calls, Loops, Wp, WpFn, alloc, pass, params, release, spot_of, at_return}
use types.Logic.{Logic, sem}
use types.Kit.{Item, ‵, raw, ◌⊛◌, ⋆, push, pop, ++⊢, mean, Goal, Post, post, prop, runs, at_ret, Seq, Step, step, ◌$◌, ◌∵◌, !, qed}
use types.Kit.{by, move, drop, use1, use2, split, join, fsplit, fjoin, feq_i, assume, check, frame as framed, each, show, done}
use types.Run.{Reads, Writes, returns_within}
use sound.Laws.{swap∗}
use types.Part.{Part}

-- ---- a local
pub data Cell : Type 0 where
  vacant : Ty → ℕ → Cell
  holds : Ty → ℕ → Val → Cell

abbrev pub kind : Cell → Ty
kind (vacant τ b) = τ
kind (holds τ b v) = τ

abbrev pub block : Cell → ℕ
block (vacant τ b) = b
block (holds τ b v) = b

abbrev pub cell : Cell → Fml
cell (vacant τ b) = froom τ b 0
cell (holds τ b v) = fat full_share τ b 0 v

abbrev pub env : List Cell → List (Ty × ℕ)
env [] = []
env (c ∷ cs) = (kind c, block c) ∷ env cs

abbrev pub putc : List Cell → ℕ → Cell → List Cell
putc [] i c = []
putc (c₀ ∷ cs) zero c = c ∷ cs
putc (c₀ ∷ cs) (suc i) c = c₀ ∷ putc cs i c

abbrev pub emptied : List Cell → ℕ → List Cell
emptied [] n = []
emptied (c ∷ cs) zero = vacant (kind c) (block c) ∷ cs
emptied (c ∷ cs) (suc n) = c ∷ emptied cs n

abbrev pub all-emptied : List Cell → List ℕ → List Cell
all-emptied cs [] = cs
all-emptied cs (n ∷ ns) = all-emptied (emptied cs n) ns

abbrev pub nthc : List Cell → ℕ → Option Cell
nthc [] n = none
nthc (c ∷ cs) zero = some c
nthc (c ∷ cs) (suc n) = nthc cs n

abbrev pub placed : List Cell → ℕ → Option (Ty × ℕ)
placed [] n = none
placed (c ∷ cs) zero = some (kind c, block c)
placed (c ∷ cs) (suc n) = placed cs n

-- the local n is c; it has this type and this block
abbrev pub Has : List Cell → ℕ → Cell → Type 0
Has cs n c = ◌≡◌ {A = Option Cell} (nthc cs n) (some c)

abbrev pub At : List Cell → ℕ → Ty → ℕ → Type 0
At cs n τ b = ◌≡◌ {A = Option (Ty × ℕ)} (placed cs n) (some (τ, b))

unfoldable pub frame : List Cell → Fml
frame [] = ftrue
frame (c ∷ cs) = fsep (fsep (cell c) (fdies (kind c) (block c))) (frame cs)

-- the locals of a function, each at its block bs i: none holds anything; those after the first hold the values vs; the arguments are so passed
abbrev pub vacants : List Local → (ℕ → ℕ) → List Cell
vacants [] bs = []
vacants (local τ h ∷ ls) bs = vacant τ (bs 0) ∷ vacants ls (λ n. bs (suc n))

abbrev pub passed : List Local → (ℕ → ℕ) → List Val → List Cell
passed ls bs [] = vacants ls bs
passed [] bs (v ∷ vs) = []
passed (local τ h ∷ ls) bs (v ∷ vs) = holds τ (bs 0) v ∷ passed ls (λ n. bs (suc n)) vs

abbrev pub begun : List Local → (ℕ → ℕ) → List Val → List Cell
begun [] bs vs = []
begun (local τ h ∷ ls) bs vs = vacant τ (bs 0) ∷ passed ls (λ n. bs (suc n)) vs

-- the values are of the locals' types
abbrev pub Fitting : List Local → List Val → Type 0
Fitting ls [] = Unit {0}
Fitting [] (v ∷ vs) = ⊥
Fitting (local τ h ∷ ls) (v ∷ vs) = (T (has_ty τ v) × WT v) × Fitting ls vs

abbrev pub Arguments : List Local → List Val → Type 0
Arguments [] vs = ⊥
Arguments (l ∷ ls) vs = Fitting ls vs

same-put : (cs : List Cell) (i : ℕ) (c : Cell) → Has cs i c → putc cs i c ≡ cs
same-put [] i c h = refl
same-put (c₀ ∷ cs) zero c h = ap (λ (x : Cell). x ∷ cs) (sym (some-injective c₀ c h))
same-put (c₀ ∷ cs) (suc i) c h = ap (λ (xs : List Cell). c₀ ∷ xs) (same-put cs i c h)

module _ {M : Type 1} {𝓤 : Ura M} (𝓛 : Logic 𝓤) where
  -- a local that holds v, and the way back for any value
  open 𝓛 use {H}

  abbrev Way : List Cell → ℕ → Ty → ℕ → Val → SProp 𝓤
  Way cs i τ b u = wand 𝓤 (H.at full_share τ b 0 u) (sem 𝓛 (frame (putc cs i (holds τ b u))))

  taken : (cs : List Cell) (i : ℕ) (τ : Ty) (b : ℕ) (v : Val) → Has cs i (holds τ b v)
      → ent 𝓤 (sem 𝓛 (frame cs)) (sep 𝓤 (H.at full_share τ b 0 v) (all 𝓤 (Way cs i τ b)))
  unfolding frame
  taken [] i τ b v h = absurd (none-ne-some (holds τ b v) h)
  taken (c₀ ∷ cs) zero τ b v h =
      subst (λ (c : Cell). ent 𝓤 (sem 𝓛 (frame (c ∷ cs))) (sep 𝓤 (H.at full_share τ b 0 v) (all 𝓤 (Way (c₀ ∷ cs) zero τ b))))
      (sym (some-injective c₀ (holds τ b v) h))
      (qed 𝓛 (‵ (frame (holds τ b v ∷ cs)) ∷ []) ∵ fsplit ! $ fsplit ! $ framed ! $
      each ! (Way (c₀ ∷ cs) zero τ b) (λ u. assume ! (‵ (fat full_share τ b 0 u)) $ fjoin ! $ fjoin ! $ done !))
  taken (c₀ ∷ cs) (suc i) τ b v h =
      qed 𝓛 (‵ (frame (c₀ ∷ cs)) ∷ []) ∵ fsplit ! $ move ! (1 ∷ []) $
      use1 𝓛 (‵ (fat full_share τ b 0 v) ⊛ raw (all 𝓤 (Way cs i τ b))) (taken cs i τ b v h) $ split ! $ framed ! $
      each ! (Way (c₀ ∷ cs) (suc i) τ b) (λ u. assume ! (‵ (fat full_share τ b 0 u)) $ move ! (1 ∷ []) $
      use1 𝓛 (raw (Way cs i τ b u)) (all_e 𝓤 (Way cs i τ b) u) $ move ! (1 ∷ 0 ∷ []) $
      use2 𝓛 (‵ (frame (putc cs i (holds τ b u)))) (apply∗ 𝓤 (H.at full_share τ b 0 u) (sem 𝓛 (frame (putc cs i (holds τ b u))))) $
      move ! (1 ∷ 0 ∷ []) $ fjoin ! $ done !)

  -- room for a local, whatever it holds, and the way back
  room_head : (c : Cell) (cs : List Cell) (v : Val)
      → ent 𝓤 (sem 𝓛 (frame (c ∷ cs))) (sep 𝓤 (H.room (kind c) (block c) 0) (Way (c ∷ cs) zero (kind c) (block c) v))
  unfolding frame
  room_head (vacant τ b) cs v = qed 𝓛 (‵ (frame (vacant τ b ∷ cs)) ∷ []) ∵ fsplit ! $ fsplit ! $ framed ! $ assume ! (‵ (fat full_share τ b 0 v)) $
      fjoin ! $ fjoin ! $ done !
  room_head (holds τ b v₀) cs v =
      qed 𝓛 (‵ (frame (holds τ b v₀ ∷ cs)) ∷ []) ∵ fsplit ! $ fsplit ! $ use1 𝓛 (‵ (froom τ b 0)) (𝓛.laws.at_room τ b 0 v₀) $
      framed ! $ assume ! (‵ (fat full_share τ b 0 v)) $ fjoin ! $ fjoin ! $ done !

  roomed : (cs : List Cell) (i : ℕ) (τ : Ty) (b : ℕ) (v : Val) → At cs i τ b → ent 𝓤 (sem 𝓛 (frame cs)) (sep 𝓤 (H.room τ b 0) (Way cs i τ b v))
  unfolding frame
  roomed [] i τ b v h = absurd (none-ne-some {A = Ty × ℕ} (τ, b) h)
  roomed (c ∷ cs) zero τ b v h =
      subst (λ (p : Ty × ℕ). ent 𝓤 (sem 𝓛 (frame (c ∷ cs))) (sep 𝓤 (H.room p.0 p.1 0) (Way (c ∷ cs) zero p.0 p.1 v)))
      (some-injective (kind c, block c) (τ, b) h) (room_head c cs v)
  roomed (c ∷ cs) (suc i) τ b v h =
      qed 𝓛 (‵ (frame (c ∷ cs)) ∷ []) ∵ fsplit ! $ move ! (1 ∷ []) $
      use1 𝓛 (‵ (froom τ b 0) ⊛ raw (Way cs i τ b v)) (roomed cs i τ b v h) $ split ! $ framed ! $
      assume ! (‵ (fat full_share τ b 0 v)) $ move ! (0 ∷ 1 ∷ []) $
      use2 𝓛 (‵ (frame (putc cs i (holds τ b v)))) (apply∗ 𝓤 (H.at full_share τ b 0 v) (sem 𝓛 (frame (putc cs i (holds τ b v))))) $
      move ! (1 ∷ 0 ∷ []) $ fjoin ! $ done !

  -- ---- on entry: every local is allocated, and the arguments are stored
  abbrev cons : ℕ → (ℕ → ℕ) → ℕ → ℕ
  cons b bs zero = b
  cons b bs (suc n) = bs n

  allocated : (ls : List Local) (R : SProp 𝓤) (Kt : Env 𝓤 H → SProp 𝓤)
      → ((bs : ℕ → ℕ) → ent 𝓤 (sep 𝓤 R (sem 𝓛 (frame (vacants ls bs)))) (Kt (env (vacants ls bs)))) → ent 𝓤 R (alloc 𝓤 H ls Kt)
  unfolding frame
  allocated [] R Kt k = via 𝓤 (sep 𝓤 R (emp 𝓤)) (via 𝓤 (sep 𝓤 (emp 𝓤) R) (emp∗ 𝓤 R) (comm∗ 𝓤 (emp 𝓤) R)) (k (λ n. n))
  allocated (local τ h ∷ ls) R Kt k =
      all_i 𝓤 (λ (b : ℕ). wand 𝓤 (sep 𝓤 (H.room τ b 0) (H.dies τ b)) (alloc 𝓤 H ls (λ E. Kt ((τ, b) ∷ E))))
      (λ b. wand_i 𝓤 R (sep 𝓤 (H.room τ b 0) (H.dies τ b)) (alloc 𝓤 H ls (λ E. Kt ((τ, b) ∷ E)))
      (allocated ls (sep 𝓤 R (sep 𝓤 (H.room τ b 0) (H.dies τ b))) (λ E. Kt ((τ, b) ∷ E))
      (λ bs. via 𝓤 _ (assoc∗ 𝓤 R (sep 𝓤 (H.room τ b 0) (H.dies τ b)) (sem 𝓛 (frame (vacants ls bs)))) (k (cons b bs)))))

  stored : (ls : List Local) (bs : ℕ → ℕ) (vs : List Val) (R P : SProp 𝓤) → Fitting ls vs
      → ent 𝓤 (sep 𝓤 R (sem 𝓛 (frame (passed ls bs vs)))) P → ent 𝓤 (sep 𝓤 R (sem 𝓛 (frame (vacants ls bs)))) (pass 𝓤 H (env (vacants ls bs)) vs P)
  unfolding frame
  stored ls bs [] R P fit k = k
  stored [] bs (v ∷ vs) R P fit k = absurd fit
  stored (local τ h ∷ ls) bs (v ∷ vs) R P fit k =
      let bs' : ℕ → ℕ = λ n. bs (suc n) in
      let I : Item 𝓤 = raw R ⊛ ‵ (fat full_share τ (bs 0) 0 v) ⊛ ‵ (fdies τ (bs 0)) in
      qed 𝓛 (raw R ∷ ‵ (frame (vacants (local τ h ∷ ls) bs)) ∷ []) ∵ check ! fit.0 $ move ! (1 ∷ []) $ fsplit ! $
      fsplit ! $ framed ! $ assume ! (‵ (fat full_share τ (bs 0) 0 v)) $
      move ! (3 ∷ 0 ∷ 1 ∷ 2 ∷ []) $ move ! (1 ∷ 2 ∷ []) $ join ! $ move ! (1 ∷ 0 ∷ []) $ join ! $
      by ! (stored ls bs' vs (mean 𝓛 I) P fit.1
      (qed 𝓛 (I ∷ ‵ (frame (passed ls bs' vs)) ∷ []) ∵ split ! $ move ! (1 ∷ []) $ split ! $ fjoin ! $ move ! (0 ∷ 2 ∷ []) $
      fjoin ! $ move ! (1 ∷ 0 ∷ []) $ by ! k))

  begins : (ls : List Local) (vs : List Val) (R : SProp 𝓤) (Kt : Env 𝓤 H → SProp 𝓤) → Arguments ls vs
      → ((bs : ℕ → ℕ) → ent 𝓤 (sep 𝓤 R (sem 𝓛 (frame (begun ls bs vs)))) (Kt (env (vacants ls bs)))) → ent 𝓤 R (alloc 𝓤 H ls (λ E. params 𝓤 H E vs (Kt E)))
  unfolding frame
  begins [] vs R Kt fit k = absurd fit
  begins (local τ h ∷ ls) vs R Kt fit k = allocated (local τ h ∷ ls) R (λ E. params 𝓤 H E vs (Kt E)) (λ bs.
      let bs' : ℕ → ℕ = λ n. bs (suc n) in
      let I : Item 𝓤 = raw R ⊛ ‵ (fsep (froom τ (bs 0) 0) (fdies τ (bs 0))) in
      qed 𝓛 (raw R ∷ ‵ (frame (vacants (local τ h ∷ ls) bs)) ∷ []) ∵ move ! (1 ∷ []) $ fsplit ! $ move ! (2 ∷ 0 ∷ []) $ join ! $
      by ! (stored ls bs' vs (mean 𝓛 I) (Kt (env (vacants (local τ h ∷ ls) bs))) fit
      (qed 𝓛 (I ∷ ‵ (frame (passed ls bs' vs)) ∷ []) ∵ split ! $ move ! (1 ∷ 2 ∷ []) $ fjoin ! $ move ! (1 ∷ 0 ∷ []) $ by ! (k bs))))

  -- ---- on return: every local is freed
  freed_one : (c : Cell) → ent 𝓤 (sem 𝓛 (cell c)) (H.room (kind c) (block c) 0)
  freed_one (vacant τ b) = id⊢ 𝓤 _
  freed_one (holds τ b v) = 𝓛.laws.at_room τ b 0 v

  freed : (cs : List Cell) (P : SProp 𝓤) → ent 𝓤 (sep 𝓤 (sem 𝓛 (frame cs)) P) (release 𝓤 H (env cs) P)
  unfolding frame
  freed [] P = snd∗ 𝓤 (emp 𝓤) P
  freed (c ∷ cs) P =
      qed 𝓛 (‵ (frame (c ∷ cs)) ∷ raw P ∷ []) ∵ fsplit ! $ fsplit ! $ use1 𝓛 (‵ (froom (kind c) (block c) 0)) (freed_one c) $
      join ! $ framed ! $ by ! (freed cs P)

  -- what some locals hold is forgotten
  emptied_so : (cs : List Cell) (n : ℕ) → ent 𝓤 (sem 𝓛 (frame cs)) (sem 𝓛 (frame (emptied cs n)))
  unfolding frame
  emptied_so [] n = id⊢ 𝓤 _
  emptied_so (c ∷ cs) zero = qed 𝓛 (‵ (frame (c ∷ cs)) ∷ []) ∵ fsplit ! $ fsplit ! $ use1 𝓛 (‵ (froom (kind c) (block c) 0)) (freed_one c) $
      fjoin ! $ fjoin ! $ done !
  emptied_so (c ∷ cs) (suc n) = qed 𝓛 (‵ (frame (c ∷ cs)) ∷ []) ∵ fsplit ! $ framed ! $ by ! (emptied_so cs n)

  all_emptied_so : (cs : List Cell) (ns : List ℕ) → ent 𝓤 (sem 𝓛 (frame cs)) (sem 𝓛 (frame (all-emptied cs ns)))
  all_emptied_so cs [] = id⊢ 𝓤 _
  all_emptied_so cs (n ∷ ns) = via 𝓤 (sem 𝓛 (frame (emptied cs n))) (emptied_so cs n) (all_emptied_so (emptied cs n) ns)

-- the frame as an entry of a context: cs stands in it, so that antt finds it there
abbrev pub locals : {M : Type 1} {𝓤 : Ura M} → List Cell → Item 𝓤
locals cs = ‵ (fsep (feq (List Cell) cs cs) (frame cs))

-- ---- the last entry of a context that begins with i
module _ {M : Type 1} {𝓤 : Ura M} where
  abbrev pub last : Item 𝓤 → List (Item 𝓤) → Item 𝓤
  last i [] = i
  last i (j ∷ Γ) = last j Γ

  abbrev pub before : Item 𝓤 → List (Item 𝓤) → List (Item 𝓤)
  before i [] = []
  before i (j ∷ Γ) = i ∷ before j Γ

  -- x in its place, in two parts, so that it is seen to have a first entry
  abbrev pub first_put : Item 𝓤 → Item 𝓤 → List (Item 𝓤) → Item 𝓤
  first_put x i [] = x
  first_put x i (j ∷ Γ) = i

  abbrev pub rest_put : Item 𝓤 → Item 𝓤 → List (Item 𝓤) → List (Item 𝓤)
  rest_put x i [] = []
  rest_put x i (j ∷ Γ) = first_put x j Γ ∷ rest_put x j Γ

  abbrev pub put_last : Item 𝓤 → Item 𝓤 → List (Item 𝓤) → List (Item 𝓤)
  put_last x i Γ = first_put x i Γ ∷ rest_put x i Γ

  pub last_put : (x i : Item 𝓤) (Γ : List (Item 𝓤)) → last (first_put x i Γ) (rest_put x i Γ) ≡ x
  last_put x i [] = refl
  last_put x i (j ∷ Γ) = last_put x j Γ

module _ {M : Type 1} {𝓤 : Ura M} (𝓛 : Logic 𝓤) where
  pub pull_last : (i : Item 𝓤) (Γ : List (Item 𝓤)) → ent 𝓤 (⋆ 𝓛 (i ∷ Γ)) (sep 𝓤 (mean 𝓛 (last i Γ)) (⋆ 𝓛 (before i Γ)))
  pull_last i [] = pop 𝓛 i []
  pull_last i (j ∷ Γ) =
      via 𝓤 (sep 𝓤 (mean 𝓛 i) (sep 𝓤 (mean 𝓛 (last j Γ)) (⋆ 𝓛 (before j Γ)))) (mono_r 𝓤 (mean 𝓛 i) (pull_last j Γ))
      (via 𝓤 (sep 𝓤 (mean 𝓛 (last j Γ)) (sep 𝓤 (mean 𝓛 i) (⋆ 𝓛 (before j Γ))))
      (swap∗ 𝓤 (mean 𝓛 i) (mean 𝓛 (last j Γ)) (⋆ 𝓛 (before j Γ)))
      (mono_r 𝓤 (mean 𝓛 (last j Γ)) (push 𝓛 i (before j Γ))))

  pub fill_last : (x i : Item 𝓤) (Γ : List (Item 𝓤)) → ent 𝓤 (sep 𝓤 (mean 𝓛 x) (⋆ 𝓛 (before i Γ))) (⋆ 𝓛 (put_last x i Γ))
  fill_last x i [] = push 𝓛 x []
  fill_last x i (j ∷ Γ) =
      via 𝓤 (sep 𝓤 (mean 𝓛 x) (sep 𝓤 (mean 𝓛 i) (⋆ 𝓛 (before j Γ)))) (mono_r 𝓤 (mean 𝓛 x) (pop 𝓛 i (before j Γ)))
      (via 𝓤 (sep 𝓤 (mean 𝓛 i) (sep 𝓤 (mean 𝓛 x) (⋆ 𝓛 (before j Γ)))) (swap∗ 𝓤 (mean 𝓛 x) (mean 𝓛 i) (⋆ 𝓛 (before j Γ)))
      (mono_r 𝓤 (mean 𝓛 i) (fill_last x j Γ)))

  pub same_last : (i : Item 𝓤) (Γ : List (Item 𝓤)) → put_last (last i Γ) i Γ ≡ i ∷ Γ
  same_last i [] = refl
  same_last i (j ∷ Γ) = ap (λ (Δ : List (Item 𝓤)). i ∷ Δ) (same_last j Γ)

-- ---- the frame in a context
module _ {M : Type 1} {𝓤 : Ura M} {𝓛 : Logic 𝓤} {K : Type 0} where
  -- a local of a frame, as a part of that entry
  open 𝓛 use {H}

  pub at_local : K → (n : ℕ) {cs : List Cell} {τ : Ty} {b : ℕ} {v : Val} → Has cs n (holds τ b v)
      → Part K 𝓛 (locals cs) full_share τ b 0 v (λ u. locals (putc cs n (holds τ b u)))
  at_local t n {cs} {τ} {b} {v} h = record {
    out = qed 𝓛 (locals cs ∷ []) ∵ fsplit ! $ drop ! $
        use1 𝓛 (‵ (fat full_share τ b 0 v) ⊛ raw (all 𝓤 (Way 𝓛 cs n τ b))) (taken 𝓛 cs n τ b v h) $ split ! $ framed ! $
        each ! (λ (u : Val). wand 𝓤 (H.at full_share τ b 0 u) (mean 𝓛 (locals (putc cs n (holds τ b u)))))
        (λ u. assume ! (‵ (fat full_share τ b 0 u)) $ move ! (1 ∷ []) $
        use1 𝓛 (raw (Way 𝓛 cs n τ b u)) (all_e 𝓤 (Way 𝓛 cs n τ b) u) $ move ! (1 ∷ 0 ∷ []) $
        use2 𝓛 (‵ (frame (putc cs n (holds τ b u)))) (apply∗ 𝓤 (H.at full_share τ b 0 u) (sem 𝓛 (frame (putc cs n (holds τ b u))))) $
        feq_i ! (List Cell) _ _ refl $ fjoin ! $ done !);
    same = ap (λ (xs : List Cell). locals xs) (same-put cs n (holds τ b v) h);
  }

  module _ {i : Item 𝓤} {Γ : List (Item 𝓤)} where
    -- a part of the last entry is read
    pub in_last : K → {τ : Ty} {b o : ℕ} {v : Val} {q : Share} {back : Val → Item 𝓤} → Part K 𝓛 (last i Γ) q τ b o v back → Reads K 𝓛 (i ∷ Γ) τ b o v
    in_last t {τ} {b} {o} {v} {q} {back} p = record {
      go = λ Kt h.
          let C : Val → SProp 𝓤 = λ u. H.at q τ b o u in
          let Way : SProp 𝓤 = all 𝓤 (λ (u : Val). wand 𝓤 (C u) (mean 𝓛 (back u))) in
          let Rest : SProp 𝓤 = ⋆ 𝓛 (before i Γ) in
          let again : ent 𝓤 (sep 𝓤 (mean 𝓛 (back v)) Rest) (Kt v) = via 𝓤 (⋆ 𝓛 (put_last (back v) i Γ)) (fill_last 𝓛 (back v) i Γ)
          (subst (λ (Δ : List (Item 𝓤)). ent 𝓤 (⋆ 𝓛 Δ) (Kt v)) (sym (ap (λ (x : Item 𝓤). put_last x i Γ) p.same ∙ same_last 𝓛 i Γ)) h) in
          via 𝓤 (sep 𝓤 (mean 𝓛 (last i Γ)) Rest) (pull_last 𝓛 i Γ)
          (qed 𝓛 (last i Γ ∷ raw Rest ∷ []) ∵ show ! (λ (s : Share). ex 𝓤 (λ (u : Val). sep 𝓤 (H.at s τ b o u) (wand 𝓤 (H.at s τ b o u) (Kt u)))) q $
          show ! (λ (u : Val). sep 𝓤 (C u) (wand 𝓤 (C u) (Kt u))) v $ use1 𝓛 (‵ (fat q τ b o v) ⊛ raw Way) p.out $
          split ! $ framed ! $ assume ! (‵ (fat q τ b o v)) $ move ! (1 ∷ []) $
          use1 𝓛 (raw (wand 𝓤 (C v) (mean 𝓛 (back v)))) (all_e 𝓤 (λ (u : Val). wand 𝓤 (C u) (mean 𝓛 (back u))) v) $ move ! (1 ∷ 0 ∷ []) $
          use2 𝓛 (back v) (apply∗ 𝓤 (C v) (mean 𝓛 (back v))) $ by ! again);
    }

    -- a local is written, whatever it held
    pub into : K → (n : ℕ) {cs : List Cell} {τ : Ty} {b : ℕ} {v : Val} → last i Γ ≡ locals cs → At cs n τ b → T (has_ty τ v) × WT v
        → Writes K 𝓛 (i ∷ Γ) τ b 0 v (put_last (locals (putc cs n (holds τ b v))) i Γ)
    into t n {cs} {τ} {b} {v} e h wt = record {
      go = λ P k.
          let Rest : SProp 𝓤 = ⋆ 𝓛 (before i Γ) in
          let cs' : List Cell = putc cs n (holds τ b v) in
          via 𝓤 _ (subst (λ (x : Item 𝓤). ent 𝓤 (⋆ 𝓛 (i ∷ Γ)) (sep 𝓤 (mean 𝓛 x) Rest)) e (pull_last 𝓛 i Γ))
          (qed 𝓛 (locals cs ∷ raw Rest ∷ []) ∵ fsplit ! $ drop ! $ check ! wt $
          use1 𝓛 (‵ (froom τ b 0) ⊛ raw (Way 𝓛 cs n τ b v)) (roomed 𝓛 cs n τ b v h) $ split ! $ framed ! $
          assume ! (‵ (fat full_share τ b 0 v)) $ use2 𝓛 (‵ (frame cs')) (apply∗ 𝓤 (H.at full_share τ b 0 v) (sem 𝓛 (frame cs'))) $
          feq_i ! (List Cell) cs' cs' refl $ fjoin ! $
          by ! (via 𝓤 (⋆ 𝓛 (put_last (locals cs') i Γ)) (fill_last 𝓛 (locals cs') i Γ) k));
    }

    -- what the locals ns hold is forgotten
    pub forgets : K → (ns : List ℕ) {cs : List Cell} {G : Goal 𝓤 H} → last i Γ ≡ locals cs → Step K 𝓛 (put_last (locals (all-emptied cs ns)) i Γ) G (i ∷ Γ) G
    forgets t ns {cs} {G} e = step (λ s. record {
      prf = via 𝓤 _ (subst (λ (x : Item 𝓤). ent 𝓤 (⋆ 𝓛 (i ∷ Γ)) (sep 𝓤 (mean 𝓛 x) (⋆ 𝓛 (before i Γ)))) e (pull_last 𝓛 i Γ))
          (qed 𝓛 (locals cs ∷ raw (⋆ 𝓛 (before i Γ)) ∷ []) ∵ fsplit ! $ drop ! $ use1 𝓛 (‵ (frame (all-emptied cs ns))) (all_emptied_so 𝓛 cs ns) $
          feq_i ! (List Cell) _ _ refl $ fjoin ! $ by ! (via 𝓤 _ (fill_last 𝓛 (locals (all-emptied cs ns)) i Γ) s.prf));
    })

    -- the function returns what it reads in its first local, and its locals are freed; q is what the code ends in, and says so where it returns
    pub leaves_at : K → (Kf : Val → SProp 𝓤) {C : Calls 𝓤 H} {Λ : Loops 𝓤 H} {q : Post 𝓤 H} {E : Env 𝓤 H} {cs : List Cell} {r : Val}
        → post 𝓤 H q returned ≡ at_return 𝓤 H E Kf returned
        → last i Γ ≡ locals cs → E ≡ env cs → Reads K 𝓛 (i ∷ Γ) (spot_of 𝓤 H E 0).0 (spot_of 𝓤 H E 0).1 0 r
        → Step K 𝓛 (before i Γ) (prop (Kf r)) (i ∷ Γ) (runs C Λ E return q)
    leaves_at t Kf {C} {Λ} {q} {E} {cs} {r} ends e same rd = step (λ s. returns_within t Kf ends rd $ record {
      prf = via 𝓤 _ (subst (λ (x : Item 𝓤). ent 𝓤 (⋆ 𝓛 (i ∷ Γ)) (sep 𝓤 (mean 𝓛 x) (⋆ 𝓛 (before i Γ)))) e (pull_last 𝓛 i Γ))
          (qed 𝓛 (locals cs ∷ raw (⋆ 𝓛 (before i Γ)) ∷ []) ∵ fsplit ! $ drop ! $ by !
          (via 𝓤 (sep 𝓤 (sem 𝓛 (frame cs)) (Kf r)) (mono_r 𝓤 (sem 𝓛 (frame cs)) s.prf)
          (subst (λ (E' : Env 𝓤 H). ent 𝓤 (sep 𝓤 (sem 𝓛 (frame cs)) (Kf r)) (release 𝓤 H E' (Kf r))) (sym same) (freed 𝓛 cs (Kf r)))));
    })

  -- the locals are allocated, and hold the arguments
  module _ {Γ : List (Item 𝓤)} where
    pub enters : K → (C : Calls 𝓤 H) (Λ : Loops 𝓤 H) (f : Fn) (vs : List Val) (Kf : Val → SProp 𝓤) → Arguments f.locals vs
        → ((bs : ℕ → ℕ) → Seq K 𝓛 (Γ ++ (locals (begun f.locals bs vs) ∷ []))
        (runs C Λ (env (vacants f.locals bs)) f.body (at_ret (env (vacants f.locals bs)) Kf)))
        → Seq K 𝓛 Γ (prop (WpFn 𝓤 H C Λ f vs Kf))
    unfolding WpFn
    enters t C Λ f vs Kf fit k = record {
      prf = begins 𝓛 f.locals vs (⋆ 𝓛 Γ) (λ E. Wp 𝓤 H C Λ E f.body (at_return 𝓤 H E Kf)) fit
          (λ bs. let cs : List Cell = begun f.locals bs vs in
          qed 𝓛 (raw (⋆ 𝓛 Γ) ∷ ‵ (frame cs) ∷ []) ∵ move ! (1 ∷ []) $ feq_i ! (List Cell) cs cs refl $ fjoin ! $ move ! (1 ∷ 0 ∷ []) $
          by ! (via 𝓤 (⋆ 𝓛 (Γ ++ (locals cs ∷ []))) (++⊢ 𝓛 Γ (locals cs ∷ [])) (k bs).prf));
    }
