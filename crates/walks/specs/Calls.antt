-- A function's contract at both ends of its walk, and a callee's at a call.
--     Param, Spelling      a parameter's type with the laws that a walk needs; how values of some types are spelled in machine values
--     Function, Callee     what a walk has of the function that it walks, and of one that is called: no more than a name for each thing that is generated
--     proved               a walk from the tokens, what the arguments own and the frame, to what the contract says at exit, proves the contract
--     ended                what the contract says at exit: the `ensures`, the tokens, the result, and the last values
--     called               a call: from the tokens and what the arguments own, to the same of what comes back
use Rattle.std.specs.Prelude.{ℕ, zero, suc, ◌≡◌, List, [], ◌∷◌}
use seplogic.Ra.Ura.{Ura}
use mir.Syntax.{Place, Opd as Operand, Body, Fn, seq, call}
use mir.Val.{Val}
use base.Logic.{SProp, ent, sep, wand, emp, id⊢, via, comm∗, mono_l, mono_r, wand_i, apply∗}
use base.Fml.{Share, Fml, ftrue, fsep, flft}
use prog.Memory.{Memory}
use prog.Model.{Model}
use prog.Routine.{Callee as Name, Routine, Env as Routines}
use prog.Wp.{Heap, Env, Calls, Loops, WpFn, Closed}
use types.Logic.{Logic, sem}
use contract.Lifetimes.{Lfts, Shares, Within, toks, AllOutlive}
use contract.Monad.{Fun, fact, fact_i}
use contract.Running.{Running, tables, tables_of}
use sound.WpLaws.{FmC, fm_of}
use types.Kit.{Item, ‵, raw, ◌⊛◌, some, later, runs, lands, at_ret, Post, Goal, Go, Seq, Step, step, ◌$◌, ◌∵◌, ! }
use types.Kit.{qed, move, use0, use1, use2, split, join, pick, await, updating, now as at_once, show, frame, done}
use types.Run.{Opds}
use denote.RattleType.{RattleType, Denots, Valss, owns, mirs, flat}
use denote.Builtin.{One}
use denote.Ref.{NamedLft}
use denote.Laws.{Ises, Are, Spells, valss, Tellss, Lawfuls, Typed, all_Typed}
use denote.Signature.{Signature, type_at, types_at}
use denote.Steps.{said}
use denote.Struct.Field.{Field, rows, u32-field, usize-field, mut_ref_field, shr_slice_field, mut_slice_field}
use denote.Struct.Laws as LL
use denote.Struct.Laws.{FLaws, Lawss, Copyables}
use denote.Struct.Struct.{twices}
use denote.Triple.Entry.{Args, Vals, Res, alive}
use denote.Triple.Spec.{triple_of}
use denote.Triple.Statement.{Contract, Triple}
use denote.Triple.Call.{calls_at}
use denote.Triple.Clauses.{Clauses, Ended, Lasts, at_exit, lasts, ensured, closing}
use denote.Triple.Table.{entered, cited}
use Rattle.walks.specs.Frame.{locals, begun, vacants, env, Arguments, enters}

-- ---- the tokens of a signature's lifetimes, as a formula
abbrev pub tokens : (n : ℕ) → Lfts n → Shares n → Fml
tokens zero κs qs = ftrue
tokens (suc n) κs qs = fsep (flft κs.0 qs.0) (tokens n κs.1 qs.1)

abbrev pub share_at : (n j : ℕ) → Within n j → Shares n → Share
share_at zero j ok qs = absurd ok
share_at (suc n) zero ok qs = qs.0
share_at (suc n) (suc j) ok qs = share_at n j ok qs.1

module _ {M : Type 1} {𝓤 : Ura M} (𝓛 : Logic 𝓤) where
  open 𝓛 use {A}

  tokens_in : (n : ℕ) (κs : Lfts n) (qs : Shares n) → ent 𝓤 (toks 𝓛 n κs qs) (sem 𝓛 (tokens n κs qs))
  tokens_in zero κs qs = id⊢ 𝓤 _
  tokens_in (suc n) κs qs = mono_r 𝓤 (A.lft κs.0 qs.0) (tokens_in n κs.1 qs.1)

  tokens_out : (n : ℕ) (κs : Lfts n) (qs : Shares n) → ent 𝓤 (sem 𝓛 (tokens n κs qs)) (toks 𝓛 n κs qs)
  tokens_out zero κs qs = id⊢ 𝓤 _
  tokens_out (suc n) κs qs = mono_r 𝓤 (A.lft κs.0 qs.0) (tokens_out n κs.1 qs.1)

-- ---- the parameters' types
pub record Param : Type 2 where
  pub field : Field
  pub laws : FLaws field

abbrev pub a_u32 : Param
a_u32 = record { field = u32-field; laws = LL.u32-laws }

abbrev pub a_usize : Param
a_usize = record { field = usize-field; laws = LL.usize-laws }

module _ (a : NamedLft) (R : RattleType) (one : One R.mir) where
  abbrev pub a_mut : Param
  a_mut = record { field = mut_ref_field a R one; laws = LL.mut_ref_laws a R one }

  abbrev pub a_slice : Param
  a_slice = record { field = shr_slice_field a R one; laws = LL.shr_slice_laws a R one }

  abbrev pub a_mut_slice : Param
  a_mut_slice = record { field = mut_slice_field a R one; laws = LL.mut_slice_laws a R one }

abbrev pub fields : List Param → List Field
fields [] = []
fields (p ∷ ps) = p.field ∷ fields ps

abbrev lawss : (ps : List Param) → Lawss (fields ps)
lawss [] = tt
lawss (p ∷ ps) = (p.laws, lawss ps)

pub record Spelling (Rs : List RattleType) : Type 2 where
  pub spells : Spells Rs
  pub tells : Tellss Rs (Ises Rs) spells
  pub lawful : {M : Type 1} {𝓤 : Ura M} (𝓛 : Logic 𝓤) → Lawfuls 𝓛 Rs

abbrev pub spelled : (ps : List Param) → Spelling (rows (fields ps))
spelled ps = record {
  spells = LL.spells (fields ps) (lawss ps);
  tells = LL.tellss (fields ps) (lawss ps);
  lawful = λ 𝓛. LL.lawfuls 𝓛 (fields ps) (lawss ps);
}

-- values of these types in machine values, and what they own
abbrev pub spells : (ps : List Param) → Denots (rows (fields ps)) → Valss (rows (fields ps))
spells ps a = valss (rows (fields ps)) (spelled ps).spells a

abbrev pub owned_by : (ps : List Param) → Denots (rows (fields ps)) → Fml
owned_by ps a = owns (rows (fields ps)) a (spells ps a)

module _ {M : Type 1} {𝓤 : Ura M} {𝓛 : Logic 𝓤} {K : Type 0} {Γ : List (Item 𝓤)} {G : Goal 𝓤 𝓛.H} where
  -- it is had twice, where each can be copied
  pub twice : K → (ps : List Param) → Copyables (fields ps) → (a : Denots (rows (fields ps)))
      → Step K 𝓛 (‵ (owned_by ps a) ∷ ‵ (owned_by ps a) ∷ Γ) G (‵ (owned_by ps a) ∷ Γ) G
  twice t ps copies a = step (λ s. use1 𝓛 (‵ (owned_by ps a) ⊛ ‵ (owned_by ps a))
      (twices 𝓛 (rows (fields ps)) (LL.copies 𝓛 (fields ps) copies) a _) $ split t $ s)

  -- a fact, stated; a caller hears it by `Denote/Steps.antt`'s `heard`
  pub states : K → {φ : Type 0} → φ → Step K 𝓛 (raw (fact 𝓤 φ) ∷ Γ) G Γ G
  states t {φ} e = use0 𝓛 (raw (fact 𝓤 φ)) (fact_i 𝓤 φ (emp 𝓤) e)

-- ---- functions
abbrev Clausess : Ended → Type 2
Clausess T = (M : Type 1) (𝓤 : Ura M) (𝓛 : Logic 𝓤) (mem : Memory → SProp 𝓤) (run : Routine → Fun 𝓤) → Clauses 𝓤 T

module _ {M : Type 1} {𝓤 : Ura M} (𝓛 : Logic 𝓤) (𝓜 : Model 𝓤 𝓛.H) (𝓡 : Running 𝓤 𝓛.H 𝓜) (T : Ended) (c : Clausess T) where
  abbrev pub said_by : Clauses 𝓤 T
  said_by = c M 𝓤 𝓛 𝓜.mem 𝓡.returns

  abbrev pub contract_of : Contract 𝓤
  contract_of = triple_of 𝓛 T.signature (closing 𝓛 T said_by)

pub record Callee : Type 2 where
  pub name : Name
  pub ended : Ended
  pub clauses : Clausess ended
  pub routine : Routine
  pub met : (M : Type 1) (𝓤 : Ura M) (𝓛 : Logic 𝓤) (𝓜 : Model 𝓤 𝓛.H) (𝓡 : Running 𝓤 𝓛.H 𝓜)
      → Triple 𝓤 (𝓡.run routine) (contract_of 𝓛 𝓜 𝓡 ended clauses)

pub record Function : Type 2 where
  pub name : Name
  pub ended : Ended
  pub clauses : Clausess ended
  pub env : Routines
  pub code : Fn
  pub unfolded : (M : Type 1) (𝓤 : Ura M) (H : Heap 𝓤) (𝓜 : Model 𝓤 H) (𝓡 : Running 𝓤 H 𝓜)
      → Closed 𝓤 H (tables 𝓤 H 𝓜 𝓡 env).C (tables 𝓤 H 𝓜 𝓡 env).Λ name code
  pub spelling : (κs : Lfts ended.signature.lifetimes) → Spelling (types_at ended.signature.params κs)
  pub typed : (κs : Lfts ended.signature.lifetimes) (a : Args ended.signature κs)
      → Typed (mirs (types_at ended.signature.params κs))
      (flat (types_at ended.signature.params κs) (valss (types_at ended.signature.params κs) (spelling κs).spells a))
      → Arguments code.locals (flat (types_at ended.signature.params κs) (valss (types_at ended.signature.params κs) (spelling κs).spells a))

-- the arguments in machine values
abbrev pub spelt : (f : Function) (κs : Lfts f.ended.signature.lifetimes) → Args f.ended.signature κs → Vals f.ended.signature κs
spelt f κs a = valss (types_at f.ended.signature.params κs) (f.spelling κs).spells a

abbrev pub passed : (f : Function) (κs : Lfts f.ended.signature.lifetimes) → Args f.ended.signature κs → List Val
passed f κs a = flat (types_at f.ended.signature.params κs) (spelt f κs a)

module _ {M : Type 1} {𝓤 : Ura M} (𝓛 : Logic 𝓤) (𝓜 : Model 𝓤 𝓛.H) (𝓡 : Running 𝓤 𝓛.H 𝓜) (f : Function) where
  open 𝓛 use {H}

  abbrev C : Calls 𝓤 H
  C = (tables 𝓤 H 𝓜 𝓡 f.env).C

  abbrev Λ : Loops 𝓤 H
  Λ = (tables 𝓤 H 𝓜 𝓡 f.env).Λ

  -- ---- the function itself
  abbrev T : Ended
  T = f.ended

  abbrev S : Signature
  S = T.signature

  abbrev c : Clauses 𝓤 T
  c = said_by 𝓛 𝓜 𝓡 T f.clauses

  abbrev pub own : Contract 𝓤
  own = contract_of 𝓛 𝓜 𝓡 T f.clauses

  -- where the walk begins
  module _ (κs : Lfts S.lifetimes) (qs : Shares S.lifetimes) (bounds : AllOutlive S.lifetimes S.outlives κs)
      (a : Args S κs) (g : (c κs a).ghost) where
    abbrev Walk : Type 1
    Walk = (bs : ℕ → ℕ)
        → Seq (Go {0}) 𝓛 (‵ (tokens S.lifetimes κs qs) ∷ ‵ (owns (types_at S.params κs) a (spelt f κs a)) ∷ raw ((c κs a).requires g)
        ∷ locals (begun f.code.locals bs (passed f κs a)) ∷ [])
        (runs C Λ (env (vacants f.code.locals bs)) f.code.body
        (at_ret (env (vacants f.code.locals bs)) (own.post ((κs, qs, bounds, a, spelt f κs a), g))))

  shown : ((κs : Lfts S.lifetimes) (qs : Shares S.lifetimes) (bounds : AllOutlive S.lifetimes S.outlives κs) (a : Args S κs) (g : (c κs a).ghost)
      → Are (types_at S.params κs) (Ises (types_at S.params κs)) a (spelt f κs a) → Walk κs qs bounds a g) → Triple 𝓤 (WpFn 𝓤 H C Λ f.code) own
  shown walk y =
      let κs : Lfts S.lifetimes = y.0.0 in
      let qs : Shares S.lifetimes = y.0.1 in
      let a : Args S κs = y.0.3 in
      let R : SProp 𝓤 = (c κs a).requires y.1 in
      let Q : Vals S κs → SProp 𝓤 = λ us. WpFn 𝓤 H C Λ f.code (flat (types_at S.params κs) us) (own.post ((κs, qs, y.0.2, a, us), y.1)) in
      via 𝓤 (sep 𝓤 R (wand 𝓤 R (Q y.0.4)))
      (via 𝓤 (sep 𝓤 (wand 𝓤 R (Q y.0.4)) R)
      (mono_l 𝓤 R (said 𝓛 S κs qs (f.spelling κs).spells (f.spelling κs).tells a (λ us. wand 𝓤 R (Q us)) y.0.4 (λ are. wand_i 𝓤 _ R _
      (qed 𝓛 ((raw (alive 𝓛 S κs qs) ⊛ ‵ (owns (types_at S.params κs) a (spelt f κs a))) ∷ raw R ∷ []) ∵ split ! $
      use1 𝓛 (‵ (tokens S.lifetimes κs qs)) (tokens_in 𝓛 S.lifetimes κs qs) $
      enters ! C Λ f.code (passed f κs a) _
      (f.typed κs a (all_Typed 𝓛 (types_at S.params κs) ((f.spelling κs).lawful 𝓛) a (spelt f κs a) are))
      (walk κs qs y.0.2 a y.1 are)))))
      (comm∗ 𝓤 (wand 𝓤 R (Q y.0.4)) R))
      (apply∗ 𝓤 R (Q y.0.4))

  pub proved : ((κs : Lfts S.lifetimes) (qs : Shares S.lifetimes) (bounds : AllOutlive S.lifetimes S.outlives κs)
      (a : Args S κs) (g : (c κs a).ghost)
      → Are (types_at S.params κs) (Ises (types_at S.params κs)) a (spelt f κs a) → Walk κs qs bounds a g) → Triple 𝓤 (C f.name) own
  proved walk = entered 𝓤 H own C Λ f.name f.code (f.unfolded M 𝓤 H 𝓜 𝓡) (shown walk)

  -- where it ends, at the result r, as v, and the last values ws
  pub ended : (y : own.Ghost) (v : Val) (r : Res S y.0.0) (ws : Lasts T y.0.0 y.0.3)
      → ent 𝓤 (sep 𝓤 ((c y.0.0 y.0.3).ensures y.1 r (at_exit T y.0.0 y.0.3 ws)) (sep 𝓤 (sem 𝓛 (tokens S.lifetimes y.0.0 y.0.1))
      (sep 𝓤 (sem 𝓛 ((type_at S.result y.0.0).own_val r (v ∷ []))) (sem 𝓛 (lasts T y.0.0 y.0.3 ws))))) (own.post y v)
  ended y v r ws =
      let κs : Lfts S.lifetimes = y.0.0 in
      let a : Args S κs = y.0.3 in
      let E : Lasts T κs a → SProp 𝓤 = λ us. (c κs a).ensures y.1 r (at_exit T κs a us) in
      let O : Res S κs → Fml = λ r'. (type_at S.result κs).own_val r' (v ∷ []) in
      qed 𝓛 (raw (E ws) ∷ ‵ (tokens S.lifetimes κs y.0.1) ∷ ‵ (O r) ∷ ‵ (lasts T κs a ws) ∷ []) ∵ updating ! $ at_once ! $ move ! (1 ∷ []) $
      show ! (λ (r' : Res S κs). sep 𝓤 (sep 𝓤 (alive 𝓛 S κs y.0.1) (sem 𝓛 (O r'))) (ensured 𝓛 T c κs a y.1 r')) r $
      use1 𝓛 (raw (alive 𝓛 S κs y.0.1)) (tokens_out 𝓛 S.lifetimes κs y.0.1) $ move ! (0 ∷ 2 ∷ []) $ join ! $ frame ! $
      show ! (λ (us : Lasts T κs a). sep 𝓤 (sem 𝓛 (lasts T κs a us)) (E us)) ws $ move ! (1 ∷ []) $ frame ! $ done !

  -- ---- a call of the function h, at the values that y binds, where its `requires` holds: what comes back is the result r, as w, and the last values ws
  calls_framed : FmC 𝓤 H 𝓛.laws C
  unfolding tables_of
  calls_framed = fm_of 𝓤 H 𝓛.laws (tables_of 𝓤 H 𝓜 (tables 𝓤 H 𝓜 𝓡 f.env))

  module _ (h : Callee) where
    abbrev Tʰ : Ended
    Tʰ = h.ended

    abbrev Sʰ : Signature
    Sʰ = Tʰ.signature

    abbrev cʰ : Clauses 𝓤 Tʰ
    cʰ = said_by 𝓛 𝓜 𝓡 Tʰ h.clauses

    abbrev pub its : Contract 𝓤
    its = contract_of 𝓛 𝓜 𝓡 Tʰ h.clauses

    module _ {K : Type 0} {Γ : List (Item 𝓤)} {E : Env 𝓤 H} {q : Post 𝓤 H} {xs : List Operand} {d : Place} {rest : Body} where
      pub called : K → f.env h.name ≡ h.routine → (y : its.Ghost) → ent 𝓤 (emp 𝓤) ((cʰ y.0.0 y.0.3).requires y.1)
          → Opds K 𝓛 (raw (its.pre y) ∷ Γ) E xs (its.args y)
          → ((p : Val × Res Sʰ y.0.0 × Lasts Tʰ y.0.0 y.0.3)
          → Seq K 𝓛 (raw ((cʰ y.0.0 y.0.3).ensures y.1 p.1 (at_exit Tʰ y.0.0 y.0.3 p.2))
          ∷ ‵ ((type_at Sʰ.result y.0.0).own_val p.1 (p.0 ∷ []))
          ∷ ‵ (tokens Sʰ.lifetimes y.0.0 y.0.1) ∷ ‵ (lasts Tʰ y.0.0 y.0.3 p.2) ∷ Γ) (lands C Λ E d p.0 rest q))
          → Seq K 𝓛 (‵ (tokens Sʰ.lifetimes y.0.0 y.0.1) ∷ ‵ (owns (types_at Sʰ.params y.0.0) y.0.3 y.0.4) ∷ Γ)
          (runs C Λ E (seq (call h.name xs d) rest) q)
      called t means y asks os k =
          let κs : Lfts Sʰ.lifetimes = y.0.0 in
          let qs : Shares Sʰ.lifetimes = y.0.1 in
          let a : Args Sʰ κs = y.0.3 in
          let n : ℕ = Sʰ.lifetimes in
          let Own : Res Sʰ κs → Val → Item 𝓤 = λ r w. ‵ ((type_at Sʰ.result κs).own_val r (w ∷ [])) in
          let Said : Res Sʰ κs → Lasts Tʰ κs a → Item 𝓤 = λ r ws. ‵ (lasts Tʰ κs a ws) ⊛ raw ((cʰ κs a).ensures y.1 r (at_exit Tʰ κs a ws)) in
          use1 𝓛 (raw (alive 𝓛 Sʰ κs qs)) (tokens_out 𝓛 n κs qs) $ join t $ use0 𝓛 (raw ((cʰ κs a).requires y.1)) asks $
          move t (1 ∷ 0 ∷ []) $ use2 𝓛 (raw (its.pre y)) (id⊢ 𝓤 _) $
          calls_at t calls_framed its (cited 𝓤 H its 𝓜 𝓡 f.env h.name h.routine means (h.met M 𝓤 𝓛 𝓜 𝓡)) y os (λ w.
          use1 𝓛 (later (some (λ (r : Res Sʰ κs). (raw (alive 𝓛 Sʰ κs qs) ⊛ Own r w) ⊛ some (Said r)))) (id⊢ 𝓤 _) $ await t tt $ pick t (λ r.
          split t $ split t $ move t (2 ∷ []) $ pick t (λ ws. split t $ move t (2 ∷ []) $ use1 𝓛 (‵ (tokens n κs qs)) (tokens_in 𝓛 n κs qs) $
          move t (2 ∷ 3 ∷ 0 ∷ 1 ∷ []) $ k (w, r, ws))))
