-- A loop that counts: its body turns what is had at i into what is had at i + 1 where i < n, and leaves the loop at n.
use Rattle.std.specs.Prelude.{◌≡◌, List}
use Rattle.std.proofs.Common.{subst, arith}
use Prim.Native.Nat.{ℕ, zero, suc, ◌+◌, ◌<◌}
use lib.WfN.{lt-wf_rel}
use seplogic.Ra.Ura.{Ura}
use mir.Syntax.{Body, loop}
use base.Logic.{SProp, ent, ex, guard, via, ex_i, ex_e, guard_i, guard_e}
use prog.Model.{Model}
use prog.Wp.{Env, after_turn}
use types.Logic.{Logic}
use contract.Running.{Running, tables, tables_of}
use sound.Loop.{loop_rule}
use types.Kit.{Item, ⋆, Post, any_q, post, runs, Go, Seq}
use Rattle.walks.specs.Calls.{Function}

module _ {M : Type 1} {𝓤 : Ura M} (𝓛 : Logic 𝓤) (𝓜 : Model 𝓤 𝓛.H) (𝓡 : Running 𝓤 𝓛.H 𝓜) (f : Function)
    (n : ℕ) (At : ℕ → List (Item 𝓤)) (E : Env 𝓤 𝓛.H) (b : Body) (q : Post 𝓤 𝓛.H) where
  -- a turn from P, after which X is to hold if the loop goes on
  open 𝓛 use {H}

  abbrev pub Turn : List (Item 𝓤) → SProp 𝓤 → Type 1
  Turn P X = Seq (Go {0}) 𝓛 P (runs (tables 𝓤 H 𝓜 𝓡 f.env).C (tables 𝓤 H 𝓜 𝓡 f.env).Λ E b (any_q (after_turn 𝓤 H X (post 𝓤 H q))))

  module _ (more : (i : ℕ) → i < n → (X : SProp 𝓤) → ent 𝓤 (⋆ 𝓛 (At (suc i))) X → Turn (At i) X) (ends : (X : SProp 𝓤) → Turn (At n) X) where
    abbrev had : ℕ → SProp 𝓤
    had i = ⋆ 𝓛 (At i)

    -- where t turns are left
    abbrev left : ℕ → ℕ → SProp 𝓤
    left t i = guard 𝓤 (i + t ≡ n) (had i)

    abbrev Inv : ℕ → SProp 𝓤
    Inv t = ex 𝓤 (left t)

    abbrev Below : ℕ → SProp 𝓤
    Below t = ex 𝓤 (λ (t' : ℕ). guard 𝓤 (t' < t) (Inv t'))

    within : (t i : ℕ) → i + t ≡ n → ent 𝓤 (had i) (Inv t)
    within t i e = via 𝓤 (left t i) (guard_i 𝓤 (i + t ≡ n) (had i) e) (ex_i 𝓤 (left t) i)

    below : (t i : ℕ) → suc i + t ≡ n → ent 𝓤 (had (suc i)) (Below (suc t))
    below t i e = via 𝓤 (Inv t) (within t (suc i) e)
        (via 𝓤 (guard 𝓤 (t < suc t) (Inv t)) (guard_i 𝓤 (t < suc t) (Inv t) (omega arith)) (ex_i 𝓤 (λ (u : ℕ). guard 𝓤 (u < suc t) (Inv u)) t))

    turn : (t i : ℕ) → i + t ≡ n → Turn (At i) (Below t)
    turn zero i e = subst (λ (j : ℕ). Turn (At j) (Below zero)) (omega arith) (ends (Below zero))
    turn (suc t) i e = more i (omega arith) (Below (suc t)) (below t i (omega arith))

    pub counts_up : Seq (Go {0}) 𝓛 (At 0) (runs (tables 𝓤 H 𝓜 𝓡 f.env).C (tables 𝓤 H 𝓜 𝓡 f.env).Λ E (loop b) q)
    unfolding tables_of
    counts_up = record {
      prf = via 𝓤 (Inv n) (within n 0 (omega arith))
          (loop_rule 𝓤 H 𝓛.laws (tables_of 𝓤 H 𝓜 (tables 𝓤 H 𝓜 𝓡 f.env)) ◌<◌ lt-wf_rel.wf E b (post 𝓤 H q) Inv
          (λ t. ex_e 𝓤 (left t) (λ i. guard_e 𝓤 (i + t ≡ n) (had i) (λ e. (turn t i e).prf))) n);
    }
