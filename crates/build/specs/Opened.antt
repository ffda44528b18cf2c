-- The statement of open, from its number and its rows.
use Rattle.std.specs.Prelude.{ℕ, ◌*◌, ◌≡◌, List, length}
use Rattle.std.proofs.Common.{sym, ◌∙◌}
use Rattle.std.proofs.Math.Path.{ap}
use Rattle.definition.specs.declared.Answer.{Answer}
use Rattle.definition.specs.Slack.{slack}
use Rattle.definition.specs.Build.{open'}
use Rattle.definition.specs.Refusals.{OpenCall, open_number}
use Rattle.definition.specs.Outcome.{refused, done, OpenOut, open_kept, open_done, open_out, OpenMeets}
use Rattle.accepted.specs.Build.{open_accepted}
use Rattle.accepted.specs.Outcomes.{by_refusal, by_success}
use Rattle.build_rows.specs.Says.{opened, OpenReady}

module _ (c : OpenCall) where
  abbrev open_leaves : Answer → List ℕ → OpenOut
  open_leaves a wide = record { answer = a; wide = wide }

  pub open_ready : {width : ℕ} → open_number c ≡ 0 → width ≡ slack c.degree → OpenReady (opened c.n c.degree width c.opening) (length c.wide)
  open_ready z e =
      let a = open_accepted c z in
      record { nodes = a.nodes; degree_few = a.degree.few; width_is = e; rows = a.opening; table = a.wide_is ∙ ap (λ (k : ℕ). c.n * k) (sym e) }

  pub open_refused : {k : ℕ} {a : Answer} → k ≡ open_number c → (k ≡ 0 → ⊥) → a ≡ refused k → OpenMeets c (open_leaves a c.wide)
  unfolding open_out open_kept
  open_refused e h q =
      let o : open_out c ≡ open_kept c = by_refusal (open_kept c) (open_done c) (open_number c) (λ z. h (e ∙ z)) in
      record { answer_is = q ∙ ap refused e ∙ ap (λ (x : OpenOut). x.answer) (sym o); wide_is = ap (λ (x : OpenOut). x.wide) (sym o) }

  pub open_done_lem : {a : Answer} {wide : List ℕ} → open_number c ≡ 0 → a ≡ done → wide ≡ open' c.n c.degree c.opening → OpenMeets c (open_leaves a wide)
  unfolding open_out open_done
  open_done_lem z q e =
      let o : open_out c ≡ open_done c = by_success (open_kept c) (open_done c) (open_number c) z in
      record { answer_is = q ∙ ap (λ (x : OpenOut). x.answer) (sym o); wide_is = e ∙ ap (λ (x : OpenOut). x.wide) (sym o) }
