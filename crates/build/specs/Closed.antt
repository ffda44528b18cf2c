-- The statement of close, from its number, its rows and the room that it cleared.
use Rattle.std.specs.Prelude.{ℕ, ◌≤◌, ◌≡◌, List, Float, length}
use Rattle.std.proofs.Math.Path.{refl, ap}
use Rattle.std.proofs.Common.{sym, ◌∙◌}
use Rattle.definition.specs.declared.Answer.{Answer}
use Rattle.definition.specs.Slack.{slack}
use Rattle.definition.specs.Build.{close}
use Rattle.definition.specs.Refusals.{CloseCall, close_number}
use Rattle.definition.specs.Outcome.{setting_of, refused, done, CloseOut, close_kept, close_done, close_out, CloseMeets}
use Rattle.laws.specs.Parts.{part, put}
use Rattle.accepted.specs.Build.{close-accepted}
use Rattle.scratch.specs.Clear.{RoomClear}
use Rattle.scratch.specs.Layout.{most_factors, fresh_end, floats_end}
use Rattle.scratch.specs.Lent.{Lent, lent}
use Rattle.accepted.specs.Outcomes.{by_refusal, by_success}
use Rattle.given.specs.Given.{Given}
use Rattle.build.specs.Factors.{factors_length, factors_within}
use Rattle.build_rows.specs.Says.{CloseReady}

-- what a close's call gives
abbrev given_by : CloseCall → ℕ → Given
given_by c width = record { n = c.n; dim = c.dim; vectors = c.vectors; params = c.params; width = width }

abbrev close_leaves : Answer → List ℕ → Lent → CloseOut
close_leaves a closed l = record { answer = a; closed = closed; words = l.words; floats = l.floats }

module _ (c : CloseCall) (z : close_number c ≡ 0) where
  pub close_degree : c.params.degree ≤ 64
  close_degree = (close-accepted c z).degree.few

  pub close_room : (c.n ≤ 65536) × (fresh_end c.n ≤ length c.words) × (floats_end c.n ≤ length c.floats)
  close_room = let a = close-accepted c z in (a.entries.nodes, a.word_room, a.float_room)

  pub close_ready : {width : ℕ} → width ≡ slack c.params.degree
      → CloseReady (given_by c width) c.wide (length c.closed) (length (part 0 most_factors c.floats))
  close_ready e =
      let a = close-accepted c z in
      record {
        limits = record {
          nodes = a.entries.nodes;
          dim_few = a.entries.dim_few;
          vectors_are = a.entries.vectors_are;
          degree_few = a.degree.few;
          width_is = e;
        };
        rows = rw e a.wide;
        table = a.closed_is;
        factors = factors_length c.n c.floats a.float_room;
      }

  module _ (fs : List Float) (same : length fs ≡ length (part 0 most_factors c.floats)) where
    pub close_done_lem : {a : Answer} {closed words : List ℕ} {floats : List Float} → a ≡ done
        → closed ≡ close (setting_of c.n c.dim c.vectors c.params) c.wide
        → RoomClear c.n c.words (put 0 most_factors c.floats fs) words floats → CloseMeets c (close_leaves a closed (lent words floats))
    unfolding close_out close_done
    close_done_lem q e r =
        let o : close_out c ≡ close_done c = by_success (close_kept c) (close_done c) (close_number c) z in
        let beyond = (factors_within c.n c.floats (close-accepted c z).float_room fs same).above in
        record {
          answer_is = q ∙ ap (λ (x : CloseOut). x.answer) (sym o);
          closed_is = e ∙ ap (λ (x : CloseOut). x.closed) (sym o);
          words_is = r.words_are c.words refl ∙ ap (λ (x : CloseOut). x.words) (sym o);
          floats_is = r.floats_are c.floats beyond ∙ ap (λ (x : CloseOut). x.floats) (sym o);
        }

pub close-refused : {c : CloseCall} {k : ℕ} {a : Answer} → k ≡ close_number c → (k ≡ 0 → ⊥) → a ≡ refused k
    → CloseMeets c (close_leaves a c.closed (lent c.words c.floats))
unfolding close_out close_kept
close-refused {c} e h q =
    let o : close_out c ≡ close_kept c = by_refusal (close_kept c) (close_done c) (close_number c) (λ z. h (e ∙ z)) in
    record {
      answer_is = q ∙ ap refused e ∙ ap (λ (x : CloseOut). x.answer) (sym o);
      closed_is = ap (λ (x : CloseOut). x.closed) (sym o);
      words_is = ap (λ (x : CloseOut). x.words) (sym o);
      floats_is = ap (λ (x : CloseOut). x.floats) (sym o);
    }
