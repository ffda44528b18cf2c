-- The statement of a batch, from its number, its run and the room that was cleared.
use Rattle.std.specs.Prelude.{ℕ, ◌≤◌, ◌<◌, ◌≡◌, List, Float, length, get_or}
use Rattle.std.proofs.Common.{arith, sym, ◌∙◌}
use Rattle.std.proofs.Math.Path.{ap}
use Rattle.definition.specs.declared.Answer.{Answer}
use Rattle.definition.specs.Slack.{slack}
use Rattle.definition.specs.Refusals.{BatchCall, batch_number}
use Rattle.definition.specs.Outcome.{refused, done, BatchOut, batch_kept, batch_done, batch_out, BatchMeets}
use Rattle.laws.specs.Members.{mem-at}
use Rattle.laws.specs.Parts.{Within}
use Rattle.theory.specs.build.Walks.{batch-walks, epoch_after, epoch_end, epochs_fit}
use Rattle.accepted.specs.Checks.{extra_good}
use Rattle.accepted.specs.Build.{batch-accepted}
use Rattle.scratch.specs.Clear.{RoomClear}
use Rattle.scratch.specs.Layout.{fresh_end, floats_end}
use Rattle.accepted.specs.Outcomes.{by_refusal, by_success}
use Rattle.given.specs.Given.{Given}
use Rattle.given.specs.Listing.{Listing, listing, walks_of}
use Rattle.given.specs.Held.{Held, held}
use Rattle.marks.specs.Marked.{FirstEpoch}
use Rattle.marks.specs.Visits.{first_then}
use Rattle.batch.specs.Says.{BatchReady, BatchRun}

-- what a batch's call gives, lists and holds
abbrev given_by : BatchCall → ℕ → Given
given_by c width = record { n = c.n; dim = c.dim; vectors = c.vectors; params = c.params; width = width }

abbrev listed_by : BatchCall → Listing
listed_by c = listing c.start c.nodes c.seeds

abbrev held_by : BatchCall → Held
held_by c = held c.wide c.words c.floats

abbrev batch_leaves : Answer → Held → BatchOut
batch_leaves a h = record { answer = a; wide = h.wide; words = h.lent.words; floats = h.lent.floats }

module _ (c : BatchCall) (z : batch_number c ≡ 0) where
  pub batch_degree : c.params.degree ≤ 64
  batch_degree = (batch-accepted c z).degree.few

  pub batch_marks : c.n ≤ length c.words
  batch_marks = let w = (batch-accepted c z).word_room in omega arith

  module _ {width epoch : ℕ} {words₁ : List ℕ} (e : width ≡ slack c.params.degree) (first : FirstEpoch c.n c.words words₁ epoch) where
    -- what is held when the marks are zero
    abbrev begun : Held
    begun = held c.wide words₁ c.floats

    epochs : epoch_after epoch (walks_of (given_by c width) c.wide (listed_by c)) < epoch_end
    epochs =
        let a = batch-accepted c z in
        let extra = (extra_good c.n c.params.extra a.seeds.limits).0 in
        let few = epochs_fit {nodes = length c.nodes} (omega (arith, a.nodes_few)) extra in
        omega (arith, first.is, a.seeds.size, batch-walks c.wide c.start c.params.extra c.nodes c.seeds a.seeds.size)

    pub batch_ready : BatchReady (given_by c width) (listed_by c) epoch begun
    batch_ready =
        let a = batch-accepted c z in
        let size = first.kept.size in
        record {
          limits = record {
            limits = record {
              nodes = a.entries.nodes;
              dim_few = a.entries.dim_few;
              vectors_are = a.entries.vectors_are;
              degree_few = a.degree.few;
              width_is = e;
            };
            beam_few = a.beam_few;
            alpha_low = a.alpha_low;
          };
          table = record { size = rw e a.wide.size; words = a.wide.words };
          listable = record {
            start_in = a.start_in;
            few = a.nodes_few;
            nodes_in = λ k h. a.nodes.below (get_or c.nodes k 0) (mem-at 0 c.nodes k h);
            groups = a.seeds.size;
            seeds_in = λ k h. a.seeds.below (get_or c.seeds k 0) (mem-at 0 c.seeds k h);
          };
          roomy = record { words = omega (arith, a.word_room); floats = a.float_room };
          marks = first.marks;
          epochs = epochs;
        }

    module _ {last : ℕ} {after : Held} (run : BatchRun (given_by c width) (listed_by c) epoch last begun after) where
      kept : Within 0 (fresh_end c.n) c.words after.lent.words
      kept = first_then first (fresh_end c.n) (omega arith) run.kept.words

      pub batch_room : (c.n ≤ 65536) × (fresh_end c.n ≤ length after.lent.words) × (floats_end c.n ≤ length after.lent.floats)
      batch_room =
          let a = batch-accepted c z in
          let w = a.word_room in
          let f = a.float_room in
          let s = kept.size in
          let t = run.kept.floats.size in
          (a.entries.nodes, omega arith, omega arith)

      pub batch-done : {a : Answer} {words : List ℕ} {floats : List Float} → a ≡ done
          → RoomClear c.n after.lent.words after.lent.floats words floats → BatchMeets c (batch_leaves a (held after.wide words floats))
      unfolding batch_out batch_done
      batch-done q r =
          let o : batch_out c ≡ batch_done c = by_success (batch_kept c) (batch_done c) (batch_number c) z in
          record {
            answer_is = q ∙ ap (λ (x : BatchOut). x.answer) (sym o);
            wide_is = run.wide_is ∙ ap (λ (x : BatchOut). x.wide) (sym o);
            words_is = r.words_are c.words kept.above ∙ ap (λ (x : BatchOut). x.words) (sym o);
            floats_is = r.floats_are c.floats run.kept.floats.above ∙ ap (λ (x : BatchOut). x.floats) (sym o);
          }

pub batch-refused : {c : BatchCall} {k : ℕ} {a : Answer} → k ≡ batch_number c → (k ≡ 0 → ⊥) → a ≡ refused k → BatchMeets c (batch_leaves a (held_by c))
unfolding batch_out batch_kept
batch-refused {c} e h q =
    let o : batch_out c ≡ batch_kept c = by_refusal (batch_kept c) (batch_done c) (batch_number c) (λ z. h (e ∙ z)) in
    record {
      answer_is = q ∙ ap refused e ∙ ap (λ (x : BatchOut). x.answer) (sym o);
      wide_is = ap (λ (x : BatchOut). x.wide) (sym o);
      words_is = ap (λ (x : BatchOut). x.words) (sym o);
      floats_is = ap (λ (x : BatchOut). x.floats) (sym o);
    }
