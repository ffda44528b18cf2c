-- The statement of a whole build, from its number, its steps and the room that it cleared.
use Rattle.std.specs.Prelude.{ℕ, ◌*◌, ◌≤◌, ◌<◌, ◌≡◌, List, Float, length}
use Rattle.std.proofs.Common.{arith, sym, ◌∙◌, subst}
use Rattle.std.proofs.Math.Path.{ap}
use Rattle.definition.specs.declared.Answer.{Answer}
use Rattle.definition.specs.Tables.{pad}
use Rattle.definition.specs.Slack.{slack}
use Rattle.definition.specs.Build.{open', close, batches, built}
use Rattle.definition.specs.Refusals.{BuildCall, build_number}
use Rattle.definition.specs.Outcome.{setting_of, refused, done, BuildOut, build_kept, built_wide, build_done, build_out, BuildMeets}
use Rattle.laws.specs.Parts.{part, put, within_trans}
use Rattle.accepted.specs.Checks.{count_low, extra_good}
use Rattle.accepted.specs.Build.{build_accepted}
use Rattle.theory.specs.Kept.{TableKept}
use Rattle.theory.specs.Rule.{ruled_kept, kept_ruled}
use Rattle.theory.specs.build.Batches.{opened_kept}
use Rattle.scratch.specs.Clear.{RoomClear}
use Rattle.scratch.specs.Layout.{most_factors, fresh_end, floats_end}
use Rattle.accepted.specs.Outcomes.{by_refusal, by_success}
use Rattle.given.specs.Given.{Given, setting, Limits}
use Rattle.given.specs.Listing.{Listing, listing}
use Rattle.given.specs.Held.{Held, held}
use Rattle.build_rows.specs.Says.{opened, OpenReady, CloseReady}
use Rattle.build.specs.Factors.{factors_length, factors_within}
use Rattle.build.specs.Runs.{RunsReady, RunsDone}

-- what a whole build's call gives, lists and holds
abbrev given_by : BuildCall → ℕ → Given
given_by c width = record { n = c.n; dim = c.dim; vectors = c.vectors; params = c.params; width = width }

abbrev listed_by : BuildCall → Listing
listed_by c = listing c.start c.order c.seeds

abbrev build_leaves : Answer → List ℕ → Held → BuildOut
build_leaves a closed h = record { answer = a; wide = h.wide; closed = closed; words = h.lent.words; floats = h.lent.floats }

module _ (c : BuildCall) (z : build_number c ≡ 0) where
  low : c.n < pad
  low = count_low (build_accepted c z).entries.nodes

  pub build_degree : c.params.degree ≤ 64
  build_degree = (build_accepted c z).degree.few

  module _ {width : ℕ} (e : width ≡ slack c.params.degree) where
    limits : Limits (given_by c width)
    limits =
        let a = build_accepted c z in
        record {
          nodes = a.entries.nodes;
          dim_few = a.entries.dim_few;
          vectors_are = a.entries.vectors_are;
          degree_few = a.degree.few;
          width_is = e;
        }

    pub build_opens : OpenReady (opened c.n c.params.degree width c.opening) (length c.wide)
    build_opens =
        let a = build_accepted c z in
        let size : length c.wide ≡ c.n * width = a.wide_is ∙ ap (λ (k : ℕ). c.n * k) (sym e) in
        record { nodes = a.entries.nodes; degree_few = a.degree.few; width_is = e; rows = a.opening; table = size }

    module _ {wide₁ : List ℕ} (is-opened : wide₁ ≡ open' c.n c.params.degree c.opening) where
      pub build_runs : RunsReady (given_by c width) (listed_by c) (held wide₁ c.words c.floats)
      build_runs =
          let a = build_accepted c z in
          record {
            limits = record { limits = limits; beam_few = a.beam_few; alpha_low = a.alpha_low };
            start_in = a.start_in;
            order_is = a.order_is;
            order_in = a.order.below;
            seeds_are = a.seeds.size;
            seeds_in = a.seeds.below;
            extra_few = (extra_good c.n c.params.extra a.seeds.limits).0;
            kept =
                subst (TableKept c.n (slack c.params.degree)) (sym is-opened)
                (opened_kept c.n c.params.degree c.opening low (ruled_kept a.opening));
            roomy = record { words = a.word_room; floats = a.float_room };
          }

      module _ {last : ℕ} {after : Held} (run : RunsDone (given_by c width) (listed_by c) last (held wide₁ c.words c.floats) after) where
        -- the factors of close are lent from the floats that the runs left
        abbrev lent_floats : List Float
        lent_floats = part 0 most_factors after.lent.floats

        pub floats_left : floats_end c.n ≤ length after.lent.floats
        floats_left = let f = (build_accepted c z).float_room in let s = run.within.floats.size in omega arith

        pub build_closes : CloseReady (given_by c width) after.wide (length c.closed) (length lent_floats)
        build_closes =
            let a = build_accepted c z in
            record {
              limits = limits;
              rows = rw e (kept_ruled low run.kept);
              table = a.closed_is;
              factors = factors_length c.n after.lent.floats floats_left;
            }

        module _ (fs : List Float) (same : length fs ≡ length lent_floats) where
          abbrev floats₃ : List Float
          floats₃ = put 0 most_factors after.lent.floats fs

          pub build_room : (c.n ≤ 65536) × (fresh_end c.n ≤ length after.lent.words) × (floats_end c.n ≤ length floats₃)
          build_room =
              let a = build_accepted c z in
              let w = a.word_room in
              let s = run.within.words.size in
              let f = floats_left in
              let t = (factors_within c.n after.lent.floats floats_left fs same).size in
              (a.entries.nodes, omega arith, omega arith)

          pub build_done_lem : {a : Answer} {closed words : List ℕ} {floats : List Float} → a ≡ done → closed ≡ close (setting (given_by c width)) after.wide
              → RoomClear c.n after.lent.words floats₃ words floats → BuildMeets c (build_leaves a closed (held after.wide words floats))
          unfolding build_out build_done built_wide built setting_of
          build_done_lem q k r =
              let o : build_out c ≡ build_done c = by_success (build_kept c) (build_done c) (build_number c) z in
              let g = setting (given_by c width) in
              let is : after.wide ≡ built_wide c =
              run.wide_is ∙ ap (batches g c.start c.params.extra (length c.order) c.order c.seeds) is-opened in
              let beyond =
              within_trans 0 (floats_end c.n) c.floats after.lent.floats floats₃ run.within.floats
              (factors_within c.n after.lent.floats floats_left fs same) in
              record {
                answer_is = q ∙ ap (λ (x : BuildOut). x.answer) (sym o);
                wide_is = is ∙ ap (λ (x : BuildOut). x.wide) (sym o);
                closed_is = k ∙ ap (close g) is ∙ ap (λ (x : BuildOut). x.closed) (sym o);
                words_is = r.words_are c.words run.within.words.above ∙ ap (λ (x : BuildOut). x.words) (sym o);
                floats_is = r.floats_are c.floats beyond.above ∙ ap (λ (x : BuildOut). x.floats) (sym o);
              }

pub build_refused : {c : BuildCall} {k : ℕ} {a : Answer} → k ≡ build_number c → (k ≡ 0 → ⊥) → a ≡ refused k
    → BuildMeets c (build_leaves a c.closed (held c.wide c.words c.floats))
unfolding build_out build_kept
build_refused {c} e h q =
    let o : build_out c ≡ build_kept c = by_refusal (build_kept c) (build_done c) (build_number c) (λ z. h (e ∙ z)) in
    record {
      answer_is = q ∙ ap refused e ∙ ap (λ (x : BuildOut). x.answer) (sym o);
      wide_is = ap (λ (x : BuildOut). x.wide) (sym o);
      closed_is = ap (λ (x : BuildOut). x.closed) (sym o);
      words_is = ap (λ (x : BuildOut). x.words) (sym o);
      floats_is = ap (λ (x : BuildOut). x.floats) (sym o);
    }
