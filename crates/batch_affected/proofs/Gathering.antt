-- One node's ids: its seat gives the row that is read, whose ids go into the list first; then those of its chain. Each leaves what the next asks.
use Prim.Native.Nat.{ℕ, ◌+◌, ◌-◌, ◌*◌, ◌≤◌, ◌<◌}
use native.Mathlib.Omega.{arith}
use mathlib.Core.Path.{◌≡◌, refl, sym, ap, ◌∙◌, subst}
use mathlib.Core.List.{List, []}
use lib.ListN.{length, get_or, take, drop}
use Rattle.definition.specs.Tables.{pad, row, ids}
use Rattle.definition.specs.Batch.{Setting, merged_ids}
use Rattle.definition.specs.Slack.{slack}
use Rattle.laws.specs.Listed.{fresh_width}
use Rattle.laws.specs.Rising.{Asc, none}
use Rattle.scratch.specs.Layout.{widest, fresh_at, seats_at}
use Rattle.given.specs.Fresh.{Merging, entries_of, listed_in}
use Rattle.batch_ids.specs.Grown.{grown, wanted}
use Rattle.batch_ids.specs.Says.{Grew}
use Rattle.batch_chains.specs.Last.{seat}
use Rattle.batch_chains.specs.Says.{Chains, sources, NamingAdded, place_word}
use Rattle.std.specs.Prelude.{Option}
use Rattle.batch_affected.specs.Base.{base_of, base_words_lem, base-length, seat_within}
use Rattle.batch_affected.specs.Naming.{gathered}
use Rattle.batch_affected.specs.Says.{merged_most, Ready, Gathered}

-- ---- the row that is read
pub base_wide : (wide : List ℕ) (node width : ℕ) → take ((node * width + width) - node * width) (drop (node * width) wide) ≡ row width wide node
unfolding row
base_wide wide node width =
    let q : (node * width + width) - node * width ≡ width = omega arith in
    ap (λ (k : ℕ). take k (drop (node * width) wide)) q

-- ---- what each call asks, and what is left
pad_big : pad ≡ 4294967295
unfolding pad
pad_big = refl

module _ {f : Merging} {node width : ℕ} (r : Ready f) (h : node < f.n) (thin : width ≤ widest) where
  -- `seats` is where the code found that the seats begin
  module _ {seats : ℕ} (own : ℕ) (s : Option ℕ) (v : seats ≡ seats_at f.n) (o : own ≡ node) (e : place_word s ≡ get_or f.words (seats + own) 0) where
    its_seat : place_word s ≡ seat f.nodes node 0
    its_seat =
        let here : seats + own ≡ seats_at f.n + node = omega arith in
        e ∙ ap (λ (k : ℕ). get_or f.words k 0) here ∙ r.seats node h

    pub base_asks : (size : ℕ) → node * width + width ≤ size
        → ((f.n ≤ 65536) × (own < f.n) × (width ≤ widest) × (place_word s ≤ 256))
        × ((fresh_at f.n + place_word s * fresh_width ≤ length f.words) × (own * width + width ≤ size))
    base_asks size has =
        let a = r.few in
        let b = r.chains.laid.nodes in
        let c = r.chains.laid.high in
        let d = seat_within f.nodes node in
        let q = its_seat in
        let p : own * width ≡ node * width = ap (λ (k : ℕ). k * width) o in
        ((b, omega arith, thin, omega arith), (omega arith, omega arith))

    -- the row that is read, and the two walks
    module _ (wide bw : List ℕ) (is : bw ≡ base_of f wide width own s) where
      short : length bw ≤ widest
      short = let l = base-length f wide width own s thin in subst (λ (z : List ℕ). length z ≤ widest) (sym is) l

      pub row_asks : {l₀ : List ℕ} → l₀ ≡ [] → (length l₀ + length bw ≤ merged_most) × Asc l₀
      row_asks e = let l = short in let none₀ = ap length e in (omega arith, subst Asc (sym e) none)

      module _ {l₀ l₁ : List ℕ} (empty : l₀ ≡ []) (g : Grew bw node l₀ l₁) where
        few : length l₁ ≤ widest
        few = let l = short in let none₀ = ap length empty in omega (arith, g.most)

        pub naming_asks : ((node < f.n) × (length f.nodes ≤ 256) × (length l₁ + length f.nodes ≤ merged_most)) × (Chains f × Asc l₁)
        naming_asks = let l = few in ((h, r.few, omega (arith, r.few)), (r.chains, g.holds.rises))

        -- the chain's nodes after the base's ids
        named : (st : Setting) → width ≡ slack st.degree
            → grown (wanted node (sources f node (entries_of f.nodes))) (grown (wanted node bw) []) ≡ merged_ids st wide (listed_in f) node
        named st e =
            let big : f.n ≤ 65536 = r.chains.laid.nodes in
            let eq : bw ≡ base_of f wide width node s = is ∙ ap (λ (k : ℕ). base_of f wide width k s) o in
            gathered f node (λ q. omega (arith, pad_big)) r.chains.laid.high st wide bw (λ p g q. let y = r.real p g in omega (arith, pad_big))
            (base_words_lem st f wide width node e s its_seat ∙ ap ids (sym eq))

        pub all_gathered : {l₂ : List ℕ} → NamingAdded f node l₁ l₂ → Gathered f wide width node l₂
        all_gathered a =
            let l = few in
            record {
              is = λ st e. record {
                is =
                    a.holds.is
                    ∙ ap (grown (wanted node (sources f node (entries_of f.nodes)))) (g.holds.is ∙ ap (grown (wanted node bw)) empty)
                    ∙ named st e;
                rises = a.holds.rises;
              };
              most = omega (arith, a.most, r.few);
            }
