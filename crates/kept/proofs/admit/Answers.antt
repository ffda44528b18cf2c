-- `admit`. Where the key is below the bound it goes over the place `last`; `came` says which of the two places that is.
use mathlib.Core.Path.{◌≡◌, sym, ap, ◌∙◌}
use mathlib.Core.Bool.{true}
use Prim.Native.Nat.{ℕ, ◌<◌}
use native.Mathlib.Omega.{arith}
use borrow.Author.Tests.{lt-ltb, le-ltb}
use lib.Dec.{ltb}
use Rattle.kept.specs.Says.{standing}
use Rattle.kept.specs.Laws.{works-length}
use Rattle.kept.proofs.Admitting.{Comes, last_of, last-free, last-worst, last_below, admit_asks, admit_in, admit_out}
use Rattle.kept.proofs.admit.Goals as goal
use Rattle.kept.proofs.admit.Goals.{Then-key-w, Joined-w-beam, then-w-beam, else-w-beam}

-- what the test of the key says of the item
below : (c : Then-key-w) → Comes c.args.w.bound c.args.dist c.args.id true
below c =
    record {
      own = c.requires.id_bound;
      near = omega arith;
      test = ap (λ (k : ℕ). ltb k c.args.w.bound) (sym c.key_of-key.ensures) ∙ lt-ltb _ _ c.if-key-w.true;
    }

-- the place it goes over
place : (c : Joined-w-beam) → c.if-w-beam.last ≡ last_of c.args.beam c.args.w.len
place c =
    let a = c.args in
    elim c.if-w-beam.branch [
      | then-w-beam w ↦ last-free a.beam a.w.len c.if-w-beam.last w.if-w-beam.true w.last-is
      | else-w-beam w ↦ last-worst a.beam a.w.len c.if-w-beam.last w.if-w-beam.false w.last-is
    ]

last_in : (c : Joined-w-beam) → Comes c.args.w.bound c.args.dist c.args.id true → c.if-w-beam.last < c.args.beam
last_in c b = rw (place c) (last_below c.args.beam (standing c.args.keys.now c.args.w) c.args.dist c.args.id b c.requires.working)

pub overflow_sub-last : goal.overflow_sub-last
overflow_sub-last c =
    let a = c.args in
    let h = last_below a.beam (standing a.keys.now a.w) a.dist a.id (below (goal.at.overflow_sub-last c).Then-key-w) c.requires.working in
    omega (arith, c.if-w-beam.false)

pub put-at-requires : goal.put-at-requires
put-at-requires c =
    let p = goal.at.put-at-requires c in
    let a = c.args in
    let asks =
    admit_asks a.beam (standing a.keys.now a.w) a.dist a.id (below p.Then-key-w) c.if-w-beam.last (place p.Joined-w-beam) c.requires.working in
    rw c.key_of-key.ensures (record { rising = asks.0; place_in = asks.1.0; last_in_bounds = asks.1.1 })

pub overflow_add-len : goal.overflow_add-len
overflow_add-len c =
    let p = goal.at.overflow_add-len c in
    omega (arith, last_in p.Joined-w-beam (below p.Then-key-w), c.requires.working.is.beam_le)

pub bound_of-requires : goal.bound_of-requires
bound_of-requires c =
    let p = goal.at.bound_of-requires c in
    let w = c.requires.working in
    (omega arith, omega (arith, last_in p.Joined-w-beam (below p.Then-key-w), c.put-at.auto.keys, works-length _ _ _ _ _ w.is, w.is.beam_le))

pub returns-then-key-w : goal.returns-then-key-w
returns-then-key-w c =
    let p = goal.at.returns-then-key-w c in
    let a = c.args in
    rw (c.bound_of.ensures, c.min.ensures)
    (admit_in a.beam (standing a.keys.now a.w) a.dist a.id (below p.Then-key-w) c.if-w-beam.last (place p.Joined-w-beam) c.requires.working
    c.put-at.result c.put-at.new.keys (rw c.key_of-key.ensures at c.put-at.ensures))

pub returns : goal.returns
returns c =
    let a = c.args in
    admit_out a.beam (standing a.keys.now a.w) a.dist a.id
    (record {
      own = c.requires.id_bound;
      near = omega arith;
      test = ap (λ (k : ℕ). ltb k a.w.bound) (sym c.key_of-key.ensures) ∙ le-ltb _ _ c.if-key-w.false;
    })
