-- Work at the start of a walk, and what its keys tell at the end.
use Rattle.std.specs.Prelude.{◌≡◌, refl, List, [], map, ℕ, ◌-◌, ◌≤◌, length, take, replicate}
use Rattle.std.proofs.Common.{sym, ap, ◌∙◌, subst, arith, take_at}
use Rattle.definition.specs.Beam.{Item}
use Rattle.laws.specs.Backwards.{rev, map-rev}
use Rattle.beam.specs.Keys.{none, item_of, Rising}
use Rattle.kept.specs.Kept.{keys_of, opens}
use Rattle.kept.specs.Keyed.{length_front, length-all, length-items, items_of}
use Rattle.kept.specs.Says.{Standing, standing, no_work, Works, Tells}
use Rattle.kept.specs.Reading.{keys_rise}

pub works-none : (n beam : ℕ) (keys : List ℕ) → n ≤ 65536 → beam ≤ 256 → keys ≡ replicate 256 none → Works n beam (standing keys (no_work beam)) [] []
unfolding rev opens
works-none n beam keys h b e =
    record {
      nodes = h;
      beam_le = b;
      kept = [];
      rest = [];
      keys_are = e;
      len_is = refl;
      len_le = omega arith;
      done_le = omega arith;
      bound_is = refl;
      sorted = tt;
      inside = tt;
      walked = tt;
      work_is = refl;
      frontier_is = refl;
      beyond = tt;
    }

pub works-length : (n beam : ℕ) (s : Standing) (frontier work : List Item) → Works n beam s frontier work → length s.keys ≡ 256
works-length n beam s frontier work k = ap length k.keys_are ∙ length-all k.kept (omega (arith, k.len_is, k.len_le, k.beam_le))

-- all of work stands in the keys, and no more of it is walked than there is
pub works_fit : {n beam : ℕ} {s : Standing} {frontier work : List Item} → Works n beam s frontier work
    → (s.work.len ≤ length s.keys) × (s.work.done ≤ s.work.len)
works_fit {n} {beam} {s} {frontier} {work} k = (omega (arith, works-length n beam s frontier work k, k.len_le, k.beam_le), k.done_le)

pub works_rise : {n beam : ℕ} {s : Standing} {frontier work : List Item} → Works n beam s frontier work → Rising s.keys
works_rise {n} k =
    subst Rising (sym k.keys_are) (keys_rise n k.nodes k.kept k.inside k.sorted (omega (arith, k.len_is, k.len_le, k.beam_le)))

pub works_tell : (n beam : ℕ) (s : Standing) (frontier work : List Item) → Works n beam s frontier work → Tells s.keys s.work.len work
works_tell n beam s frontier work k =
    record {
      size = ap length k.work_is ∙ length-items k.kept ∙ k.len_is;
      up = works_rise k;
      items_are =
          ap (map item_of) first ∙ map-rev item_of (keys_of k.kept) ∙ ap rev (items_of n k.nodes k.kept k.inside)
          ∙ ap rev (sym k.work_is);
    }
  where
    first : take s.work.len s.keys ≡ rev (keys_of k.kept)
    first =
        ap (take s.work.len) k.keys_are
        ∙ take_at (rev (keys_of k.kept)) (replicate (256 - length k.kept) none) s.work.len
        (length_front k.kept ∙ k.len_is)
