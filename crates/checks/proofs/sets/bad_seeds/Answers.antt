-- `bad_seeds` meets its contract.
use Rattle.std.proofs.Common.{◌≡◌, ◌/◌, ℕ, rules, length, not, sym, ap, ◌∙◌, arith}
use Rattle.std.proofs.lemmas.Bool.{not-true, eqb-false}
use Rattle.std.proofs.lemmas.Bool.Decides.{nat_tests}
use Rattle.definition.specs.Lists.{each, groups}
use Rattle.definition.specs.Refusals.{good_group}
use Rattle.checks.proofs.Chunks.{any_chunk}
use Rattle.checks.specs.Groups.{seeds_limit, seeds_none, seeds_wrong, seeds_right, whole-groups, as_many, right_many}
use Rattle.checks.proofs.sets.bad_seeds.Goals as goal
use Rattle.checks.proofs.sets.bad_seeds.Goals.{then-all-extra-ne0, else-all-extra-ne0}

pub returns-then-bad_extra : goal.returns-then-bad_extra
returns-then-bad_extra c = seeds_limit _ _ c.args.start c.args.count c.args.seeds.now (sym c.bad_extra.ensures ∙ c.if-bad_extra.true)

pub returns-then-extra-eq0 : goal.returns-then-extra-eq0
returns-then-extra-eq0 c = ap not c.is_empty.ensures ∙ seeds_none _ _ c.args.start c.args.count c.args.seeds.now (sym c.bad_extra.ensures ∙ c.if-bad_extra.false) c.if-extra-eq0.true

pub returns-then-all-extra : goal.returns-then-all-extra
returns-then-all-extra c =
    let a = c.args in
    let some = c.if-extra-eq0.false in
    c.if-all-extra.true
    ∙ seeds_wrong a.n a.extra a.start a.count a.seeds.now (sym c.bad_extra.ensures ∙ c.if-bad_extra.false) (elim c.if-all-extra-ne0.branch [
      | then-all-extra-ne0 w ↦ whole-groups (length a.seeds.now) a.extra a.count some w.if-all-extra-ne0.true
      | else-all-extra-ne0 w ↦ as_many (length a.seeds.now) a.extra a.count some (eqb-false _ _ (not-true _ (sym w.value-is ∙ c.if-all-extra.true)))
    ])

pub returns-else-all-extra : goal.returns-else-all-extra
returns-else-all-extra c =
    let a = c.args in
    let run = c.any.ensures.runs in
    let count : length a.seeds.now / a.extra ≡ a.count = grind (arith, nat_tests) in
    any_chunk run.0 a.extra a.seeds.now _ _ (good_group a.n a.start) (omega arith) (search rules) (search rules) (search rules) c.any.result run.2
    ∙ ap (λ (k : ℕ). not (each (good_group a.n a.start) (groups k a.extra a.seeds.now))) count
    ∙ seeds_right a.n a.extra a.start a.count a.seeds.now (sym c.bad_extra.ensures ∙ c.if-bad_extra.false)
    (right_many (length a.seeds.now) a.extra a.count (grind (arith, nat_tests)) count)
