-- `metric::add_sixteen` meets its contract. The loop's invariant: the sixteen sums with what is still to come stay the same. Assumes nothing.
use Rattle.std.proofs.Common.{◌≡◌, List, subst, ℕ, ◌+◌, ◌<◌, length, get_or, set, arith}
use Rattle.definition.specs.Metric.{squared}
use Rattle.metric.specs.Stretches.{Sixteen, adds_one, total_more, sum-total, sixteen_more}
use Rattle.metric.proofs.add_sixteen.Goals as goal

-- after a turn's square x is added
turn : (a b : List ℕ) (at j d : ℕ) (sums : List ℕ) (x : ℕ) → length a ≡ length b → at + j < length a → j < 16
    → x ≡ squared (get_or a (at + j) 0) (get_or b (at + j) 0) → Sixteen a b (at + j) d sums
    → Sixteen a b (at + (j + 1)) d (set sums j (get_or sums j 0 + x))
turn a b at j d sums x l h few e p =
    let on : (at + j) + 1 ≡ at + (j + 1) = omega arith in
    let k = at + j in
    subst (λ (n : ℕ). Sixteen a b n d (set sums j (get_or sums j 0 + x))) on
    (sixteen_more a b k d sums j x p few (rw e (adds_one a b k l h)))

pub overflow_add-sums : goal.overflow_add-sums
overflow_add-sums c =
    let p = c.requires.stretch in
    let t = turn _ _ c.args.at c.loop-j.j _ c.loop-j.sums _ p.alike (omega (arith, p.inside)) (omega arith) c.squared.ensures c.loop-j.invariant in
    let more = total_more c.loop-j.sums c.loop-j.j c.squared.result (omega (arith, c.loop-j.invariant.sixteen)) in
    let least = sum-total c.loop-j.sums c.loop-j.j in
    omega (arith, t.is, c.requires.sums_len.1)

pub loop-j-preserved : goal.loop-j-preserved
loop-j-preserved c =
    let p = c.requires.stretch in
    turn _ _ c.args.at c.loop-j.j _ c.loop-j.sums _ p.alike (omega (arith, p.inside)) (omega arith) c.squared.ensures c.loop-j.invariant
