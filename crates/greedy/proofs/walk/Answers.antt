-- `walk`. The loop's invariant: what is left of the definition's n steps, from the state where the scratch is, leads where the whole walk leads.
use native.Mathlib.Omega.{arith}
use borrow.Author.Rules.{rules}
use Rattle.greedy.proofs.Expanding.{working}
use Rattle.greedy.proofs.Runs.{run-start, run_spent, run_halt, pop_ready, pop_live, pop_id, run_step}
use Rattle.greedy.proofs.walk.Goals as goal

pub loop-expanded-init : goal.loop-expanded-init
loop-expanded-init c = (omega arith, omega arith, omega arith, run-start _ _ c.requires.ready c.requires.live)

pub pop-requires : goal.pop-requires
pop-requires c = working c.loop-expanded.invariant.3.live

-- nothing is left to walk
pub returns-in_default : goal.returns-in_default
returns-in_default c = rw c.outcome.ensures (run_halt c.loop-expanded.invariant.3 c.in_default.ensures)

pub step-s-requires : goal.step-s-requires
step-s-requires c =
    let run = c.loop-expanded.invariant.3 in
    let pop = c.in-Some.ensures in
    record {
      ready = pop_ready run pop;
      live = pop_live run pop;
      ground = c.requires.ground;
      id_lt_n = (pop_id run pop, omega arith, omega arith);
    }

pub loop-expanded-preserved : goal.loop-expanded-preserved
loop-expanded-preserved c =
    let run = c.loop-expanded.invariant.3 in
    (search rules, search rules, search rules, run_step run c.in-Some.ensures (omega arith) c.step-s.ensures)

-- the fuel is spent
pub returns : goal.returns
returns c = rw c.outcome-2.ensures (run_spent c.loop-expanded.invariant.3 (omega arith))
