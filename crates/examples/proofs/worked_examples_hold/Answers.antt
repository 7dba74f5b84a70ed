use Rattle.std.proofs.Common.{◌≡◌, ℕ, zero, suc, ◌<◌, [], ◌∷◌, refl, arith}
use Rattle.giving.specs.Lists.{times}
use Rattle.calls.specs.Rules.{rank_if_any, judged_answer}
use Rattle.examples.proofs.worked_examples_hold.Goals as goal

named_once : (x : ℕ) → x < 2 → times x (1 ∷ 0 ∷ []) ≡ 1
named_once zero l = refl
named_once (suc zero) l = refl
named_once (suc (suc x)) l = absurd (omega arith)

pub returns : goal.returns
unfolding judged_answer rank_if_any
returns c = record {
  queue_passes_two = refl;
  queue_bound_one = refl;
  stack_passes_one = refl;
  stack_bound_zero = refl;
  takes_exchanged = refl;
  adds_exchanged = refl;
  add_too_early = λ seat k. refl;
  touching_adds = λ seat k. record {
    timed = record {
      known = (omega arith, (omega arith, tt));
      once = named_once;
      instants = (10 ∷ 10 ∷ [], (omega arith, omega arith, omega arith, (omega arith, omega arith, omega arith, tt)));
    };
    within_bound = (refl, omega arith, (refl, omega arith, tt));
  };
  parted_adds = λ seat k. refl;
  queue_not_empty = refl;
  stack_not_empty = refl;
  empty_passes_one = refl;
  not_yet_added = λ seat k. refl;
  far_behind = λ seat k. refl;
}
