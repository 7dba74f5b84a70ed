use Rattle.std.proofs.Common.{ℕ, ◌+◌, List, ◌++◌, length, take, drop, sym, ap, ◌∙◌, arith}
use Rattle.std.proofs.lemmas.List.{length-append, length_push}
use Rattle.giving.proofs.Fronts.{front_push}
use Rattle.counting.specs.Slots.{codes}
use Rattle.counting.specs.Codes.{codes_empty}
use Rattle.counting.proofs.Fronts.{codes_split, codes_more, codes_same, codes_over}
use Rattle.counting.proofs.arrivals.write_codes.Goals as goal
use Rattle.counting.proofs.arrivals.write_codes.Goals.{in-Some, in_default}

pub loop-slot-init : goal.loop-slot-init
loop-slot-init c = record {
  many = sym (ap length codes_empty);
  room = omega arith;
  front = sym (ap (λ (l : List ℕ). l ++ c.args.buffer.now) codes_empty);
}

pub loop-slot-preserved : goal.loop-slot-preserved
loop-slot-preserved c =
    let s = c.args.slots.now in
    let i = c.loop-slot.slot-index in
    let n = c.loop-slot.written in
    let inv = c.loop-slot.invariant in
    elim c.match-slot.branch [
      | in-Some w ↦
          let more = codes_more s i w.in-Some.code c.loop-slot-test.true w.in-Some.is in
          let long = ap length more ∙ length_push (codes (take i s)) w.in-Some.code in
          record {
            many = omega (arith, inv.many);
            room = omega (arith, inv.room);
            front =
                w.buffer-is ∙ front_push (codes (take i s)) c.args.buffer.now c.loop-slot.buffer n w.in-Some.code (sym inv.many) (omega (arith, inv.room)) inv.front
                ∙ ap (λ (l : List ℕ). l ++ drop (n + 1) c.args.buffer.now) (sym more)
                ∙ ap (λ (k : ℕ). codes (take (i + 1) s) ++ drop k c.args.buffer.now) (sym w.written-is);
          }
      | in_default w ↦
          let same = codes_same s i c.loop-slot-test.true w.in_default.is in
          record {
            many = w.written-is ∙ inv.many ∙ sym (ap length same);
            room = omega (arith, inv.room);
            front =
                w.buffer-is ∙ inv.front ∙ ap (λ (l : List ℕ). l ++ drop n c.args.buffer.now) (sym same)
                ∙ ap (λ (k : ℕ). codes (take (i + 1) s) ++ drop k c.args.buffer.now) (sym w.written-is);
          }
    ]

pub returns-then-written-buffer-clause-answer : goal.returns-then-written-buffer-clause-answer
returns-then-written-buffer-clause-answer c =
    let l = ap length (codes_split c.args.slots.now c.loop-slot.slot-index) ∙ length-append (codes (take c.loop-slot.slot-index c.args.slots.now)) (codes (drop c.loop-slot.slot-index c.args.slots.now)) in
    omega (arith, c.loop-slot.invariant.many, c.loop-slot.auto.buffer)

pub returns-then-written-buffer-clause-written : goal.returns-then-written-buffer-clause-written
returns-then-written-buffer-clause-written c =
    let s = c.args.slots.now in
    let l = ap length (codes_split s c.loop-slot.slot-index) ∙ length-append (codes (take c.loop-slot.slot-index s)) (codes (drop c.loop-slot.slot-index s)) in
    codes_over s c.args.buffer.now c.loop-slot.buffer c.loop-slot.slot-index c.loop-slot.written c.loop-slot.invariant.many (omega (arith, c.loop-slot.invariant.many, c.loop-slot.auto.buffer)) c.loop-slot.invariant.front
