-- A refusal that is answered is the one of the outcome.
use Rattle.std.proofs.Common.{◌≡◌, Some, Ok, Err, Result, refl, ap}
use Rattle.std.specs.Option.{option_map}
use Rattle.std.specs.Result.{result_err}
use Rattle.trace.specs.declared.fault.ReadFault.{ReadFault}
use Rattle.trace.specs.declared.fault.ReadFault.TheVariants.{Frame, Entry}
use Rattle.trace.specs.declared.read.Accepted.{Accepted}
use Rattle.trace.specs.Answers.{read_answer, shown}
use Rattle.trace.specs.Faults.{read_refusal}
use Rattle.trace.specs.Reading.{Outcome}
use Rattle.trace.specs.Reading.Outcome.{unread, refused, accepted}
use Rattle.trace_tests.specs.Cases.{refusal_in}

pub refusal_is : {I : Type 0} (r : Result Accepted ReadFault) (o : Outcome I) → shown r ≡ read_answer o → option_map read_refusal (result_err r) ≡ refusal_in o
refusal_is (Ok a) (unread e) p = absurd cc
refusal_is (Ok a) (refused os i e) p = absurd cc
refusal_is (Ok a) (accepted c) p = refl
refusal_is (Err f) (unread e) p = let q : f ≡ Frame e = cc in ap (λ z. option_map read_refusal (Some z)) q
refusal_is (Err f) (refused os i e) p = let q : f ≡ Entry (record { place = i; fault = e }) = cc in ap (λ z. option_map read_refusal (Some z)) q
refusal_is (Err f) (accepted c) p = absurd cc
