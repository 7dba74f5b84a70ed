-- The calls that bytes say, one after another.
use Rattle.std.specs.Prelude.{ℕ, ◌*◌, ◌/◌, cond, List, [], ◌∷◌, length, take, drop, replicate, Some, None, Option, ◌==◌, nat_lt}
use Rattle.std.specs.Int.{from_be_bytes, w16}
use Rattle.std.specs.Option.{option_map, option_and_then}
use Rattle.frame.specs.Orders.{numbers_of}
use Rattle.turns.specs.declared.calls.HolderCall.{HolderCall}
use Rattle.turns.specs.declared.calls.HolderCall.TheVariants.{Clear, Count, Rank, At, Add, Take}
use Rattle.calls.specs.Rules.{Buffers}
use Rattle.docket.specs.Buffers.{buffers_of}
use Rattle.calls.specs.Calls.{Call, place, run, lift, certify}
use Rattle.comparison.specs.Pieces.{all_pieces}
use Rattle.comparison.specs.declared.slots.SaidCall.{SaidCall}
use Rattle.comparison.specs.declared.slots.SaidCall.TheVariants.{Place, Run, Lift, Certify}

-- the number of 2 bytes at the front, and the bytes behind it; none where there are fewer
unfoldable pub front_number : List ℕ → Option (ℕ × List ℕ)
front_number bytes = cond (nat_lt (length bytes) 2) None (Some (from_be_bytes w16 (take 2 bytes), drop 2 bytes))

module _ {C : Type 0} where
  -- what is said of that number and what is behind it
  abbrev pub with_number : List ℕ → (ℕ → List ℕ → Option (C × List ℕ)) → Option (C × List ℕ)
  with_number bytes say = option_and_then (λ p. say p.0 p.1) (front_number bytes)

-- ---- on a holder

-- the call of a tag with a number
abbrev pub call_with_number : ℕ → ℕ → Option HolderCall
call_with_number tag n = cond (tag == 2) (Some (Rank n)) (cond (tag == 3) (Some (At n)) (cond (tag == 4) (Some (Add n)) (cond (tag == 5) (Some (Take n)) None)))

-- the call of a tag, and what is behind it
abbrev pub call_of_tag : ℕ → List ℕ → Option (HolderCall × List ℕ)
call_of_tag tag bytes =
    cond (tag == 0) (Some (Clear, bytes))
    (cond (tag == 1) (Some (Count, bytes)) (with_number bytes (λ n rest. option_map (λ call. (call, rest)) (call_with_number tag n))))

-- the call at the front of bytes, and what is behind it; none where no whole call stands there
abbrev pub front_holder_call : List ℕ → Option (HolderCall × List ℕ)
front_holder_call [] = None
front_holder_call (tag ∷ bytes) = call_of_tag tag bytes

-- the calls that bytes say, up to where no whole call stands
abbrev pub holder_calls : List ℕ → List HolderCall
holder_calls bytes = all_pieces front_holder_call bytes

-- ---- on a docket

-- new buffers with so many entries, all bits set in each
abbrev pub blank_buffers : ℕ → ℕ → ℕ → Buffers
blank_buffers ranks instants latenesses = buffers_of (replicate ranks 65535) (replicate instants 18446744073709551615) (replicate latenesses 65535)

-- a run along so many numbers at the front of bytes, and what is behind it
abbrev pub run_of_numbers : ℕ → List ℕ → Option (Call × List ℕ)
run_of_numbers count bytes = cond (nat_lt (length bytes) (2 * count)) None (Some (run (numbers_of count (take (2 * count) bytes)), drop (2 * count) bytes))

-- a certify into buffers of as many entries as three numbers at the front of bytes say, and what is behind it
abbrev pub certify_of_numbers : List ℕ → Option (Call × List ℕ)
certify_of_numbers bytes =
    with_number bytes (λ ranks after_ranks. with_number after_ranks (λ instants after_instants. with_number after_instants (λ latenesses behind. Some (certify (blank_buffers ranks instants latenesses), behind))))

-- the call of a tag, and what is behind it
abbrev pub docket_call_of_tag : ℕ → List ℕ → Option (Call × List ℕ)
docket_call_of_tag tag bytes =
    cond (tag == 0) (with_number bytes (λ operation rest. Some (place operation, rest)))
    (cond (tag == 1) (with_number bytes run_of_numbers) (cond (tag == 2) (Some (lift, bytes)) (cond (tag == 3) (certify_of_numbers bytes) None)))

-- the call at the front of bytes, and what is behind it; none where no whole call stands there
abbrev pub front_docket_call : List ℕ → Option (Call × List ℕ)
front_docket_call [] = None
front_docket_call (tag ∷ bytes) = docket_call_of_tag tag bytes

-- the calls that bytes say, up to where no whole call stands
abbrev pub docket_calls : List ℕ → List Call
docket_calls bytes = all_pieces front_docket_call bytes

-- ---- slots for them

-- the call that is said
abbrev pub call_said : SaidCall → Call
call_said (Place operation) = place operation
call_said (Run order) = run (numbers_of (length order.now / 2) order.now)
call_said Lift = lift
call_said (Certify ranks instants latenesses) = certify (blank_buffers ranks instants latenesses)

-- a slot for the call takes memory: for a run's order, or for a certify's buffers
abbrev pub TakesMemory : Call → Type 0
TakesMemory (place operation) = ⊥
TakesMemory (run order) = Unit {0}
TakesMemory lift = ⊥
TakesMemory (certify buffers) = Unit {0}
