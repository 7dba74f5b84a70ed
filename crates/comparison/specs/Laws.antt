-- What is written is read back. Assumes nothing.
use Rattle.std.specs.Prelude.{◌≡◌, ℕ, ◌^◌, ◌<◌, ◌≤◌, ◌⊎◌, List, [], ◌∷◌, ◌++◌, length, take}
use Rattle.std.specs.List.{AllByRecursion, flat_map}
use Rattle.record.specs.Bytes.{bytes_of_number}
use Rattle.frame.specs.Orders.{Small}
use Rattle.turns.specs.declared.calls.HolderCall.{HolderCall}
use Rattle.turns.specs.declared.calls.HolderCall.TheVariants.{Clear, Count, Rank, At, Add, Take}
use Rattle.calls.specs.Calls.{Call, place, run, lift, certify}
use Rattle.comparison.specs.Calls.{holder_calls, blank_buffers, docket_calls}
use Rattle.comparison.specs.Files.{Case, cases_in}

-- what is there of one that fits and is cut off: fewer bytes than it has, or none at all
abbrev pub IsCutOff : {C : Type 0} → (C → Type 0) → (C → List ℕ) → List ℕ → Type 0
IsCutOff {C} Fits write bytes = (x : C) × Fits x × (n : ℕ) × (n < length (write x)) × (bytes ≡ take n (write x))

-- ---- the cases in a file

-- a case as bytes: its letter, the length of its body, and the body
abbrev pub bytes_of_case : Case → List ℕ
bytes_of_case case = case.0 ∷ (bytes_of_number 4 (length case.1) ++ case.1)

-- the length of the body has 32 bits
abbrev pub CaseFits : Case → Type 0
CaseFits case = length case.1 < 2 ^ 32

-- the cases in a file are those that stand in it one after another, up to its end or to one that is cut off
abbrev pub CasesAreReadBack : Type 0
CasesAreReadBack = (cases : List Case) (rest : List ℕ) → AllByRecursion CaseFits cases → IsCutOff CaseFits bytes_of_case rest → cases_in (flat_map bytes_of_case cases ++ rest) ≡ cases

-- ---- the calls that bytes say

-- a byte, and behind it numbers of 2 bytes each
abbrev pub bytes_of_parts : ℕ × List ℕ → List ℕ
bytes_of_parts parts = parts.0 ∷ flat_map (bytes_of_number 2) parts.1

-- bytes of which the first is that of no call: calls have those below a number
abbrev pub StartsWithNoCall : ℕ → List ℕ → Type 0
StartsWithNoCall count bytes = (byte : ℕ) × (behind : List ℕ) × (count ≤ byte) × (bytes ≡ byte ∷ behind)

-- ---- calls on a holder

-- the byte of a call and its numbers
abbrev pub holder_parts : HolderCall → ℕ × List ℕ
holder_parts Clear = (0, [])
holder_parts Count = (1, [])
holder_parts (Rank number) = (2, number ∷ [])
holder_parts (At number) = (3, number ∷ [])
holder_parts (Add number) = (4, number ∷ [])
holder_parts (Take number) = (5, number ∷ [])

-- a call as bytes
abbrev pub bytes_of_holder_call : HolderCall → List ℕ
bytes_of_holder_call call = bytes_of_parts (holder_parts call)

-- its number has 16 bits
abbrev pub HolderCallFits : HolderCall → Type 0
HolderCallFits call = Small (holder_parts call).1

-- the calls that bytes say are those that stand there one after another, up to the end, to one that is cut off, or to a byte
-- that is no call
abbrev pub HolderCallsAreReadBack : Type 0
HolderCallsAreReadBack = (calls : List HolderCall) (rest : List ℕ) → AllByRecursion HolderCallFits calls → IsCutOff HolderCallFits bytes_of_holder_call rest ⊎ StartsWithNoCall 6 rest
    → holder_calls (flat_map bytes_of_holder_call calls ++ rest) ≡ calls

-- ---- calls on a docket

-- the byte of a call and its numbers
abbrev pub docket_parts : Call → ℕ × List ℕ
docket_parts (place operation) = (0, operation ∷ [])
docket_parts (run order) = (1, length order ∷ order)
docket_parts lift = (2, [])
docket_parts (certify buffers) = (3, length buffers.ranks ∷ length buffers.instants ∷ length buffers.latenesses ∷ [])

-- a call as bytes
abbrev pub bytes_of_docket_call : Call → List ℕ
bytes_of_docket_call call = bytes_of_parts (docket_parts call)

-- the buffers of a certify are new
abbrev pub HasNewBuffers : Call → Type 0
HasNewBuffers (place operation) = Unit {0}
HasNewBuffers (run order) = Unit {0}
HasNewBuffers lift = Unit {0}
HasNewBuffers (certify buffers) = buffers ≡ blank_buffers (length buffers.ranks) (length buffers.instants) (length buffers.latenesses)

-- and its numbers have 16 bits
abbrev pub DocketCallFits : Call → Type 0
DocketCallFits call = HasNewBuffers call × Small (docket_parts call).1

-- the same of calls on a docket
abbrev pub DocketCallsAreReadBack : Type 0
DocketCallsAreReadBack = (calls : List Call) (rest : List ℕ) → AllByRecursion DocketCallFits calls → IsCutOff DocketCallFits bytes_of_docket_call rest ⊎ StartsWithNoCall 4 rest
    → docket_calls (flat_map bytes_of_docket_call calls ++ rest) ≡ calls
