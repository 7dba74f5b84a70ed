-- A kind and its number determine one another.
use Rattle.std.proofs.Common.{◌≡◌, ℕ, zero, suc, ◌≤◌, Ok, refl, arith}
use Rattle.std.proofs.lemmas.Bool.Decides.{nat_tests}
use Rattle.frame.specs.declared.kind.Kind.{Kind}
use Rattle.frame.specs.declared.kind.Kind.TheVariants.{Queue, Stack, CountingQueue}
use Rattle.frame.specs.Kinds.{kind_number, kind_named}

pub named_number : (kind : Kind) → kind_named (kind_number kind) ≡ Ok kind
named_number Queue = refl
named_number Stack = refl
named_number CountingQueue = refl

pub number_small : (kind : Kind) → kind_number kind ≤ 2
number_small Queue = omega arith
number_small Stack = omega arith
number_small CountingQueue = omega arith

pub kind_of : (n : ℕ) → n ≤ 2 → (kind : Kind) × (kind_number kind ≡ n)
kind_of zero h = (Queue, refl)
kind_of (suc zero) h = (Stack, refl)
kind_of (suc (suc zero)) h = (CountingQueue, refl)
kind_of (suc (suc (suc n))) h = absurd (omega arith)

pub number_named : (n : ℕ) (kind : Kind) → kind_named n ≡ Ok kind → kind_number kind ≡ n
number_named n kind e = grind (arith, nat_tests)
