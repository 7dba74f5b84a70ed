-- The order of a trace, two bytes for each number.
use Rattle.std.specs.Prelude.{ℕ, zero, suc, ◌/◌, ◌^◌, ◌<◌, List, [], ◌∷◌, length, map, take, drop, slice_index_or}
use Rattle.std.specs.Int.Digits.{number_from_digits}
use Rattle.std.specs.List.{AllByRecursion, range_with_len}
use Rattle.frame.specs.declared.order.Order.{Order}

-- the first n numbers that the bytes say
abbrev pub numbers_of : ℕ → List ℕ → List ℕ
numbers_of zero bs = []
numbers_of (suc n) bs = number_from_digits 256 (take 2 bs) ∷ numbers_of n (drop 2 bs)

-- all the numbers of an order; an odd byte at the end counts for nothing
abbrev pub order_of : Order → List ℕ
order_of o = numbers_of (length o.bytes.now / 2) o.bytes.now

-- the first n numbers of a list, with 0 past the last
abbrev pub first_numbers : ℕ → List ℕ → List ℕ
first_numbers n xs = map (λ i. slice_index_or xs i 0) (range_with_len 0 n)

-- each number has 16 bits
abbrev pub Small : List ℕ → Type 0
Small = AllByRecursion (λ n. n < 2 ^ 16)
