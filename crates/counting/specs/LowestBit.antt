-- The lowest one bit. Assumes nothing.
use Rattle.std.specs.Prelude.{◌≡◌, ℕ, zero, suc, ◌+◌, ◌-◌, ◌*◌, ◌/◌, ◌%◌, ◌^◌, ◌<◌, ◌≤◌, ◌⊎◌}
use Rattle.std.proofs.Common.{ap, inl, inr, ⊎_elim, arith, pow_pos}
use Rattle.std.proofs.Math.Nat.{pow-succ'}
use Rattle.std.specs.Int.Count.{count_trailing_zeros}
use Rattle.std.proofs.lemmas.Bool.{cases_lt}
use Rattle.counting.specs.Blocks.{block, lowest_bit}

bit_odd : (k n : ℕ) → n % 2 ≡ 1 → lowest_bit (suc k) n ≡ 1
unfolding count_trailing_zeros
bit_odd k n e = rw e

bit_even : (k n : ℕ) → n % 2 ≡ 0 → lowest_bit (suc k) n ≡ 2 * lowest_bit k (n / 2)
unfolding count_trailing_zeros
bit_even k n e = rw e (pow-succ' 2 (count_trailing_zeros k (n / 2)))

parity : (n : ℕ) → (n % 2 ≡ 0) ⊎ (n % 2 ≡ 1)
parity n = ⊎_elim (λ (h : n % 2 < 1). inl (omega arith)) (λ (h : 1 ≤ n % 2). inr (omega arith)) (cases_lt (n % 2) 1)

some_bit : (k n : ℕ) → 0 < lowest_bit k n
some_bit k n = pow_pos (count_trailing_zeros k n)

bit_le : (k n : ℕ) → 0 < n → n < 2 ^ k → lowest_bit k n ≤ n
bit_le zero n s h = absurd (omega arith)
bit_le (suc k) n s h =
    let p = pow-succ' 2 k in
    ⊎_elim
    (λ (e : n % 2 ≡ 0). let b = bit_even k n e in let r = bit_le k (n / 2) (omega arith) (omega arith) in omega arith)
    (λ (e : n % 2 ≡ 1). let b = bit_odd k n e in omega arith)
    (parity n)

-- the next block is at least twice as long
bit_next : (k n : ℕ) → 0 < n → n < 2 ^ k → 2 * lowest_bit k n ≤ lowest_bit k (n + lowest_bit k n)
bit_next zero n s h = absurd (omega arith)
bit_next (suc k) n s h =
    let p = pow-succ' 2 k in
    ⊎_elim
    (λ (e : n % 2 ≡ 0).
    let b = bit_even k n e in
    let g = bit_even k (n + lowest_bit (suc k) n) (omega arith) in
    let half : (n + lowest_bit (suc k) n) / 2 ≡ n / 2 + lowest_bit k (n / 2) = omega arith in
    let r = bit_next k (n / 2) (omega arith) (omega arith) in
    let q = ap (lowest_bit k) half in
    omega arith)
    (λ (e : n % 2 ≡ 1).
    let b = bit_odd k n e in
    let g = bit_even k (n + lowest_bit (suc k) n) (omega arith) in
    let r = some_bit k ((n + lowest_bit (suc k) n) / 2) in
    omega arith)
    (parity n)

-- past n and inside its bit, the lowest one bit is that of what is past n
bit_past : (k n j : ℕ) → 0 < j → j < lowest_bit k n → lowest_bit k (n + j) ≡ lowest_bit k j
unfolding count_trailing_zeros
bit_past zero n j s h = absurd (omega arith)
bit_past (suc k) n j s h =
    ⊎_elim
    (λ (e : n % 2 ≡ 0).
    let b = bit_even k n e in
    ⊎_elim
    (λ (f : j % 2 ≡ 0).
    let g = bit_even k (n + j) (omega arith) in
    let i = bit_even k j f in
    let half : (n + j) / 2 ≡ n / 2 + j / 2 = omega arith in
    let r = bit_past k (n / 2) (j / 2) (omega arith) (omega arith) in
    let q = ap (lowest_bit k) half in
    omega arith)
    (λ (f : j % 2 ≡ 1). let g = bit_odd k (n + j) (omega arith) in let i = bit_odd k j f in omega arith)
    (parity j))
    (λ (e : n % 2 ≡ 1). let b = bit_odd k n e in absurd (omega arith))
    (parity n)

-- one more bit to look at changes nothing
bit_more : (k n : ℕ) → 0 < n → n < 2 ^ k → lowest_bit (suc k) n ≡ lowest_bit k n
bit_more zero n s h = absurd (omega arith)
bit_more (suc k) n s h =
    let p = pow-succ' 2 k in
    ⊎_elim
    (λ (e : n % 2 ≡ 0). let a = bit_even (suc k) n e in let b = bit_even k n e in let r = bit_more k (n / 2) (omega arith) (omega arith) in omega arith)
    (λ (e : n % 2 ≡ 1). let a = bit_odd (suc k) n e in let b = bit_odd k n e in omega arith)
    (parity n)

-- ---- the same, of `block`
pub block_some : (p : ℕ) → 0 < block p
unfolding block
block_some p = some_bit 16 p

-- a block begins at position 1 or after
pub block_le : (p : ℕ) → 0 < p → p < 65536 → block p ≤ p
unfolding block
block_le p s h = bit_le 16 p s h

-- the block that ends as far behind p as p's block is long is at least twice as long
pub block_next : (p : ℕ) → 0 < p → p < 65536 → 2 * block p ≤ block (p + block p)
unfolding block
block_next p s h = bit_next 16 p s h

-- behind p, as far as its block is long, the blocks are as long as from 0 on
pub block_past : (p j : ℕ) → 0 < j → j < block p → block (p + j) ≡ block j
unfolding block
block_past p j s h = bit_past 16 p j s h

-- a block that ends between p and the next block's end begins at p or after
pub block_inside : (p k : ℕ) → 0 < p → p < 65536 → p < k → k < p + block p → block k ≤ k - p
block_inside p k s w h l =
    let e : p + (k - p) ≡ k = omega arith in
    let b = block_le p s w in
    let past = block_past p (k - p) (omega arith) (omega arith) in
    let q = ap block e in
    omega (arith, block_le (k - p) (omega arith) (omega arith))

-- a number that is its own lowest bit is even, and so is its half
pub block_half : (w : ℕ) → 1 < w → w < 65536 → block w ≡ w → (w ≡ 2 * (w / 2)) × (block (w / 2) ≡ w / 2)
unfolding block
block_half w s h e =
    ⊎_elim
    (λ (f : w % 2 ≡ 0). let b = bit_even 15 w f in let m = bit_more 15 (w / 2) (omega arith) (omega arith) in (omega arith, omega arith))
    (λ (f : w % 2 ≡ 1). let b = bit_odd 15 w f in absurd (omega arith))
    (parity w)
