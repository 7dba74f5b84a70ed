-- The first n of a list after a write at n, and after a shift down to i. Assumes nothing.
use Rattle.std.proofs.Common.{◌≡◌, ℕ, suc, ◌+◌, ◌-◌, ◌<◌, ◌≤◌, List, length, take, drop, add-one, arith}
use lib.Seq.{paste}
use Rattle.std.specs.List.{remove}
use Rattle.std.proofs.lemmas.List.{take-take, drop-take, length-drop, length-take-le}
use Rattle.std.proofs.lemmas.List.Edits.{take-paste}
use Rattle.holder.specs.declared.row.Row.{Row}
use Rattle.holder.specs.Rows.{row_list}

shifted : (xs ys : List ℕ) (n i : ℕ) → n ≤ length xs → i < n → ys ≡ paste xs i (drop (i + 1) xs) (n - (i + 1)) → take (n - 1) ys ≡ remove (take n xs) i
shifted xs ys n i w h e =
    let m : ℕ = n - (i + 1) in
    let nm : n ≡ suc i + m = omega arith in
    let n1 : n - 1 ≡ i + m = omega arith in
    let front = take-take i n xs (omega arith) in
    let back = drop-take (suc i) m xs in
    let long : m ≤ length (drop (i + 1) xs) = rw length-drop (omega arith) in
    let all = take-paste xs i (drop (i + 1) xs) m (omega arith) long in
    cc (add-one i)

-- what a row holds after the codes behind place i moved up by one
pub row_removed : (r : Row) (ys : List ℕ) (i : ℕ) → i < length (row_list r) → ys ≡ paste r.codes i (drop (i + 1) r.codes) (r.len - (i + 1)) → take (r.len - 1) ys ≡ remove (row_list r) i
row_removed r ys i h e = let n = length-take-le r.len r.codes (omega arith) in shifted r.codes ys r.len i (omega arith) (omega arith) e
