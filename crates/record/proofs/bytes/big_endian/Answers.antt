use Rattle.std.proofs.Common.{◌≡◌, ◌+◌, ◌*◌, ◌%◌, ◌^◌, length, refl, ◌∙◌, arith, rules}
use Rattle.std.specs.List.{fold}
use Rattle.record.proofs.Digits.{running, narrow, bytes_of_type}
use Rattle.record.proofs.bytes.big_endian.Goals as goal

pub returns : goal.returns
returns c =
    let xs = c.args.bytes.now in
    let folded : c.fold.result ≡ fold (λ n b. (n * 256 % 2 ^ 64 + b) % 2 ^ 64) 0 xs = search rules in
    let value = folded ∙ running 0 0 xs refl in
    record { value = value; narrow = narrow c.fold.result (length xs) xs (bytes_of_type xs c.type_inv.bytes) (omega arith) value }
