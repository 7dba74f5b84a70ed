use Rattle.std.proofs.Common.{◌≡◌, Ok, rules}
use Rattle.frame.specs.Kinds.{kind_named}
use Rattle.frame.proofs.KindNumbers.{number_named}
use Rattle.trace.proofs.write.write.Goals as goal

pub returns : goal.returns
returns g c =
    let named : kind_named c.args.kind ≡ Ok c.in_ok-kind.kind = search rules in
    let number = number_named c.args.kind c.in_ok-kind.kind named in
    let e = c.write_of_kind.ensures in
    record { answer = rw number at e.answer; bytes = rw number at e.bytes; reads_as_what_went_in = rw number at e.reads_as_what_went_in }
