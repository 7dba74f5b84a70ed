use Rattle.std.proofs.Common.{◌≡◌, ◌∙◌, rules}
use Rattle.std.specs.Option.{option_map}
use Rattle.std.specs.Result.{result_err}
use Rattle.sheet.specs.Sheets.{room}
use Rattle.trace.specs.Faults.{read_refusal}
use Rattle.trace.specs.Reading.{reading}
use Rattle.trace_tests.proofs.Refusals.{refusal_is}
use Rattle.trace_tests.proofs.cases.refusal_of.Goals as goal

pub returns : goal.returns
returns g c =
    let mapped : c.map.result ≡ option_map read_refusal (result_err c.read.result) = search rules in
    mapped ∙ refusal_is c.read.result (reading g.I.Item (room c.args.sheet.now) c.args.bytes.now) c.read.ensures.answer
