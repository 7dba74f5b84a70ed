use Rattle.docket.proofs.Fronts.{front_read}
use Rattle.docket.proofs.docket.parts.first_codes.Goals as goal

pub returns : goal.returns
returns g c = front_read (g.H.Holder.giving c.args.holder.now) c.args.buffer.now c.front-held.new.buffer c.front-held.result c.front-held.ensures.answer c.front-held.ensures.written
