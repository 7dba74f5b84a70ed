use Rattle.std.proofs.Common.{◌≡◌, Some, get_or, ap, ◌∙◌, arith, rules}
use Rattle.std.specs.Option.{ok_or}
use Rattle.holder.specs.declared.fault.HolderFault.TheVariants.{NoSuchPlace}
use Rattle.counting.specs.Slots.{codes}
use Rattle.counting.specs.Codes.{length_all, code_in}
use Rattle.counting.proofs.queue.CountingQueueHolder.at.Goals as goal

pub select-slot-requires : goal.select-slot-requires
select-slot-requires c = let n = length_all c.args.self.now.arrivals.slots 1024 (omega arith) in omega arith

pub returns : goal.returns
returns c =
    let s = c.args.self.now.arrivals.slots in
    let a = code_in s c.select-slot.result.number c.select-slot.ensures.held in
    let code : c.get.result ≡ Some (get_or (codes s) c.args.place 0) = c.get.ensures ∙ a.1 ∙ ap (λ n. Some (get_or (codes s) n 0)) c.select-slot.ensures.before in
    let ok = c.ok_or.ensures.value ∙ ap (λ o. ok_or o NoSuchPlace) code in
    search rules
