use Rattle.std.proofs.Common.{[], ◌∷◌, ◌++◌, map, vec_items, ap, sym, ◌∙◌, append_assoc, append-nil}
use Rattle.std.proofs.lemmas.List.{map-append}
use Rattle.docket.specs.Slots.{call_of}
use Rattle.comparison.specs.Calls.{docket_calls}
use Rattle.comparison.proofs.slots.all_slots.Goals as goal

pub loop-call-preserved : goal.loop-call-preserved
loop-call-preserved c =
    let before = vec_items c.loop-call.slots in
    let slot = c.in_ok-slot.slot in
    let after = docket_calls c.next.new.self.0.now in (
      tt,
      tt,
      ap (λ l. map call_of l ++ after) c.in_ok-push.ensures.items
          ∙ ap (λ l. l ++ after) (map-append call_of before (slot ∷ []))
          ∙ append_assoc (map call_of before) (call_of slot ∷ []) after
          ∙ ap (λ call. map call_of before ++ (call ∷ after)) c.in_ok-slot.ensures.call
          ∙ ap (λ l. map call_of before ++ l) (sym c.in-Some.ensures.steps)
          ∙ c.loop-call.invariant.2,
      c.in_ok-push.ensures.refused ∙ c.in_ok-slot.ensures.refused ∙ c.loop-call.invariant.3,
    )

pub returns-clause-calls : goal.returns-clause-calls
returns-clause-calls c =
    let before = map call_of (vec_items c.loop-call.slots) in
    sym (append-nil before) ∙ ap (λ l. before ++ l) (sym c.in-None.ensures.steps.0) ∙ c.loop-call.invariant.2
