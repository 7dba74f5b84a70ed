-- A certificate is granted exactly when the order is true.
use Rattle.std.proofs.Common.{◌≡◌, ℕ, true, false, List, [], ◌∷◌, length, is_ok, IfOk, Some, None, Ok, Err, Option, Result, sym, refl, ap, ◌∙◌, subst}
use Rattle.giving.specs.Lists.{SeatRule}
use Rattle.order.specs.declared.operation.Paired.{Paired}
use Rattle.order.specs.Orders.{TrueOrder}
use Rattle.refusal.specs.declared.Refusal.{Refusal}
use Rattle.calls.specs.declared.certificate.Certificate.{Certificate}
use Rattle.calls.specs.declared.fault.DocketFault.{DocketFault}
use Rattle.calls.specs.Calls.{run}
use Rattle.calls.specs.Meanings.{Granted}
use Rattle.calls.specs.Rules.{Run, run_of, Buffers, is_too_short, certify_answer, written}
use Rattle.calls.proofs.Grants.{granted_long, true_granted}
use Rattle.calls.proofs.Law.{the_law}
use Rattle.calls.proofs.RunsAndLifts.{whole}
use Rattle.examination.specs.Orders.{unless_stopped, refused_as, order_answer, order_written}
use Rattle.examination.proofs.Runs.{ran_whole}

-- a certificate that is answered was granted where nothing stopped the run
unstopped : (s : Option DocketFault) (a : Result Certificate DocketFault) (c : Certificate) → refused_as (unless_stopped s a) ≡ Ok c → (s ≡ None) × (a ≡ Ok c)
unstopped (Some e) a c h = absurd (cc)
unstopped None (Ok d) c h = let q : d ≡ c = cc in (refl, ap Ok q)
unstopped None (Err e) c h = absurd (cc)

ok_unstopped : (s : Option DocketFault) (a : Result Certificate DocketFault) → is_ok (refused_as (unless_stopped s a)) ≡ true → (s ≡ None) × (is_ok a ≡ true)
ok_unstopped (Some e) a h = absurd (cc)
ok_unstopped None (Ok c) h = (refl, refl)
ok_unstopped None (Err e) h = absurd (cc)

module _ (seat : SeatRule) (ops : List Paired) (k : ℕ) (p : List ℕ) (b : Buffers) where
  -- whatever the buffers, a certificate is granted for a true order alone
  pub granted_is_true : is_ok (order_answer seat ops k p b) ≡ true → TrueOrder seat ops k p
  granted_is_true e =
      let h = ok_unstopped (run_of seat ops k [] 0 p).stopped (certify_answer seat ops p b) e in
      let s : (run_of seat ops k [] 0 p).steps ≡ p = ran_whole seat ops k p h.0 in
      let long = granted_long seat ops p b h.1 in
      let law = ((the_law seat ops k (run p ∷ [])).granted b long).0 in
      subst (λ z. TrueOrder seat ops k z) s (law (ap (λ z. is_ok (certify_answer seat ops z b)) s ∙ h.1))

  -- and a certificate says what is true
  pub certificate_is_true : (c : Certificate) → order_answer seat ops k p b ≡ Ok c → Granted seat ops k p b c (order_written seat ops k p b)
  certificate_is_true c e =
      let R = run_of seat ops k [] 0 p in
      let h = unstopped R.stopped (certify_answer seat ops p b) c e in
      let s : R.steps ≡ p = ran_whole seat ops k p h.0 in
      let g = (the_law seat ops k (run p ∷ [])).certified b c (ap (λ z. certify_answer seat ops z b) s ∙ h.1) in
      subst (λ (a : Result Certificate DocketFault). Granted seat ops k p b c (written seat ops p b a)) (sym (ap (λ z. unless_stopped z (certify_answer seat ops p b)) h.0 ∙ h.1))
      (subst (λ z. Granted seat ops k z b c (written seat ops z b (Ok c))) s g)

  pub certificates_are_true : (r : Result Certificate Refusal) (w : Buffers) → r ≡ order_answer seat ops k p b → w ≡ order_written seat ops k p b → IfOk r (λ c. Granted seat ops k p b c w)
  certificates_are_true (Ok c) w e v = subst (λ z. Granted seat ops k p b c z) (sym v) (certificate_is_true c (sym e))
  certificates_are_true (Err f) w e v = tt

module _ (seat : SeatRule) (ops : List Paired) (k : ℕ) (p : List ℕ) (b : Buffers) (long : is_too_short (length ops) b ≡ false) where
  pub true_is_granted : TrueOrder seat ops k p → is_ok (order_answer seat ops k p b) ≡ true
  true_is_granted o =
      ap (λ (z : Run). is_ok (refused_as (unless_stopped z.stopped (certify_answer seat ops p b)))) (whole seat ops k p o)
      ∙ ap (λ z. is_ok (refused_as z)) (true_granted seat ops k p o b long)

  pub granted_exactly : (r : Result Certificate Refusal) → r ≡ order_answer seat ops k p b → (is_ok r ≡ true → TrueOrder seat ops k p) × (TrueOrder seat ops k p → is_ok r ≡ true)
  granted_exactly r e = (λ h. granted_is_true seat ops k p b (sym (ap is_ok e) ∙ h), λ o. ap is_ok e ∙ true_is_granted o)
