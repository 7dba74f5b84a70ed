use Rattle.std.proofs.Common.{◌≡◌, ℕ, suc, ◌+◌, List, cond, eqb, refl, ap, ◌∙◌, arith, rules, tests}
use Rattle.std.specs.List.{position, position_or_len}
use Rattle.std.proofs.lemmas.Bool.Decides.{nat_tests}
use Rattle.std.proofs.lemmas.Iterator.{YieldsList-from_slice}
use Rattle.std.proofs.lemmas.Iterator.Search.{position_from_yields_List}
use Rattle.std.proofs.lemmas.List.Recursion.{is_position_or_len}
use Rattle.giving.specs.Lists.{place, first_place}
use Rattle.giving.proofs.Places.{place_only, place_inserted, times_absent}
use Rattle.giving.proofs.place_of.Goals as goal

-- the first place of a code in the library's words
placed : (a : ℕ) (L : List ℕ) → position (eqb a) L ≡ first_place a L
placed a L =
    let e : place a L ≡ position_or_len (eqb a) L = is_position_or_len (place a) (eqb a) refl (λ x xs. let one : suc (place a xs) ≡ 1 + place a xs = omega arith in ap (cond (eqb a x) 0) one) L in
    cc

pub returns-clause-value : goal.returns-clause-value
returns-clause-value c =
    let L = c.args.list.now in
    position_from_yields_List _ _ _ _ c.position.ensures.ran (YieldsList-from_slice L cc) (λ x b q k. search (rules, tests)) ∙ placed c.args.code L

pub returns-clause-only : goal.returns-clause-only
returns-clause-only c =
    let L = c.args.list.now in
    let v : c.position.result ≡ first_place c.args.code L = returns-clause-value c in
    λ o k h q. grind (arith, nat_tests, place_only c.args.code k L o h q)

pub returns-clause-seated : goal.returns-clause-seated
returns-clause-seated c =
    let L = c.args.list.now in
    let v : c.position.result ≡ first_place c.args.code L = returns-clause-value c in
    λ n s h. grind (arith, nat_tests, times_absent c.args.code L, place_inserted c.args.code s L)
