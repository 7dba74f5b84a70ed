-- The rank error is the length of the shortest stretch. Assumes nothing.
use Rattle.std.proofs.Common.{◌≡◌, ℕ, suc, ◌<◌, ◌≤◌, true, false, eqb, List, [], ◌∷◌, ◌++◌, length, take, drop, sym, refl, ap, ◌∙◌, append-nil, arith, length-append, take-append-drop, length-take-le}
use Rattle.std.proofs.lemmas.Bool.{cond_both, cond-true, eqb-true, eq-eqb, ltb-true, lt-ltb, both_ways}
use Rattle.giving.specs.Lists.{place}
use Rattle.order.specs.declared.operation.Deed.{Deed}
use Rattle.order.specs.declared.operation.Deed.TheVariants.{Add, Take, TakeOfNone, FoundEmpty}
use Rattle.order.specs.Steps.{has_rank, rank_error}
use Rattle.order.specs.Strict.{Gives, Stretch, ShortestStretch}
use Rattle.order.specs.Laws.{CostOf}

place_gives : (a : ℕ) (L : List ℕ) → place a L < length L → Gives (Take a) (drop (place a L) L)
place_gives a [] h = omega arith
place_gives a (x ∷ xs) h =
    cond_both (eqb a x) 0 (suc (place a xs)) (λ v. v < suc (length xs) → Gives (Take a) (drop v (x ∷ xs)))
    (λ e l. sym (eqb-true a x e)) (λ e l. place_gives a xs (omega arith)) h

place_head : (a x : ℕ) (xs : List ℕ) → x ≡ a → place a (x ∷ xs) ≡ 0
place_head a x xs e = cond-true (eqb a x) 0 (suc (place a xs)) (eq-eqb a x (sym e))

place_before : (a : ℕ) (v w : List ℕ) → Gives (Take a) w → place a (v ++ w) ≤ length v
place_before a [] [] g = absurd g
place_before a [] (x ∷ w) g = omega (arith, place_head a x w g)
place_before a (y ∷ v) w g =
    cond_both (eqb a y) 0 (suc (place a (v ++ w))) (λ n. n ≤ suc (length v)) (λ e. omega arith) (λ e. omega (arith, place_before a v w g))

-- the items before the answer are a stretch
items_before : (d : Deed) (L : List ℕ) → has_rank d L ≡ true → Stretch d L (rank_error d L)
items_before Add L h = record { before = []; removed = []; behind = L; parts = refl; count = refl; gives = tt }
items_before (Take a) L h =
    let l : place a L < length L = ltb-true (place a L) (length L) h in
    record {
      before = [];
      removed = take (place a L) L;
      behind = drop (place a L) L;
      parts = sym (take-append-drop (place a L) L);
      count = length-take-le (place a L) L (omega arith);
      gives = place_gives a L l;
    }
items_before TakeOfNone L h = absurd (both_ways false refl h)
items_before FoundEmpty L h = record { before = []; removed = L; behind = []; parts = sym (append-nil L); count = refl; gives = tt }

least : (d : Deed) (u v w : List ℕ) → Gives d (u ++ w) → rank_error d (u ++ (v ++ w)) ≤ length v
least Add u v w g = omega arith
least (Take a) [] v w g = place_before a v w g
least (Take a) (x ∷ u) v w g = omega (arith, place_head a x (u ++ (v ++ w)) g)
least TakeOfNone u v w g = absurd g
least FoundEmpty [] v [] g = rw append-nil (omega arith)
least FoundEmpty [] v (x ∷ w) g = absurd g
least FoundEmpty (x ∷ u) v w g = absurd g

-- where the removal of a stretch makes the strict object give the answer, the step has a rank error
gives_rank : (d : Deed) (u v w : List ℕ) → Gives d (u ++ w) → has_rank d (u ++ (v ++ w)) ≡ true
gives_rank Add u v w g = refl
gives_rank (Take a) [] v [] g = absurd g
gives_rank (Take a) [] v (x ∷ w) g = lt-ltb _ _ (omega (arith, least (Take a) [] v (x ∷ w) g, length-append v (x ∷ w)))
gives_rank (Take a) (x ∷ u) v w g = lt-ltb _ _ (omega (arith, place_head a x (u ++ (v ++ w)) g))
gives_rank TakeOfNone u v w g = absurd g
gives_rank FoundEmpty u v w g = refl

pub shortest : (d : Deed) (L : List ℕ) → has_rank d L ≡ true → ShortestStretch d L (rank_error d L)
shortest d L h = record {
  stretch = items_before d L h;
  fewest = λ s z. omega (arith, ap (rank_error d) z.parts, least d z.before z.removed z.behind z.gives, z.count);
}

pub has_one : (d : Deed) (L : List ℕ) (r : ℕ) → Stretch d L r → has_rank d L ≡ true
has_one d L r z = ap (has_rank d) z.parts ∙ gives_rank d z.before z.removed z.behind z.gives

pub only : (d : Deed) (L : List ℕ) (r : ℕ) → ShortestStretch d L r → r ≡ rank_error d L
only d L r s =
    let g : ShortestStretch d L (rank_error d L) = shortest d L (has_one d L r s.stretch) in
    omega (arith, s.fewest (rank_error d L) g.stretch, g.fewest r s.stretch)

pub cost_of : (d : Deed) (L : List ℕ) → CostOf d L
cost_of d L = record { shortest = shortest d L; has_one = has_one d L; only = only d L }
