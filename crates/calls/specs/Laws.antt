-- What holds after every list of calls on a newly opened docket. Assumes nothing.
use Rattle.std.specs.Prelude.{◌≡◌, ℕ, true, false, ◌⊎◌, List, [], ◌∷◌, ◌++◌, length, is_ok, None, Ok, Err, Result, slice_index}
use Rattle.std.specs.List.{sum}
use Rattle.giving.specs.Lists.{SeatRule}
use Rattle.order.specs.declared.operation.Paired.{Paired}
use Rattle.order.specs.Steps.{rank_errors, passings_over}
use Rattle.order.specs.Orders.{Placed, TrueOrder}
use Rattle.order.specs.ByPlace.{InTimeOrder}
use Rattle.calls.specs.declared.fault.DocketFault.{DocketFault}
use Rattle.calls.specs.declared.fault.DocketFault.TheVariants.{AboveBound}
use Rattle.calls.specs.declared.certificate.Certificate.{Certificate}
use Rattle.calls.specs.Faults.{code_of}
use Rattle.calls.specs.Rules.{place_answer, Buffers, is_too_short, certify_answer, written}
use Rattle.calls.specs.Calls.{Call, run, Answer, to_run, answer_for, answers_for, placed_by}
use Rattle.calls.specs.Meanings.{Costs, Placing, Granted}
use Rattle.calls.specs.Sessions.{Session}

module _ (seat : SeatRule) (ops : List Paired) (k : ℕ) (calls : List Call) where
  -- the steps placed by the calls
  abbrev pub steps : List ℕ
  steps = placed_by seat ops k [] calls

  -- each placed step passed every rule when it was placed
  abbrev pub EveryStepWasAcceptable : Type 0
  EveryStepWasAcceptable = Placed seat ops k steps

  -- place gives an answer exactly where the condition of that answer holds
  abbrev pub PlacingIsJudgedByTheRules : Type 0
  PlacingIsJudgedByTheRules = (x : ℕ) (a : Result ℕ DocketFault)
      → (place_answer seat ops k steps x ≡ a → Placing seat ops k steps x a) × (Placing seat ops k steps x a → place_answer seat ops k steps x ≡ a)

  -- with buffers long enough, a certificate is granted exactly when the steps form a true order
  abbrev pub GrantedExactlyWhenTrue : Type 0
  GrantedExactlyWhenTrue = (b : Buffers) → is_too_short (length ops) b ≡ false
      → (is_ok (certify_answer seat ops steps b) ≡ true → TrueOrder seat ops k steps) × (TrueOrder seat ops k steps → is_ok (certify_answer seat ops steps b) ≡ true)

  -- with nothing placed, a run of a true order places it whole
  abbrev pub TrueOrdersRunWhole : Type 0
  TrueOrdersRunWhole = steps ≡ [] → (o : List ℕ) → TrueOrder seat ops k o
      → (answer_for seat ops k steps (run o) ≡ to_run (length ops) (code_of None)) × (placed_by seat ops k [] (calls ++ (run o ∷ [])) ≡ o)

  -- a rank error that is answered, or named by a refusal, is the length of a shortest stretch
  abbrev pub AnsweredRankErrorsAreShortestStretches : Type 0
  AnsweredRankErrorsAreShortestStretches = (x r : ℕ)
      → (place_answer seat ops k steps x ≡ Ok r) ⊎ (place_answer seat ops k steps x ≡ Err (AboveBound (length steps) r)) → Costs seat ops steps x r

  -- and so is that of each placed step
  abbrev pub PlacedRankErrorsAreShortestStretches : Type 0
  PlacedRankErrorsAreShortestStretches = (u v : List ℕ) (x : ℕ) → steps ≡ u ++ (x ∷ v) → Costs seat ops u x (slice_index (rank_errors seat ops steps) (length u))

  -- the rank errors add up to how often the steps passed over an item
  abbrev pub RankErrorsAddUpToPassingsOver : Type 0
  RankErrorsAddUpToPassingsOver = sum (rank_errors seat ops steps) ≡ passings_over seat ops steps

  -- what a granted certificate says and writes: shortest stretches, least instants, latenesses, and one sum three times over
  abbrev pub GrantedCertificatesAreTrue : Type 0
  GrantedCertificatesAreTrue = (b : Buffers) (c : Certificate) → certify_answer seat ops steps b ≡ Ok c → Granted seat ops k steps b c (written seat ops steps b (Ok c))

  -- the placed order never sets a step before one that precedes it in time
  abbrev pub PlacedOrderKeepsToTime : Type 0
  PlacedOrderKeepsToTime = InTimeOrder ops steps

  -- each answer is the rules' on the steps that the calls before it left
  abbrev pub EveryAnswerIsTheRules : Type 0
  EveryAnswerIsTheRules = (before : List Call) (c : Call) (later : List Call) → calls ≡ before ++ (c ∷ later)
      → answers_for seat ops k [] calls
      ≡ answers_for seat ops k [] before ++ (answer_for seat ops k (placed_by seat ops k [] before) c ∷ answers_for seat ops k (placed_by seat ops k [] (before ++ (c ∷ []))) later)

  -- the answers and the steps left make a session
  abbrev pub AnswersMakeASession : Type 0
  AnswersMakeASession = Session seat ops k [] calls (answers_for seat ops k [] calls) steps

  -- and nothing else does
  abbrev pub NothingElseMakesASession : Type 0
  NothingElseMakesASession = (answers : List Answer) (q : List ℕ) → Session seat ops k [] calls answers q → (answers ≡ answers_for seat ops k [] calls) × (q ≡ steps)

  -- the whole law over a list of calls
  pub record LawOfCalls : Type 0 where
    pub rules : EveryAnswerIsTheRules
    pub session : AnswersMakeASession
    pub only_session : NothingElseMakesASession
    pub acceptable : EveryStepWasAcceptable
    pub judged : PlacingIsJudgedByTheRules
    pub granted : GrantedExactlyWhenTrue
    pub whole : TrueOrdersRunWhole
    pub answered : AnsweredRankErrorsAreShortestStretches
    pub step_costs : PlacedRankErrorsAreShortestStretches
    pub sums : RankErrorsAddUpToPassingsOver
    pub certified : GrantedCertificatesAreTrue
    pub in_time : PlacedOrderKeepsToTime

-- it holds for every seat rule, all operations, every bound and every list of calls
abbrev pub CallsKeepTheLaw : Type 0
CallsKeepTheLaw = (seat : SeatRule) (ops : List Paired) (k : ℕ) (calls : List Call) → LawOfCalls seat ops k calls
