-- What is said in a text, and what is left to say. Assumes nothing.
use Rattle.std.proofs.Common.{◌≡◌, ℕ, ◌<◌, ◌≤◌, true, false, List, [], ◌++◌, length, Some, None, Option, MatchOption, Ok, Err, Result, is_ok, Bor, ap, ◌∙◌, ⊎_elim}
use Rattle.std.proofs.lemmas.Bool.{cases_lt}
use Rattle.std.specs.Option.{option_map}
use Rattle.trace.specs.declared.fault.ReadFault.{ReadFault}
use Rattle.trace.specs.Answers.{Said}
use Rattle.text.specs.Contents.{Content, unsaid, with_words, all_said}
use Rattle.text.proofs.Contents.{words_behind_words, nothing_said, whole_words, cut_words}
use Rattle.comparison.specs.Cases.{unless_unread}

-- what is left to say behind words that are said is no more than that behind both
pub left_to_say : (ws rest : List ℕ) (c : Content) {d : Content} → d ≡ with_words ws c → with_words rest d ≡ with_words (ws ++ rest) c
left_to_say ws rest c said = ap (with_words rest) said ∙ words_behind_words ws rest c

-- what is said of a trace where it is accepted, and its refusal where not
pub accepted_said : (r : Result Said ReadFault) (word ws : List ℕ) (c : Content) {d e : Content} →
    true ≡ is_ok r → d ≡ with_words (unless_unread word [] r) c → e ≡ with_words ws d → e ≡ with_words (unless_unread word ws r) c
accepted_said (Ok a) word ws c ok before said = said ∙ ap (with_words ws) (before ∙ nothing_said c)
accepted_said (Err e) word ws c ok before said = cc

pub refusal_said : (r : Result Said ReadFault) (word ws : List ℕ) (c : Content) {d : Content} →
    false ≡ is_ok r → d ≡ with_words (unless_unread word [] r) c → d ≡ with_words (unless_unread word ws r) c
refusal_said (Ok a) word ws c off said = cc
refusal_said (Err e) word ws c off said = said

-- words in memory of which nothing was said are all said where they fit, and else none are
module _ (ws m : List ℕ) (lender : ℕ) where
  pub all_that_fit : (o : Option (Bor (List ℕ))) → option_map (λ b. b.now) o ≡ all_said (with_words ws (unsaid m lender)) →
      MatchOption o (length m < length ws) (λ b. (b.now ≡ ws) × (length ws ≤ length m))
  all_that_fit None e = ⊎_elim (λ h. h) (λ h. let all = e ∙ ap all_said (whole_words ws m lender h) in absurd cc) (cases_lt (length m) (length ws))
  all_that_fit (Some b) e =
      ⊎_elim (λ h. let none = e ∙ ap all_said (cut_words ws m lender h) in absurd cc) (λ h. let all = e ∙ ap all_said (whole_words ws m lender h) in (cc, h))
      (cases_lt (length m) (length ws))
