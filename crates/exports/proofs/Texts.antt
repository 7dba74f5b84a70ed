-- A text over the front of the memory that was lent for it, and its length.
use Rattle.std.proofs.Common.{◌≡◌, ◌<◌, ◌≤◌, ℕ, Bool, true, false, cond, List, ◌++◌, length, take, Some, None, refl, sym, ap, ◌∙◌, ⊎_elim, arith, nat_le}
use Rattle.std.proofs.lemmas.Bool.{cases_lt}
use Rattle.std.proofs.lemmas.Bool.Decides.{nat_tests}
use Rattle.std.proofs.lemmas.List.{take_all, take-append-drop}
use Rattle.std.specs.Option.{option_map, unwrap_or}
use Rattle.text.specs.declared.text.Text.{Text}
use Rattle.text.specs.Contents.{Content, content, unsaid, with_words, all_said}
use Rattle.exports.specs.Plain.{with_text, length_within, Written}

module _ (ws m : List ℕ) where
  length_where : (b : Bool) → b ≡ nat_le (length ws) (length m) → unwrap_or (option_map length (cond b (Some (take (length m) ws)) None)) 0 ≡ cond b (length ws) 0
  length_where true e = let fits : length ws ≤ length m = grind (arith, nat_tests) in ap length (take_all (length m) ws fits)
  length_where false e = refl

  module _ (lender : ℕ) (t : Text) (said : content t ≡ with_words ws (unsaid m lender)) where
    over_memory : t.memory.now ≡ with_text ws m
    unfolding with_words
    over_memory = sym (take-append-drop t.written t.memory.now) ∙ ap (λ (x : Content). x.bytes ++ x.free) said

    pub length_over : (n : ℕ) → n ≡ unwrap_or (option_map length (all_said (content t))) 0 → n ≡ length_within ws m
    unfolding with_words
    length_over n e =
        e ∙ ap (λ (x : Content). unwrap_or (option_map length (all_said x)) 0) said ∙ length_where (nat_le (length ws) (length m)) refl

    -- what the memory holds afterwards is what the text holds
    pub written_over : (n : ℕ) → n ≡ unwrap_or (option_map length (all_said (content t))) 0 → {after : List ℕ} → after ≡ t.memory.now → Written ws m n after
    written_over n e h = (length_over n e, h ∙ over_memory)

-- one that fits
pub length_of_fitting : (ws m : List ℕ) (n : ℕ) → n ≡ length_within ws m → length ws ≤ length m → n ≡ length ws
length_of_fitting ws m n e l = let fits : nat_le (length ws) (length m) ≡ true = grind (arith, nat_tests) in e ∙ ap (λ b. cond b (length ws) 0) fits

-- 0 is answered for a text that is not empty only where it does not fit
pub none_where_too_long : (ws m : List ℕ) (n : ℕ) → 0 < length ws → n ≡ length_within ws m → n ≡ 0 → length m < length ws
none_where_too_long ws m n some e z =
    ⊎_elim (λ h. h) (λ h. let l = length_of_fitting ws m n e h in absurd (omega (arith, l, some, z))) (cases_lt (length m) (length ws))
