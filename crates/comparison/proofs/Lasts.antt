-- References, as the values behind them.
use Rattle.std.proofs.Common.{◌≡◌, List, [], ◌∷◌, ℕ, Bor, refl, map, Some, None, Ok, Err, Option, Result, MatchResult}
use Rattle.std.specs.Option.{unwrap_or, option_map}
use Rattle.std.specs.Result.{result_unwrap_or}
use Rattle.std.specs.Str.{IsUtf8}
use Rattle.std.specs.List.{last_or}

pub now_unwrap : (o : Option (Bor (List ℕ))) (d : Bor (List ℕ)) → (unwrap_or o d).now ≡ unwrap_or (option_map (λ x. x.now) o) d.now
now_unwrap (Some x) d = refl
now_unwrap None d = refl

pub last_map : {A B : Type 0} (v : A → B) (o : Option A) (xs : List A) → option_map v (last_or o xs) ≡ last_or (option_map v o) (map v xs)
last_map v o [] = refl
last_map v o (x ∷ xs) = last_map v (Some x) xs

-- bytes that are text are read as it
module _ {E : Type 0} (X : E → Type 0) (bs : List ℕ) (text : IsUtf8 bs) where
  pub read_as_text : (r : Result (Bor (List ℕ)) E) (d : Bor (List ℕ)) → MatchResult r (λ s. (s.now ≡ bs) × IsUtf8 bs) (λ e. ¬ (IsUtf8 bs) × X e) → (result_unwrap_or r d).now ≡ bs
  read_as_text (Ok s) d h = h.0
  read_as_text (Err e) d h = absurd (h.0 text)
