-- Lists of codes: how often a code stands in one, where it stands first, the list without it, and where a new one goes in.
-- Assumes nothing.
use Rattle.std.specs.Prelude.{◌≡◌, ℕ, suc, ◌+◌, ◌≤◌, Bool, cond, List, [], ◌∷◌, Option, Some, None, length, ◌==◌, nat_lt}

-- how often a stands in a list: a does not stand in it where that is 0
abbrev pub times : ℕ → List ℕ → ℕ
times a [] = 0
times a (x ∷ xs) = cond (a == x) 1 0 + times a xs

-- the first place of a in a list: the list's length where a does not stand in it
abbrev pub place : ℕ → List ℕ → ℕ
place a [] = 0
place a (x ∷ xs) = cond (a == x) 0 (suc (place a xs))

-- whether a has a place in a list
abbrev pub stands : ℕ → List ℕ → Bool
stands a L = nat_lt (place a L) (length L)

-- the first place of a in a list, if it has one
abbrev pub first_place : ℕ → List ℕ → Option ℕ
first_place a L = cond (stands a L) (Some (place a L)) None

-- a list without the first a in it, the others in their order
abbrev pub without : ℕ → List ℕ → List ℕ
without a [] = []
without a (x ∷ xs) = cond (a == x) xs (x ∷ without a xs)

-- no code stands twice
abbrev pub Once : List ℕ → Type 0
Once L = (a : ℕ) → times a L ≤ 1

-- every code is below n
abbrev pub Below : ℕ → List ℕ → Type 0
Below n L = (a : ℕ) → n ≤ a → times a L ≡ 0

-- where a new code goes in, by the list and the code
abbrev pub SeatRule : Type 0
SeatRule = List ℕ → ℕ → ℕ
