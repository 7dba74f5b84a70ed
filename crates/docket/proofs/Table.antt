-- The table read as operations, and what its entries are after changes at one code after another. Assumes nothing.
use Rattle.std.proofs.Common.{◌≡◌, ℕ, zero, suc, ◌+◌, ◌-◌, ◌<◌, ◌≤◌, List, [], ◌∷◌, ◌++◌, map, length, get_or, take, sym, refl, ap, ◌∙◌, ⊎_elim, arith, length-set}
use lib.ListN.{length-map}
use Rattle.std.proofs.lemmas.List.{get_or-take, get_or-map, get_or-set_same, get_or-set_other, length-take-le, take_more}
use Rattle.std.proofs.lemmas.Bool.{cases_eq}
use Rattle.giving.specs.Lists.{times}
use Rattle.giving.proofs.Counts.{times_here, times_there}
use Rattle.order.specs.Steps.{operation}
use Rattle.docket.specs.declared.entry.Entry.{Entry}
use Rattle.docket.specs.declared.ledger.Ledger.{Ledger}
use Rattle.docket.specs.Kept.{blank, entry_of, numbers_in, Flagged}
use Rattle.docket.specs.InAgreement.{paired_in}
use Rattle.docket.specs.Moves.{with_late, one_more, one_less, changed_at, changed_all}

pub op_at : (es : List Entry) (n x : ℕ) → n ≤ length es → x < n → operation (take n (map paired_in es)) x ≡ paired_in (entry_of es x)
op_at es n x l h = get_or-take n (map paired_in es) x _ h ∙ get_or-map paired_in es x blank _ (omega arith)

pub length_ops : (es : List Entry) (n : ℕ) → n ≤ length es → length (take n (map paired_in es)) ≡ n
length_ops es n l = length-take-le n (map paired_in es) (omega (arith, length-map es paired_in))

-- what a change leaves alone
module _ {Y : Type 0} (F : Entry → Y) (f : Entry → Entry) (same : (e : Entry) → F (f e) ≡ F e) where
  pub keeps_one : (es : List Entry) (c k : ℕ) → F (entry_of (changed_at f es c) k) ≡ F (entry_of es k)
  keeps_one [] c k = refl
  keeps_one (e ∷ es) zero zero = same e
  keeps_one (e ∷ es) zero (suc k) = refl
  keeps_one (e ∷ es) (suc c) zero = refl
  keeps_one (e ∷ es) (suc c) (suc k) = keeps_one es c k

  pub keeps_all : (cs : List ℕ) (es : List Entry) (k : ℕ) → F (entry_of (changed_all f es cs) k) ≡ F (entry_of es k)
  unfolding changed_all
  keeps_all [] es k = refl
  keeps_all (c ∷ cs) es k = keeps_all cs (changed_at f es c) k ∙ keeps_one es c k

  pub map_keeps_one : (es : List Entry) (c : ℕ) → map F (changed_at f es c) ≡ map F es
  map_keeps_one [] c = refl
  map_keeps_one (e ∷ es) zero = ap (λ (y : Y). y ∷ map F es) (same e)
  map_keeps_one (e ∷ es) (suc c) = ap (λ (l : List Y). F e ∷ l) (map_keeps_one es c)

  pub map_keeps_all : (cs : List ℕ) (es : List Entry) → map F (changed_all f es cs) ≡ map F es
  unfolding changed_all
  map_keeps_all [] es = refl
  map_keeps_all (c ∷ cs) es = map_keeps_all cs (changed_at f es c) ∙ map_keeps_one es c

-- a part of the entry that is changed, and of another
module _ {Y : Type 0} (part : Entry → Y) (f : Entry → Entry) (es : List Entry) (c k : ℕ) where
  pub changed_here : k ≡ c → k < length es → part (entry_of (changed_at f es c) k) ≡ part (f (entry_of es k))
  changed_here e h = ap (λ (j : ℕ). part (entry_of (changed_at f es j) k)) (sym e) ∙ ap part (get_or-set_same es k (f (entry_of es k)) blank h)

  pub changed_there : (k ≡ c → ⊥) → part (entry_of (changed_at f es c) k) ≡ part (entry_of es k)
  changed_there e = ap part (get_or-set_other es c k (f (entry_of es c)) blank e)

-- f applied n times to v
abbrev applied : (ℕ → ℕ) → ℕ → ℕ → ℕ
applied f zero v = v
applied f (suc n) v = applied f n (f v)

-- the lateness of k is changed once for each time that k stands in the codes
pub late_changed : (f : ℕ → ℕ) (cs : List ℕ) (es : List Entry) (k : ℕ) → k < length es → (entry_of (changed_all (with_late f) es cs) k).late ≡ applied f (times k cs) (entry_of es k).late
unfolding changed_all
late_changed f [] es k h = refl
late_changed f (c ∷ cs) es k h =
    let n = length-set es c (with_late f (entry_of es c)) in
    late_changed f cs (changed_at (with_late f) es c) k (omega arith)
    ∙ ⊎_elim
    (λ (e : k ≡ c).
    let t : suc (times k cs) ≡ times k (c ∷ cs) = omega (arith, times_here k c cs e) in
    ap (applied f (times k cs)) (changed_here (λ (v : Entry). v.late) (with_late f) es c k e h)
    ∙ ap (λ (m : ℕ). applied f m (entry_of es k).late) t)
    (λ (e : k ≡ c → ⊥).
    ap (applied f (times k cs)) (changed_there (λ (v : Entry). v.late) (with_late f) es c k e)
    ∙ sym (ap (λ (m : ℕ). applied f m (entry_of es k).late) (times_there k c cs e)))
    (cases_eq k c)

pub more_applied : (n v : ℕ) → v + n ≤ 65535 → applied one_more n v ≡ v + n
more_applied zero v h = omega arith
more_applied (suc n) v h = omega (arith, more_applied n (one_more v) (omega arith))

pub less_applied : (n v : ℕ) → applied one_less n v ≡ v - n
less_applied zero v = omega arith
less_applied (suc n) v = omega (arith, less_applied n (one_less v))

-- changed latenesses leave the flags
pub flag_kept : (f : ℕ → ℕ) (es fs : List Entry) (cs : List ℕ) (x : ℕ) → fs ≡ changed_all (with_late f) es cs → (entry_of fs x).placed ≡ (entry_of es x).placed
flag_kept f es fs cs x e = ap (λ (v : List Entry). (entry_of v x).placed) e ∙ keeps_all (λ (v : Entry). v.placed) (with_late f) (λ v. refl) cs es x

pub flags_kept : (f : ℕ → ℕ) (l : Ledger) (fs : List Entry) (cs : List ℕ) → fs ≡ changed_all (with_late f) l.entries cs → Flagged fs l.count (numbers_in l.steps) l.placed
flags_kept f l fs cs e = λ x h. flag_kept f l.entries fs cs x e ∙ l.flagged x h

-- ---- the entries changed at one code after another
module _ (f : Entry → Entry) where
  changed_push : (es : List Entry) (cs : List ℕ) (c : ℕ) → changed_all f es (cs ++ c ∷ []) ≡ changed_at f (changed_all f es cs) c
  unfolding changed_all
  changed_push es [] c = refl
  changed_push es (d ∷ cs) c = changed_push (changed_at f es d) cs c

  pub changed_more : (es : List Entry) (L : List ℕ) (i : ℕ) → i < length L → changed_all f es (take (i + 1) L) ≡ changed_at f (changed_all f es (take i L)) (get_or L i 0)
  changed_more es L i h = ap (changed_all f es) (take_more L i 0 h) ∙ changed_push es (take i L) (get_or L i 0)

  -- a turn
  pub changed_step : (es₀ es es' : List Entry) (L : List ℕ) (i c : ℕ) → i < length L → c ≡ get_or L i 0 → es ≡ changed_all f es₀ (take i L) → es' ≡ changed_at f es c → es' ≡ changed_all f es₀ (take (i + 1) L)
  changed_step es₀ es es' L i c h is was put = put ∙ ap (changed_at f es) is ∙ ap (λ (e : List Entry). changed_at f e (get_or L i 0)) was ∙ sym (changed_more es₀ L i h)
