-- What callers in other languages get: plain numbers, and text over the front of their memory.
use Rattle.std.specs.Prelude.{◌≡◌, ℕ, cond, List, ◌++◌, length, take, drop, Ok, Err, Result, nat_le}
use Rattle.refusal.specs.declared.Refusal.{Refusal}
use Rattle.refusal.specs.declared.Layer.{Layer}
use Rattle.refusal.specs.declared.Layer.TheVariants.{Frame, Record, Item, Sheet, Docket, Holder}
use Rattle.calls.specs.declared.certificate.Certificate.{Certificate}
use Rattle.exports.specs.declared.PlainOutcome.{PlainOutcome}

-- the layers, numbered from the bytes upward
abbrev pub number_of_layer : Layer → ℕ
number_of_layer Frame = 1
number_of_layer Record = 2
number_of_layer Item = 3
number_of_layer Sheet = 4
number_of_layer Docket = 5
number_of_layer Holder = 6

-- what came of an examination, as plain numbers: those that do not apply are 0
abbrev pub plain : Result Certificate Refusal → PlainOutcome
plain (Ok c) = record { status = 0; layer = 0; number = 0; place = 0; detail = 0; total = c.total; largest = c.largest; first = c.first }
plain (Err f) = record {
  status = 1;
  layer = number_of_layer f.layer;
  number = f.number;
  place = f.place;
  detail = f.detail;
  total = 0;
  largest = 0;
  first = 0;
}

-- the certificate that an outcome says
abbrev pub certificate_in : PlainOutcome → Certificate
certificate_in o = record { total = o.total; largest = o.largest; first = o.first }

-- memory with a text over its front, as far as it fits
abbrev pub with_text : List ℕ → List ℕ → List ℕ
with_text text memory = take (length memory) text ++ drop (length text) memory

-- how long a text is that fits the memory, and 0 of one that does not
abbrev pub length_within : List ℕ → List ℕ → ℕ
length_within text memory = cond (nat_le (length text) (length memory)) (length text) 0

-- the text is over the front of the memory that was given, as far as it fits, and its length is answered, or 0 where it does not fit
abbrev pub Written : List ℕ → List ℕ → ℕ → List ℕ → Type 0
Written text before n after = (n ≡ length_within text before) × (after ≡ with_text text before)
