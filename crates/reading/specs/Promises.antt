-- What the functions of `reading` promise: the step r is that of reading on from a place of the text.
use Rattle.std.specs.Prelude.{◌≡◌, List, [], ◌∷◌, ℕ, leb, Result, Ok, Err, ⊤}
use Rattle.refusals.specs.declared.Refusal.{Refusal}
use Rattle.refusals.specs.declared.Refusal.TheVariants as Wrong
use Rattle.refusals.specs.Numbers.{table_of}
use Rattle.text.specs.declared.Number.{Number}
use Rattle.text.specs.declared.Malformed.{Malformed}
use Rattle.text.specs.Tokens.{number_at}
use Rattle.reading.specs.declared.Fault.{Fault}
use Rattle.reading.specs.declared.Read.{Read}
use Rattle.reading.specs.Reading.{number, any_number, range, name, ended}
use Rattle.reading.specs.Steps.{ComesTo}

-- 7 at the start of the token
abbrev pub IsFaultOf : Malformed → Fault → Type 0
IsFaultOf m f = f ≡ record { refusal = Wrong.Malformed; at = m.start }

-- the number and the place after it where the judge lets it through, else the judge's refusal at the number's start
abbrev pub answered : Number → Result ⊤ Refusal → Result (Read ℕ) Fault
answered n (Ok _) = Ok (record { what = n.value; after = n.after })
answered n (Err refusal) = Err (record { refusal = refusal; at = n.start })

-- what is no number is refused; of a number the step is what the judge says of it
abbrev pub JudgedBy : (ℕ → Result ⊤ Refusal → Type 0) → Result Number Malformed → Result (Read ℕ) Fault → Type 0
JudgedBy Says (Err m) r = r ≡ Err (record { refusal = Wrong.Malformed; at = m.start })
JudgedBy Says (Ok n) r = (said : Result ⊤ Refusal) × Says n.value said × (r ≡ answered n said)

module _ (text : List ℕ) (at : ℕ) where
  -- a number of which a judge may say these things
  abbrev pub ComesToNumberJudged : (ℕ → Result ⊤ Refusal → Type 0) → Result (Read ℕ) Fault → Type 0
  ComesToNumberJudged Says r = JudgedBy Says (number_at text at) r

  -- any number
  abbrev pub ComesToAnyNumber : Result (Read ℕ) Fault → Type 0
  ComesToAnyNumber r = ComesTo (number text any_number at) r

  -- a number from low to high; a lower one is refused by `below`, a higher one by `above`
  abbrev pub ComesToNumberWithin : ℕ → Refusal → ℕ → Refusal → Result (Read ℕ) Fault → Type 0
  ComesToNumberWithin low below high above r = ComesTo (number text (range low (table_of below) high (table_of above)) at) r

  -- a number below the limit; any other is refused by `above`
  abbrev pub ComesToNumberBelow : ℕ → Refusal → Result (Read ℕ) Fault → Type 0
  ComesToNumberBelow limit above r = ComesTo (number text (λ v. (leb limit v, table_of above) ∷ []) at) r

  -- a name, of which nothing is kept
  abbrev pub ComesToName : Result (Read ℕ) Fault → Type 0
  ComesToName r = ComesTo (name text at) r

  -- no token is left
  abbrev pub ComesToEnd : Result (Read ℕ) Fault → Type 0
  ComesToEnd r = ComesTo (ended text at) r
