-- What reading a file promises.
use Rattle.std.specs.Prelude.{◌≡◌, List, ℕ, length, Result, Ok, Err, ⊤}
use Rattle.meaning.specs.Standing.{nothing}
use Rattle.meaning.specs.Histories.{AllAccepted}
use Rattle.state.specs.Holds.{Holds}
use Rattle.state.specs.Runs.{Run}
use Rattle.wcsp.specs.declared.Loaded.{Loaded}
use Rattle.reading.specs.declared.Fault.{Fault}
use Rattle.reading.specs.Reading.{fault, got}
use Rattle.wcsp.specs.Files.{File, file, calls}
use Rattle.reading.specs.Steps.{number_of}

-- document 01's number and the byte offset; 0 and 0 where the file is accepted
abbrev pub said : Result ⊤ Fault → ℕ × ℕ
said (Ok _) = (0, 0)
said (Err f) = (number_of f.refusal, f.at)

-- A refused file gives a new, empty state with the number and the byte offset; an accepted one the state that adding its variables,
-- then its tables, in file order to a new state gives, no addition refused, and says how many variables there are.
pub record Reads (text : List ℕ) (r : Loaded) : Type 0 where
  pub refused : (number at : ℕ) → file text ≡ fault number at → (said r.outcome ≡ (number, at)) × (r.variables ≡ 0) × Holds r.state nothing
  pub accepted : (f : File) (place : ℕ) → file text ≡ got f place → (said r.outcome ≡ (0, 0)) × (r.variables ≡ length f.sizes) × AllAccepted (calls f) × Run (calls f) r.state
  pub only : said r.outcome ≡ (0, 0) → (f : File) × (place : ℕ) × (file text ≡ got f place)
