-- What the costs in a file say (document 01, "Reading wcsp").
use Rattle.std.specs.Prelude.{◌≡◌, Bool, not, cond, ℕ, eqb}
use Rattle.meaning.specs.Calls.{Sort, allow, forbid}
use Rattle.state.specs.declared.Sort as Code
use Rattle.state.specs.Promises.{sort_said}

-- cost 0 allows and any other forbids
abbrev pub allows : ℕ → Bool
allows cost = eqb cost 0

-- the cost says of a tuple what the default says already
abbrev pub same_said : ℕ → ℕ → Bool
same_said default cost = cond (allows default) (allows cost) (not (allows cost))

-- r says whether it does
abbrev pub SaysSame : ℕ → ℕ → Bool → Type 0
SaysSame default cost r = r ≡ same_said default cost

-- default 0 means that the listed tuples are forbidden; another default means that they are allowed
abbrev pub sort_by : ℕ → Sort
sort_by default = cond (allows default) forbid allow

-- r says which of the two they are
abbrev pub SaysSort : ℕ → Code.Sort → Type 0
SaysSort default r = sort_said r ≡ sort_by default
