-- What the reader's code keeps of what it has read.
use Rattle.std.specs.Prelude.{◌≡◌, Bool, ℕ, ◌+◌, ◌*◌, ◌≤◌, ◌<◌, length, get_or, take, drop, EachIndex, Result, ⊤}
use mathlib.Core.List.{List, Memᴰ}
use Rattle.meaning.specs.Limits.{room_limit, arity_limit}
use Rattle.tuples.specs.Keys.{key_limit, Marked}
use Rattle.state.specs.Promises.{sort_said}
use Rattle.filters.specs.Layout.{joined}
use Rattle.reading.specs.declared.Fault.{Fault}
use Rattle.reading.specs.declared.Read.{Read}
use Rattle.reading.specs.Steps.{Comes}
use Rattle.wcsp.specs.declared.header.Header as Code
use Rattle.wcsp.specs.declared.tables.Table as Kept
use Rattle.wcsp.specs.Files.{Header, Table, taken, tuple, table}

-- every number of the list is below k
abbrev pub Under : ℕ → List ℕ → Type 0
Under k l = (i : ℕ) → get_or l i 0 < k

-- each is the number of one of n variables
abbrev pub Known : ℕ → List ℕ → Type 0
Known n scope = EachIndex scope (λ i. get_or scope i 0 < n)

-- what the first line says
abbrev pub Says : Header → Code.Header → Type 0
Says h k = (h.variables ≡ k.variables) × (h.largest ≡ k.largest) × (h.constraints ≡ k.constraints)

-- cells were written from a start on
pub record Behind (start : ℕ) (before after : List ℕ) : Type 0 where
  pub long : length after ≡ length before
  pub kept : take start after ≡ take start before

-- so many tuples of a values each lie in the first cells
pub record Filled (a count : ℕ) (tuples : List (List ℕ)) (cells : List ℕ) : Type 0 where
  pub many : length tuples ≡ count
  pub even : (t : List ℕ) → Memᴰ t tuples → length t ≡ a
  pub cells_are : take (count * a) cells ≡ joined tuples

-- marks at the keys of these tuples
pub record Keyed (marked : List Bool) (tuples : List (List ℕ)) : Type 0 where
  pub long : length marked ≡ key_limit
  pub marks : Marked marked tuples

-- a tuple of the scope's variables behind the first `count` in the cells, whatever tuples those are
pub record NextTuple (text sizes scope : List ℕ) (default at count : ℕ) (before after : List ℕ) (step : Result (Read ⊤) Fault) : Type 0 where
  pub behind : Behind (count * length scope) before after
  pub comes : (ts : List (List ℕ)) → Filled (length scope) count ts before → Comes (tuple text sizes scope default ts at) (λ t v. t ≡ take (length scope) (drop (count * length scope) after)) step

-- a table as the reader keeps it, where some of the room was used before
pub record TableKept (used : ℕ) (t : Table) (k : Kept.Table) (cells : List ℕ) : Type 0 where
  pub sort_is : t.sort ≡ sort_said k.sort
  pub scope_is : t.scope ≡ take k.arity k.scope
  pub long : length k.scope ≡ arity_limit
  pub arity_fits : k.arity ≤ arity_limit
  pub cells_are : joined t.tuples ≡ take k.filled cells
  pub takes : length t.scope + length t.scope * length t.tuples ≡ k.arity + k.filled
  pub room : used + (k.arity + k.filled) ≤ room_limit

-- the next table, whatever tables use the room so far
abbrev pub NextTable : List ℕ → List ℕ → ℕ → ℕ → List ℕ → Result (Read Kept.Table) Fault → Type 0
NextTable text sizes used at cells step = (ts : List Table) → taken ts ≡ used → Comes (table text sizes ts at) (λ t k. TableKept used t k cells) step
