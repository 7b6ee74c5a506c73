-- What a node of the search asks and answers, of the task that it works on.
use Rattle.std.specs.Prelude.{◌≡◌, ℕ, List, Option, ◌<◌, length, get_or}
use Rattle.meaning.specs.Limits.{variable_limit}
use Rattle.meaning.specs.Rules.{Rule}
use Rattle.meaning.specs.Lists.{Closed}
use Rattle.filters.specs.Layout.{rules_at}
use Rattle.search.specs.declared.task.Task.{Task}
use Rattle.search.specs.Spreading.{Due}
use Rattle.search.specs.Search.{Net, Live, Searched, Sieved}

abbrev pub rules_of : Task → List Rule
rules_of t = rules_at t.rules.heads.now t.rules.room.now

abbrev pub NetOf : Task → Type 0
NetOf t = Net t.rules.heads.now t.rules.room.now t.sets t.goals.now t.n

abbrev pub DueIn : Task → List ℕ → ℕ → Type 0
DueIn t L due = Due t.rules.heads.now t.rules.room.now L due

-- what is found within lists
abbrev pub SearchedIn : Task → List ℕ → Option (List ℕ) → Type 0
SearchedIn t L r = Searched (rules_of t) t.goals.now t.floors.now t.n L r

-- what narrowing makes of lists
abbrev pub SievedTo : Task → List ℕ → Option (Unit {0}) → List ℕ → Type 0
SievedTo t L r K = Sieved (rules_of t) t.goals.now t.floors.now t.n L r K

-- what a search within lists asks
pub record Searchable (t : Task) (L : List ℕ) : Type 0 where
  pub net : NetOf t
  pub closed : Closed (rules_of t) L

-- what `choose` asks
pub record Choosable (t : Task) (L : List ℕ) : Type 0 where
  pub net : NetOf t
  pub live : Live (rules_of t) t.goals.now t.floors.now t.n L

-- what narrowing asks
pub record Narrowable (t : Task) (due : ℕ) (L : List ℕ) : Type 0 where
  pub net : NetOf t
  pub long : length L ≡ variable_limit
  pub some : (x : ℕ) → x < t.n → ¬ (get_or L x 0 ≡ 0)
  pub others : DueIn t L due
