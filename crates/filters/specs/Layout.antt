-- How rules lie in a state: a head for each, and its numbers in the room.
use Rattle.std.specs.Prelude.{◌≡◌, List, [], ◌∷◌, ◌++◌, map, ℕ, suc, ◌+◌, ◌-◌, ◌*◌, ◌≤◌, ◌<◌, ℤ, pos, negsuc, length, get_or, take, drop, replicate}
use Rattle.std.proofs.Math.IntN.{sub_ℕ}
use Rattle.meaning.specs.Limits.{coefficient_limit, bound_limit, variable_limit}
use Rattle.meaning.specs.Rules.{Rule, allowed, forbidden, linear, scope_of, room}
use Rattle.meaning.specs.Calls.{rows}
use Rattle.meaning.specs.Proper.{ProperRule}
use Rattle.filters.specs.declared.Head.{Head}
use Rattle.filters.specs.declared.Kind.{Kind}
use Rattle.filters.specs.declared.Kind.TheVariants.{Allow, Forbid, Linear}

-- A whole number is kept as a natural one, k more: what is kept, and what that says.
abbrev pub shift : ℕ → ℤ → ℕ
shift k (pos n) = k + n
shift k (negsuc n) = k - suc n

abbrev pub unshift : ℕ → ℕ → ℤ
unshift k n = sub_ℕ n k

-- ---- reading

-- in the room, from a start: the variables, then the tuples or the coefficients
abbrev pub scope_at : List ℕ → ℕ → ℕ → List ℕ
scope_at room start arity = take arity (drop start room)

-- the variables of a head, those that the room has
abbrev pub IsScope : Head → List ℕ → List ℕ → Type 0
IsScope h room s = s ≡ scope_at room h.start h.arity

abbrev pub tuples_at : List ℕ → ℕ → ℕ → ℕ → List (List ℕ)
tuples_at room start arity count = rows count arity (drop (start + arity) room)

abbrev pub coefficients_at : List ℕ → ℕ → ℕ → List ℤ
coefficients_at room start arity = map (unshift coefficient_limit) (take arity (drop (start + arity) room))

-- by what a head says: kind, arity, start, and the number of tuples or the bound
abbrev pub rule_by : List ℕ → Kind → ℕ → ℕ → ℕ → Rule
rule_by room Allow arity start last = allowed (scope_at room start arity) (tuples_at room start arity last)
rule_by room Forbid arity start last = forbidden (scope_at room start arity) (tuples_at room start arity last)
rule_by room Linear arity start last = linear (scope_at room start arity) (coefficients_at room start arity) (unshift bound_limit last)

abbrev pub size_by : Kind → ℕ → ℕ → ℕ
size_by Allow arity last = arity + arity * last
size_by Forbid arity last = arity + arity * last
size_by Linear arity last = 2 * arity + 1

-- the rule of a head
abbrev pub rule_under : List ℕ → Head → Rule
rule_under room h = rule_by room h.kind h.arity h.start h.last

-- it lies within the room, and is proper
pub record Placed (room : List ℕ) (h : Head) : Type 0 where
  pub fits : h.start + size_by h.kind h.arity h.last ≤ length room
  pub proper : ProperRule variable_limit (rule_under room h)

-- the head of no rule, in a place that is not used
abbrev pub no_head : Head
no_head = record { kind = Allow; arity = 0; start = 0; last = 0 }

-- the k-th head, and its rule
abbrev pub head : List Head → ℕ → Head
head heads k = get_or heads k no_head

abbrev pub rule_at : List Head → List ℕ → ℕ → Rule
rule_at heads room k = rule_under room (head heads k)

-- the rules of all heads
abbrev pub rules_at : List Head → List ℕ → List Rule
rules_at heads room = map (rule_under room) heads

abbrev pub AllPlaced : List Head → List ℕ → Type 0
AllPlaced heads room = (k : ℕ) → k < length heads → Placed room (head heads k)

-- ---- writing

abbrev pub kind_of : Rule → Kind
kind_of (allowed s ts) = Allow
kind_of (forbidden s ts) = Forbid
kind_of (linear s cs b) = Linear

abbrev pub last_of : Rule → ℕ
last_of (allowed s ts) = length ts
last_of (forbidden s ts) = length ts
last_of (linear s cs b) = shift bound_limit b

unfoldable pub joined : List (List ℕ) → List ℕ
joined [] = []
joined (t ∷ ts) = t ++ joined ts

-- the place of a linear rule's bound stays empty: its head has the bound
abbrev pub numbers_of : Rule → List ℕ
numbers_of (allowed s ts) = s ++ joined ts
numbers_of (forbidden s ts) = s ++ joined ts
numbers_of (linear s cs b) = s ++ map (shift coefficient_limit) cs ++ (0 ∷ [])

abbrev pub head_of : ℕ → Rule → Head
head_of start r = record { kind = kind_of r; arity = length (scope_of r); start = start; last = last_of r }

-- the heads and the numbers of rules that lie one after the other, from a start
unfoldable pub heads_of : ℕ → List Rule → List Head
heads_of start [] = []
heads_of start (r ∷ rs) = head_of start r ∷ heads_of (start + room r) rs

unfoldable pub room_of : List Rule → List ℕ
room_of [] = []
room_of (r ∷ rs) = numbers_of r ++ room_of rs

-- n places: the list, then the same in each
abbrev pub filled : {A : Type 0} → A → ℕ → List A → List A
filled x n l = l ++ replicate (n - length l) x

-- then zeros
abbrev pub padded : ℕ → List ℕ → List ℕ
padded n l = filled 0 n l
