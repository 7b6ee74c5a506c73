-- The rules of a network (document 01 calls them constraints), and what it is for an assignment to satisfy one.
use mathlib.Core.List.{List, [], ◌∷◌, Memᴰ, map}
use Rattle.std.specs.Prelude.{ℕ, ◌+◌, ◌*◌, length, get_or, ℤ, pos, ◌+ℤ◌, ◌*ℤ◌, ◌≤ℤ◌}

-- An assignment is a list with a value for each variable. Its value at the variable x:
abbrev pub at : List ℕ → ℕ → ℕ
at a x = get_or a x 0

-- its values at the variables of a scope, in the scope's order
abbrev pub values_at : List ℕ → List ℕ → List ℕ
values_at a scope = map (at a) scope

pub data Rule : Type 0 where
  allowed : (scope : List ℕ) (tuples : List (List ℕ)) → Rule
  forbidden : (scope : List ℕ) (tuples : List (List ℕ)) → Rule
  linear : (scope : List ℕ) (coefficients : List ℤ) (bound : ℤ) → Rule

abbrev pub scope_of : Rule → List ℕ
scope_of (allowed s ts) = s
scope_of (forbidden s ts) = s
scope_of (linear s cs b) = s

-- the sum of coefficient times value
unfoldable pub sum : List ℤ → List ℕ → ℤ
sum [] vs = pos 0
sum (c ∷ cs) [] = pos 0
sum (c ∷ cs) (v ∷ vs) = (c *ℤ pos v) +ℤ sum cs vs

abbrev pub Satisfies : Rule → List ℕ → Type 0
Satisfies (allowed s ts) a = Memᴰ (values_at a s) ts
Satisfies (forbidden s ts) a = ¬ Memᴰ (values_at a s) ts
Satisfies (linear s cs b) a = sum cs (values_at a s) ≤ℤ b

-- the numbers of the room that a rule takes
abbrev pub room : Rule → ℕ
room (allowed s ts) = length s + length s * length ts
room (forbidden s ts) = length s + length s * length ts
room (linear s cs b) = 2 * length s + 1
