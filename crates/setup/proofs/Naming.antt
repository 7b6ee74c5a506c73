-- Naming the objectives: the state that holds the new names. Assumes nothing.
use mathlib.Core.Path.{◌≡◌, refl, sym, ap, ◌∙◌}
use mathlib.Core.Logic.{inr}
use mathlib.Core.Bool.{false}
use mathlib.Core.List.{List}
use Prim.Native.Nat.{ℕ, ◌≤◌, ◌<◌}
use native.Mathlib.Omega.{arith}
use borrow.Author.Tests.{ne_eqb, le-ltb}
use lib.Dec.{leb}
use lib.ListN.{length}
use Rattle.meaning.specs.Limits.{objective_limit}
use Rattle.meaning.specs.Order.{outside}
use Rattle.meaning.specs.Standing.{Standing}
use Rattle.meaning.specs.Calls.{name_objectives, some, unknown, tests, accepted}
use Rattle.meaning.proofs.Steps.{objectives_largest}
use Rattle.state.specs.declared.State.{State}
use Rattle.filters.specs.Layout.{padded}
use Rattle.state.specs.Holds.{Holds}
use Rattle.state.specs.Promises.{Answers}
use Rattle.meaning.proofs.Finding.{finds}
use Rattle.state.proofs.Answering.{accepts}

abbrev pub with_names : State → List ℕ → ℕ → State
with_names s named count = record {
  variables = s.variables;
  declared = s.declared;
  rules = s.rules;
  heads = s.heads;
  used = s.used;
  room = s.room;
  objectives = count;
  objective = named;
  depth = s.depth;
  lists = s.lists;
}

named_held : {s : State} {w : Standing} (xs named : List ℕ) → named ≡ padded objective_limit xs → Holds s w
    → Holds (with_names s named (length xs)) (accepted w (name_objectives xs))
named_held xs named is hold = record {
  variables = hold.variables;
  declared = hold.declared;
  rules = hold.rules;
  heads = hold.heads;
  used = hold.used;
  room = hold.room;
  objectives = refl;
  objective = is;
  depth = hold.depth;
  lists = record {
    whole = hold.lists.whole;
    left = λ k i. objectives_largest xs (hold.lists.left k i);
    rest = hold.lists.rest;
  };
}

module _ (s : State) (xs : List ℕ) (low : 0 < length xs) (high : length xs ≤ objective_limit) where
  inside : outside objective_limit (length xs) ≡ false
  inside = rw (ne_eqb (length xs) 0 (λ z. omega arith), le-ltb objective_limit (length xs) high)

  unknown_is : {w : Standing} → Holds s w → some (unknown w) xs ≡ some (leb s.variables) xs
  unknown_is hold = ap (λ (m : ℕ). some (leb m) xs) (sym hold.variables)

  pub names_accepted : some (leb s.variables) xs ≡ false → (named : List ℕ) → named ≡ padded objective_limit xs
      → Answers s (name_objectives xs) 0 (with_names s named (length xs))
  names_accepted e named is =
      accepts s (name_objectives xs) (with_names s named (length xs)) λ h w L l hold most.
      (finds (tests w L (name_objectives xs)) 0 (inr (inside, inr (unknown_is hold ∙ e, refl))), named_held xs named is hold)
