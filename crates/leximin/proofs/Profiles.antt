-- The profile of a rota: the objectives' values copied out, and sorted upwards. Assumes nothing.
use mathlib.Core.Path.{◌≡◌, sym, ◌∙◌}
use mathlib.Core.List.{List}
use Prim.Native.Nat.{ℕ, ◌≤◌, ◌<◌}
use native.Mathlib.Omega.{arith}
use lib.ListN.{length, get_or, take, length-map}
use lib.Seq.{length-take-le, get_or-take, ext_get_or}
use Rattle.meaning.specs.Limits.{variable_limit}
use Rattle.meaning.specs.Rules.{at, values_at}
use Rattle.meaning.proofs.Assignments.{values_at_lem}
use Rattle.leximin.specs.Solving.{Named}
use Rattle.filters.proofs.Cells.{mem_at}

pub name_at_lem : (goals : List ℕ) → Named goals → (j : ℕ) → j < length goals → get_or goals j 0 < variable_limit
name_at_lem goals named j h = named.known _ (mem_at goals j 0 h)

-- the objectives' values, one by one
pub profile_whole : (goals values out : List ℕ) → length goals ≤ length out → ((j : ℕ) → j < length goals → get_or out j 0 ≡ get_or values (get_or goals j 0) 0)
    → take (length goals) out ≡ values_at values goals
profile_whole goals values out long each =
    ext_get_or 0 (take (length goals) out) (values_at values goals) (few ∙ sym (length-map goals (at values))) λ j h.
    let l : j < length goals = omega (arith, few) in
    get_or-take (length goals) out j 0 l ∙ each j l ∙ sym (values_at_lem goals values j l)
  where
    few : length (take (length goals) out) ≡ length goals
    few = length-take-le (length goals) out long
