-- The turns of the climb, as the code takes them: from a search to the next. Assumes nothing.
use mathlib.Core.Path.{◌≡◌, refl, sym, ap, ◌∙◌}
use Rattle.std.specs.Prelude.{None, Some}
use mathlib.Core.List.{List}
use Prim.Native.Nat.{ℕ, ◌+◌, ◌-◌, ◌*◌, ◌≤◌, ◌<◌}
use native.Mathlib.Omega.{arith}
use lib.ListN.{length, get_or, set, take, replicate}
use Rattle.meaning.specs.Rules.{Rule}
use Rattle.meaning.specs.Order.{sorted}
use Rattle.meaning.specs.Limits.{objective_limit}
use Rattle.meaning.proofs.Listed.{Words}
use Rattle.search.proofs.Taking.{Known}
use Rattle.search.specs.Search.{Found, Searched}
use Rattle.leximin.specs.Solving.{Named, Climbed}
use Rattle.leximin.proofs.Floors.{Climbing, level, level_of, level_small, level_higher, climb_start, climb_none, climb_higher, climb_on, climb_end}

-- the rota was found last, and the thresholds before the i-th are done
pub record Underway (rules : List Rule) (goals : List ℕ) (n : ℕ) (L rota floors : List ℕ) (i : ℕ) : Type 0 where
  pub words : Words L
  pub few : length goals ≤ objective_limit
  pub climbing : Climbing rules goals n L (take n rota) floors i

-- how far it is to the end, at most
abbrev pub ahead : List ℕ → ℕ → List ℕ → ℕ → ℕ
ahead goals n rota i = (length goals - i) * 65 + (64 - level goals (take n rota) i)

module _ {goals : List ℕ} {n : ℕ} (known : Known goals n) where
  pub names : Named goals
  names = record { most = known.most; known = λ x m. omega (arith, known.named x m, known.variables) }

  module _ {rules : List Rule} {L : List ℕ} where
    pub begins : {rota : List ℕ} → Words L → Found rules goals (take (length goals) (replicate 16 0)) n L rota → Underway rules goals n L rota (replicate 16 0) 0
    begins {rota} words s = record { words = words; few = known.most; climbing = climb_start rules goals n L (length goals) refl known.most rota s }

    module _ {rota floors : List ℕ} {i v : ℕ} (at : Underway rules goals n L rota floors i) (h : i < length goals) (is : v ≡ level goals rota i) where
      here : v ≡ level goals (take n rota) i
      here = is ∙ ap (λ (u : List ℕ). get_or (sorted u) i 0) (sym (level_of rules goals n L rota known.named))

      pub small : v ≤ 63
      small =
          omega (
            arith,
            here,
            level_small rules goals n L (length goals) refl known.most at.words known.named (take n rota) at.climbing.thresholds
                at.climbing.first.holds i,
          )

      module _ {next : List ℕ} (s : Found rules goals (take (length goals) (set floors i (v + 1))) n L next) where
        pub rises : Underway rules goals n L next (set floors i (v + 1)) i
        rises = record {
          words = at.words;
          few = at.few;
          climbing = climb_higher rules goals n L (length goals) refl known.most (take n rota) floors i at.climbing h (v + 1) next s;
        }

        pub rises_less : ahead goals n next i < ahead goals n rota i
        rises_less =
            let up = level_higher rules goals n L (length goals) refl known.most (take n rota) floors i at.climbing h (v + 1) next s in
            omega (arith, here, small)

      pub goes_on : Searched rules goals (take (length goals) (set floors i (v + 1))) n L None → Underway rules goals n L rota (set (set floors i (v + 1)) i v) (i + 1)
      goes_on none = record {
        words = at.words;
        few = at.few;
        climbing = climb_on rules goals n L (length goals) refl known.most (take n rota) floors i at.climbing h (v + 1) none v here refl;
      }

pub begins_none : {goals : List ℕ} {n : ℕ} (known : Known goals n) (rules : List Rule) (L : List ℕ)
    → Searched rules goals (take (length goals) (replicate 16 0)) n L None → Climbed rules goals n L None
begins_none {goals} {n} known rules L none = climb_none rules goals n L (length goals) refl known.most none

pub ends : {rules : List Rule} {goals : List ℕ} {n : ℕ} {L rota floors : List ℕ} {i : ℕ} → Underway rules goals n L rota floors i → length goals ≤ i
    → Climbed rules goals n L (Some rota)
ends {rules} {goals} {n} {L} {rota} {floors} {i} at h = climb_end rules goals n L (length goals) refl at.few (take n rota) floors i at.climbing h
