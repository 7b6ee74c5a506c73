-- One value alone of a variable's list: what the lists are then, and what meets all within them. Assumes nothing.
use mathlib.Core.Path.{◌≡◌, ◌∙◌}
use mathlib.Core.Logic.{by_cases}
use mathlib.Core.List.{List}
use Prim.Native.Nat.{ℕ, ◌<◌}
use native.Mathlib.Decide.{ℕ_discrete}
use native.Mathlib.Omega.{arith}
use lib.ListN.{length, get_or, set, length-set}
use lib.Seq.{get_or-set_same, get_or-set_other}
use Rattle.meaning.specs.Limits.{value_limit, variable_limit}
use Rattle.meaning.specs.Values.{Has, size}
use Rattle.meaning.specs.Rules.{Rule, at}
use Rattle.meaning.specs.Lists.{Left, Closed}
use Rattle.meaning.proofs.Sizes.{size_le, total_lt}
use Rattle.meaning.proofs.Sets.{has_nonzero}
use Rattle.meaning.proofs.Largest.{◌⊑◌}
use Rattle.values.specs.Sets.{Alone}
use Rattle.filters.specs.declared.Head.{Head}
use Rattle.filters.specs.Layout.{rules_at}
use Rattle.filters.specs.Filter.{weight}
use Rattle.search.specs.Spreading.{Touching, Due}
use Rattle.search.specs.Search.{Meets}
use Rattle.search.specs.declared.task.Task.{Task}
use Rattle.search.specs.Tasks.{Choosable, Narrowable}
use Rattle.filters.proofs.Closing.{closed_kept, closed_by_each}

-- what meets all within lists does so within wider ones
pub meets_wider : {rules : List Rule} {objectives y : List ℕ} {n : ℕ} (K L a : List ℕ) → K ⊑ L → Meets rules objectives y n K a → Meets rules objectives y n L a
meets_wider K L a sub m = record { long = m.long; inside = λ x l. sub x (at a x) (m.inside x l); right = m.right; reaches = m.reaches }

module _ (L : List ℕ) (x v m : ℕ) (inside : x < length L) (small : v < value_limit) (alone : Alone v m) where
  here : get_or (set L x m) x 0 ≡ m
  here = get_or-set_same L x m 0 inside

  there : (y : ℕ) → ¬ (y ≡ x) → get_or (set L x m) y 0 ≡ get_or L y 0
  there y other = get_or-set_other L x y m 0 other

  pub alone_value : (w : ℕ) → Left (set L x m) x w → w ≡ v
  alone_value w h =
      by_cases (ℕ_discrete w v) (λ e. e) λ other.
      let k : Has m w = rw here at h in
      absurd (omega (arith, alone.others w other))

  pub alone_within : Left L x v → set L x m ⊑ L
  alone_within left y w h =
      by_cases (ℕ_discrete y x)
      (λ e. rw (e, alone_value w (rw e at h)) left)
      (λ other. rw (there y other) at h)

  -- what meets all and has that value does so within the lists with that value alone
  pub meets_alone : {rules : List Rule} {objectives y : List ℕ} {n : ℕ} (a : List ℕ) → at a x ≡ v → Meets rules objectives y n L a
      → Meets rules objectives y n (set L x m) a
  meets_alone {n} a e meets = record { long = meets.long; inside = each; right = meets.right; reaches = meets.reaches }
    where
      each : (z : ℕ) → z < n → Left (set L x m) z (at a z)
      each z l = by_cases (ℕ_discrete z x) (λ q. rw (q, here, e) (alone.here small)) (λ other. rw (there z other) (meets.inside z l))

  -- only the rules on x can drop anything then
  pub alone_due : (heads : List Head) (room sets : List ℕ) → Touching heads room (length heads) sets → Closed (rules_at heads room) L
      → Due heads room (set L x m) (get_or sets x 0)
  alone_due heads room sets touch shut = record {
    known = touch.only x;
    others = λ k l none.
        closed_kept L (set L x m) (λ y i. there y (λ e. absurd (omega (arith, none, touch.all k l x (rw e at i)))))
        (closed_by_each heads room L shut k l);
  }

  pub tries : {t : Task} → x < t.n → Left L x v → Choosable t L → length L ≡ variable_limit → Narrowable t (get_or t.sets x 0) (set L x m)
  tries {t} l left ready long = record {
    net = ready.net;
    long = length-set L x m ∙ long;
    some = λ y h. by_cases (ℕ_discrete y x) (λ e. rw (e, here) (λ z. absurd (omega (arith, has_nonzero m v (alone.here small))))) (λ other. rw (there y other) (ready.live.some y h));
    others = alone_due t.rules.heads.now t.rules.room.now t.sets ready.net.sets ready.live.closed;
  }

  -- where x has another value, fewer values are left in all
  pub alone_less : x < variable_limit → Left L x v → 1 < size (get_or L x 0) → weight (set L x m) < weight L
  alone_less l left several =
      total_lt (λ y. size (get_or (set L x m) y 0)) (λ y. size (get_or L y 0)) variable_limit x l
      (λ y h. size_le (get_or (set L x m) y 0) (get_or L y 0) (alone_within left y))
      (rw here (omega (arith, alone.one small)))
