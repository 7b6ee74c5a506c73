-- Lists of one value each: where they are closed and reach the thresholds, their values are what the search looks for. Assumes nothing.
use mathlib.Core.Path.{◌≡◌, refl}
use mathlib.Core.Logic.{⊎_elim, by_cases}
use Rattle.std.specs.Prelude.{Some}
use mathlib.Core.List.Memᴰ
use mathlib.Core.List.{List, [], ◌∷◌, Memᴰ}
use Prim.Native.Nat.{ℕ, suc, ◌<◌, ◌≤◌}
use native.Mathlib.Decide.{ℕ_discrete}
use native.Mathlib.Omega.{arith}
use lib.ListN.{length, get_or, take}
use lib.Seq.{length-take-le, get_or-take}
use Rattle.meaning.specs.Limits.{variable_limit}
use Rattle.meaning.specs.Rules.{Rule, scope_of, Satisfies, at}
use Rattle.meaning.specs.Lists.{Left}
use Rattle.meaning.specs.Proper.{ProperRule}
use Rattle.meaning.proofs.Leximin.{≺_iff}
use Rattle.meaning.proofs.Solutions.{satisfies_same}
use Rattle.filters.specs.declared.Head.{Head}
use Rattle.filters.specs.Layout.{rules_at, AllPlaced}
use Rattle.values.specs.Sets.{Lowest}
use Rattle.search.specs.declared.task.Task.{Task}
use Rattle.search.specs.Search.{Meets}
use Rattle.search.specs.Tasks.{Choosable, SearchedIn, rules_of}
use Rattle.filters.proofs.Laid.{rules_ready}
use Rattle.search.specs.Choosing.{Settled, Lows}

-- ---- every rule has a variable

placed_proper : (heads : List Head) (room : List ℕ) → AllPlaced heads room → (r : Rule) → Memᴰ r (rules_at heads room) → ProperRule variable_limit r
placed_proper [] room all r m = absurd (Memᴰ.not-nil m)
placed_proper (h ∷ heads) room all r m =
    ⊎_elim (λ e. rw e (all 0 (omega arith)).proper) (λ i. placed_proper heads room (λ k l. all (suc k) (omega arith)) r i) (Memᴰ.cases_cons m)

some_member : (s : List ℕ) → 0 < length s → (x : ℕ) × Memᴰ x s
some_member [] h = absurd (omega arith)
some_member (x ∷ s) h = (x, Memᴰ.head refl)

-- ---- the leaf

module _ {t : Task} {L : List ℕ} (ready : Choosable t L) (lows : List ℕ) (settled : Settled L t.n) (long : length lows ≡ variable_limit)
    (lowest : (x : ℕ) → x < t.n → Lowest (get_or L x 0) (get_or lows x 0)) where
  answer : List ℕ
  answer = take t.n lows

  wide : length answer ≡ t.n
  unfolding answer
  wide = length-take-le t.n lows (omega (arith, ready.net.variables))

  inside : (x : ℕ) → x < t.n → Left L x (at answer x)
  unfolding answer
  inside x l =
      let here = lowest x l in
      rw (get_or-take t.n lows x 0 l) (here.here (here.some (omega (arith, ready.live.some x l))))

  same : (x v : ℕ) → x < t.n → Left L x v → v ≡ at answer x
  same x v l h = settled x l v (at answer x) h (inside x l)

  right : (r : Rule) → Memᴰ r (rules_of t) → Satisfies r answer
  right r m =
      let (x, i) = some_member (scope_of r) (placed_proper t.rules.heads.now t.rules.room.now (rules_ready ready.net.held).placed r m).some in
      let known = ready.net.known r m in
      let s = ready.live.closed r m x i (at answer x) (inside x (known x i)) in
      satisfies_same r s.by answer
      (λ y j. by_cases (ℕ_discrete y x) (λ e. rw e s.here) (λ d. same y (at s.by y) (known y j) (s.others y j d))) s.satisfied

  meets : Meets (rules_of t) t.goals.now t.floors.now t.n L answer
  meets = record {
    long = wide;
    inside = inside;
    right = right;
    reaches = ready.live.top answer wide inside (λ x v l h. omega (arith, same x v l h));
  }

  pub leaf : ((x : ℕ) → t.n ≤ x → get_or lows x 0 ≡ 0) → SearchedIn t L (Some lows)
  unfolding answer
  leaf past = record {
    long = long;
    past = past;
    first = record {
      holds = meets;
      first = λ b m before.
          let (x, s) = (≺_iff b answer).0 before in
          let l : x < t.n = omega (arith, s.1, wide) in
          omega (arith, s.3, same x (at b x) l (m.inside x l));
    };
  }

-- the lists of the variables alone are read
pub leaf_of : {t : Task} {L lows : List ℕ} → Choosable t L → length L ≡ variable_limit → Settled (take t.n L) (length (take t.n L)) → Lows (take t.n L) (length (take t.n L)) lows
    → SearchedIn t L (Some lows)
leaf_of {t} {L} {lows} ready long settled low =
    leaf ready lows (λ x l v w h k. settled x (omega (arith, few)) v w (rw (get_or-take t.n L x 0 l) h) (rw (get_or-take t.n L x 0 l) k)) low.long
    (λ x l. rw (get_or-take t.n L x 0 l) at (low.lowest x (omega (arith, few)))) (λ x l. low.past x (omega (arith, few)))
  where
    few : length (take t.n L) ≡ t.n
    few = length-take-le t.n L (omega (arith, long, ready.net.variables))
