-- The search within lists, from the search within smaller ones: narrowed lists, and one value after the other of the lowest open variable.
-- Assumes nothing.
use mathlib.Core.Path.{◌≡◌, sym, ◌∙◌}
use mathlib.Core.Bool.{Bool, true, false, true≢false}
use mathlib.Core.Logic.{by_cases}
use mathlib.Core.List.{List}
use Prim.Native.Nat.{ℕ, ◌≤◌, ◌<◌}
use native.Mathlib.Decide.{ℕ_discrete, dec_lt}
use native.Mathlib.Omega.{arith}
use lib.ListN.{length, get_or, set, take}
use lib.Seq.{get_or-take, length-take-le}
use Rattle.std.specs.Prelude.{Option, None, Some, is_some}
use Rattle.meaning.specs.Limits.{value_limit, variable_limit}
use Rattle.meaning.specs.Values.{Has}
use Rattle.meaning.specs.Rules.{at}
use Rattle.meaning.specs.Order.{◌≺◌}
use Rattle.meaning.specs.Lists.{Left}
use Rattle.meaning.proofs.Digits.{zero_bit}
use Rattle.meaning.proofs.Leximin.{≺_iff}
use Rattle.meaning.proofs.Listed.{Words}
use Rattle.values.specs.Sets.{Alone, Lowest, Removed}
use Rattle.filters.specs.Filter.{weight}
use Rattle.search.specs.declared.task.Task.{Task}
use Rattle.search.specs.Search.{Meets}
use Rattle.search.specs.Choosing.{Opens, FirstOpen, TellsEmpty}
use Rattle.search.specs.Tasks.{Searchable, Choosable, Narrowable, SearchedIn, SievedTo, rules_of}
use Rattle.filters.proofs.Closing.{closed_by_each}
use Rattle.search.proofs.Opening.{opened, words_take}
use Rattle.search.proofs.Trying.{meets_wider, alone_value, alone_within, meets_alone, tries, alone_less}

-- ---- narrowed lists

pub sieved_choosable : {t : Task} {due : ℕ} {old new : List ℕ} → Narrowable t due old → SievedTo t old (Some tt) new → Choosable t new
sieved_choosable ready sieved = record { net = ready.net; live = sieved.answer }

-- ---- closed lists

module _ {t : Task} {L : List ℕ} {empty : Bool} (ready : Searchable t L) (long : length L ≡ variable_limit) (tells : TellsEmpty (take t.n L) empty) where
  front_length : length (take t.n L) ≡ t.n
  front_length = length-take-le t.n L (omega (arith, ready.net.variables))

  pub closed_narrowable : empty ≡ false → Narrowable t 0 L
  closed_narrowable full = record {
    net = ready.net;
    long = long;
    some = λ x l. rw (get_or-take t.n L x 0 l) at (tells.no full x (omega (arith, front_length)));
    others = record {
      known = λ k h. absurd (omega (arith, zero_bit k));
      others = λ k l _. closed_by_each t.rules.heads.now t.rules.room.now L ready.closed k l;
    };
  }

  -- within lists of which one is empty there is nothing
  pub none_empty : empty ≡ true → SearchedIn t L None
  none_empty some a m =
      let (x, l, z) = tells.yes some in
      let k : x < t.n = omega (arith, front_length) in
      let e : get_or L x 0 ≡ 0 = sym (get_or-take t.n L x 0 k) ∙ z in
      let h : Has 0 (at a x) = rw e at (m.inside x k) in
      omega (arith, zero_bit (at a x))

-- ---- one value after the other

-- x still has the values of `rest` to go through: whatever meets all has one of them
pub record ToTry (t : Task) (L : List ℕ) (x rest : ℕ) : Type 0 where
  pub long : length L ≡ variable_limit
  pub words : Words L
  pub within : (v : ℕ) → Has rest v → Left L x v
  pub others : (a : List ℕ) → Meets (rules_of t) t.goals.now t.floors.now t.n L a → Has rest (at a x)

module _ {t : Task} {L : List ℕ} {x : ℕ} (ready : Choosable t L) (long : length L ≡ variable_limit) (words : Words L) (first : FirstOpen (take t.n L) (Some x)) where
  front : Words (take t.n L)
  front = words_take t.n L words

  few : length (take t.n L) ≡ t.n
  few = length-take-le t.n L (omega (arith, ready.net.variables))

  opens : Opens (take t.n L) x
  opens = opened (take t.n L) front x first

  pub known : x < t.n
  known = omega (arith, opens.inside, few)

  inside : x < length L
  inside = omega (arith, known, ready.net.variables)

  -- what meets all within lists
  abbrev Meeting : List ℕ → List ℕ → Type 0
  Meeting K a = Meets (rules_of t) t.goals.now t.floors.now t.n K a

  settled : (y : ℕ) → y < x → (v w : ℕ) → Left L y v → Left L y w → v ≡ w
  settled y l v w h k =
      let n : y < t.n = omega (arith, known) in
      opens.settled y l v w (rw (get_or-take t.n L y 0 n) h) (rw (get_or-take t.n L y 0 n) k)

  pub try_all : ToTry t L x (get_or L x 0)
  try_all = record { long = long; words = words; within = λ v h. h; others = λ a m. m.inside x known }

  pub tried_all : {rest : ℕ} → ToTry t L x rest → rest ≡ 0 → SearchedIn t L None
  tried_all left z a m =
      let h : Has 0 (at a x) = rw z at (left.others a m) in
      omega (arith, zero_bit (at a x))

  module _ {rest v m : ℕ} (left : ToTry t L x rest) (some : ¬ (rest ≡ 0)) (low : Lowest rest v) (alone : Alone v m) where
    small : v < value_limit
    small = low.some (omega arith)

    present : Left L x v
    present = left.within v (low.here small)

    pub try_narrowable : Narrowable t (get_or t.sets x 0) (set L x m)
    try_narrowable = tries L x v m inside small alone known present ready long

    pub try_less : weight (set L x m) < weight L
    try_less =
        alone_less L x v m inside small alone (omega (arith, known, ready.net.variables)) present
        (rw (get_or-take t.n L x 0 known) at opens.several)

    least : (b : List ℕ) → Meeting L b → v ≤ at b x
    least b k = by_cases (dec_lt (at b x) v) (λ l. absurd (omega (arith, low.none (at b x) l, left.others b k))) (λ l. omega arith)

    module _ {out : List ℕ} (tried : SearchedIn t (set L x m) (Some out)) where
      value : at (take t.n out) x ≡ v
      value = alone_value L x v m inside small alone (at (take t.n out) x) (tried.first.holds.inside x known)

      meets : Meeting L (take t.n out)
      meets = meets_wider (set L x m) L (take t.n out) (alone_within L x v m inside small alone present) tried.first.holds

      none_before : (b : List ℕ) → Meeting L b → ¬ (b ≺ take t.n out)
      none_before b k before =
          by_cases (ℕ_discrete (at b x) v) (λ q. tried.first.first b (meets_alone L x v m inside small alone b q k) before) λ larger.
          let (z, s) = (≺_iff b (take t.n out)).0 before in
          let l : z < t.n = omega (arith, s.0, k.long) in
          by_cases (dec_lt z x) (λ h. omega (arith, s.3, settled z h (at b z) (at (take t.n out) z) (k.inside z l) (meets.inside z l))) λ h.
          by_cases (ℕ_discrete z x) (λ q. let less : at b x < at (take t.n out) x = rw q at s.3 in omega (arith, value, least b k))
          (λ q. omega (arith, s.2 x (omega arith), value))

      -- the first with the least value is the first of all
      pub tried_found : SearchedIn t L (Some out)
      tried_found = record { long = tried.long; past = tried.past; first = record { holds = meets; first = none_before } }

    pub tried_some : (r : Option (List ℕ)) → true ≡ is_some r → SearchedIn t (set L x m) r → SearchedIn t L r
    tried_some None e tried = absurd (true≢false e)
    tried_some (Some out) e tried = tried_found tried

    -- where there is none with it, the others are left
    pub tried_none : {more : ℕ} → Removed rest v more → (r : Option (List ℕ)) → false ≡ is_some r → SearchedIn t (set L x m) r → ToTry t L x more
    tried_none removed (Some out) e none = absurd (true≢false (sym e))
    tried_none removed None e none =
        record {
          long = long;
          words = words;
          within = λ w h. by_cases (ℕ_discrete w v) (λ q. absurd (omega (arith, removed.gone, rw q at h))) (λ q. left.within w (sym (removed.kept w q) ∙ h));
          others = λ a k.
              by_cases (ℕ_discrete (at a x) v) (λ q. absurd (none a (meets_alone L x v m inside small alone a q k)))
              (λ q. removed.kept (at a x) q ∙ left.others a k);
        }
