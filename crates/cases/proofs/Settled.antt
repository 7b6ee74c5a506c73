-- The values left, computed: one round of removals from the declared values and the decisions, where a second removes nothing.
-- Assumes nothing.
use mathlib.Core.Path.{◌≡◌, sym, subst}
use mathlib.Core.Bool.{Bool, true, ◌&&◌}
use mathlib.Core.List.{List, Memᴰ}
use Prim.Native.Nat.{ℕ}
use lib.Dec.{T}
use lib.ListN.{length, get_or}
use Rattle.meaning.specs.Rules.{Rule, scope_of}
use Rattle.meaning.specs.Standing.{Standing}
use Rattle.meaning.specs.Lists.{Left, Closed, Largest}
use Rattle.meaning.specs.Calls.{same}
use Rattle.meaning.specs.Proper.{Proper, ProperRule}
use Rattle.meaning.proofs.Tests.{and_left, and_right}
use Rattle.meaning.proofs.Digits.{has_small}
use Rattle.meaning.proofs.Boxes.{among, among_mem, mem_among}
use Rattle.meaning.proofs.Listed.{Words}
use Rattle.meaning.proofs.Largest.{Between, Removes, removes_between, between_closed}
use Rattle.meaning.proofs.Solutions.{left_below}
use Rattle.cases.proofs.Tests.{implies, implies_so, not_implies, every, every_at, all_every, not_every, same_says}
use Rattle.cases.proofs.Sieve.{sieve, sieve_long, sieve_says, says_sieve, sieve_words}
use Rattle.cases.proofs.Judging.{permits, permits_says}
use Rattle.cases.proofs.Support.{supports, supported_found, found_supported}

-- ---- the declared values that the decisions permit

unfoldable pub permitted : Standing → List ℕ
permitted w = sieve (λ x v. every (permits x v) w.decisions) w.declared

permitted_between : (w : Standing) → Words w.declared → Between w (permitted w)
unfolding permitted
permitted_between w fit = record {
  long = sieve_long test w.declared;
  within = record {
    declared = λ x v h. (sieve_says test w.declared x v h).1;
    permitted = λ x v h d m. (permits_says x v d).0 (every_at (permits x v) w.decisions (sieve_says test w.declared x v h).2 d m);
  };
  most = λ K h shut x v k.
      let l = h.declared x v k in
      says_sieve test w.declared x v (has_small (get_or w.declared x 0) v (fit x) l) l
      (all_every (permits x v) w.decisions (λ d m. (permits_says x v d).1 (h.permitted x v k d m)));
}
  where
    test : ℕ → ℕ → Bool
    test x v = every (permits x v) w.decisions

-- ---- a round: values without support are removed

-- v has support in every rule on x
unfoldable pub backed : List Rule → List ℕ → ℕ → ℕ → Bool
backed rules L x v = every (λ r. implies (among (scope_of r) x) (supports L r x v)) rules

unfoldable pub round : List Rule → List ℕ → List ℕ
round rules L = sieve (backed rules L) L

module _ (rules : List Rule) (L : List ℕ) (fit : Words L) where
  round_removes : Removes rules L (round rules L)
  unfolding round backed
  round_removes = record {
    long = sieve_long (backed rules L) L;
    kept = λ x v h. (sieve_says (backed rules L) L x v h).1;
    reason = λ x v h gone.
        let small = has_small (get_or L x 0) v (fit x) h in
        let (r, m, f) = not_every (λ r. implies (among (scope_of r) x) (supports L r x v)) rules (λ t. gone (says_sieve (backed rules L) L x v small h t)) in
        let (i, none) = not_implies (among (scope_of r) x) (supports L r x v) f in
        (r, m, among_mem (scope_of r) x i, λ s. none (supported_found L fit r x v small (left_below L x v h) s));
  }

  round_closed : ((r : Rule) → Memᴰ r rules → ProperRule (length L) r) → round rules L ≡ L → Closed rules L
  unfolding round backed
  round_closed proper e r m x i v h =
      let (small, l, t) = sieve_says (backed rules L) L x v (subst (λ (M : List ℕ). Left M x v) (sym e) h) in
      let b = every_at (λ r. implies (among (scope_of r) x) (supports L r x v)) rules t r m in
      found_supported L fit r x v small (left_below L x v h) (proper r m).once i
      (implies_so (among (scope_of r) x) (supports L r x v) b (mem_among i))

-- ---- the values left

unfoldable pub left : Standing → List ℕ
left w = round w.rules (permitted w)

-- a second round removes nothing, and all declared values are below 64
unfoldable pub settled : Standing → Bool
settled w = let L = left w in same (sieve (λ x v. true) w.declared) w.declared && same (round w.rules L) L

pub left_words : (w : Standing) → Words (left w)
unfolding left round
left_words w = sieve_words (backed w.rules (permitted w)) (permitted w)

left_between : (w : Standing) → Words w.declared → Between w (left w)
unfolding left permitted
left_between w fit =
    removes_between (permitted_between w fit)
    (round_removes w.rules (permitted w) (sieve_words (λ x v. every (permits x v) w.decisions) w.declared))

pub settled_largest : (w : Standing) → Proper w → T (settled w) → Largest w (left w)
unfolding settled
settled_largest w p t =
    between_closed between
    (round_closed w.rules (left w) (left_words w) (λ r m. subst (λ (n : ℕ). ProperRule n r) (sym between.long) (p.rules r m))
    (same_says (round w.rules (left w)) (left w) (and_right small still t)))
  where
    small : Bool
    small = same (sieve (λ x v. true) w.declared) w.declared

    still : Bool
    still = same (round w.rules (left w)) (left w)

    between : Between w (left w)
    between =
        left_between w
        (subst Words (same_says (sieve (λ x v. true) w.declared) w.declared (and_left small still t)) (sieve_words (λ x v. true) w.declared))
