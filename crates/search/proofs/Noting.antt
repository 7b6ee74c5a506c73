-- Walking a set of changed variables, and noting the rules on each variable. Assumes nothing.
use mathlib.Core.Path.{◌≡◌, sym, ap, ◌∙◌}
use mathlib.Core.Logic.{◌⊎◌, inl, inr, ⊎_elim, by_cases}
use Rattle.std.specs.Prelude.{Some}
use mathlib.Core.List.Memᴰ
use mathlib.Core.List.{List}
use Prim.Native.Nat.{ℕ, ◌+◌, ◌^◌, ◌<◌}
use native.Mathlib.Decide.{ℕ_discrete}
use native.Mathlib.Numerals.{add-one}
use native.Mathlib.Omega.{arith}
use lib.Bits.{bit_or}
use lib.ListN.{length, get_or, set, take, replicate, length-set, length-replicate}
use lib.Seq.{take-suc, get_or-set_same, get_or-set_other}
use Rattle.meaning.specs.Limits.{variable_limit}
use Rattle.meaning.specs.Values.{bit, Has, Lacks}
use Rattle.meaning.proofs.Digits.{zero_bit, bit_pow_same, bit_pow_other}
use Rattle.meaning.proofs.Sets.{or_iff}
use Rattle.values.specs.Sets.{Lowest, Dropped, Removed}
use Rattle.filters.specs.declared.Head.{Head}
use Rattle.filters.specs.Layout.{scope_at, head, Placed}
use Rattle.filters.proofs.Laid.{scope_under}
use Rattle.filters.proofs.Sifting.{at_mem}
use Rattle.search.specs.Spreading.{Touching, ScopeIn, Noted, AffectedBy}
use Rattle.blocks.proofs.Copying.{zeros_at}

-- ---- noting one rule

module _ (s : List ℕ) (k : ℕ) (old sets : List ℕ) (j : ℕ) (inside : j < length s) (fits : get_or s j 0 < length sets) (h : Noted (take j s) k old sets) where
  x : ℕ
  x = get_or s j 0

  new : List ℕ
  new = set sets x (bit_or (get_or sets x 0) (2 ^ k))

  at_x : (i : ℕ) → Has (get_or new x 0) i → Has (get_or sets x 0) i ⊎ Has (2 ^ k) i
  unfolding new x
  at_x i g = (or_iff (get_or sets x 0) (2 ^ k) i).0 (rw (get_or-set_same sets x (bit_or (get_or sets x 0) (2 ^ k)) 0 fits) at g)

  to_x : (i : ℕ) → Has (get_or sets x 0) i ⊎ Has (2 ^ k) i → Has (get_or new x 0) i
  unfolding new x
  to_x i g = rw (get_or-set_same sets x (bit_or (get_or sets x 0) (2 ^ k)) 0 fits) ((or_iff (get_or sets x 0) (2 ^ k) i).1 g)

  away : (y : ℕ) → ¬ (y ≡ x) → get_or new y 0 ≡ get_or sets y 0
  unfolding new x
  away y n = get_or-set_other sets x y (bit_or (get_or sets x 0) (2 ^ k)) 0 n

  grows : (y i : ℕ) → Has (get_or sets y 0) i → Has (get_or new y 0) i
  grows y i g = by_cases (ℕ_discrete y x) (λ e. rw e (to_x i (inl (rw e at g)))) (λ n. rw (away y n) g)

  pub noted_more : Noted (take (j + 1) s) k old (set sets (get_or s j 0) (bit_or (get_or sets (get_or s j 0) 0) (2 ^ k)))
  unfolding new x
  noted_more = record {
    long = length-set sets x (bit_or (get_or sets x 0) (2 ^ k)) ∙ h.long;
    here = λ y m.
        ⊎_elim (λ i. grows y k (h.here y i)) (λ i. let e : y ≡ x = Memᴰ.eq_of_singleton i in rw e (to_x k (inr (bit_pow_same k))))
        (Memᴰ.append_cases (take j s) (rw (add-one j, take-suc s j 0 inside) at m));
    kept = λ y i g. grows y i (h.kept y i g);
    only = λ y i g n. h.only y i (before y i g n) n;
  }
    where
      before : (y i : ℕ) → Has (get_or new y 0) i → ¬ (i ≡ k) → Has (get_or sets y 0) i
      before y i g n =
          by_cases (ℕ_discrete y x)
          (λ e. rw e (⊎_elim (λ b. b) (λ b. absurd (let z = bit_pow_other k i n in omega arith)) (at_x i (rw e at g))))
          (λ d. rw (away y d) at g)

-- ---- noting every rule

pub placed_scope : (heads : List Head) (room : List ℕ) (k : ℕ) → Placed room (head heads k) → ScopeIn (scope_at room (head heads k).start (head heads k).arity)
placed_scope heads room k p j l =
    p.proper.known _ (rw (scope_under room (head heads k)) (at_mem (scope_at room (head heads k).start (head heads k).arity) j l))

pub touching_none : (heads : List Head) (room : List ℕ) → Touching heads room 0 (replicate variable_limit 0)
touching_none heads room = record {
  long = length-replicate {A = ℕ} variable_limit 0;
  all = λ k l. absurd (omega arith);
  only = λ x k h. absurd (let z = zero_bit k in let e = ap (λ (m : ℕ). bit m k) (zeros_at variable_limit x) in omega arith);
}

-- ---- walking the changed variables

-- what is known of the rules once all but the rest of the changed variables are passed, and no list of these was empty
pub record Walked (sets L : List ℕ) (changed rules rest : ℕ) : Type 0 where
  pub within : (x : ℕ) → Has rest x → Has changed x
  pub all : (x k : ℕ) → Has changed x → Lacks rest x → Has (get_or sets x 0) k → Has rules k
  pub only : (k : ℕ) → Has rules k → (x : ℕ) × Has changed x × Has (get_or sets x 0) k
  pub alive : (x : ℕ) → Has changed x → Lacks rest x → ¬ (get_or L x 0 ≡ 0)

pub walked_start : (sets L : List ℕ) (changed : ℕ) → Walked sets L changed 0 changed
walked_start sets L changed = record {
  within = λ x h. h;
  all = λ x k h l. absurd (omega arith);
  only = λ k h. absurd (let z = zero_bit k in omega arith);
  alive = λ x h l. absurd (omega arith);
}

module _ {sets L : List ℕ} {changed rules rest x : ℕ} (w : Walked sets L changed rules rest) (some : ¬ (rest ≡ 0)) (low : Lowest rest x) where
  here : Has rest x
  here = low.here (low.some (omega arith))

  module _ {next : ℕ} (drop : Dropped rest next) where
    fewer : Removed rest x next
    fewer = drop.least x low

    -- a changed variable that is passed now was passed before, or is x
    passed : (y : ℕ) → Lacks next y → Lacks rest y ⊎ (y ≡ x)
    passed y l = by_cases (ℕ_discrete y x) inr (λ n. inl (sym (fewer.kept y n) ∙ l))

    remain : (y : ℕ) → Has next y → Has rest y
    remain y h = by_cases (ℕ_discrete y x) (λ e. rw e here) (λ n. sym (fewer.kept y n) ∙ h)

    pub walked_on : ¬ (get_or L x 0 ≡ 0) → Walked sets L changed (bit_or rules (get_or sets x 0)) next
    walked_on full = record {
      within = λ y h. w.within y (remain y h);
      all = λ y k h l g.
          (or_iff rules (get_or sets x 0) k).1 (⊎_elim (λ p. inl (w.all y k h p g)) (λ e. inr (rw e at g)) (passed y l));
      only = λ k h. ⊎_elim (w.only k) (λ g. (x, w.within x here, g)) ((or_iff rules (get_or sets x 0) k).0 h);
      alive = λ y h l. ⊎_elim (w.alive y h) (λ q. rw q full) (passed y l);
    }

pub walked_end : {sets L : List ℕ} {changed rules rest : ℕ} → Walked sets L changed rules rest → rest ≡ 0 → AffectedBy sets L changed (Some rules)
walked_end w e = record {
  all = λ x k h g. w.all x k h (rw e (zero_bit x)) g;
  only = w.only;
  alive = λ x h. w.alive x h (rw e (zero_bit x));
}
