-- Solutions and the values left: lists between the declared values and the largest keep every solution; closed lists of one value each are one.
-- Assumes nothing.
use mathlib.Core.Path.{◌≡◌, refl, sym}
use mathlib.Core.List.{List, [], ◌∷◌, map, Memᴰ}
use mathlib.Core.Logic.{by_cases}
use Prim.Native.Nat.{ℕ, zero, suc, ◌^◌, ◌<◌}
use native.Mathlib.Nat.{not-suc-le-zero, le_of_suc-le-suc}
use native.Mathlib.Decide.{ℕ_discrete, dec_lt}
use native.Mathlib.Omega.{arith}
use lib.ListN.{length, get_or, length-map, get_or-eq_default}
use Rattle.meaning.specs.Values.{Has}
use Rattle.meaning.specs.Rules.{Rule, allowed, forbidden, linear, scope_of, Satisfies, at, values_at}
use Rattle.meaning.specs.Standing.{Standing}
use Rattle.meaning.specs.Lists.{Left, Closed, Within}
use Rattle.meaning.specs.Solutions.{Solution}
use Rattle.meaning.proofs.Digits.{zero_bit, bit_pow_same, bit_pow_other}
use Rattle.meaning.proofs.Largest.{Between}

-- ---- a rule sees an assignment only at its own variables

pub values_same : (s a b : List ℕ) → ((y : ℕ) → Memᴰ y s → at a y ≡ at b y) → values_at a s ≡ values_at b s
values_same [] a b h = refl
values_same (x ∷ s) a b h =
    let p = h x (Memᴰ.head refl) in
    let q = values_same s a b (λ y m. h y (Memᴰ.tail m)) in
    cc

pub satisfies_same : (r : Rule) (a b : List ℕ) → ((y : ℕ) → Memᴰ y (scope_of r) → at a y ≡ at b y) → Satisfies r a → Satisfies r b
satisfies_same (allowed s ts) a b h k = rw (values_same s a b h) at k
satisfies_same (forbidden s ts) a b h k = rw (values_same s a b h) at k
satisfies_same (linear s cs z) a b h k = rw (values_same s a b h) at k

-- ---- a value left is that of a variable

pub left_below : (L : List ℕ) (x v : ℕ) → Left L x v → x < length L
left_below L x v h =
    by_cases (dec_lt x (length L)) (λ l. l) λ out.
    let e = get_or-eq_default L 0 {n = x} (omega arith) in
    let z = zero_bit v in
    absurd (let k : Has 0 v = rw e at h in omega arith)

-- ---- the lists with an assignment's values alone

pub singles : List ℕ → List ℕ
singles a = map (λ v. 2 ^ v) a

singles_at : (a : List ℕ) (x : ℕ) → x < length a → get_or (singles a) x 0 ≡ 2 ^ at a x
unfolding singles
singles_at [] x h = absurd (not-suc-le-zero h)
singles_at (v ∷ a) zero h = refl
singles_at (v ∷ a) (suc x) h = singles_at a x (le_of_suc-le-suc h)

singles_length : (a : List ℕ) → length (singles a) ≡ length a
unfolding singles
singles_length a = length-map a (λ v. 2 ^ v)

pub singles_has : (a : List ℕ) (x : ℕ) → x < length a → Left (singles a) x (at a x)
singles_has a x h = rw (singles_at a x h) (bit_pow_same (at a x))

pub singles_only : (a : List ℕ) (x v : ℕ) → Left (singles a) x v → (x < length a) × (v ≡ at a x)
singles_only a x v k =
    let l : x < length a = rw (singles_length a) at (left_below (singles a) x v k) in (
      l,
      by_cases (ℕ_discrete v (at a x)) (λ e. e) λ d.
          let z = bit_pow_other (at a x) v d in
          let o : Has (2 ^ at a x) v = rw (singles_at a x l) at k in
          absurd (omega arith),
    )

module _ {w : Standing} {a : List ℕ} (s : Solution w a) where
  singles_within : Within w (singles a)
  singles_within = record {
    declared = λ x v k. let o = singles_only a x v k in rw o.1 (s.declared x o.0);
    permitted = λ x v k d m. let o = singles_only a x v k in rw o.1 (s.decisions d m x o.0);
  }

  singles_closed : ((r : Rule) → Memᴰ r w.rules → (y : ℕ) → Memᴰ y (scope_of r) → y < length a) → Closed w.rules (singles a)
  singles_closed known r m x i v k = record {
    by = a;
    here = sym (singles_only a x v k).1;
    others = λ y j n. singles_has a y (known r m y j);
    satisfied = s.rules r m;
  }

  -- no solution is lost
  pub solution_kept : ((r : Rule) → Memᴰ r w.rules → (y : ℕ) → Memᴰ y (scope_of r) → y < length a) → {L : List ℕ} → Between w L
      → (x : ℕ) → x < length a → Left L x (at a x)
  solution_kept known b x h = b.most (singles a) singles_within (singles_closed known) x (at a x) (singles_has a x h)

-- closed lists with a's values alone: a is a solution, where each rule has a variable
pub leaf : {w : Standing} {L a : List ℕ} → Within w L → Closed w.rules L → length a ≡ length w.declared
    → ((x : ℕ) → x < length a → Left L x (at a x)) → ((x v : ℕ) → Left L x v → v ≡ at a x)
    → ((r : Rule) → Memᴰ r w.rules → (y : ℕ) × Memᴰ y (scope_of r) × (y < length a)) → Solution w a
leaf {w} {L} {a} within shut long all only some = record {
  long = long;
  declared = λ x h. within.declared x (at a x) (all x h);
  rules = rule;
  decisions = λ d m x h. within.permitted x (at a x) (all x h) d m;
}
  where
    rule : (r : Rule) → Memᴰ r w.rules → Satisfies r a
    rule r m =
        let (x, i, h) = some r m in
        let s = shut r m x i (at a x) (all x h) in
        satisfies_same r s.by a (λ y j. by_cases (ℕ_discrete y x) (λ e. rw e s.here) (λ n. only y (at s.by y) (s.others y j n))) s.satisfied
