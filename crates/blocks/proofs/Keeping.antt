-- Keeping a part of one variable's list. Assumes nothing.
use mathlib.Core.Path.{◌≡◌, sym, ap, ◌∙◌}
use mathlib.Core.Logic.{⊎_elim, by_cases}
use mathlib.Core.List.{List}
use Prim.Native.Nat.{ℕ, ◌*◌, ◌%◌, ◌^◌, ◌<◌}
use native.Mathlib.Decide.{ℕ_discrete}
use native.Mathlib.Omega.{arith}
use lib.Bits.{bit_and}
use lib.ListN.{length, get_or, set, length-set}
use lib.Seq.{get_or-set_same, get_or-set_other}
use Rattle.meaning.specs.Limits.{variable_limit}
use Rattle.meaning.specs.Values.{bit}
use Rattle.meaning.proofs.Digits.{bit_of_and, bit_pow_same, bit_pow_other, zero_bit}
use Rattle.values.proofs.One.{shl_one}
use Rattle.blocks.specs.Keeping.{Kept, KeptIn, Changed}

module _ (L : List ℕ) (x m : ℕ) (inside : x < length L) where
  part : List ℕ
  part = set L x (bit_and (get_or L x 0) m)

  at_x : get_or part x 0 ≡ bit_and (get_or L x 0) m
  unfolding part
  at_x = get_or-set_same L x (bit_and (get_or L x 0) m) 0 inside

  elsewhere : (y : ℕ) → ¬ (y ≡ x) → get_or part y 0 ≡ get_or L y 0
  unfolding part
  elsewhere y d = get_or-set_other L x y (bit_and (get_or L x 0) m) 0 d

  kept_by : (c : ℕ) → Changed L part c → Kept L x m part c
  unfolding part
  kept_by c h = record {
    long = length-set L x (bit_and (get_or L x 0) m);
    here = λ v. ap (λ (n : ℕ). bit n v) at_x ∙ bit_of_and (get_or L x 0) m v;
    there = elsewhere;
    changed = h;
  }

  pub kept_same : bit_and (get_or L x 0) m ≡ get_or L x 0 → Kept L x m (set L x (bit_and (get_or L x 0) m)) 0
  unfolding part
  kept_same e = kept_by 0 (record {
    same = λ y h. by_cases (ℕ_discrete y x) (λ q. rw q (at_x ∙ e)) (elsewhere y);
    other = λ y h. absurd (let z = zero_bit y in omega arith);
  })

  pub kept_less : ¬ (bit_and (get_or L x 0) m ≡ get_or L x 0) → Kept L x m (set L x (bit_and (get_or L x 0) m)) (2 ^ x)
  unfolding part
  kept_less d = kept_by (2 ^ x) (record {
    same = λ y h. elsewhere y (λ q. let z = ap (bit (2 ^ x)) q ∙ bit_pow_same x in omega arith);
    other = λ y h e. by_cases (ℕ_discrete y x) (λ q. d (sym at_x ∙ (rw q at e))) (λ n. let z = bit_pow_other x y n in omega arith);
  })

-- ---- where there is no such list, and where there is one

pub one_list : {L : List ℕ} {x m : ℕ} {K : List ℕ} {c : ℕ} → x < variable_limit → length L ≡ variable_limit → Kept L x m K c → KeptIn L x m K c
one_list l long k = record {
  kept = λ _ _. k;
  none = λ past. absurd (⊎_elim (λ h. omega arith) (λ n. n long) past);
}

-- where there is one, as the code answers it: the list stays as it is, or x's list changes
module _ (L : List ℕ) (x m : ℕ) (long : length L ≡ variable_limit) (small : x < variable_limit) where
  pub stays_in : bit_and (get_or L x 0) m ≡ get_or L x 0 → KeptIn L x m (set L x (bit_and (get_or L x 0) m)) 0
  stays_in e = one_list small long (kept_same L x m (omega arith) e)

  pub changes_in : ¬ (bit_and (get_or L x 0) m ≡ get_or L x 0) → KeptIn L x m (set L x (bit_and (get_or L x 0) m)) ((1 * 2 ^ x) % 2 ^ 64)
  changes_in d = one_list small long (rw (shl_one x (omega arith)) (kept_less L x m (omega arith) d))
