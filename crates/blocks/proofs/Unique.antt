-- Any two results that a public contract of this crate allows are the same. Assumes nothing.
use mathlib.Core.Path.{◌≡◌, sym, ◌∙◌}
use mathlib.Core.Logic.{◌⊎◌, inl, inr, ⊎_elim, by_cases}
use mathlib.Core.List.{List}
use Prim.Native.Nat.{ℕ, ◌≤◌, ◌<◌}
use native.Mathlib.Decide.{ℕ_discrete, dec_lt}
use native.Mathlib.Omega.{arith}
use lib.ListN.{length, get_or}
use lib.Seq.{ext_get_or}
use Rattle.meaning.specs.Limits.{variable_limit}
use Rattle.meaning.proofs.Digits.{bit_cases, bit_iff, ext_all}
use Rattle.blocks.specs.Keeping.{Changed, Kept, KeptIn}
use Rattle.blocks.specs.Blocks.{ListOf, Copied, PutLists, ClearedAfter}

pub list_of_unique : (l : List (List ℕ)) (k x : ℕ) (r s : ℕ) → ListOf l k x r → ListOf l k x s → r ≡ s
list_of_unique l k x r s h e = h ∙ sym e

pub lists_after_unique : (l : List (List ℕ)) (k : ℕ) (r s : List ℕ) → Copied l k r → Copied l k s → r ≡ s
lists_after_unique l k r s h e = ext_get_or 0 r s (h.long ∙ sym e.long) (λ x i. h.each x ∙ sym (e.each x))

pub put_lists_unique : (l : List (List ℕ)) (k : ℕ) (left : List ℕ) (after later : List (List ℕ)) → PutLists l k left after → PutLists l k left later → after ≡ later
put_lists_unique l k left after later h e = h ∙ sym e

pub clear_after_unique : (l : List (List ℕ)) (k : ℕ) (after later : List (List ℕ)) → ClearedAfter l k after → ClearedAfter l k later → after ≡ later
clear_after_unique l k after later h e = h ∙ sym e

-- ---- keeping a part of a list

pub changed_unique : (L K : List ℕ) (c d : ℕ) → Changed L K c → Changed L K d → c ≡ d
changed_unique L K c d a b =
    ext_all c d λ x. bit_iff c d x (λ h. ⊎_elim (λ z. absurd (a.other x h (b.same x z))) (λ k. k) (bit_cases d x))
    (λ h. ⊎_elim (λ z. absurd (b.other x h (a.same x z))) (λ k. k) (bit_cases c x))

kept_unique : {L : List ℕ} {x m : ℕ} {K M : List ℕ} {c d : ℕ} → Kept L x m K c → Kept L x m M d → (K ≡ M) × (c ≡ d)
kept_unique {L} {x} {m} {K} {M} {c} {d} a b =
    let e : K ≡ M = ext_get_or 0 K M (a.long ∙ sym b.long) λ y i.
    by_cases (ℕ_discrete y x) (λ q. rw q (ext_all (get_or K x 0) (get_or M x 0) (λ v. a.here v ∙ sym (b.here v)))) (λ n. a.there y n ∙ sym (b.there y n)) in
    (e, changed_unique L K c d a.changed (rw e b.changed))

-- where something is done with the i-th of n and 32 lists, and nothing changes otherwise
pub done_or_not : (L : List ℕ) (i n : ℕ) {K M : List ℕ} {c d : ℕ} → (i < n → length L ≡ variable_limit → (K ≡ M) × (c ≡ d))
    → ((n ≤ i) ⊎ ¬ (length L ≡ variable_limit) → (K ≡ L) × (c ≡ 0)) → ((n ≤ i) ⊎ ¬ (length L ≡ variable_limit) → (M ≡ L) × (d ≡ 0)) → (K ≡ M) × (c ≡ d)
done_or_not L i n {K} {M} {c} {d} done a b =
    by_cases (ℕ_discrete (length L) variable_limit) (λ long. by_cases (dec_lt i n) (λ l. done l long) (λ past. not_done (inl (omega arith)))) (λ short. not_done (inr short))
  where
    not_done : (n ≤ i) ⊎ ¬ (length L ≡ variable_limit) → (K ≡ M) × (c ≡ d)
    not_done h = let (e, f) = a h in let (g, k) = b h in (e ∙ sym g, f ∙ sym k)

pub keep_unique : (L : List ℕ) (x m : ℕ) (K M : List ℕ) (c d : ℕ) → KeptIn L x m K c → KeptIn L x m M d → (K ≡ M) × (c ≡ d)
keep_unique L x m K M c d a b = done_or_not L x variable_limit (λ l long. kept_unique (a.kept l long) (b.kept l long)) a.none b.none
