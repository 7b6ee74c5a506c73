-- Decisions and the blocks of lists: what one more adds, and what taking back leaves. Assumes nothing.
use mathlib.Core.Path.{◌≡◌, ap, ◌∙◌}
use mathlib.Core.Logic.{◌⊎◌, inl, inr, ⊎_elim, by_cases}
use mathlib.Core.List.{List, [], ◌∷◌, ◌++◌}
use Prim.Native.Nat.{ℕ, ◌+◌, ◌≤◌, ◌<◌}
use native.Mathlib.Decide.{ℕ_discrete, dec_lt}
use native.Mathlib.Omega.{arith}
use lib.ListN.{length, get_or, set, take, length-append}
use lib.Seq.{take_all, take-take, take-append-le, length-take-le}
use Rattle.meaning.specs.Limits.{variable_limit, decision_limit}
use Rattle.meaning.specs.Standing.{Standing, Decision}
use Rattle.meaning.specs.Lists.{Largest}
use Rattle.meaning.specs.Calls.{with_decisions, decide}
use Rattle.meaning.specs.Proper.{Proper}
use Rattle.blocks.specs.Blocks.{block, list_after, emptied_after}
use Rattle.blocks.proofs.Writing.{block_written, block_stays, whole_set, emptied_stays, none_after, whole_emptied}
use Rattle.state.specs.declared.State.{State}
use Rattle.state.specs.Holds.{Holds, HoldsLists, up_to}

module _ (w : Standing) (p : Proper w) (l : List (List ℕ)) (h : HoldsLists l w) where
  -- ---- one decision more

  module _ (d : Decision) (room : length w.decisions < decision_limit) (M : List ℕ) (long : length M ≡ variable_limit)
      (largest : Largest (decide w d) (take (length w.declared) M)) (none : (x : ℕ) → length w.declared ≤ x → get_or M x 0 ≡ 0) where
    next : ℕ
    next = length w.decisions + 1

    more : List (List ℕ)
    more = set l next M

    written : get_or more next [] ≡ M
    unfolding more next
    written = block_written l next M h.whole (omega arith)

    stays : (k : ℕ) → ¬ (k ≡ next) → get_or more k [] ≡ get_or l k []
    unfolding more
    stays = block_stays l next M

    left : (k : ℕ) → k ≤ length (w.decisions ++ (d ∷ [])) → Largest (up_to (decide w d) k) (block more k (length w.declared))
    unfolding next
    left k j = by_cases (dec_lt (length w.decisions) k) (λ new. last k (omega (arith, length-append w.decisions (d ∷ [])))) (λ old. earlier k (omega arith))
      where
        earlier : (k : ℕ) → k ≤ length w.decisions → Largest (up_to (decide w d) k) (block more k (length w.declared))
        earlier k j = rw (stays k (omega arith), take-append-le k w.decisions (d ∷ []) j) (h.left k j)

        last : (k : ℕ) → k ≡ length w.decisions + 1 → Largest (up_to (decide w d) k) (block more k (length w.declared))
        last k e =
            let all = take_all k (w.decisions ++ (d ∷ [])) (omega (arith, length-append w.decisions (d ∷ []))) in
            let b : get_or more k [] ≡ M = ap (λ (j : ℕ). get_or more j []) e ∙ written in
            rw (b, all) largest

    pub lists_decided : HoldsLists (set l (length w.decisions + 1) M) (decide w d)
    unfolding more next
    lists_decided = record {
      whole = whole_set l next M h.whole long;
      left = left;
      rest = λ k x small past. by_cases (ℕ_discrete k next) (here k x past) (there k x small past);
    }
      where
        here : (k x : ℕ) → (length w.declared ≤ x) ⊎ (length (w.decisions ++ (d ∷ [])) < k) → k ≡ next → list_after more k x ≡ 0
        here k x past e =
            let i : length w.declared ≤ x = ⊎_elim (λ i. i) (λ i. absurd (omega (arith, length-append w.decisions (d ∷ [])))) past in
            rw (e, written) (none x i)

        there : (k x : ℕ) → x < variable_limit → (length w.declared ≤ x) ⊎ (length (w.decisions ++ (d ∷ [])) < k) → ¬ (k ≡ next) → list_after more k x ≡ 0
        there k x small past other =
            ap (λ (b : List ℕ). get_or b x 0) (stays k other)
            ∙ h.rest k x small (⊎_elim inl (λ i. inr (omega (arith, length-append w.decisions (d ∷ [])))) past)

  -- ---- back to the first k decisions

  module _ (k : ℕ) (few : k ≤ length w.decisions) where
    inside : k < length l
    inside = omega (arith, h.whole.deep, p.decisions)

    pub lists_back : HoldsLists (emptied_after l k) (with_decisions w (take k w.decisions))
    lists_back = record {
      whole = whole_emptied l k inside h.whole;
      left = left;
      rest = λ j x small past. by_cases (dec_lt k j) (none_after l k inside j x) (λ low. stays j x small past (omega arith));
    }
      where
        size : length (take k w.decisions) ≡ k
        size = length-take-le k w.decisions few

        left : (j : ℕ) → j ≤ length (take k w.decisions) → Largest (up_to (with_decisions w (take k w.decisions)) j) (block (emptied_after l k) j (length w.declared))
        left j i =
            let low : j ≤ k = omega (arith, size) in
            rw (emptied_stays l k inside j low, take-take j k w.decisions low) (h.left j (omega arith))

        stays : (j x : ℕ) → x < variable_limit → (length w.declared ≤ x) ⊎ (length (take k w.decisions) < j) → j ≤ k → list_after (emptied_after l k) j x ≡ 0
        stays j x small past low =
            ap (λ (b : List ℕ). get_or b x 0) (emptied_stays l k inside j low) ∙ h.rest j x small (⊎_elim inl (λ i. absurd (omega (arith, size))) past)

-- ---- the state with its lists after k decisions

abbrev pub at_depth : State → ℕ → List (List ℕ) → State
at_depth s k l = record s { depth = k; lists = l }

pub held_at : {s : State} {w : Standing} {l : List (List ℕ)} {ds : List Decision} {k : ℕ} → Holds s w → k ≡ length ds → HoldsLists l (with_decisions w ds)
    → Holds (at_depth s k l) (with_decisions w ds)
held_at hold deep kept = record {
  variables = hold.variables;
  declared = hold.declared;
  rules = hold.rules;
  heads = hold.heads;
  used = hold.used;
  room = hold.room;
  objectives = hold.objectives;
  objective = hold.objective;
  depth = deep;
  lists = kept;
}
