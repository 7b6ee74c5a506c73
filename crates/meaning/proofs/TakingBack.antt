-- Taking back gives what stood, and there is one part of the history that it goes back to. Assumes nothing.
use mathlib.Core.Path.{◌≡◌, refl, sym, ap, ◌∙◌}
use mathlib.Core.Logic.{◌↔◌, inr, by_cases}
use mathlib.Core.Bool.{Bool, true, false, cond}
use mathlib.Core.List.{List, [], ◌∷◌, ◌++◌}
use Prim.Native.Nat.{ℕ, zero, suc, ◌<◌}
use native.Mathlib.Decide.{dec_lt}
use native.Mathlib.Omega.{arith}
use borrow.Author.Tests.{ltb-false, le-ltb, eqb-true}
use lib.Dec.{ltb, eqb}
use lib.ListN.{length, take, drop, length-append, length-take}
use lib.Seq.{take_all, take_at, take-take, take-length, take-append-le, drop-nil}
use Rattle.meaning.specs.Refusals.{Refusal, decided, first}
use Rattle.meaning.specs.Standing.{Standing, Decision, pinned, banned}
use Rattle.meaning.specs.Lists.{Largest}
use Rattle.meaning.specs.Calls.{Call, add_variable, add_table, add_linear, name_objectives, pin, ban, take_back, outstanding, tests, refusal, decide, accepted}
use Rattle.meaning.specs.Histories.{Leaves, none, call}
use Rattle.meaning.specs.TakingBack.{making, with_objectives, Stood, GivesWhatStood}
use Rattle.meaning.proofs.Finding.{finds}
use Rattle.meaning.proofs.Proper.{passed}
use Rattle.meaning.proofs.Histories.{leaves_unique}
use Rattle.meaning.proofs.Steps.{objectives_largest}

-- Refusal 13, the first test of an addition: an accepted addition, of a variable or a rule, finds no decision outstanding.
-- So variables and rules stay as they are while decisions stand.
addition_finds_none : (w : Standing) (ts : List (Bool × Refusal)) → first ((ltb 0 (outstanding w), decided) ∷ ts) ≡ 0 → outstanding w ≡ 0
addition_finds_none w ts e = let none = ltb-false 0 (outstanding w) (passed ((ltb 0 (outstanding w), decided) ∷ ts) e).0 in omega arith

-- ---- what was before, but for the objectives, leaves the same values

goes_back : (u w : Standing) (k : ℕ) → w.declared ≡ u.declared → w.rules ≡ u.rules → take k w.decisions ≡ u.decisions
    → accepted w (take_back k) ≡ with_objectives u w.objectives
goes_back u w k d r e i = record { declared = d i; rules = r i; objectives = w.objectives; decisions = e i }

same_values : (u w : Standing) (k : ℕ) → accepted w (take_back k) ≡ with_objectives u w.objectives
    → (L : List ℕ) → Largest (accepted w (take_back k)) L ↔ Largest u L
same_values u w k e L =
    rw e (objectives_largest {w = with_objectives u w.objectives} u.objectives, objectives_largest w.objectives)

module _ (k : ℕ) {h : List Call} {w : Standing} (l : Leaves h w) where
  -- ---- the call makes the (k + 1)-th decision
  moment : (d : Decision) → Leaves (making d ∷ h) (decide w d) → outstanding w ≡ k → Stood (making d ∷ h) (decide w d) k
  moment d m few =
      let back = goes_back w (decide w d) k refl refl (take_at w.decisions (d ∷ []) k few) in
      record {
        later = [];
        decision = d;
        earlier = h;
        history = refl;
        before = w;
        leaves = l;
        depth = few;
        made = m;
        since = λ n v l'.
            let e : v ≡ decide w d = leaves_unique (making d ∷ h) (rw (drop-nil n) at l') m in
            rw e (take_all (suc k) (w.decisions ++ d ∷ []) (omega (arith, length-append w.decisions (d ∷ []))));
        back = back;
        values = same_values w (decide w d) k back;
      }

  -- ---- the call leaves variables, rules and the first k + 1 decisions as they are
  kept : (c : Call) (w' : Standing) → Leaves (c ∷ h) w' → w'.declared ≡ w.declared → w'.rules ≡ w.rules
      → take (suc k) w'.decisions ≡ take (suc k) w.decisions → Stood h w k → Stood (c ∷ h) w' k
  kept c w' l' d r e s = record {
    later = c ∷ s.later;
    decision = s.decision;
    earlier = s.earlier;
    history = ap (λ (g : List Call). c ∷ g) s.history;
    before = s.before;
    leaves = s.leaves;
    depth = s.depth;
    made = s.made;
    since = since;
    back = back;
    values = same_values s.before w' k back;
  }
    where
      since : (n : ℕ) (v : Standing) → Leaves (drop n (c ∷ s.later) ++ making s.decision ∷ s.earlier) v
          → take (suc k) v.decisions ≡ s.before.decisions ++ s.decision ∷ []
      since zero v m =
          let same : v ≡ w' = leaves_unique (c ∷ h) (rw (sym s.history) at m) l' in
          rw (same, e) (s.since 0 w (rw s.history at l))
      since (suc n) v m = s.since n v m

      first_k : take k w'.decisions ≡ take k w.decisions
      first_k =
          sym (take-take k (suc k) w'.decisions (omega arith)) ∙ ap (take k) e ∙ take-take k (suc k) w.decisions (omega arith)

      back : accepted w' (take_back k) ≡ with_objectives s.before w'.objectives
      back =
          goes_back s.before w' k (d ∙ ap (λ (x : Standing). x.declared) s.back) (r ∙ ap (λ (x : Standing). x.rules) s.back)
          (first_k ∙ ap (λ (x : Standing). x.decisions) s.back)

  -- ---- one call more
  decides : (d : Decision) → Leaves (making d ∷ h) (decide w d) → k < outstanding (decide w d) → (k < outstanding w → Stood h w k)
      → Stood (making d ∷ h) (decide w d) k
  decides d l' more s =
      by_cases (dec_lt k (outstanding w)) (λ old. kept (making d) (decide w d) l' refl refl (take-append-le (suc k) w.decisions (d ∷ []) old) (s old))
      (λ new. moment d l' (omega (arith, length-append w.decisions (d ∷ []))))

  accepts : (L : List ℕ) (c : Call) → refusal w L c ≡ 0 → Leaves (c ∷ h) (accepted w c) → k < outstanding (accepted w c) → (k < outstanding w → Stood h w k)
      → Stood (c ∷ h) (accepted w c) k
  accepts L (add_variable m) e l' more s = absurd (omega (arith, addition_finds_none w _ e))
  accepts L (add_table sort scope cells) e l' more s = absurd (omega (arith, addition_finds_none w _ e))
  accepts L (add_linear scope cs b) e l' more s = absurd (omega (arith, addition_finds_none w _ e))
  accepts L (name_objectives xs) e l' more s = kept (name_objectives xs) _ l' refl refl refl (s more)
  accepts L (pin x v) e l' more s = decides (pinned x v) l' more s
  accepts L (ban x v) e l' more s = decides (banned x v) l' more s
  accepts L (take_back j) e l' more s =
      let few = length-take j w.decisions in
      kept (take_back j) _ l' refl refl (take-take (suc k) j w.decisions (omega arith)) (s (omega arith))

-- so after any history
stood : {h : List Call} {w : Standing} → Leaves h w → (k : ℕ) → k < outstanding w → Stood h w k
stood none k more = absurd (omega arith)
stood (call {h} {w} {L} c l m) k more = step (eqb (refusal w L c) 0) refl (call c l m) more (λ old. stood l k old)
  where
    step : (b : Bool) → eqb (refusal w L c) 0 ≡ b → Leaves (c ∷ h) (cond b (accepted w c) w) → k < outstanding (cond b (accepted w c) w)
        → (k < outstanding w → Stood h w k) → Stood (c ∷ h) (cond b (accepted w c) w) k
    step true e l' more s = accepts k l L c (eqb-true (refusal w L c) 0 e) l' more s
    step false e l' more s = kept k l c w l' refl refl refl (s more)

-- ---- there is one such part of the history

one_part : (l m : List Call) {x y : Call} {e f : List Call} → l ++ x ∷ e ≡ m ++ y ∷ f
    → ((n : ℕ) → ¬ (e ≡ drop n m ++ y ∷ f)) → ((n : ℕ) → ¬ (f ≡ drop n l ++ x ∷ e)) → e ≡ f
one_part [] [] q a b = cc
one_part [] (z ∷ m) q a b = absurd (a 1 (cc))
one_part (z ∷ l) [] q a b = absurd (b 1 (cc))
one_part (z ∷ l) (t ∷ m) q a b = one_part l m (cc) (λ n. a (suc n)) (λ n. b (suc n))

module _ {h : List Call} {w : Standing} {k : ℕ} where
  -- what was left before is not left since
  not_since : (s t : Stood h w k) (n : ℕ) → ¬ (s.earlier ≡ drop n t.later ++ making t.decision ∷ t.earlier)
  not_since s t n e =
      let same = t.since n s.before (rw e at s.leaves) in
      let few = length-take (suc k) s.before.decisions in
      let more = length-append t.before.decisions (t.decision ∷ []) in
      let long = ap length same in
      omega (arith, s.depth, t.depth)

  stood_once : (s t : Stood h w k) → s.earlier ≡ t.earlier
  stood_once s t = one_part s.later t.later (sym s.history ∙ t.history) (not_since s t) (not_since t s)

-- ---- taking back gives what stood

pub gives_what_stood : {h : List Call} {w : Standing} → Leaves h w → (k : ℕ) → GivesWhatStood h w k
gives_what_stood {w} l k = record {
  taken = λ few L. finds (tests w L (take_back k)) 0 (inr (le-ltb (outstanding w) k few, refl));
  fewer = stood l k;
  once = stood_once;
  same = λ e. goes_back w w k refl refl (rw e (take-length w.decisions));
}
