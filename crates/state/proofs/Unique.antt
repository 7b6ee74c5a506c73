-- Demand 1: two results that a public contract allows are equal. Assumes nothing.
use mathlib.Core.Path.{◌≡◌, sym, ap, ◌∙◌}
use mathlib.Core.Logic.{inl, inr, by_cases}
use mathlib.Core.List.{List, []}
use Prim.Native.Nat.{ℕ, ◌≤◌, ◌<◌}
use lib.IntN.{ℤ}
use native.Mathlib.Decide.{dec_lt, dec_le}
use native.Mathlib.Omega.{arith}
use lib.ListN.{length, get_or}
use lib.Seq.{ext_get_or}
use Rattle.meaning.specs.Limits.{variable_limit, decision_limit}
use Rattle.meaning.specs.Standing.{Standing}
use Rattle.meaning.specs.Calls.{Call, add_table, add_linear}
use Rattle.meaning.proofs.Largest.{largest_unique}
use Rattle.state.specs.declared.State.{State}
use Rattle.state.specs.declared.Sort.{Sort}
use Rattle.std.specs.Prelude.{Result}
use Rattle.refusals.specs.declared.Refusal.{Refusal}
use Rattle.state.specs.Holds.{Holds, HoldsLists, Reached}
use Rattle.refusals.proofs.Unique.{answer_unique}
use Rattle.refusals.specs.Numbers.{number_of}
use Rattle.filters.specs.declared.Head.{Head}
use Rattle.filters.specs.declared.Kind.{Kind}
use Rattle.state.specs.declared.AfterCall.{AfterCall}
use Rattle.state.specs.Promises.{Answers, AddsTable, AddsLinear, IsAccepted, IsRefused, LendsRules, IsKindOf, sort_said}
use Rattle.state.proofs.Holding.{current}
use Rattle.blocks.specs.Blocks.{list_after}
use Rattle.blocks.proofs.Reading.{block_at}

-- ---- states

lists_unique : {w : Standing} {l m : List (List ℕ)} → HoldsLists l w → HoldsLists m w → l ≡ m
lists_unique {w} {l} {m} a b = ext_get_or [] l m (a.whole.deep ∙ sym b.whole.deep) λ k inside.
    let few : k ≤ decision_limit = omega (arith, a.whole.deep) in
    ext_get_or 0 (get_or l k []) (get_or m k []) (a.whole.wide k few ∙ sym (b.whole.wide k few)) λ x small. same k x (omega (arith, a.whole.wide k few))
  where
    same : (k x : ℕ) → x < variable_limit → list_after l k x ≡ list_after m k x
    same k x small =
        by_cases (dec_le k (length w.decisions))
        (λ low. by_cases (dec_lt x (length w.declared))
        (λ known. sym (block_at l k (length w.declared) x known) ∙ ap (λ (b : List ℕ). get_or b x 0) (largest_unique (a.left k low) (b.left k low)) ∙ block_at m k (length w.declared) x known)
        (λ past. a.rest k x small (inl (omega arith)) ∙ sym (b.rest k x small (inl (omega arith)))))
        (λ deep. a.rest k x small (inr (omega arith)) ∙ sym (b.rest k x small (inr (omega arith))))

-- two states that hold the same are equal
pub holds_unique : {w : Standing} {s t : State} → Holds s w → Holds t w → s ≡ t
holds_unique {s} {t} a b i = record {
  variables = (a.variables ∙ sym b.variables) i;
  declared = (a.declared ∙ sym b.declared) i;
  rules = (a.rules ∙ sym b.rules) i;
  heads = (a.heads ∙ sym b.heads) i;
  used = (a.used ∙ sym b.used) i;
  room = (a.room ∙ sym b.room) i;
  objectives = (a.objectives ∙ sym b.objectives) i;
  objective = (a.objective ∙ sym b.objective) i;
  depth = (a.depth ∙ sym b.depth) i;
  lists = lists_unique a.lists b.lists i;
}

-- ---- calls

module _ {s : State} (reached : Reached s) where
  -- every call that changes what stands
  pub call_unique : (c : Call) {m n : ℕ} {t u : State} → Answers s c m t → Answers s c n u → (m ≡ n) × (t ≡ u)
  call_unique c a b =
      let (h, w, l, hold) = reached in
      let (e, x) = a h w _ l hold (current hold) in
      let (f, y) = b h w _ l hold (current hold) in
      (e ∙ sym f, holds_unique x y)

  -- the same for the answers that the code gives
  pub answers_unique : (c : Call) {a b : Result Unit Refusal} {t u : State} → Answers s c (number_of a) t → Answers s c (number_of b) u → (a ≡ b) × (t ≡ u)
  answers_unique c {a} {b} x y = let (e, f) = call_unique c x y in (answer_unique a b e, f)

  module _ (a b : Result Unit Refusal) {t u : State} (scope : List ℕ) where
    pub add_table_unique : (sort : Sort) (cells : List ℕ) → AddsTable s sort scope cells a t → AddsTable s sort scope cells b u → (a ≡ b) × (t ≡ u)
    add_table_unique sort cells = answers_unique (add_table (sort_said sort) scope cells)

    pub add_linear_unique : (coefficients : List ℤ) (bound : ℤ) → AddsLinear s scope coefficients bound a t → AddsLinear s scope coefficients bound b u
        → (a ≡ b) × (t ≡ u)
    add_linear_unique coefficients bound = answers_unique (add_linear scope coefficients bound)

-- ---- what the calls share

pub accepted_unique : (s : State) (a b : AfterCall) → IsAccepted s a → IsAccepted s b → a ≡ b
accepted_unique s a b (p, q) (r, t) i = record { answer = (p ∙ sym r) i; state = (q ∙ sym t) i }

pub refused_unique : (refusal : Refusal) (s : State) (a b : AfterCall) → IsRefused refusal s a → IsRefused refusal s b → a ≡ b
refused_unique refusal s a b (p, q) (r, t) i = record { answer = (p ∙ sym r) i; state = (q ∙ sym t) i }

pub rules_held_unique : (s : State) (heads hs : List Head) (room cells : List ℕ) → LendsRules s heads room → LendsRules s hs cells
    → (heads ≡ hs) × (room ≡ cells)
rules_held_unique s heads hs room cells (p, q) (r, t) = (p ∙ sym r, q ∙ sym t)

pub kind_unique : (sort : Sort) (a b : Kind) → IsKindOf sort a → IsKindOf sort b → a ≡ b
kind_unique sort a b p q = p ∙ sym q
