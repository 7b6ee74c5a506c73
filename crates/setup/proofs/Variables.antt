-- The state in which nothing stands, and a state with one variable more. Assumes nothing.
use mathlib.Core.Path.{◌≡◌, refl, sym, ap, ◌∙◌}
use mathlib.Core.Logic.{◌⊎◌, inl, inr, ⊎_elim, by_cases}
use mathlib.Core.List.{List, [], ◌∷◌, ◌++◌}
use Prim.Native.Nat.{ℕ, zero, suc, ◌+◌, ◌≤◌, ◌<◌}
use native.Mathlib.Decide.{ℕ_discrete, dec_le}
use native.Mathlib.Omega.{arith}
use lib.ListN.{length, get_or, set, replicate, length-append, length-set, get_or-eq_default, get_or-replicate}
use lib.Seq.{take-nil, take-suc-set, get_or-set_other}
use Rattle.meaning.specs.Limits.{variable_limit, rule_limit, room_limit, objective_limit, decision_limit}
use Rattle.meaning.specs.Standing.{Standing, Decision, nothing}
use Rattle.meaning.specs.Lists.{Largest}
use Rattle.meaning.specs.Calls.{add_variable, accepted, held}
use Rattle.meaning.specs.Proper.{Proper}
use Rattle.meaning.proofs.Steps.{nothing_largest, variable_largest}
use Rattle.state.specs.declared.State.{State}
use Rattle.filters.specs.Layout.{no_head, heads_of, room_of, padded}
use Rattle.blocks.specs.Blocks.{block, empty_block, list_after, Whole}
use Rattle.state.specs.Holds.{Holds, HoldsLists, up_to}
use Rattle.blocks.proofs.Copying.{zeros_at}
use Rattle.blocks.proofs.Writing.{block_written, block_stays, whole_set}
use Rattle.filters.proofs.Padding.{filled_nil, padded_set, padded_nil}

-- ---- nothing

first_at : (k : ℕ) → k ≤ decision_limit → get_or (replicate (decision_limit + 1) empty_block) k [] ≡ empty_block
first_at k few = get_or-replicate (decision_limit + 1) k empty_block [] (omega arith)

first_whole : Whole (replicate (decision_limit + 1) empty_block)
first_whole = record { deep = refl; wide = λ k few. ap length (first_at k few) }

first_empty : (k x : ℕ) → list_after (replicate (decision_limit + 1) empty_block) k x ≡ 0
first_empty k x =
    by_cases (dec_le k decision_limit) (λ few. ap (λ (b : List ℕ). get_or b x 0) (first_at k few) ∙ zeros_at variable_limit x)
    (λ deep. ap (λ (b : List ℕ). get_or b x 0) (get_or-eq_default (replicate (decision_limit + 1) empty_block) [] {n = k} (omega arith)))

pub nothing_held : {s : State} → (s.variables ≡ 0) × (s.declared ≡ replicate variable_limit 0) × (s.rules ≡ 0) × (s.heads ≡ replicate rule_limit no_head)
    × (s.used ≡ 0) × (s.room ≡ replicate room_limit 0) × (s.objectives ≡ 0) × (s.objective ≡ replicate objective_limit 0)
    × (s.depth ≡ 0) × (s.lists ≡ replicate (decision_limit + 1) empty_block) → Holds s nothing
unfolding heads_of room_of held
nothing_held {s} (v, d, r, h, u, m, o, p, e, l) = record {
  variables = v;
  declared = d ∙ sym (padded_nil variable_limit);
  rules = r;
  heads = h ∙ sym (filled_nil no_head rule_limit);
  used = u;
  room = m ∙ sym (padded_nil room_limit);
  objectives = o;
  objective = p ∙ sym (padded_nil objective_limit);
  depth = e;
  lists = record {
    whole = rw l first_whole;
    left = λ k h. rw (take-nil {A = Decision} k) nothing_largest;
    rest = λ k x h c. rw l (first_empty k x);
  };
}

-- ---- a variable more

abbrev pub with_variable : State → ℕ → State
with_variable s m = record {
  variables = s.variables + 1;
  declared = set s.declared s.variables m;
  rules = s.rules;
  heads = s.heads;
  used = s.used;
  room = s.room;
  objectives = s.objectives;
  objective = s.objective;
  depth = s.depth;
  lists = set s.lists 0 (set (get_or s.lists 0 []) s.variables m);
}

module _ (s : State) (w : Standing) (m : ℕ) (p : Proper w) (h : Holds s w) (free : w.decisions ≡ []) (few : length w.declared < variable_limit) where
  n : ℕ
  n = length w.declared

  now : List ℕ
  now = get_or s.lists 0 []

  wide : length now ≡ variable_limit
  unfolding now
  wide = h.lists.whole.wide 0 (omega arith)

  lists_grow : HoldsLists (set s.lists 0 (set now n m)) (accepted w (add_variable m))
  unfolding n now
  lists_grow = record {
    whole = whole_set s.lists 0 (set now n m) h.lists.whole (length-set now n m ∙ wide);
    left = left;
    rest = λ k x small past. by_cases (ℕ_discrete k 0) (here k x small past) (later k x small);
  }
    where
      grows : length (w.declared ++ (m ∷ [])) ≡ n + 1
      grows = length-append w.declared (m ∷ [])

      written : get_or (set s.lists 0 (set now n m)) 0 [] ≡ set now n m
      written = block_written s.lists 0 (set now n m) h.lists.whole (omega arith)

      here : (k x : ℕ) → x < variable_limit → (length (w.declared ++ (m ∷ [])) ≤ x) ⊎ (length w.decisions < k) → k ≡ 0
          → list_after (set s.lists 0 (set now n m)) k x ≡ 0
      here k x small past e =
          let i : n < x = ⊎_elim (λ i. omega (arith, grows)) (λ i. absurd (omega arith)) past in
          rw (e, written) (get_or-set_other now n x m 0 (omega arith) ∙ h.lists.rest 0 x small (inl (omega arith)))

      later : (k x : ℕ) → x < variable_limit → ¬ (k ≡ 0) → list_after (set s.lists 0 (set now n m)) k x ≡ 0
      later k x small other =
          ap (λ (b : List ℕ). get_or b x 0) (block_stays s.lists 0 (set now n m) k other) ∙ h.lists.rest k x small (inr (omega (arith, ap length free)))

      left : (k : ℕ) → k ≤ length w.decisions
          → Largest (up_to (accepted w (add_variable m)) k) (block (set s.lists 0 (set now n m)) k (length (w.declared ++ (m ∷ []))))
      left zero l =
          let e : length (w.declared ++ (m ∷ [])) ≡ suc n = omega (arith, grows) in
          let inside : n < length now = omega (arith, few, wide) in
          rw (e, written, take-suc-set now n m inside) (variable_largest m (h.lists.left 0 l) (λ r i. (p.rules r i).known) refl)
      left (suc k) l = absurd (omega (arith, ap length free))

  pub variable_held : Holds (with_variable s m) (accepted w (add_variable m))
  unfolding n now
  variable_held =
      let grows = length-append w.declared (m ∷ []) in
      let v = h.variables in
      record {
        variables = omega arith;
        declared = ap (λ (l : List ℕ). set l s.variables m) h.declared ∙ ap (λ (k : ℕ). set (padded variable_limit w.declared) k m) v ∙ padded_set variable_limit w.declared m few;
        rules = h.rules;
        heads = h.heads;
        used = h.used;
        room = h.room;
        objectives = h.objectives;
        objective = h.objective;
        depth = h.depth;
        lists = rw v lists_grow;
      }
