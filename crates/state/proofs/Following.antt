-- The lists follow a new rule: what is asked of the state with the rule written in it, and what it holds once they have. Assumes nothing.
use mathlib.Core.Path.{◌≡◌, sym, ap, ◌∙◌}
use mathlib.Core.Logic.{◌⊎◌, inr, ⊎_elim, by_cases}
use mathlib.Core.List.Memᴰ
use mathlib.Core.List.{List, [], ◌∷◌, ◌++◌, Memᴰ}
use Prim.Native.Nat.{ℕ, zero, suc, ◌+◌, ◌≤◌, ◌<◌}
use native.Mathlib.Decide.{ℕ_discrete}
use native.Mathlib.Omega.{arith}
use lib.ListN.{length, get_or, set, take, length-append, get_or-append, get_or-map, get_or-eq_default}
use lib.Seq.{length-take-le}
use Rattle.meaning.specs.Limits.{variable_limit}
use Rattle.meaning.specs.Rules.{Rule}
use Rattle.meaning.specs.Standing.{Standing}
use Rattle.meaning.specs.Lists.{Largest}
use Rattle.meaning.specs.Calls.{Call, with_rule}
use Rattle.meaning.specs.Histories.{Leaves}
use Rattle.meaning.specs.Proper.{Proper}
use Rattle.meaning.proofs.Steps.{rule_between}
use Rattle.state.specs.declared.State.{State}
use Rattle.filters.specs.Layout.{no_head, rule_under, rules_at, rule_at}
use Rattle.filters.specs.Held.{InRoom}
use Rattle.filters.specs.declared.Head.{Head}
use Rattle.filters.specs.Filter.{Filtering, FiltersBy, LargestIn, ClosedBy}
use Rattle.blocks.specs.Blocks.{block, list_after}
use Rattle.state.specs.Holds.{Holds, HoldsLists, up_to, heads_held}
use Rattle.state.specs.Additions.{LaidOut, Followable, Followed}
use Rattle.state.proofs.Holding.{current, none_of}
use Rattle.blocks.proofs.Reading.{block_length}
use Rattle.filters.proofs.Closing.{follows_none, follows_some, empty_within}
use Rattle.state.proofs.Depths.{wide_block, settled, first_within, within_first, same_within}
use Rattle.blocks.proofs.Writing.{block_written, block_stays, whole_set}
use Rattle.filters.proofs.Cells.{mem_at}
use Rattle.filters.proofs.Rooms.{length_heads_of}
use Rattle.filters.proofs.Laid.{laid_rules}
use Rattle.filters.proofs.Closing.{closed_kept}
use Rattle.state.proofs.Reading.{first_heads}

abbrev pub with_lists : State → List (List ℕ) → State
with_lists s l = record {
  variables = s.variables;
  declared = s.declared;
  rules = s.rules;
  heads = s.heads;
  used = s.used;
  room = s.room;
  objectives = s.objectives;
  objective = s.objective;
  depth = s.depth;
  lists = l;
}

module _ (s t : State) (w : Standing) (r : Rule) (p : Proper w) (q : Proper (with_rule w r)) (hold : Holds s w) (free : s.depth ≡ 0) (l : LaidOut t (with_rule w r) s.lists) where
  none : length w.decisions ≡ 0
  none = omega (arith, hold.depth)

  n : ℕ
  n = length w.declared

  narrow : List ℕ
  narrow = block s.lists 0 (length w.declared)

  wide : List ℕ
  wide = block s.lists 0 variable_limit

  same : (x : ℕ) → get_or wide x 0 ≡ get_or narrow x 0
  unfolding wide narrow
  same = wide_block w p s.lists hold.lists 0 (omega arith)

  now_left : Largest w narrow
  unfolding narrow
  now_left = rw none at (current hold)

  in_room : InRoom (w.rules ++ (r ∷ [])) (heads_held t) t.room
  in_room = record { heads_are = first_heads (w.rules ++ (r ∷ [])) t.rules t.heads l.rules l.heads; room_is = l.room }

  count : length (heads_held t) ≡ length w.rules + 1
  count = ap length in_room.heads_are ∙ length_heads_of 0 (w.rules ++ (r ∷ [])) ∙ length-append w.rules (r ∷ [])

  all_rules : rules_at (heads_held t) t.room ≡ w.rules ++ (r ∷ [])
  all_rules = laid_rules (with_rule w r) q in_room

  old_rule : (k : ℕ) → k < length w.rules → Memᴰ (rule_at (heads_held t) t.room k) w.rules
  old_rule k i =
      let d = rule_under t.room no_head in
      let e = sym (get_or-map (rule_under t.room) (heads_held t) k no_head) ∙ ap (λ (rs : List Rule). get_or rs k d) all_rules ∙ get_or-append w.rules (r ∷ []) d k i in
      Memᴰ.cast e (mem_at w.rules k d i)

  pub followable : {g : List Call} → Leaves g (with_rule w r) → Followable t s.rules
  unfolding wide narrow
  followable {g} later = record {
    held = (g, with_rule w r, later, in_room);
    lists = rw l.lists hold.lists.whole;
    known = omega (arith, count, hold.rules);
    others = rw l.lists others;
  }
    where
      others : (k : ℕ) → k < length (heads_held t) → ¬ (k ≡ s.rules) → ClosedBy (rule_at (heads_held t) t.room k) wide
      others k i d = closed_kept narrow wide (λ y m. same y) (now_left.closed (rule_at (heads_held t) t.room k) (old_rule k (omega (arith, count, hold.rules))))

  -- once they have, the state holds what stands with the rule
  module _ (u : State) (f : Followed t u) where
    M : List ℕ
    M = f.left

    largest : LargestIn (w.rules ++ (r ∷ [])) wide M
    unfolding M wide
    largest = rw (all_rules, l.lists) at f.largest

    long : length M ≡ variable_limit
    unfolding M wide
    long = largest.long ∙ block_length s.lists 0 variable_limit hold.lists.whole (omega arith) (omega arith)

    past : (x : ℕ) → length w.declared ≤ x → get_or M x 0 ≡ 0
    unfolding narrow
    past x i =
        empty_within M wide x largest.within
        (same x ∙ get_or-eq_default narrow 0 {n = x} (omega (arith, block_length s.lists 0 (length w.declared) hold.lists.whole (omega arith) p.variables)))

    left : Largest (with_rule w r) (take (length w.declared) M)
    left =
        settled {w = with_rule w r} {B = wide} {C = narrow} {K = take (length w.declared) M} {M = M} (rule_between {w = w} {L = narrow} r now_left) largest
        (same_within wide narrow same) (same_within narrow wide (λ x. sym (same x)))
        (first_within (length w.declared) M) (within_first (length w.declared) M past)
        (length-take-le (length w.declared) M (omega (arith, long, p.variables)))

    lists : HoldsLists (set s.lists 0 M) (with_rule w r)
    lists = record {
      whole = whole_set s.lists 0 M hold.lists.whole long;
      left = at_depth_lem;
      rest = λ k x small out. by_cases (ℕ_discrete k 0) (first k x small out) (later k x small);
    }
      where
        at_depth_lem : (k : ℕ) → k ≤ length w.decisions → Largest (up_to (with_rule w r) k) (block (set s.lists 0 M) k (length w.declared))
        at_depth_lem zero i =
            let e = none_of w.decisions none in
            rw (block_written s.lists 0 M hold.lists.whole (omega arith), ← e) left
        at_depth_lem (suc k) i = absurd (omega (arith, none))

        first : (k x : ℕ) → x < variable_limit → (length w.declared ≤ x) ⊎ (length w.decisions < k) → k ≡ 0 → list_after (set s.lists 0 M) k x ≡ 0
        first k x small out e =
            let i : length w.declared ≤ x = ⊎_elim (λ i. i) (λ i. absurd (omega arith)) out in
            rw (e, block_written s.lists 0 M hold.lists.whole (omega arith)) (past x i)

        later : (k x : ℕ) → x < variable_limit → ¬ (k ≡ 0) → list_after (set s.lists 0 M) k x ≡ 0
        later k x small d = ap (λ (b : List ℕ). get_or b x 0) (block_stays s.lists 0 M k d) ∙ hold.lists.rest k x small (inr (omega (arith, none)))

    pub followed_held : Holds u (with_rule w r)
    unfolding M
    followed_held =
        rw f.is (record {
          variables = l.variables;
          declared = l.declared;
          rules = l.rules;
          heads = l.heads;
          used = l.used;
          room = l.room;
          objectives = l.objectives;
          objective = l.objective;
          depth = l.depth;
          lists = rw l.lists lists;
        })

-- as the code comes by it: from the rules that are held, a copy of the block, and what is written back
module _ (s : State) (k : ℕ) (ready : Followable s k) (heads : List Head) (room : List ℕ) (held : (heads ≡ heads_held s) × (room ≡ s.room)) (b K : List ℕ) (l : List (List ℕ)) (c : ℕ)
    (eb : b ≡ block s.lists 0 variable_limit) (filtered : FiltersBy heads room k b K c) where
  f : Filtering (rule_at (heads_held s) s.room k) b K c
  f = (rw (held.0, held.1) at filtered).by ready.known (ap length eb ∙ block_length s.lists 0 variable_limit ready.lists (omega arith) (omega arith))

  closed_before : (j : ℕ) → j < length (heads_held s) → ¬ (j ≡ k) → ClosedBy (rule_at (heads_held s) s.room j) b
  closed_before j h d = rw eb (ready.others j h d)

  pub stays : (M : List ℕ) → l ≡ set s.lists 0 M → M ≡ K → c ≡ 0 → Followed s (with_lists s l)
  stays M el e z = record {
    left = K;
    largest = rw eb at (follows_none (heads_held s) s.room k ready.known closed_before f z);
    is = ap (with_lists s) (rw e at el);
  }

  pub goes_on : (M N : List ℕ) → l ≡ set s.lists 0 M → M ≡ N → LargestIn (rules_at heads room) K N → Followed s (with_lists s l)
  goes_on M N el e m = record {
    left = N;
    largest = rw eb at (follows_some (heads_held s) s.room k ready.known closed_before f N (rw (held.0, held.1) at m));
    is = ap (with_lists s) (rw e at el);
  }
