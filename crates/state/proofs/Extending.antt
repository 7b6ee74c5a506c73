-- A rule more: the state is laid out with it, the lists follow, and what stands with it is held. Assumes nothing.
use mathlib.Core.Path.{◌≡◌, refl, ap, ◌∙◌}
use mathlib.Core.List.{List, [], ◌∷◌, ◌++◌, map}
use Prim.Native.Nat.{ℕ, ◌+◌, ◌*◌, ◌/◌, ◌<◌}
use native.Mathlib.Nat.{div-add-mod', mul_comm}
use native.Mathlib.Omega.{arith}
use lib.IntN.{ℤ}
use lib.ListN.{length, set, length-append}
use Rattle.meaning.specs.Limits.{rule_limit, room_limit, coefficient_limit}
use Rattle.meaning.specs.Rules.{Rule, linear, room}
use Rattle.meaning.specs.Standing.{Standing}
use Rattle.meaning.specs.Calls as Calls
use Rattle.meaning.specs.Calls.{Call, tuples_of, rule_of, with_rule, refusal, accepted}
use Rattle.meaning.specs.Histories.{call}
use Rattle.meaning.specs.Proper.{Proper}
use Rattle.meaning.proofs.Histories.{after_accepted}
use Rattle.meaning.proofs.Proper.{leaves_proper, accepted_proper, rows_count, held_more}
use Rattle.state.specs.declared.State.{State}
use Rattle.state.specs.declared.Sort.{Sort}
use Rattle.state.specs.declared.Sort.TheVariants.{Allow, Forbid}
use Rattle.filters.specs.declared.Head.{Head}
use Rattle.filters.specs.declared.Kind.{Kind}
use Rattle.filters.specs.Layout.{shift, head_of, room_of, padded}
use Rattle.state.specs.Holds.{Holds, Reached}
use Rattle.state.specs.Promises.{Answers, sort_said}
use Rattle.state.specs.Additions.{kind_said, TableFits, LinearFits, LaidOut, Extends, Followable, Followed, Counted, counts_of}
use Rattle.state.proofs.Answering.{accepts}
use Rattle.state.proofs.Holding.{current}
use Rattle.state.proofs.Following.{followable, followed_held}
use Rattle.state.proofs.Behind.{Put, head_added, table_added, linear_added}

-- ---- the rule's place

abbrev pub with_rule_at : State → List Head → ℕ → List ℕ → State
with_rule_at s heads used cells = record {
  variables = s.variables;
  declared = s.declared;
  rules = s.rules + 1;
  heads = heads;
  used = used;
  room = cells;
  objectives = s.objectives;
  objective = s.objective;
  depth = s.depth;
  lists = s.lists;
}

-- the heads, the used part of the room and the numbers in it are those of the rules with r behind them
laid : (s : State) (w : Standing) (r : Rule) (heads : List Head) (cells : List ℕ) (used : ℕ) → Proper w → Holds s w → s.rules < rule_limit
    → heads ≡ set s.heads s.rules (head_of s.used r) → used ≡ s.used + room r
    → cells ≡ padded room_limit (room_of (w.rules ++ (r ∷ []))) → LaidOut (with_rule_at s heads used cells) (with_rule w r) s.lists
laid s w r heads cells used p hold few put total full = record {
  variables = hold.variables;
  declared = hold.declared;
  rules = omega (arith, hold.rules, length-append w.rules (r ∷ []));
  heads = head_added w.rules p.rules r s.heads heads (omega (arith, hold.rules)) hold.heads (rw (hold.rules, hold.used) at put);
  used = omega (arith, total, hold.used, held_more w.rules r);
  room = full;
  objectives = hold.objectives;
  objective = hold.objective;
  depth = hold.depth;
  lists = refl;
}

-- ---- a table

module _ (s : State) (scope cells : List ℕ) (f : TableFits s.depth s.rules s.used scope cells) where
  tuples : length (tuples_of scope cells) ≡ length cells / length scope
  tuples = rows_count (length cells / length scope) (length scope) cells

  numbers : length scope * length (tuples_of scope cells) ≡ length cells
  numbers =
      ap (λ (m : ℕ). length scope * m) tuples ∙ mul_comm (length scope) (length cells / length scope)
      ∙ omega (arith, div-add-mod' (length cells) (length scope), f.whole)

  module _ (mid full : List ℕ) (first : Put s.room s.used scope mid) (second : Put mid (s.used + length scope) cells full) where
    table_laid_as : (sort : Calls.Sort) (r : Rule) → r ≡ rule_of sort scope cells → (heads : List Head) → heads ≡ set s.heads s.rules (head_of s.used r)
        → room r ≡ length scope + length scope * length (tuples_of scope cells)
        → Extends s r (with_rule_at s heads (s.used + length scope + length cells) full)
    table_laid_as sort r is heads put size h w l hold =
        let p = leaves_proper l in
        laid s w r heads full (s.used + length scope + length cells) p hold f.count put (omega (arith, size, numbers))
        (rw is (table_added w.rules p.rules s.room hold.room scope mid (rw hold.used at first) sort cells full f.whole (rw hold.used at second)))

    abbrev pub table_head : Kind → Head
    table_head kind = record { kind = kind; arity = length scope; start = s.used; last = length cells / length scope }

    pub table_laid : (sort : Sort) (heads : List Head) → heads ≡ set s.heads s.rules (table_head (kind_said sort))
        → Extends s (rule_of (sort_said sort) scope cells) (with_rule_at s heads (s.used + length scope + length cells) full)
    table_laid Allow heads put = table_laid_as Calls.allow (rule_of Calls.allow scope cells) refl heads (rw tuples put) refl
    table_laid Forbid heads put = table_laid_as Calls.forbid (rule_of Calls.forbid scope cells) refl heads (rw tuples put) refl

-- ---- a linear rule

pub linear_laid : (s : State) (scope : List ℕ) (cs : List ℤ) (b : ℤ) → LinearFits s.depth s.rules s.used scope cs b → (mid full : List ℕ) (heads : List Head)
    → Put s.room s.used scope mid → Put mid (s.used + length scope) (map (shift coefficient_limit) cs) full
    → heads ≡ set s.heads s.rules (head_of s.used (linear scope cs b))
    → Extends s (linear scope cs b) (with_rule_at s heads (s.used + length scope + length cs + 1) full)
linear_laid s scope cs b f mid full heads first second put h w l hold =
    let p = leaves_proper l in
    laid s w (linear scope cs b) heads full (s.used + length scope + length cs + 1) p hold f.count put (omega (arith, f.long))
    (linear_added w.rules p.rules s.room hold.room scope mid (rw hold.used at first) cs b full f.long (omega (arith, f.room, hold.used))
    (rw hold.used at second))

-- ---- the answers

pub counted : {s : State} {w : Standing} → Holds s w → Counted (counts_of s) w
counted hold = record { variables = hold.variables; depth = hold.depth; rules = hold.rules; used = hold.used }

module _ (s : State) (c : Call) (r : Rule) (accepted_is : (w : Standing) → accepted w c ≡ with_rule w r)
    (right : (w : Standing) (L : List ℕ) → Counted (counts_of s) w → refusal w L c ≡ 0) (free : s.depth ≡ 0) (t : State) (laid_out : Extends s r t) where
  proper_with : (w : Standing) (L : List ℕ) → Proper w → Holds s w → Proper (with_rule w r)
  proper_with w L p hold = rw (accepted_is w) at (accepted_proper w p L c (right w L (counted hold)))

  pub added_followable : Reached s → Followable t s.rules
  added_followable (h, w, l, hold) =
      let most = current hold in
      let later = rw (after_accepted w _ c (right w _ (counted hold)), accepted_is w) at (call c l most) in
      followable s t w r (leaves_proper l) (proper_with w [] (leaves_proper l) hold) hold free (laid_out h w l hold) later

  pub added_answers : (u : State) → Followed t u → Answers s c 0 u
  added_answers u f =
      accepts s c u λ h w L l hold most.
      let p = leaves_proper l in
      (right w L (counted hold), rw (accepted_is w) (followed_held s t w r p (proper_with w L p hold) hold free (laid_out h w l hold) u f))
