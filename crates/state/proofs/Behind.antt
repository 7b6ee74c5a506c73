-- A rule written behind those that are there: the heads and the room are then those of one rule more. Assumes nothing.
use mathlib.Core.Path.{◌≡◌, sym, ap, ap₂, ◌∙◌}
use mathlib.Core.List.{List, [], ◌∷◌, ◌++◌, map, append_assoc}
use Prim.Native.Nat.{ℕ, ◌+◌, ◌/◌, ◌%◌, ◌≤◌, ◌<◌}
use native.Mathlib.Nat.{div-add-mod'}
use native.Mathlib.Omega.{arith}
use lib.IntN.{ℤ}
use lib.ListN.{length, set, length-append, length-map}
use lib.Seq.{paste}
use Rattle.meaning.specs.Limits.{rule_limit, room_limit, coefficient_limit}
use Rattle.meaning.specs.Rules.{Rule, linear, room}
use Rattle.meaning.specs.Calls.{Sort, allow, forbid, held, tuples_of, rule_of}
use Rattle.filters.specs.declared.Head.{Head}
use Rattle.filters.specs.Layout.{shift, no_head, joined, numbers_of, head_of, heads_of, room_of, filled, padded}
use Rattle.filters.proofs.Padding.{paste_padded, filled_more, filled_set}
use Rattle.filters.proofs.Rooms.{AllProper, joined_rows, length_heads_of, length_room_of, heads_of_more, room_of_more}

-- numbers put behind the list in a padded room
abbrev pub Put : List ℕ → ℕ → List ℕ → List ℕ → Type 0
Put before at more after = after ≡ paste before at more (length more)

put_behind : (l more before after : List ℕ) (at : ℕ) → length l ≡ at → before ≡ padded room_limit l → Put before at more after → after ≡ padded room_limit (l ++ more)
put_behind l more before after at e b p = p ∙ ap (λ (d : List ℕ). paste d at more (length more)) b ∙ paste_padded room_limit l more at e

table_numbers : (sort : Sort) (s cells : List ℕ) → length cells % length s ≡ 0 → numbers_of (rule_of sort s cells) ≡ s ++ cells
table_numbers sort s cells h = by sort
  where
    whole : joined (tuples_of s cells) ≡ cells
    whole = joined_rows (length cells / length s) (length s) cells (omega (arith, div-add-mod' (length cells) (length s)))

    by : (sort : Sort) → numbers_of (rule_of sort s cells) ≡ s ++ cells
    by allow = ap (λ (l : List ℕ). s ++ l) whole
    by forbid = ap (λ (l : List ℕ). s ++ l) whole

module _ {n : ℕ} (rs : List Rule) (proper : AllProper n rs) where
  pub head_added : (r : Rule) (before after : List Head) → length rs < rule_limit → before ≡ filled no_head rule_limit (heads_of 0 rs)
      → after ≡ set before (length rs) (head_of (held rs) r) → after ≡ filled no_head rule_limit (heads_of 0 (rs ++ (r ∷ [])))
  head_added r before after few b e =
      let count : length rs ≡ length (heads_of 0 rs) = sym (length_heads_of 0 rs) in
      let start : held rs ≡ 0 + held rs = omega arith in
      e
      ∙ ap₂ (λ (hs : List Head) (k : ℕ). set hs k (head_of (held rs) r)) b count
      ∙ filled_set no_head rule_limit (heads_of 0 rs) (head_of (held rs) r) (omega (arith, length_heads_of 0 rs))
      ∙ ap (λ (k : ℕ). filled no_head rule_limit (heads_of 0 rs ++ (head_of k r ∷ []))) start
      ∙ ap (filled no_head rule_limit) (sym (heads_of_more 0 rs r))

  module _ (before : List ℕ) (so_far : before ≡ padded room_limit (room_of rs)) (s : List ℕ) (mid : List ℕ) (scope_put : Put before (held rs) s mid) where
    with_scope : mid ≡ padded room_limit (room_of rs ++ s)
    with_scope = put_behind (room_of rs) s before mid (held rs) (length_room_of rs proper) so_far scope_put

    long_scope : length (room_of rs ++ s) ≡ held rs + length s
    long_scope = omega (arith, length-append (room_of rs) s, length_room_of rs proper)

    pub table_added : (sort : Sort) (cells after : List ℕ) → length cells % length s ≡ 0 → Put mid (held rs + length s) cells after
        → after ≡ padded room_limit (room_of (rs ++ (rule_of sort s cells ∷ [])))
    table_added sort cells after h p =
        put_behind (room_of rs ++ s) cells mid after (held rs + length s) long_scope with_scope p
        ∙ ap (padded room_limit)
        (append_assoc (room_of rs) s cells
        ∙ ap (λ (l : List ℕ). room_of rs ++ l) (sym (table_numbers sort s cells h))
        ∙ sym (room_of_more rs (rule_of sort s cells)))

    -- the place of the bound stays empty
    pub linear_added : (cs : List ℤ) (b : ℤ) (after : List ℕ) → length cs ≡ length s → held rs + room (linear s cs b) ≤ room_limit
        → Put mid (held rs + length s) (map (shift coefficient_limit) cs) after → after ≡ padded room_limit (room_of (rs ++ (linear s cs b ∷ [])))
    linear_added cs b after l fits p =
        let kept = map (shift coefficient_limit) cs in
        let long = length-append (room_of rs ++ s) kept in
        put_behind (room_of rs ++ s) kept mid after (held rs + length s) long_scope with_scope p
        ∙ sym (filled_more 0 room_limit (room_of rs ++ s ++ kept) (omega (arith, long_scope, length-map cs (shift coefficient_limit))))
        ∙ ap (padded room_limit)
        (ap (λ (m : List ℕ). m ++ (0 ∷ [])) (append_assoc (room_of rs) s kept)
        ∙ append_assoc (room_of rs) (s ++ kept) (0 ∷ [])
        ∙ sym (room_of_more rs (linear s cs b)))
