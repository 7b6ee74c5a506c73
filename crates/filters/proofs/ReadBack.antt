-- Rules that lie one after the other in a room are read back, under their heads, as they were written. Assumes nothing.
use mathlib.Core.Path.{◌≡◌, refl, sym, ap, ap₂, ◌∙◌, subst⁻¹}
use mathlib.Core.List.Memᴰ
use mathlib.Core.List.{List, [], ◌∷◌, ◌++◌, append_assoc}
use Prim.Native.Nat.{ℕ, zero, suc, ◌+◌, ◌≤◌, ◌<◌}
use native.Mathlib.Nat.{le_of_suc-le-suc}
use native.Mathlib.Omega.{arith}
use lib.ListN.{length, drop}
use lib.Seq.{drop_at, drop-drop}
use Rattle.meaning.specs.Limits.{variable_limit}
use Rattle.meaning.specs.Rules.{Rule, room}
use Rattle.meaning.specs.Calls.{held}
use Rattle.meaning.specs.Proper.{ProperRule}
use Rattle.filters.specs.Layout.{Placed, head, rules_at, numbers_of, heads_of, room_of}
use Rattle.filters.proofs.Rooms.{AllProper, size_room, rule_read, length_numbers_of}

-- a rule on n variables is one on more
wider : {n m : ℕ} {r : Rule} → n ≤ m → ProperRule n r → ProperRule m r
wider h p = record { some = p.some; known = λ x i. omega (arith, p.known x i); once = p.once; parts = p.parts }

others : {n : ℕ} {r : Rule} {rs : List Rule} → AllProper n (r ∷ rs) → AllProper n rs
others proper q m = proper q (Memᴰ.tail m)

-- the rules lie in the room from a place on, with anything behind them
module _ (cells rest : List ℕ) where
  first_there : (start : ℕ) (r : Rule) (rs : List Rule) → drop start cells ≡ room_of (r ∷ rs) ++ rest → drop start cells ≡ numbers_of r ++ (room_of rs ++ rest)
  unfolding room_of
  first_there start r rs e = e ∙ append_assoc (numbers_of r) (room_of rs) rest

  others_there : {n : ℕ} (start : ℕ) (r : Rule) (rs : List Rule) → ProperRule n r → drop start cells ≡ room_of (r ∷ rs) ++ rest → drop (start + room r) cells ≡ room_of rs ++ rest
  others_there start r rs p e =
      sym (drop-drop (room r) start cells)
      ∙ ap (drop (room r)) (first_there start r rs e)
      ∙ drop_at (numbers_of r) (room_of rs ++ rest) (room r) (length_numbers_of r p)

  pub read_back : {n : ℕ} (start : ℕ) (rs : List Rule) → AllProper n rs → drop start cells ≡ room_of rs ++ rest → rules_at (heads_of start rs) cells ≡ rs
  unfolding heads_of
  read_back start [] proper e = refl
  read_back start (r ∷ rs) proper e =
      let own = proper r (Memᴰ.head refl) in
      ap₂ ◌∷◌ (rule_read cells start (room_of rs ++ rest) r own (first_there start r rs e))
      (read_back (start + room r) rs (others proper) (others_there start r rs own e))

  pub placed : {n : ℕ} → n ≤ variable_limit → (start : ℕ) (rs : List Rule) → AllProper n rs → drop start cells ≡ room_of rs ++ rest → start + held rs ≤ length cells
      → (k : ℕ) → k < length (heads_of start rs) → Placed cells (head (heads_of start rs) k)
  unfolding heads_of held
  placed few start [] proper e fits k l = absurd (omega arith)
  placed few start (r ∷ rs) proper e fits zero l =
      let own = proper r (Memᴰ.head refl) in record {
        fits = omega (arith, size_room r);
        proper = subst⁻¹ (ProperRule variable_limit) (rule_read cells start (room_of rs ++ rest) r own (first_there start r rs e)) (wider few own);
      }
  placed few start (r ∷ rs) proper e fits (suc k) l =
      placed few (start + room r) rs (others proper) (others_there start r rs (proper r (Memᴰ.head refl)) e) (omega arith) k (le_of_suc-le-suc l)
