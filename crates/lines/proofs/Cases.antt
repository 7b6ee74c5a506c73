-- Lines of document 01 written out, and numbers at the ends of their ranges. Assumes nothing.
use mathlib.Core.Path.{◌≡◌, refl}
use mathlib.Core.List.{[], ◌∷◌}
use Prim.Native.Nat.{◌-◌, ◌^◌}
use Rattle.lines.specs.Lines.{bytes, spell, decimal, refused_line, found_lines, found_text}

-- the output of the eight vectors
eight : found_text (7 ∷ 3 ∷ 5 ∷ []) (3 ∷ 5 ∷ 7 ∷ []) ≡ bytes "found\nvalues 7 3 5\nsorted 3 5 7\n"
unfolding spell decimal found_lines found_text
eight = refl

-- the file `a 1 2 0 1 2 9`
after_its_end : refused_line 7 12 ≡ bytes "refused 7 at 12\n"
unfolding spell decimal refused_line
after_its_end = refl

empty_file : refused_line 7 0 ≡ bytes "refused 7 at 0\n"
unfolding spell decimal refused_line
empty_file = refl

largest : decimal (2 ^ 64 - 1) ≡ bytes "18446744073709551615"
unfolding spell decimal
largest = refl
