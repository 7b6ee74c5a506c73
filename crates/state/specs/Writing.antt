-- What writing into the room of a state asks.
use Rattle.std.specs.Prelude.{List, ℤ}
use mathlib.Core.List.{Memᴰ}
use Rattle.meaning.specs.Limits.{coefficient_limit}
use Rattle.meaning.specs.Proper.{Around}

-- every coefficient is in range
abbrev pub InRange : List ℤ → Type 0
InRange cs = (c : ℤ) → Memᴰ c cs → Around coefficient_limit c
