-- The eight vectors of document 000, example 1, one after the other: the values of the variables 0, 1 and 2 in each.
use Rattle.std.specs.Prelude.{List, [], ◌∷◌, ℕ}

abbrev pub eight : List ℕ
eight =
    1 ∷ 1 ∷ 0
    ∷ 5 ∷ 5 ∷ 3
    ∷ 7 ∷ 3 ∷ 5
    ∷ 1 ∷ 2 ∷ 1
    ∷ 9 ∷ 5 ∷ 2
    ∷ 3 ∷ 4 ∷ 3
    ∷ 5 ∷ 3 ∷ 6
    ∷ 10 ∷ 3 ∷ 4
    ∷ []
