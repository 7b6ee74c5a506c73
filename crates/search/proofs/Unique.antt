-- Any two results that the public contract of this crate allows are the same. Assumes nothing.
use mathlib.Core.Path.{◌≡◌, refl, sym, ap, ◌∙◌}
use mathlib.Core.Logic.{⊎_elim, by_cases}
use mathlib.Core.List.{List}
use Prim.Native.Nat.{ℕ}
use native.Mathlib.Decide.{dec_lt}
use native.Mathlib.Omega.{arith}
use lib.ListN.{get_or, take}
use lib.Seq.{ext_get_or, get_or-take}
use Rattle.std.specs.Prelude.{Option, None, Some}
use Rattle.meaning.specs.Rules.{Rule}
use Rattle.meaning.proofs.Leximin.{≺_tri}
use Rattle.filters.specs.declared.Head.{Head}
use Rattle.filters.specs.Layout.{rules_at}
use Rattle.search.specs.Search.{Meets, FirstOf, Found, Searched, FirstReaching}

module _ (rules : List Rule) (objectives y : List ℕ) (n : ℕ) (L : List ℕ) where
  first_unique : {a b : List ℕ} → FirstOf (Meets rules objectives y n L) a → FirstOf (Meets rules objectives y n L) b → a ≡ b
  first_unique {a} {b} p q =
      ⊎_elim (λ h. absurd (q.first a p.holds h)) (⊎_elim (λ e. e) (λ h. absurd (p.first b q.holds h)))
      (≺_tri a b (p.holds.long ∙ sym q.holds.long))

  found_unique : {out next : List ℕ} → Found rules objectives y n L out → Found rules objectives y n L next → out ≡ next
  found_unique {out} {next} a b =
      let e : take n out ≡ take n next = first_unique a.first b.first in
      ext_get_or 0 out next (a.long ∙ sym b.long) λ x i.
      by_cases (dec_lt x n) (λ l. sym (get_or-take n out x 0 l) ∙ ap (λ (u : List ℕ). get_or u x 0) e ∙ get_or-take n next x 0 l)
      (λ l. a.past x (omega arith) ∙ sym (b.past x (omega arith)))

  searched_unique : (r s : Option (List ℕ)) → Searched rules objectives y n L r → Searched rules objectives y n L s → r ≡ s
  searched_unique (Some out) (Some next) a b = ap Some (found_unique a b)
  searched_unique (Some out) None a b = absurd (b (take n out) a.first.holds)
  searched_unique None (Some next) a b = absurd (a (take n next) b.first.holds)
  searched_unique None None a b = refl

pub first_reaching_unique : (heads : List Head) (room goals : List ℕ) (n : ℕ) (lists floors : List ℕ) (r s : Option (List ℕ))
    → FirstReaching heads room goals n lists floors r → FirstReaching heads room goals n lists floors s → r ≡ s
first_reaching_unique heads room goals n lists floors r s a b = searched_unique (rules_at heads room) goals floors n lists r s a b
