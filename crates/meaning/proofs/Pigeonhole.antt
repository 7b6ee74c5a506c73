-- The pigeonhole principle on lists of distinct elements. Assumes nothing.
use mathlib.Core.Path.{◌≡◌, refl, sym, ◌∙◌, subst}
use mathlib.Core.Logic.{⊎_elim, ◌≢◌}
use mathlib.Core.Bool.{Bool, true, false}
use mathlib.Core.List.Memᴰ
use mathlib.Core.List.{List, [], ◌∷◌, Memᴰ}
use Prim.Native.Nat.{suc, ◌+◌, ◌≤◌}
use native.Mathlib.Omega.{arith}
use lib.Dec.{T}
use lib.ListN.{length}
use Rattle.meaning.specs.Proper.{Distinct}
use Rattle.meaning.proofs.Counting.{one, count, one_yes}

module _ {A : Type 0} where
  -- the list without the occurrence that the membership names
  without : {x : A} {ys : List A} → Memᴰ x ys → List A
  without (Memᴰ.head {xs} e) = xs
  without (Memᴰ.tail {x} m) = x ∷ without m

  without_count : (q : A → Bool) {x : A} {ys : List A} (m : Memᴰ x ys) → T (q x) → count q ys ≡ suc (count q (without m))
  unfolding without
  without_count q (Memᴰ.head {x = y} e) t = omega (arith, one_yes (q y) (subst (λ (z : A). T (q z)) e t))
  without_count q (Memᴰ.tail m) t = omega (arith, without_count q m t)

  without_mem : {x : A} {ys : List A} (m : Memᴰ x ys) {y : A} → Memᴰ y ys → y ≢ x → Memᴰ y (without m)
  unfolding without
  without_mem (Memᴰ.head e) k ne = ⊎_elim (λ e'. absurd (ne (e' ∙ sym e))) (λ k'. k') (Memᴰ.cases_cons k)
  without_mem (Memᴰ.tail m) k ne = ⊎_elim (λ e'. Memᴰ.head e') (λ k'. Memᴰ.tail (without_mem m k' ne)) (Memᴰ.cases_cons k)

  -- Distinct elements that pass p, each of which stands in another list and passes q there, are no more than that list has
  pub pigeonhole : (p q : A → Bool) (xs ys : List A) → Distinct xs
      → ((x : A) → Memᴰ x xs → T (p x) → Memᴰ x ys × T (q x)) → count p xs ≤ count q ys
  pigeonhole p q [] ys d sub = omega arith
  pigeonhole p q (x ∷ xs) ys d sub = step (p x) (sub x (Memᴰ.head refl)) (λ zs. pigeonhole p q xs zs d.1)
    where
      step : (b : Bool) → (T b → Memᴰ x ys × T (q x))
          → ((zs : List A) → ((z : A) → Memᴰ z xs → T (p z) → Memᴰ z zs × T (q z)) → count p xs ≤ count q zs)
          → one b + count p xs ≤ count q ys
      step true f ih =
          let m = (f tt).0 in
          let h : count p xs ≤ count q (without m) =
          ih (without m) (λ z k t. let s = sub z (Memᴰ.tail k) t in (without_mem m s.0 (λ e. d.0 (Memᴰ.cast (sym e) k)), s.1)) in
          omega (arith, without_count q m (f tt).1)
      step false f ih = omega (arith, ih ys (λ z k t. sub z (Memᴰ.tail k) t))

  -- the test that all pass
  pub always : A → Bool
  always x = true

  pub always_yes : (x : A) → T (always x)
  unfolding always
  always_yes x = tt

  pub count_always : (xs : List A) → count always xs ≡ length xs
  unfolding always
  count_always [] = refl
  count_always (x ∷ xs) = omega (arith, count_always xs)
