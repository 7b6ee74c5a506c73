-- Boxes of tuples D₁ × … × D_k, and the counting law of forbidden tables: a tuple of the box with v at place j escapes the table just if
-- the table's tuples of that kind are fewer than the box has. Assumes nothing.
use mathlib.Core.Path.{◌≡◌, refl, ap, sym, ◌∙◌}
use mathlib.Core.Logic.{◌⊎◌, inl, inr, ⊎_elim, ◌↔◌}
use mathlib.Core.Bool.{Bool, true, false, ◌&&◌, ◌||◌}
use mathlib.Core.List.Memᴰ
use mathlib.Core.List.{List, [], ◌∷◌, ◌++◌, map, Memᴰ, List-discrete, head-eq_of_cons-eq, tail-eq_of_cons-eq}
use Prim.Native.Nat.{ℕ, zero, suc, ◌+◌, ◌*◌, ◌<◌}
use native.Mathlib.Nat.{not-suc-le-zero, le_of_suc-le-suc}
use native.Mathlib.Omega.{arith}
use native.Mathlib.Decide.{ℕ_discrete}
use lib.Dec.{T, eqb, eqb→eq}
use lib.ListN.{length, get_or, set, length-append, length-map}
use Rattle.meaning.specs.Proper.{Distinct}
use Rattle.meaning.proofs.Counting.{one, count, one_yes}
use Rattle.meaning.proofs.Pigeonhole.{pigeonhole, always, always_yes, count_always}
use Rattle.meaning.proofs.Tests.{and_left, and_right, and_both, or_left, or_right, eq-eqb}

abbrev pub among : List ℕ → ℕ → Bool
among [] x = false
among (y ∷ ys) x = eqb x y || among ys x

-- the tuple has a value of the first list first, one of the second second, and so on to the end of both
abbrev pub in_box : List (List ℕ) → List ℕ → Bool
in_box [] [] = true
in_box [] (x ∷ t) = false
in_box (d ∷ ds) [] = false
in_box (d ∷ ds) (x ∷ t) = among d x && in_box ds t

abbrev pub box_size : List (List ℕ) → ℕ
box_size [] = 1
box_size (d ∷ ds) = length d * box_size ds

-- the product of the lengths of all lists but the j-th
abbrev pub other_sizes : List (List ℕ) → ℕ → ℕ
other_sizes [] j = 1
other_sizes (d ∷ ds) zero = box_size ds
other_sizes (d ∷ ds) (suc j) = length d * other_sizes ds j

-- how many of the tuples lie in the box and have v at place j
abbrev pub hits : List (List ℕ) → ℕ → ℕ → List (List ℕ) → ℕ
hits ds j v ts = count (λ t. in_box ds t && eqb (get_or t j 0) v) ts

abbrev pub AllDistinct : List (List ℕ) → Type 0
AllDistinct [] = Unit
AllDistinct (d ∷ ds) = Distinct d × AllDistinct ds

pub among_mem : (d : List ℕ) (x : ℕ) → T (among d x) → Memᴰ x d
among_mem [] x t = absurd t
among_mem (y ∷ d) x t = step (eqb x y) (eqb→eq x y) (among_mem d x) t
  where
    step : (b : Bool) → (T b → x ≡ y) → (T (among d x) → Memᴰ x d) → T (b || among d x) → Memᴰ x (y ∷ d)
    step true e ih t = Memᴰ.head (e tt)
    step false e ih t = Memᴰ.tail (ih t)

pub mem_among : {x : ℕ} {d : List ℕ} → Memᴰ x d → T (among d x)
mem_among {x} (Memᴰ.head {x = y} {xs = d} e) = or_left (eqb x y) (among d x) (eq-eqb e)
mem_among {x} (Memᴰ.tail {x = y} {xs = d} m) = or_right (eqb x y) (among d x) (mem_among m)

-- ---- the box as a list of tuples

-- each value of d before each of the tuples
fan : List ℕ → List (List ℕ) → List (List ℕ)
fan [] ts = []
fan (x ∷ d) ts = map (λ t. x ∷ t) ts ++ fan d ts

box : List (List ℕ) → List (List ℕ)
box [] = [] ∷ []
box (d ∷ ds) = fan d (box ds)

fan_length : (d : List ℕ) (ts : List (List ℕ)) → length (fan d ts) ≡ length d * length ts
unfolding fan
fan_length [] ts = omega arith
fan_length (x ∷ d) ts = omega (arith, length-append (map (λ t. x ∷ t) ts) (fan d ts), length-map ts (λ t. x ∷ t), fan_length d ts)

box_length : (ds : List (List ℕ)) → length (box ds) ≡ box_size ds
unfolding box
box_length [] = refl
box_length (d ∷ ds) = fan_length d (box ds) ∙ ap (λ (n : ℕ). length d * n) (box_length ds)

map_mem : (x : ℕ) (ts : List (List ℕ)) {t : List ℕ} → Memᴰ t (map (λ t. x ∷ t) ts) → (r : List ℕ) × (t ≡ x ∷ r) × Memᴰ r ts
map_mem x [] m = absurd (Memᴰ.not-nil m)
map_mem x (s ∷ ts) {t} m = step (map_mem x ts) (Memᴰ.cases_cons m)
  where
    step : (Memᴰ t (map (λ t. x ∷ t) ts) → (r : List ℕ) × (t ≡ x ∷ r) × Memᴰ r ts)
        → (t ≡ x ∷ s) ⊎ Memᴰ t (map (λ t. x ∷ t) ts) → (r : List ℕ) × (t ≡ x ∷ r) × Memᴰ r (s ∷ ts)
    step ih (inl e) = (s, e, Memᴰ.head refl)
    step ih (inr k) = let w = ih k in (w.0, w.1, Memᴰ.tail w.2)

mem_map : {x : ℕ} {r : List ℕ} {ts : List (List ℕ)} {t : List ℕ} → t ≡ x ∷ r → Memᴰ r ts → Memᴰ t (map (λ t. x ∷ t) ts)
mem_map {x} e (Memᴰ.head {x = s} q) = Memᴰ.head {x = x ∷ s} (cc)
mem_map e (Memᴰ.tail m) = Memᴰ.tail (mem_map e m)

fan_mem : (d : List ℕ) (ts : List (List ℕ)) {t : List ℕ} → Memᴰ t (fan d ts)
    → (x : ℕ) × (r : List ℕ) × (t ≡ x ∷ r) × Memᴰ x d × Memᴰ r ts
unfolding fan
fan_mem [] ts m = absurd (Memᴰ.not-nil m)
fan_mem (x ∷ d) ts {t} m = step (fan_mem d ts) (Memᴰ.append_cases (map (λ t. x ∷ t) ts) m)
  where
    step : (Memᴰ t (fan d ts) → (x : ℕ) × (r : List ℕ) × (t ≡ x ∷ r) × Memᴰ x d × Memᴰ r ts)
        → Memᴰ t (map (λ t. x ∷ t) ts) ⊎ Memᴰ t (fan d ts)
        → (z : ℕ) × (r : List ℕ) × (t ≡ z ∷ r) × Memᴰ z (x ∷ d) × Memᴰ r ts
    step ih (inl k) = let w = map_mem x ts k in (x, w.0, w.1, Memᴰ.head refl, w.2)
    step ih (inr k) = let w = ih k in (w.0, w.1, w.2, Memᴰ.tail w.3, w.4)

mem_fan : {x : ℕ} {d : List ℕ} (ts : List (List ℕ)) {r : List ℕ} → Memᴰ x d → Memᴰ r ts → Memᴰ (x ∷ r) (fan d ts)
unfolding fan
mem_fan ts (Memᴰ.head {x = z} {xs = d} e) k = Memᴰ.append_left (fan d ts) (mem_map (cc) k)
mem_fan ts (Memᴰ.tail {x = z} m) k = Memᴰ.append_right (map (λ t. z ∷ t) ts) (mem_fan ts m k)

box_in : (ds : List (List ℕ)) (t : List ℕ) → Memᴰ t (box ds) → T (in_box ds t)
unfolding box
box_in [] t m = rw (Memᴰ.eq_of_singleton m) tt
box_in (d ∷ ds) t m =
    let w = fan_mem d (box ds) m in
    rw w.2 (and_both (among d w.0) (in_box ds w.1) (mem_among w.3) (box_in ds w.1 w.4))

in_box_lem : (ds : List (List ℕ)) (t : List ℕ) → T (in_box ds t) → Memᴰ t (box ds)
unfolding box
in_box_lem [] [] h = Memᴰ.head refl
in_box_lem [] (x ∷ t) h = absurd h
in_box_lem (d ∷ ds) [] h = absurd h
in_box_lem (d ∷ ds) (x ∷ t) h =
    mem_fan (box ds) (among_mem d x (and_left (among d x) (in_box ds t) h)) (in_box_lem ds t (and_right (among d x) (in_box ds t) h))

-- ---- its tuples are distinct

distinct_map : (x : ℕ) (ts : List (List ℕ)) → Distinct ts → Distinct (map (λ t. x ∷ t) ts)
distinct_map x [] d = tt
distinct_map x (t ∷ ts) d =
    (λ m. let w = map_mem x ts m in let e : t ≡ w.0 = tail-eq_of_cons-eq w.1 in d.0 (Memᴰ.cast e w.2), distinct_map x ts d.1)

distinct_append : (cs bs : List (List ℕ)) → Distinct cs → Distinct bs → ((t : List ℕ) → Memᴰ t cs → ¬ Memᴰ t bs) → Distinct (cs ++ bs)
distinct_append [] bs da db apart = db
distinct_append (a ∷ cs) bs da db apart =
    (λ m. ⊎_elim da.0 (apart a (Memᴰ.head refl)) (Memᴰ.append_cases cs m), distinct_append cs bs da.1 db (λ t k. apart t (Memᴰ.tail k)))

distinct_fan : (d : List ℕ) (ts : List (List ℕ)) → Distinct d → Distinct ts → Distinct (fan d ts)
unfolding fan
distinct_fan [] ts dd dt = tt
distinct_fan (x ∷ d) ts dd dt =
    distinct_append (map (λ t. x ∷ t) ts) (fan d ts) (distinct_map x ts dt) (distinct_fan d ts dd.1 dt) λ t m k.
    let w = map_mem x ts m in
    let z = fan_mem d ts k in
    let e : x ≡ z.0 = head-eq_of_cons-eq (sym w.1 ∙ z.2) in
    dd.0 (Memᴰ.cast e z.3)

distinct_box : (ds : List (List ℕ)) → AllDistinct ds → Distinct (box ds)
unfolding box
distinct_box [] d = (Memᴰ.not-nil, tt)
distinct_box (d ∷ ds) a = distinct_fan d (box ds) a.0 (distinct_box ds a.1)

-- ---- one value at one place: the box whose j-th list is that value alone

fixed_to : (ds : List (List ℕ)) (j v : ℕ) (t : List ℕ) → T (among (get_or ds j []) v) → T (in_box (set ds j (v ∷ [])) t)
    → T (in_box ds t) × (get_or t j 0 ≡ v)
fixed_to [] j v t a h = absurd a
fixed_to (d ∷ ds) zero v [] a h = absurd h
fixed_to (d ∷ ds) (suc j) v [] a h = absurd h
fixed_to (d ∷ ds) zero v (x ∷ t) a h =
    let e : x ≡ v = Memᴰ.eq_of_singleton (among_mem (v ∷ []) x (and_left (among (v ∷ []) x) (in_box ds t) h)) in
    (and_both (among d x) (in_box ds t) (rw e a) (and_right (among (v ∷ []) x) (in_box ds t) h), e)
fixed_to (d ∷ ds) (suc j) v (x ∷ t) a h =
    let r = in_box (set ds j (v ∷ [])) t in
    let w = fixed_to ds j v t a (and_right (among d x) r h) in
    (and_both (among d x) (in_box ds t) (and_left (among d x) r h) w.0, w.1)

fixed_from : (ds : List (List ℕ)) (j v : ℕ) (t : List ℕ) → j < length ds → T (in_box ds t) → get_or t j 0 ≡ v → T (in_box (set ds j (v ∷ [])) t)
fixed_from [] j v t l h e = absurd (not-suc-le-zero l)
fixed_from (d ∷ ds) zero v [] l h e = absurd h
fixed_from (d ∷ ds) (suc j) v [] l h e = absurd h
fixed_from (d ∷ ds) zero v (x ∷ t) l h e =
    and_both (among (v ∷ []) x) (in_box ds t) (mem_among {d = v ∷ []} (Memᴰ.head e)) (and_right (among d x) (in_box ds t) h)
fixed_from (d ∷ ds) (suc j) v (x ∷ t) l h e =
    and_both (among d x) (in_box (set ds j (v ∷ [])) t) (and_left (among d x) (in_box ds t) h)
    (fixed_from ds j v t (le_of_suc-le-suc l) (and_right (among d x) (in_box ds t) h) e)

fixed_size : (ds : List (List ℕ)) (j v : ℕ) → j < length ds → box_size (set ds j (v ∷ [])) ≡ other_sizes ds j
fixed_size [] j v l = absurd (not-suc-le-zero l)
fixed_size (d ∷ ds) zero v l = omega arith
fixed_size (d ∷ ds) (suc j) v l = ap (λ (n : ℕ). length d * n) (fixed_size ds j v (le_of_suc-le-suc l))

fixed_distinct : (ds : List (List ℕ)) (j v : ℕ) → AllDistinct ds → AllDistinct (set ds j (v ∷ []))
fixed_distinct [] j v a = tt
fixed_distinct (d ∷ ds) zero v a = ((Memᴰ.not-nil, tt), a.1)
fixed_distinct (d ∷ ds) (suc j) v a = (a.0, fixed_distinct ds j v a.1)

-- ---- the law

pub find : (t : List ℕ) (ts : List (List ℕ)) → Memᴰ t ts ⊎ ¬ Memᴰ t ts
find t [] = inr Memᴰ.not-nil
find t (s ∷ ts) = step (List-discrete ℕ_discrete t s) (find t ts)
  where
    step : Dec (t ≡ s) → Memᴰ t ts ⊎ ¬ Memᴰ t ts → Memᴰ t (s ∷ ts) ⊎ ¬ Memᴰ t (s ∷ ts)
    step (yes e) ih = inl (Memᴰ.head e)
    step (no h) (inl m) = inl (Memᴰ.tail m)
    step (no h) (inr k) = inr λ m. ⊎_elim h k (Memᴰ.cases_cons m)

-- some tuple of the first list is not in the second, or all are
escape : (bs ts : List (List ℕ)) → ((t : List ℕ) × Memᴰ t bs × ¬ Memᴰ t ts) ⊎ ((t : List ℕ) → Memᴰ t bs → Memᴰ t ts)
escape [] ts = inr λ t m. absurd (Memᴰ.not-nil m)
escape (b ∷ bs) ts = step (find b ts) (escape bs ts)
  where
    Out : Type 0
    Out = ((t : List ℕ) × Memᴰ t (b ∷ bs) × ¬ Memᴰ t ts) ⊎ ((t : List ℕ) → Memᴰ t (b ∷ bs) → Memᴰ t ts)

    step : Memᴰ b ts ⊎ ¬ Memᴰ b ts
        → ((t : List ℕ) × Memᴰ t bs × ¬ Memᴰ t ts) ⊎ ((t : List ℕ) → Memᴰ t bs → Memᴰ t ts) → Out
    step (inr k) ih = inl (b, Memᴰ.head refl, k)
    step (inl m) (inl w) = inl (w.0, Memᴰ.tail w.1, w.2)
    step (inl m) (inr all) = inr λ t k. ⊎_elim (λ e. Memᴰ.cast e m) (all t) (Memᴰ.cases_cons k)

module _ (ds : List (List ℕ)) (j v : ℕ) (ts : List (List ℕ)) (dd : AllDistinct ds) (dt : Distinct ts) (inside : j < length ds)
    (av : T (among (get_or ds j []) v)) where
  hit : List ℕ → Bool
  hit t = in_box ds t && eqb (get_or t j 0) v

  hit_says : (t : List ℕ) → T (hit t) → T (in_box ds t) × (get_or t j 0 ≡ v)
  unfolding hit
  hit_says t h =
      let e = eqb (get_or t j 0) v in (and_left (in_box ds t) e h, eqb→eq (get_or t j 0) v (and_right (in_box ds t) e h))

  says_hit : (t : List ℕ) → T (in_box ds t) → get_or t j 0 ≡ v → T (hit t)
  unfolding hit
  says_hit t h e = and_both (in_box ds t) (eqb (get_or t j 0) v) h (eq-eqb e)

  part : List (List ℕ)
  part = box (set ds j (v ∷ []))

  part_length : length part ≡ other_sizes ds j
  unfolding part
  part_length = box_length (set ds j (v ∷ [])) ∙ fixed_size ds j v inside

  part_distinct : Distinct part
  unfolding part
  part_distinct = distinct_box (set ds j (v ∷ [])) (fixed_distinct ds j v dd)

  part_hit : (t : List ℕ) → Memᴰ t part → T (hit t)
  unfolding part
  part_hit t m = let w = fixed_to ds j v t av (box_in (set ds j (v ∷ [])) t m) in says_hit t w.0 w.1

  hit_part : (t : List ℕ) → T (hit t) → Memᴰ t part
  unfolding part
  hit_part t h = let w = hit_says t h in in_box_lem (set ds j (v ∷ [])) t (fixed_from ds j v t inside w.0 w.1)

  pub forbidden_law : ((t : List ℕ) × T (in_box ds t) × (get_or t j 0 ≡ v) × ¬ Memᴰ t ts) ↔ (hits ds j v ts < other_sizes ds j)
  unfolding hit
  forbidden_law = (there, back)
    where
      there : (t : List ℕ) × T (in_box ds t) × (get_or t j 0 ≡ v) × ¬ Memᴰ t ts → hits ds j v ts < other_sizes ds j
      there w =
          let t = w.0 in
          let h : T (hit t) = says_hit t w.1 w.2 in
          omega (arith, pigeonhole hit always (t ∷ ts) part (w.3, dt) (λ z m k. (hit_part z k, always_yes z)), one_yes (hit t) h, count_always part, part_length)

      back : hits ds j v ts < other_sizes ds j → (t : List ℕ) × T (in_box ds t) × (get_or t j 0 ≡ v) × ¬ Memᴰ t ts
      back l = ⊎_elim found none (escape part ts)
        where
          found : (t : List ℕ) × Memᴰ t part × ¬ Memᴰ t ts → (t : List ℕ) × T (in_box ds t) × (get_or t j 0 ≡ v) × ¬ Memᴰ t ts
          found w =
              let h = hit_says w.0 (part_hit w.0 w.1) in
              (w.0, h.0, h.1, w.2)

          none : ((t : List ℕ) → Memᴰ t part → Memᴰ t ts) → (t : List ℕ) × T (in_box ds t) × (get_or t j 0 ≡ v) × ¬ Memᴰ t ts
          none all =
              absurd (omega (arith, pigeonhole always hit part ts part_distinct (λ z m k. (all z m, part_hit z m)), count_always part, part_length))
