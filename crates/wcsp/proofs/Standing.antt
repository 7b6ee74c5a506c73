-- An accepted file's additions are all accepted, and what they leave standing is what the file says. Assumes nothing.
use mathlib.Core.Path.{◌≡◌, refl, sym, ap, ap₂, ◌∙◌, subst}
use mathlib.Core.Logic.{inr}
use mathlib.Core.Bool.{false, not}
use mathlib.Core.List.{List, [], ◌∷◌, ◌++◌, map, map-append}
use Prim.Native.Nat.{ℕ, ◌+◌, ◌*◌, ◌%◌, ◌≤◌, ◌<◌}
use native.Mathlib.Omega.{arith}
use borrow.Author.Tests.{ltb-false, le-ltb, lt-leb, eq-eqb}
use lib.Dec.{leb, ltb}
use lib.ListN.{length, length-map}
use Rattle.meaning.specs.Limits.{variable_limit, value_limit, rule_limit, room_limit, arity_limit}
use Rattle.meaning.specs.Rules.{Rule, room}
use Rattle.meaning.specs.Standing.{Standing}
use Rattle.meaning.specs.Calls.{Call, add_variable, some, same, repeats, held, rule_listing, rule_of, overfull, tests}
use Rattle.meaning.specs.Histories.{Leaves, AllAccepted}
use Rattle.meaning.proofs.Tests.{near_both}
use Rattle.meaning.proofs.Finding.{Finds}
use Rattle.meaning.proofs.Growing.{some_more}
use Rattle.meaning.proofs.Proper.{not_outside, table_room}
use Rattle.meaning.proofs.Histories.{Builds, start, builds_more, builds}
use Rattle.filters.specs.Layout.{joined}
use Rattle.state.specs.Holds.{Holds}
use Rattle.state.proofs.Runs.{run_holds}
use Rattle.reading.specs.Reading.{got, times, several, ended}
use Rattle.reading.proofs.Readings.{what_or, split}
use Rattle.reading.proofs.Keeping.{all_kept, numbers_kept}
use Rattle.wcsp.specs.Files.{File, Table, taken, size_tests, header, table, file, values_below, variable_calls, table_call, table_calls, calls, table_rule, standing_of}
use Rattle.wcsp.specs.declared.Loaded.{Loaded}
use Rattle.wcsp.specs.Promises.{Reads}
use Rattle.wcsp.proofs.Heaping.{tuples_joined}
use Rattle.wcsp.proofs.Adding.{calls_more, tables_more}
use Rattle.wcsp.proofs.Sound.{header_bounds, Sound, table_sound}

abbrev file_of : List ℕ → List Table → File
file_of sizes tables = record { sizes = sizes; tables = tables }

-- ---- a variable is accepted

variable_builds : (sizes : List ℕ) (s : ℕ) → length sizes < variable_limit → Builds (variable_calls sizes []) (standing_of (file_of sizes []))
    → Builds (variable_calls (sizes ++ (s ∷ [])) []) (standing_of (file_of (sizes ++ (s ∷ [])) []))
variable_builds sizes s few b =
    let free = lt-leb variable_limit (length (map values_below sizes)) (omega (arith, length-map sizes values_below)) in
    builds_more (add_variable (values_below s)) b (λ L. inr (refl, inr (free, refl))) (calls_more sizes s [])
    (λ i. record { declared = map-append values_below sizes (s ∷ []) i; rules = []; objectives = []; decisions = [] })

-- ---- a table is accepted

held_taken : (ts : List Table) → held (map table_rule ts) ≡ taken ts
unfolding held taken
held_taken [] = refl
held_taken (t ∷ ts) = ap₂ (λ (a b : ℕ). a + b) (table_room t.sort t.scope t.tuples) (held_taken ts)

module _ (sizes : List ℕ) (ts : List Table) (t : Table) (sound : Sound (length sizes) (taken ts) t) where
  abbrev w : Standing
  w = standing_of (file_of sizes ts)

  rule_is : rule_of t.sort t.scope (joined t.tuples) ≡ table_rule t
  rule_is = ap (rule_listing t.sort t.scope) (tuples_joined t.scope t.tuples sound.size.0 sound.even).1

  table_passes : length ts < rule_limit → (L : List ℕ) → Finds (tests w L (table_call t)) 0
  table_passes few L =
      let s = t.scope in
      let cells = joined t.tuples in
      let (whole, are) = tuples_joined s t.tuples sound.size.0 sound.even in
      let right = near_both (not_outside arity_limit (length s) sound.size.0 sound.size.1) (ap not (eq-eqb (length cells % length s) 0 whole)) in
      let known = ap (λ (n : ℕ). some (leb n) s) (length-map sizes values_below) ∙ sound.known in
      let apart = ap (repeats same) are ∙ sound.apart in
      let k = room (rule_of t.sort s cells) in
      let takes : k ≡ length s + length s * length t.tuples = ap room rule_is ∙ table_room t.sort s t.tuples in
      let free : overfull w k ≡ false =
      near_both (lt-leb rule_limit (length w.rules) (omega (arith, length-map ts table_rule))) (le-ltb room_limit (held w.rules + k) (omega (arith, takes, held_taken ts, sound.room))) in
      inr (refl, inr (right, inr (known, inr (sound.once, inr (sound.small, inr (apart, inr (free, refl)))))))

  table_builds : (h : List Call) → length ts < rule_limit → Builds (table_calls ts h) w → Builds (table_calls (ts ++ (t ∷ [])) h) (standing_of (file_of sizes (ts ++ (t ∷ []))))
  table_builds h few b =
      let rules = map-append table_rule ts (t ∷ []) ∙ ap (λ (r : Rule). map table_rule ts ++ (r ∷ [])) (sym rule_is) in
      builds_more (table_call t) b (table_passes few) (tables_more ts t h) (λ i. record { declared = map values_below sizes; rules = rules i; objectives = []; decisions = [] })

-- ---- the whole file

abbrev Sized : List ℕ → Type 0
Sized sizes = Builds (variable_calls sizes []) (standing_of (file_of sizes [])) × (some (ltb value_limit) sizes ≡ false)

sizes_build : (text : List ℕ) (largest count at : ℕ) {sizes : List ℕ} {p : ℕ} → largest ≤ value_limit → count ≤ variable_limit → several text (size_tests largest) count at ≡ got sizes p
    → (length sizes ≡ count) × Sized sizes
unfolding some variable_calls
sizes_build text largest count at low few e =
    numbers_kept text (size_tests largest) count Sized
    (λ before s h (b, most) (above, (within, _)). (
      variable_builds before s (omega arith) b,
      some_more (ltb value_limit) before s most (le-ltb value_limit s (omega (arith, ltb-false largest s within))),
    ))
    at (start, refl) e

tables_build : (text sizes : List ℕ) (count at : ℕ) {ts : List Table} {p : ℕ} → some (ltb value_limit) sizes ≡ false → count ≤ rule_limit → times (table text sizes) count [] at ≡ got ts p
    → Builds (variable_calls sizes []) (standing_of (file_of sizes [])) → Builds (calls (file_of sizes ts)) (standing_of (file_of sizes ts))
unfolding table_calls
tables_build text sizes count at most few e b =
    (all_kept (table text sizes) count (λ ts. Builds (calls (file_of sizes ts)) (standing_of (file_of sizes ts)))
    (λ before t p q h k read. table_builds sizes before t (table_sound text sizes most before p read) (variable_calls sizes []) (omega arith) k) at b e).1

module _ (text : List ℕ) {f : File} {place : ℕ} (e : file text ≡ got f place) where
  abbrev Whole : File → Type 0
  Whole g = (1 ≤ length g.sizes) × (length g.sizes ≤ variable_limit) × Builds (calls g) (standing_of g)

  whole : Whole f
  whole =
      let (h, p1, e1, r1) = split (header text) _ e in
      let (sizes, p2, e2, r2) = split (several text (size_tests h.largest) h.variables p1) _ r1 in
      let (ts, p3, e3, r3) = split (times (table text sizes) h.constraints [] p2) _ r2 in
      let (x, p4, e4, r4) = split (ended text p3) _ r3 in
      let bounds = header_bounds text e1 in
      let (long, (b, most)) = sizes_build text h.largest h.variables p1 bounds.largest bounds.variables e2 in
      subst Whole (ap (what_or f) r4)
      (omega (arith, bounds.some, long), omega (arith, bounds.variables, long), tables_build text sizes h.constraints p2 most bounds.constraints e3 b)

  -- from 1 to 32 variables
  pub sizes_bounds : (1 ≤ length f.sizes) × (length f.sizes ≤ variable_limit)
  sizes_bounds = (whole.0, whole.1)

  pub file_builds : Builds (calls f) (standing_of f)
  file_builds = whole.2

  -- whatever the file's calls leave standing is what the file says
  pub file_stands : {w : Standing} → Leaves (calls f) w → w ≡ standing_of f
  file_stands l = (builds (calls f) file_builds l).0

  -- none of them is refused
  pub file_accepted : {w : Standing} → Leaves (calls f) w → AllAccepted (calls f)
  file_accepted l = (builds (calls f) file_builds l).1

  -- and so the state of an accepted file holds all its variables and all its tables
  pub read_holds : {r : Loaded} → Reads text r → Holds r.state (standing_of f)
  read_holds {r} reads = let (w, l, hold) = run_holds (reads.accepted f place e).3 in subst (Holds r.state) (file_stands l) hold
