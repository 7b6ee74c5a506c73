-- A number's decimal digits, and numbers after spaces: how they are made, and how long they are. Assumes nothing.
use mathlib.Core.Path.{◌≡◌, refl, sym, ap, ◌∙◌}
use mathlib.Core.Bool.{Bool, cond}
use mathlib.Core.List.{List, [], ◌∷◌, ◌++◌, append_assoc, append-nil}
use Prim.Native.Nat.{ℕ, zero, suc, ◌+◌, ◌*◌, ◌/◌, ◌%◌, ◌^◌, ◌≤◌, ◌<◌, zero-le}
use native.Mathlib.Nat.{pow-suc}
use native.Mathlib.Numerals.{add-one}
use native.Mathlib.Omega.{arith}
use native.Mathlib.Decide.{dec_lt}
use borrow.Author.Tests.{lt-ltb, le-ltb}
use lib.Dec.{ltb}
use lib.ListN.{length, get_or, take, drop, length-append, take-append-drop}
use lib.Seq.{take-suc}
use Rattle.std.specs.Fmt as Fmt
use Rattle.std.proofs.lemmas.Fmt.{decimal_digit, decimal_step, length-decimal-le}
use Rattle.lines.specs.Lines.{spell, decimal, field, numbers}

-- ---- the digits

-- the test of a definition, decided
pick : (t : Bool) (a b : List ℕ) {v : Bool} → t ≡ v → cond t a b ≡ cond v a b
pick t a b e = ap (λ (x : Bool). cond x a b) e

spell_below : (k n : ℕ) → n < 10 → spell (suc k) n ≡ (48 + n) ∷ []
unfolding spell
spell_below k n h = pick (ltb n 10) _ _ (lt-ltb n 10 h)

spell_from : (k n : ℕ) → 10 ≤ n → spell (suc k) n ≡ spell k (n / 10) ++ ((48 + n % 10) ∷ [])
unfolding spell
spell_from k n h = pick (ltb n 10) _ _ (le-ltb n 10 h)

-- a number of at most k + 1 digits has them all in k + 1 turns
spell_enough : (k n : ℕ) → n < 10 ^ suc k → spell (suc k) n ≡ spell (suc (suc k)) n
spell_enough zero n h = spell_below 0 n (omega arith) ∙ sym (spell_below 1 n (omega arith))
spell_enough (suc k) n h = go (dec_lt n 10) (spell_enough k (n / 10))
  where
    go : Dec (n < 10) → (n / 10 < 10 ^ suc k → spell (suc k) (n / 10) ≡ spell (suc (suc k)) (n / 10)) → spell (suc (suc k)) n ≡ spell (suc (suc (suc k))) n
    go (yes q) i = spell_below (suc k) n q ∙ sym (spell_below (suc (suc k)) n q)
    go (no q) i =
        let p = pow-suc 10 (suc k) in
        spell_from (suc k) n (omega arith)
        ∙ ap (λ (x : List ℕ). x ++ ((48 + n % 10) ∷ [])) (i (omega arith))
        ∙ sym (spell_from (suc (suc k)) n (omega arith))

spell_short : (j k n : ℕ) → n < 10 ^ suc k → length (spell j n) ≤ suc k
unfolding spell
spell_short zero k n h = zero-le
spell_short (suc j) k n h = go k h (dec_lt n 10) (λ k. spell_short j k (n / 10))
  where
    go : (k : ℕ) → n < 10 ^ suc k → Dec (n < 10) → ((k : ℕ) → n / 10 < 10 ^ suc k → length (spell j (n / 10)) ≤ suc k) → length (spell (suc j) n) ≤ suc k
    go k h (yes q) i = let e = ap length (spell_below j n q) in omega arith
    go zero h (no q) i = absurd (omega arith)
    go (suc k) h (no q) i =
        let p = pow-suc 10 (suc k) in
        let e = ap length (spell_from j n (omega arith)) in
        let f = length-append (spell j (n / 10)) ((48 + n % 10) ∷ []) in
        let l = i k (omega arith) in
        omega arith

-- with enough turns they are the digits that std writes
spell_same : (k n : ℕ) → n < 10 ^ suc k → n < 2 ^ 64 → spell (suc k) n ≡ Fmt.decimal n
spell_same zero n h l = spell_below 0 n (omega arith) ∙ sym (decimal_digit n (omega arith))
spell_same (suc k) n h l = go (dec_lt n 10) (spell_same k (n / 10))
  where
    go : Dec (n < 10) → (n / 10 < 10 ^ suc k → n / 10 < 2 ^ 64 → spell (suc k) (n / 10) ≡ Fmt.decimal (n / 10)) → spell (suc (suc k)) n ≡ Fmt.decimal n
    go (yes q) i = spell_below (suc k) n q ∙ sym (decimal_digit n q)
    go (no q) i =
        let p = pow-suc 10 (suc k) in
        spell_from (suc k) n (omega arith)
        ∙ ap (λ (x : List ℕ). x ++ ((48 + n % 10) ∷ [])) (i (omega arith) (omega arith))
        ∙ sym (decimal_step n (omega arith) l)

pub decimal_same : (n : ℕ) → n < 2 ^ 64 → decimal n ≡ Fmt.decimal n
unfolding decimal
decimal_same n l = spell_same 19 n (omega arith) l

pub byte_short : (n : ℕ) → n < 256 → length (decimal n) ≤ 3
byte_short n h = omega (arith, ap length (decimal_same n (omega arith)), length-decimal-le 3 n (omega arith) (omega arith) (omega arith))

pub offset_short : (n : ℕ) → n < 2 ^ 64 → length (decimal n) ≤ 20
offset_short n h = omega (arith, ap length (decimal_same n h), length-decimal-le 20 n (omega arith) (omega arith) h)

-- ---- numbers after spaces

numbers_append : (ms ns : List ℕ) → numbers (ms ++ ns) ≡ numbers ms ++ numbers ns
numbers_append [] ns = refl
numbers_append (m ∷ ms) ns = ap (λ (x : List ℕ). field m ++ x) (numbers_append ms ns) ∙ sym (append_assoc (field m) (numbers ms) (numbers ns))

-- the first j numbers, and one more
pub numbers_more : (ns : List ℕ) (j : ℕ) → j < length ns → numbers (take j ns) ++ field (get_or ns j 0) ≡ numbers (take (j + 1) ns)
numbers_more ns j h =
    sym
    (ap (λ (k : ℕ). numbers (take k ns)) (add-one j)
    ∙ ap numbers (take-suc ns j 0 h)
    ∙ numbers_append (take j ns) (get_or ns j 0 ∷ [])
    ∙ ap (λ (x : List ℕ). numbers (take j ns) ++ x) (append-nil (field (get_or ns j 0))))

-- they are no longer than all
pub numbers_room : (ns : List ℕ) (j : ℕ) → j < length ns → length (numbers (take j ns)) + length (field (get_or ns j 0)) ≤ length (numbers ns)
numbers_room ns j h =
    let e = ap (λ (x : List ℕ). length (numbers x)) (take-append-drop (j + 1) ns) in
    let f = ap length (numbers_append (take (j + 1) ns) (drop (j + 1) ns)) in
    let g = length-append (numbers (take (j + 1) ns)) (numbers (drop (j + 1) ns)) in
    let m = ap length (numbers_more ns j h) in
    let l = length-append (numbers (take j ns)) (field (get_or ns j 0)) in
    omega arith

-- a byte takes a space and at most three digits
pub numbers_short : (ns : List ℕ) → ((i : ℕ) → get_or ns i 0 < 256) → length (numbers ns) ≤ 4 * length ns
numbers_short [] h = omega arith
numbers_short (n ∷ ns) h =
    let d = byte_short n (h 0) in
    let e = length-append (field n) (numbers ns) in
    let i = numbers_short ns (λ i. h (suc i)) in
    omega arith
