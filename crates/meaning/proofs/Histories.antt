-- What a call leaves standing, accepted or refused; a history leaves one thing standing, and one whose calls pass their tests leaves what each adds.
-- Assumes nothing.
use mathlib.Core.Path.{◌≡◌, refl, ap, ap₂, ◌∙◌}
use mathlib.Core.Bool.{Bool, cond}
use mathlib.Core.List.{List, [], ◌∷◌}
use Prim.Native.Nat.{ℕ}
use borrow.Author.Tests.{eq-eqb, ne_eqb}
use Rattle.meaning.specs.Standing.{Standing, nothing}
use Rattle.meaning.specs.Lists.{Largest}
use Rattle.meaning.specs.Calls.{Call, tests, refusal, accepted, after}
use Rattle.meaning.specs.Histories.{Leaves, none, call, AllAccepted}
use Rattle.meaning.proofs.Finding.{Finds, finds}
use Rattle.meaning.proofs.Largest.{largest_unique}

-- ---- one call

pub after_accepted : (w : Standing) (L : List ℕ) (c : Call) → refusal w L c ≡ 0 → after w L c ≡ accepted w c
after_accepted w L c e = ap (λ (b : Bool). cond b (accepted w c) w) (eq-eqb (refusal w L c) 0 e)

pub after_refused : (w : Standing) (L : List ℕ) (c : Call) → ¬ (refusal w L c ≡ 0) → after w L c ≡ w
after_refused w L c n = ap (λ (b : Bool). cond b (accepted w c) w) (ne_eqb (refusal w L c) 0 n)

-- ---- a history

pub leaves_unique : (h : List Call) {u w : Standing} → Leaves h u → Leaves h w → u ≡ w
leaves_unique [] none none = refl
leaves_unique (c ∷ h) (call {w = u} {L = K} _ a m) (call {w} {L} _ b n) = step (leaves_unique h a b) K L m n
  where
    step : u ≡ w → (K L : List ℕ) → Largest u K → Largest w L → after u K c ≡ after w L c
    step e K L m n = ap₂ (λ (x : Standing) (M : List ℕ). after x M c) e (largest_unique (rw e at m) n)

-- ---- no call is refused

-- each call of the history passes its tests, whatever values are left, and w is what they leave standing
pub data Builds : List Call → Standing → Type 0 where
  start : Builds [] nothing
  more : {h : List Call} {w : Standing} (c : Call) → Builds h w → ((L : List ℕ) → refusal w L c ≡ 0) → Builds (c ∷ h) (accepted w c)

pub builds_more : {g h : List Call} {v w : Standing} (c : Call) → Builds h w → ((L : List ℕ) → Finds (tests w L c) 0) → g ≡ c ∷ h → v ≡ accepted w c → Builds g v
builds_more {h} {w} c b passes e f = rw (e, f) (more c b (λ L. finds (tests w L c) 0 (passes L)))

pub builds : (h : List Call) {w v : Standing} → Builds h w → Leaves h v → (v ≡ w) × AllAccepted h
builds [] start none = (refl, tt)
builds (c ∷ h) (more _ b p) (call {w = v} {L} _ l m) =
    let (e, all) = builds h b l in
    let passes : refusal v L c ≡ 0 = ap (λ (x : Standing). refusal x L c) e ∙ p L in
    (after_accepted v L c passes ∙ ap (λ (x : Standing). accepted x c) e, (all, record { stands = v; lists = L; leaves = l; largest = m; passes = passes }))
