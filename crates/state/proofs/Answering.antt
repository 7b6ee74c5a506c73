-- How an answer meets its promise: a refusal leaves the state as it stood, an accepted call leaves what is accepted.
-- Assumes nothing.
use mathlib.Core.Path.{◌≡◌, sym, ap, ◌∙◌}
use mathlib.Core.List.{List}
use Prim.Native.Nat.{ℕ}
use native.Mathlib.Omega.{arith}
use Rattle.meaning.specs.Refusals.{number}
use Rattle.meaning.specs.Standing.{Standing}
use Rattle.meaning.specs.Lists.{Largest}
use Rattle.meaning.specs.Calls.{Call, refusal, accepted}
use Rattle.meaning.specs.Histories.{Leaves}
use Rattle.meaning.specs.Proper.{Proper}
use Rattle.meaning.proofs.Proper.{number_above, leaves_proper}
use Rattle.meaning.proofs.Histories.{after_accepted, after_refused}
use Rattle.state.specs.declared.State.{State}
use Rattle.refusals.specs.declared.Refusal.{Refusal}
use Rattle.std.specs.Prelude.{Result, Err}
use Rattle.state.specs.Holds.{Holds}
use Rattle.refusals.specs.Numbers.{number_of, table_of}
use Rattle.state.specs.Promises.{Answers}

pub refuses : (s : State) (c : Call) (r : Refusal) (a : Result Unit Refusal) (t : State) → (a ≡ Err r) × (t ≡ s)
    → ((w : Standing) (L : List ℕ) → Proper w → Holds s w → Largest w L → refusal w L c ≡ number (table_of r)) → Answers s c (number_of a) t
refuses s c r a t (ea, et) why h w L l hold most =
    let e = why w L (leaves_proper l) hold most in
    let p = number_above (table_of r) in
    (ap number_of ea ∙ sym e, rw (et, after_refused w L c (λ z. omega arith)) hold)

-- a call that is refused by its number
pub stays : (s : State) (c : Call) (n : ℕ) → ¬ (n ≡ 0)
    → ((w : Standing) (L : List ℕ) → Holds s w → Largest w L → refusal w L c ≡ n) → Answers s c n s
stays s c n above why h w L l hold most =
    let e = why w L hold most in
    (sym e, rw (after_refused w L c (λ z. above (sym e ∙ z))) hold)

pub accepts : (s : State) (c : Call) (t : State)
    → ((h : List Call) (w : Standing) (L : List ℕ) → Leaves h w → Holds s w → Largest w L → (refusal w L c ≡ 0) × Holds t (accepted w c)) → Answers s c 0 t
accepts s c t how h w L l hold most =
    let (e, held) = how h w L l hold most in
    (sym e, rw (after_accepted w L c e) held)
