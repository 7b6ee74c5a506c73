-- Demand 1 for pins, bans, taking back and the values left: two results that a public contract allows are equal. Assumes nothing.
use mathlib.Core.Path.{◌≡◌, sym, ap, ◌∙◌}
use Prim.Native.Nat.{ℕ}
use Rattle.std.specs.Prelude.{Result, Ok, Err}
use Rattle.meaning.specs.Calls.{pin, ban, take_back}
use Rattle.refusals.specs.declared.Refusal.{Refusal}
use Rattle.refusals.specs.Numbers.{number_of}
use Rattle.refusals.proofs.Unique.{same_refusal, not_accepted}
use Rattle.state.specs.declared.State.{State}
use Rattle.state.specs.Holds.{Reached}
use Rattle.state.proofs.Holding.{current}
use Rattle.state.proofs.Unique.{answers_unique}
use Rattle.decide.specs.Decisions.{Pins, Bans, TakesBack, TellsLeft, left_values}

left_unique : (a b : Result ℕ Refusal) → number_of a ≡ number_of b → left_values a ≡ left_values b → a ≡ b
left_unique (Ok m) (Ok n) e f = ap Ok f
left_unique (Ok m) (Err q) e f = not_accepted q (sym e)
left_unique (Err r) (Ok n) e f = not_accepted r e
left_unique (Err r) (Err q) e f = ap Err (same_refusal r q e)

module _ {s : State} (reached : Reached s) where
  module _ (a b : Result Unit Refusal) {t u : State} where
    pub pin_unique : (x v : ℕ) → Pins s x v a t → Pins s x v b u → (a ≡ b) × (t ≡ u)
    pin_unique x v = answers_unique reached (pin x v)

    pub ban_unique : (x v : ℕ) → Bans s x v a t → Bans s x v b u → (a ≡ b) × (t ≡ u)
    ban_unique x v = answers_unique reached (ban x v)

    pub take_back_unique : (k : ℕ) → TakesBack s k a t → TakesBack s k b u → (a ≡ b) × (t ≡ u)
    take_back_unique k = answers_unique reached (take_back k)

  pub values_left_unique : (x : ℕ) (a b : Result ℕ Refusal) → TellsLeft s x a → TellsLeft s x b → a ≡ b
  values_left_unique x a b p q =
      let (h, w, l, hold) = reached in
      let (e, f) = p h w _ l hold (current hold) in
      let (g, k) = q h w _ l hold (current hold) in
      left_unique a b (e ∙ sym g) (f ∙ sym k)
