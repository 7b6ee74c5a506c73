-- Demand 1 for solving: two results that its contract allows, with the buffers that they leave, are equal. Assumes nothing.
use mathlib.Core.Path.{◌≡◌, refl, sym, ap, ◌∙◌}
use mathlib.Core.List.{List}
use Prim.Native.Nat.{ℕ}
use Rattle.meaning.specs.Standing.{Standing}
use Rattle.meaning.specs.Solutions.{written}
use Rattle.meaning.proofs.Answers.{answer_unique}
use Rattle.state.specs.declared.State.{State}
use Rattle.leximin.specs.declared.Solved.{Solved}
use Rattle.leximin.specs.declared.Solved.TheVariants.{Found, Inconsistent}
use Rattle.std.specs.Prelude.{Result, Ok, Err}
use Rattle.refusals.specs.declared.Refusal.{Refusal}
use Rattle.refusals.specs.Numbers.{number_of}
use Rattle.state.specs.Holds.{Reached}
use Rattle.leximin.specs.Solving.{Solves, Outcome}
use Rattle.refusals.proofs.Unique.{same_refusal, not_accepted}

pub outcome_unique : (w : Standing) (before : List ℕ) (r q : Result Solved Refusal) (after later : List ℕ) → number_of r ≡ number_of q
    → Outcome w before r after → Outcome w before q later → (r ≡ q) × (after ≡ later)
outcome_unique w before (Ok Found) (Ok Found) after later e p q =
    (refl, p.buffer ∙ ap (λ (c : List ℕ). written c before) (answer_unique p.answer q.answer) ∙ sym q.buffer)
outcome_unique w before (Ok Found) (Ok Inconsistent) after later e p q = absurd (q.none p.rota p.answer.solution)
outcome_unique w before (Ok Found) (Err t) after later e p q = not_accepted t (sym e)
outcome_unique w before (Ok Inconsistent) (Ok Found) after later e p q = absurd (p.none q.rota q.answer.solution)
outcome_unique w before (Ok Inconsistent) (Ok Inconsistent) after later e p q = (refl, p.buffer ∙ sym q.buffer)
outcome_unique w before (Ok Inconsistent) (Err t) after later e p q = not_accepted t (sym e)
outcome_unique w before (Err u) (Ok Found) after later e p q = not_accepted u e
outcome_unique w before (Err u) (Ok Inconsistent) after later e p q = not_accepted u e
outcome_unique w before (Err u) (Err t) after later e p q = (ap Err (same_refusal u t e), p ∙ sym q)

pub solve_unique : {s : State} → Reached s → (before : List ℕ) (r q : Result Solved Refusal) (after later : List ℕ) → Solves s before r after → Solves s before q later
    → (r ≡ q) × (after ≡ later)
solve_unique (h, w, l, hold) before r q after later a b =
    let x = a h w l hold in
    let y = b h w l hold in
    outcome_unique w before r q after later (x.number ∙ sym y.number) x.outcome y.outcome
