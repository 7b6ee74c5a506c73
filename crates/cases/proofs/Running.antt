-- A history of calls, run: what it leaves standing, and that no call is refused. Assumes nothing.
use mathlib.Core.Bool.{Bool, true, ◌&&◌}
use mathlib.Core.List.{List, [], ◌∷◌}
use lib.Dec.{T, eqb, eqb→eq}
use Rattle.meaning.specs.Standing.{Standing, nothing}
use Rattle.meaning.specs.Calls.{Call, refusal, after}
use Rattle.meaning.specs.Histories.{Leaves, none, call, AllAccepted}
use Rattle.meaning.proofs.Tests.{and_left, and_right}
use Rattle.meaning.proofs.Proper.{leaves_proper}
use Rattle.cases.proofs.Settled.{left, settled, settled_largest}

-- histories have their latest call first
unfoldable pub run : List Call → Standing
run [] = nothing
run (c ∷ h) = let w = run h in after w (left w) c

-- the values left are known, and the call is not refused
unfoldable pub passes : Standing → Call → Bool
passes w c = settled w && eqb (refusal w (left w) c) 0

unfoldable pub smooth : List Call → Bool
smooth [] = true
smooth (c ∷ h) = smooth h && passes (run h) c

pub run_leaves : (h : List Call) → T (smooth h) → Leaves h (run h)
unfolding run smooth passes
run_leaves [] t = none
run_leaves (c ∷ h) t =
    let w = run h in
    let l = run_leaves h (and_left (smooth h) (passes w c) t) in
    let s = and_left (settled w) (eqb (refusal w (left w) c) 0) (and_right (smooth h) (passes w c) t) in
    call c l (settled_largest w (leaves_proper l) s)

pub run_accepted : (h : List Call) → T (smooth h) → AllAccepted h
unfolding smooth passes
run_accepted [] t = tt
run_accepted (c ∷ h) t =
    let w = run h in
    let before = and_left (smooth h) (passes w c) t in
    let now = and_right (smooth h) (passes w c) t in
    let e = eqb (refusal w (left w) c) 0 in
    let l = run_leaves h before in (
      run_accepted h before,
      record {
        stands = w;
        lists = left w;
        leaves = l;
        largest = settled_largest w (leaves_proper l) (and_left (settled w) e now);
        passes = eqb→eq (refusal w (left w) c) 0 (and_right (settled w) e now);
      },
    )
