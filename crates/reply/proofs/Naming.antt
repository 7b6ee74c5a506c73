-- What stands after an accepted file's calls, once its objectives are named. Assumes nothing.
use mathlib.Core.Path.{◌≡◌, refl, ap}
use mathlib.Core.Logic.{inr}
use mathlib.Core.Bool.{false}
use mathlib.Core.List.{List, ◌∷◌}
use Prim.Native.Nat.{ℕ, zero, suc, ◌+◌, ◌≤◌, min}
use native.Mathlib.Omega.{arith}
use borrow.Author.Tests.{lt-leb}
use lib.Dec.{leb}
use lib.ListN.{length, length-map}
use Rattle.meaning.specs.Limits.{objective_limit}
use Rattle.meaning.specs.Standing.{Standing}
use Rattle.meaning.specs.Calls.{Call, name_objectives, some}
use Rattle.meaning.specs.Histories.{Leaves, AllAccepted}
use Rattle.meaning.proofs.Tests.{near_both}
use Rattle.meaning.proofs.Proper.{not_outside}
use Rattle.meaning.proofs.Histories.{Builds, builds_more, builds}
use Rattle.reading.specs.Reading.{got}
use Rattle.wcsp.specs.Files.{File, file, calls, values_below, standing_of}
use Rattle.wcsp.proofs.Standing.{sizes_bounds, file_builds}
use Rattle.reply.specs.Replies.{upwards, objectives_of, asked}

-- the file's calls, and then its objectives are named; the latest call first
abbrev pub named : File → List Call
named f = name_objectives (objectives_of (length f.sizes)) ∷ calls f

all_known : (n x k : ℕ) → x + k ≤ n → some (leb n) (upwards x k) ≡ false
unfolding some
all_known n x zero h = refl
all_known n x (suc k) h = near_both (lt-leb n x (omega arith)) (all_known n (x + 1) k (omega arith))

pub upwards_long : (x k : ℕ) → length (upwards x k) ≡ k
upwards_long x zero = refl
upwards_long x (suc k) = ap suc (upwards_long (x + 1) k)

module _ (text : List ℕ) {f : File} {place : ℕ} (e : file text ≡ got f place) where
  named_builds : Builds (named f) (asked f)
  named_builds =
      let w = standing_of f in
      let n = length f.sizes in
      let xs = objectives_of n in
      let long = upwards_long 0 (min n objective_limit) in
      let right = not_outside objective_limit (length xs) (omega (arith, long, sizes_bounds text e)) (omega (arith, long)) in
      let known = all_known (length w.declared) 0 (min n objective_limit) (omega (arith, length-map f.sizes values_below)) in
      builds_more (name_objectives xs) (file_builds text e) (λ L. inr (right, inr (known, refl))) refl refl

  -- the file's variables and tables, and the objectives: no call was refused
  pub named_stands : {w : Standing} → Leaves (named f) w → (w ≡ asked f) × AllAccepted (named f)
  named_stands l = builds (named f) named_builds l
