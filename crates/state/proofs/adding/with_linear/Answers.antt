-- `state::adding::with_linear` meets its contract.
use mathlib.Core.Path.{refl, ap, ◌∙◌}
use mathlib.Core.List.{map}
use Prim.Native.Nat.{◌+◌, ◌-◌}
use mir.Facts.{to_z-of_z}
use native.Mathlib.Omega.{arith}
use borrow.Rule.Slice.PartMut.{put_mid}
use lib.ListN.{length, length-map}
use Rattle.meaning.specs.Limits.{coefficient_limit, bound_limit}
use Rattle.std.proofs.lemmas.Slice.{put_mid-paste}
use Rattle.filters.specs.Layout.{shift}
use Rattle.state.proofs.Extending.{linear_laid}
use Rattle.state.proofs.adding.with_linear.Goals as goal

pub returns : goal.returns
returns c =
    let a = c.args in
    let start = a.s.used in
    let first = start + length a.scope.now in
    let end = first + length a.coefficients.now in
    let scope = c.put_bytes.new.places in
    let kept = c.put_shifted.new.places in
    let mid = put_mid start (first - start) a.s.room scope in
    let full = put_mid first (end - first) mid kept in
    let long = length-map a.coefficients.now (shift coefficient_limit) in
    let bound = c.shifted_bound.ensures ∙ ap (shift bound_limit) (to_z-of_z c.ranges.bound) in
    linear_laid a.s a.scope.now a.coefficients.now a.bound c.requires.1 mid full _
    (put_mid-paste start (first - start) a.s.room scope a.scope.now (length a.scope.now) c.put_bytes.ensures (omega arith) refl)
    (put_mid-paste first (end - first) mid kept (map (shift coefficient_limit) a.coefficients.now) (length (map (shift coefficient_limit) a.coefficients.now)) c.put_shifted.ensures (omega (arith, long)) refl)
    (rw bound)
