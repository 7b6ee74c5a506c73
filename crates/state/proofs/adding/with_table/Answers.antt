-- `state::adding::with_table` meets its contract.
use mathlib.Core.Path.{refl}
use Prim.Native.Nat.{◌+◌, ◌-◌}
use native.Mathlib.Omega.{arith}
use borrow.Rule.Slice.PartMut.{put_mid}
use lib.ListN.{length}
use Rattle.std.proofs.lemmas.Slice.{put_mid-paste}
use Rattle.state.proofs.Extending.{table_laid}
use Rattle.state.proofs.adding.with_table.Goals as goal

pub returns : goal.returns
returns c =
    let a = c.args in
    let start = a.s.used in
    let first = start + length a.scope.now in
    let end = first + length a.cells.now in
    let scope = c.put_bytes.new.places in
    let cells = c.put_bytes-2.new.places in
    let mid = put_mid start (first - start) a.s.room scope in
    let full = put_mid first (end - first) mid cells in
    table_laid a.s a.scope.now a.cells.now c.requires.1 mid full
    (put_mid-paste start (first - start) a.s.room scope a.scope.now (length a.scope.now) c.put_bytes.ensures (omega arith) refl)
    (put_mid-paste first (end - first) mid cells a.cells.now (length a.cells.now) c.put_bytes-2.ensures (omega arith) refl) a.sort _ (rw c.from.ensures)
