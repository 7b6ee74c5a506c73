-- Any two results that a public contract of this crate allows are the same. Assumes nothing.
use mathlib.Core.Path.{◌≡◌, sym, ◌∙◌}
use mathlib.Core.List.{List}
use Prim.Native.Nat.{ℕ}
use lib.ListN.{length}
use Rattle.meaning.specs.Rules.{Rule}
use Rattle.meaning.proofs.Largest.{same_lists}
use Rattle.blocks.proofs.Unique.{changed_unique, done_or_not}
use Rattle.filters.specs.declared.Head.{Head}
use Rattle.filters.specs.Layout.{IsScope}
use Rattle.filters.specs.Filter.{Filtered, Filtering, FiltersBy, SettlesLists}

filtered_unique : {r : Rule} {L K M : List ℕ} → Filtered r L K → Filtered r L M → K ≡ M
filtered_unique {r} {L} {K} {M} a b =
    same_lists (a.long ∙ sym b.long) (λ x v h. b.all x v (a.kept x v h) (λ i. a.supported x v i h))
    (λ x v h. a.all x v (b.kept x v h) (λ i. b.supported x v i h))

filtering_unique : {r : Rule} {L K M : List ℕ} {c d : ℕ} → Filtering r L K c → Filtering r L M d → (K ≡ M) × (c ≡ d)
filtering_unique {L} {K} {c} {d} a b =
    let e = filtered_unique a.filtered b.filtered in
    (e, changed_unique L K c d a.changed (rw e b.changed))

pub filter_rule_unique : (heads : List Head) (room : List ℕ) (k : ℕ) (L K M : List ℕ) (c d : ℕ) → FiltersBy heads room k L K c → FiltersBy heads room k L M d
    → (K ≡ M) × (c ≡ d)
filter_rule_unique heads room k L K M c d a b = done_or_not L k (length heads) (λ l long. filtering_unique (a.by l long) (b.by l long)) a.none b.none

pub settled_unique : (heads : List Head) (room lists r q : List ℕ) → SettlesLists heads room lists r → SettlesLists heads room lists q → r ≡ q
settled_unique heads room lists r q a b =
    same_lists (a.long ∙ sym b.long) (b.most r a.within a.closed) (a.most q b.within b.closed)

pub scope_unique : (h : Head) (room s t : List ℕ) → IsScope h room s → IsScope h room t → s ≡ t
scope_unique h room s t a b = a ∙ sym b
