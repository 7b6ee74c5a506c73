-- Demand 1 for the program's answer: two results that a contract allows on one text and one buffer are equal. Assumes nothing.
use mathlib.Core.Path.{◌≡◌, refl}
use mathlib.Core.Logic.{◌⊎◌, inl, inr, by_cases}
use mathlib.Core.List.{List, List-discrete}
use Prim.Native.Nat.{ℕ, ◌<◌}
use native.Mathlib.Decide.{ℕ_discrete, dec_le}
use native.Mathlib.Omega.{arith}
use lib.ListN.{length}
use Rattle.meaning.specs.Standing.{Standing}
use Rattle.meaning.specs.Solutions.{Answer, Inconsistent}
use Rattle.reading.specs.Reading.{Reading, fault, got}
use Rattle.wcsp.specs.Files.{File, file}
use Rattle.lines.specs.Writing.{Written}
use Rattle.lines.proofs.Unique.{written_unique}
use Rattle.reply.specs.Replies.{Tells, Replies, Answers, asked, text_limit}
use Rattle.reply.proofs.Surely.{Surely, known, then, settled}
use Rattle.reply.proofs.Existing.{answer_exists}

abbrev Same : ℕ → ℕ → List ℕ → List ℕ → Type 0
Same m n a b = (m ≡ n) × (a ≡ b)

same_settled : {m n : ℕ} {a b : List ℕ} → Surely (Same m n a b) → Same m n a b
same_settled {m} {n} {a} {b} s =
    (settled (ℕ_discrete m n) (then s (λ e. known e.0)), settled (List-discrete ℕ_discrete a b) (then s (λ e. known e.1)))

module _ {before a b : List ℕ} {m n : ℕ} where
  written_same : {line : List ℕ} → Written before line a m → Written before line b n → Same m n a b
  written_same {line} x y = let (e, d) = written_unique before line a b m n x y in (d, e)

  tells_same : (w : Standing) → Tells w before a m → Tells w before b n → Inconsistent w ⊎ ((c : List ℕ) × Answer w c) → Same m n a b
  tells_same w x y (inl none) = written_same (x.inconsistent none) (y.inconsistent none)
  tells_same w x y (inr (c, answer)) = written_same (x.found c answer) (y.found c answer)

  pub reply_unique : {text : List ℕ} → Replies text before a m → Replies text before b n → (m ≡ n) × (a ≡ b)
  reply_unique {text} x y = by_reading (file text) refl
    where
      by_reading : (r : Reading File) → file text ≡ r → Same m n a b
      by_reading (fault number at) e = written_same (x.refused number at e) (y.refused number at e)
      by_reading (got f place) e =
          same_settled (then (answer_exists (asked f)) λ c. known (tells_same (asked f) (x.accepted f place e) (y.accepted f place e) c))

  pub answer_unique : {text : List ℕ} → Answers text before a m → Answers text before b n → (m ≡ n) × (a ≡ b)
  answer_unique {text} x y =
      by_cases (dec_le (length text) text_limit) (λ short. reply_unique (x.short short) (y.short short))
      (λ past. let long : text_limit < length text = omega arith in written_same (x.long long) (y.long long))
