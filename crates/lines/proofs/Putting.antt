-- Writing one text after another into the buffer. Assumes nothing.
use mathlib.Core.Path.{◌≡◌, refl, sym, ap, ap₂, ◌∙◌}
use mathlib.Core.List.{List, [], ◌∷◌, ◌++◌, append_assoc}
use Prim.Native.Nat.{ℕ, suc, ◌+◌, ◌≤◌, ◌<◌}
use native.Mathlib.Nat.{add-zero, add-suc, suc-add, zero-add}
use native.Mathlib.Omega.{arith}
use lib.ListN.{length, get_or, set, take, drop, length-append}
use lib.Seq.{sets, sets-eq, drop-drop}
use borrow.Rule.Slice.PartMut.{put_mid}
use Rattle.lines.specs.Lines.{field, numbers}
use Rattle.lines.specs.declared.Writer.{Writer}
use Rattle.lines.specs.Writing.{Put, Puts, Written}
use Rattle.lines.proofs.Digits.{numbers_more}

-- storing t and then w behind it stores t ++ w
sets_append : (t w b : List ℕ) (at : ℕ) → sets (sets b at t) (at + length t) w ≡ sets b at (t ++ w)
sets_append [] w b at = ap (λ (k : ℕ). sets b k w) (add-zero at)
sets_append (x ∷ t) w b at =
    ap (λ (k : ℕ). sets (sets (set b at x) (suc at) t) k w) (add-suc at (length t) ∙ sym (suc-add at (length t)))
    ∙ sets_append t w (set b at x) (suc at)

-- one text is put, and then another behind it
put_both : {b t m w a : List ℕ} {at n r : ℕ} → Put b at t m n → Put m n w a r → Put b at (t ++ w) a r
put_both {b} {t} {m} {w} {a} {at} {n} {r} p q = record {
  is = q.is ∙ ap₂ (λ (x : List ℕ) (k : ℕ). sets x k w) p.is p.next ∙ sets_append t w b at;
  next = let e = length-append t w in omega (arith, p.next, q.next);
}

-- the same of a writer
pub puts_both : {a m b : Writer} {t w : List ℕ} → Puts a t m → Puts m w b → Puts a (t ++ w) b
puts_both p q = record { same = q.same ∙ p.same; size = q.size ∙ p.size; fits = q.fits; put = put_both p.put q.put }

-- all that was put from the first place on
written : {b t a : List ℕ} {r : ℕ} → r ≤ length b → Put b 0 t a r → Written b t a r
written {b} {t} h p = record {
  is = p.is ∙ sets-eq t b 0 (omega (arith, p.next)) ∙ ap (λ (k : ℕ). t ++ drop k b) (zero-add (length t));
  counted = p.next ∙ zero-add (length t);
}

-- all that a writer put that began there
pub wrote : {b t : List ℕ} {from to : Writer} → (from.out.now ≡ b) × (from.at ≡ 0) → Puts from t to → Written b t to.out.now to.at
wrote e p = written (omega (arith, p.size, p.fits, ap length e.0)) (rw (sym e.0, sym e.1) p.put)

-- the count lies within the buffer
pub written_fits : {b t a : List ℕ} {r : ℕ} → Written b t a r → r ≤ length a
written_fits {b} {t} w = omega (arith, w.counted, ap length w.is, length-append t (drop (length t) b))

-- ---- a word's bytes

-- all of them at once, into as many places
pub put_part : (b w : List ℕ) (at n : ℕ) {m : List ℕ} → m ≡ w → n ≡ length w → at + length w ≤ length b → Put b at w (put_mid at n b m) (at + length w)
put_part b w at n {m} e f h = record {
  is = ap (put_mid at n b) e
      ∙ sym (sets-eq w b at h ∙ append_assoc (take at b) w (drop (at + length w) b)
      ∙ ap (λ (r : List ℕ). take at b ++ (w ++ r)) (ap (λ (k : ℕ). drop (at + k) b) (sym f) ∙ sym (drop-drop n at b)));
  next = refl;
}

-- ---- numbers after spaces

-- the first j numbers are put, and one more behind them
pub puts_more : (ns : List ℕ) (j : ℕ) {a m b : Writer} → j < length ns → Puts a (numbers (take j ns)) m → Puts m (field (get_or ns j 0)) b → Puts a (numbers (take (j + 1) ns)) b
puts_more ns j {a} {m} {b} h p q = rw (sym (numbers_more ns j h)) (puts_both p q)
