-- The values left after a call: what a decision, a rule and a variable make of the largest lists.
-- Assumes nothing.
use mathlib.Core.Path.{◌≡◌, refl, sym, ap, ◌∙◌}
use mathlib.Core.Logic.{◌⊎◌, inl, inr, ⊎_elim, ◌↔◌, by_cases}
use mathlib.Core.List.Memᴰ
use mathlib.Core.List.{List, [], ◌∷◌, ◌++◌, Memᴰ}
use Prim.Native.Nat.{ℕ, ◌+◌, ◌^◌, ◌<◌}
use native.Mathlib.Decide.{ℕ_discrete, dec_lt}
use native.Mathlib.Omega.{arith}
use lib.ListN.{length, get_or, set, take, length-append, length-set, length-take, get_or-append}
use lib.Seq.{get_or-set_same, get_or-set_other, get_or-take, get_or_at}
use Rattle.meaning.specs.Values.{bit, Has, Lacks}
use Rattle.meaning.specs.Rules.{Rule, scope_of, at}
use Rattle.meaning.specs.Standing.{Standing, Decision, pinned, banned, Permits, nothing}
use Rattle.meaning.specs.Lists.{Left, Closed, Within, Largest, Cut}
use Rattle.meaning.specs.Calls.{with_rule, decide, add_variable, name_objectives, accepted}
use Rattle.meaning.proofs.Digits.{bit_pow_same, bit_pow_other}
use Rattle.meaning.proofs.Largest.{Between, supported_mono}
use Rattle.meaning.proofs.Solutions.{left_below}

-- ---- a decision

pub cut_between : {w : Standing} {L C : List ℕ} (d : Decision) → Largest w L → Cut d L C → Between (decide w d) C
cut_between {w} {L} {C} d a c = record {
  long = c.long ∙ a.long;
  within = record {
    declared = λ y u h. a.within.declared y u ((c.stays y u).0 h).0;
    permitted = λ y u h e m.
        ⊎_elim (a.within.permitted y u ((c.stays y u).0 h).0 e)
        (λ k. let q : e ≡ d = Memᴰ.eq_of_singleton k in rw q ((c.stays y u).0 h).1)
        (Memᴰ.append_cases w.decisions m);
  };
  most = λ K h shut y u k. (c.stays y u).1 (a.most K (before K h) shut y u k, h.permitted y u k d (Memᴰ.append_right w.decisions (Memᴰ.head refl)));
}
  where
    before : (K : List ℕ) → Within (decide w d) K → Within w K
    before K h = record {
      declared = h.declared;
      permitted = λ y u k e m. h.permitted y u k e (Memᴰ.append_left (d ∷ []) m);
    }

-- x's list is m, and the others stay: a cut where m is what the decision lets stay
cut_at : {d : Decision} (L : List ℕ) (x m : ℕ) → x < length L → ((u : ℕ) → Has m u ↔ (Left L x u × Permits d x u))
    → ((y u : ℕ) → ¬ (y ≡ x) → Permits d y u) → Cut d L (set L x m)
cut_at {d} L x m inside here there = record {
  long = length-set L x m;
  stays = λ y u. by_cases (ℕ_discrete y x) (on y u) (off y u);
}
  where
    on : (y u : ℕ) → y ≡ x → Left (set L x m) y u ↔ (Left L y u × Permits d y u)
    on y u e = rw (e, get_or-set_same L x m 0 inside) (here u)

    off : (y u : ℕ) → ¬ (y ≡ x) → Left (set L x m) y u ↔ (Left L y u × Permits d y u)
    off y u e = rw (get_or-set_other L x y m 0 e) (λ h. (h, there y u e), λ h. h.0)

pub pin_cut : (L : List ℕ) (x v : ℕ) → x < length L → Left L x v → Cut (pinned x v) L (set L x (2 ^ v))
pin_cut L x v inside left =
    cut_at {d = pinned x v} L x (2 ^ v) inside (λ u. (there u, λ h. rw (h.1 refl) (bit_pow_same v))) (λ y u n e. absurd (n e))
  where
    there : (u : ℕ) → Has (2 ^ v) u → Left L x u × (x ≡ x → u ≡ v)
    there u h =
        let e : u ≡ v = by_cases (ℕ_discrete u v) (λ q. q) (λ n. absurd (let z = bit_pow_other v u n in omega arith)) in
        (rw e left, λ _. e)

pub ban_cut : (L : List ℕ) (x v m : ℕ) → x < length L → Lacks m v → ((u : ℕ) → ¬ (u ≡ v) → bit m u ≡ bit (get_or L x 0) u)
    → Cut (banned x v) L (set L x m)
ban_cut L x v m inside gone kept =
    cut_at {d = banned x v} L x m inside (λ u. (there u, λ h. kept u (h.1 refl) ∙ h.0)) (λ y u n e. absurd (n e))
  where
    there : (u : ℕ) → Has m u → Left L x u × (x ≡ x → ¬ (u ≡ v))
    there u h =
        let n : ¬ (u ≡ v) = λ e. let z = ap (bit m) e ∙ gone in omega arith in
        (sym (kept u n) ∙ h, λ _. n)

-- ---- a rule

pub rule_between : {w : Standing} {L : List ℕ} (r : Rule) → Largest w L → Between (with_rule w r) L
rule_between {w} r a = record {
  long = a.long;
  within = record { declared = a.within.declared; permitted = a.within.permitted };
  most = λ K h shut.
      a.most K (record { declared = h.declared; permitted = h.permitted }) (λ q m. shut q (Memᴰ.append_left (r ∷ []) m));
}

-- ---- objectives

pub objectives_largest : {w : Standing} {L : List ℕ} (xs : List ℕ) → Largest w L → Largest (accepted w (name_objectives xs)) L
objectives_largest xs a = record {
  long = a.long;
  within = record { declared = a.within.declared; permitted = a.within.permitted };
  closed = a.closed;
  most = λ K h shut. a.most K (record { declared = h.declared; permitted = h.permitted }) shut;
}

-- ---- nothing

pub nothing_largest : Largest nothing []
nothing_largest = record {
  long = refl;
  within = record { declared = λ x v h. h; permitted = λ x v h d m. absurd (Memᴰ.not-nil m) };
  closed = λ r m. absurd (Memᴰ.not-nil m);
  most = λ K h shut x v k. h.declared x v k;
}

-- ---- a variable

-- lists with one variable more
grown : (l : List ℕ) (m x v : ℕ) → Left (l ++ (m ∷ [])) x v ↔ (Left l x v ⊎ ((x ≡ length l) × Has m v))
grown l m x v = (there, ⊎_elim old new)
  where
    there : Left (l ++ (m ∷ [])) x v → Left l x v ⊎ ((x ≡ length l) × Has m v)
    there h =
        let b = left_below (l ++ (m ∷ [])) x v h in
        by_cases (dec_lt x (length l)) (λ k. inl (rw (get_or-append l (m ∷ []) 0 x k) at h))
        (λ n. let e : length l ≡ x = omega (arith, length-append l (m ∷ [])) in inr (sym e, rw (get_or_at l m [] 0 x e) at h))

    old : Left l x v → Left (l ++ (m ∷ [])) x v
    old h = rw (get_or-append l (m ∷ []) 0 x (left_below l x v h)) h

    new : (x ≡ length l) × Has m v → Left (l ++ (m ∷ [])) x v
    new h = rw (get_or_at l m [] 0 x (sym h.0)) h.1

-- the lists of the first n variables
first_left : (n : ℕ) (K : List ℕ) (x v : ℕ) → Left (take n K) x v ↔ ((x < n) × Left K x v)
first_left n K x v = (there, λ h. rw (get_or-take n K x 0 h.0) h.1)
  where
    there : Left (take n K) x v → (x < n) × Left K x v
    there h =
        let l : x < n = omega (arith, left_below (take n K) x v h, length-take n K) in
        (l, rw (get_or-take n K x 0 l) at h)

pub variable_largest : {w : Standing} {L : List ℕ} (m : ℕ) → Largest w L
    → ((r : Rule) → Memᴰ r w.rules → (x : ℕ) → Memᴰ x (scope_of r) → x < length w.declared) → w.decisions ≡ []
    → Largest (accepted w (add_variable m)) (L ++ (m ∷ []))
variable_largest {w} {L} m a known free = record {
  long = omega (arith, length-append L (m ∷ []), length-append w.declared (m ∷ []), a.long);
  within = record {
    declared = λ x v h.
        ⊎_elim (λ k. (grown w.declared m x v).1 (inl (a.within.declared x v k)))
        (λ k. (grown w.declared m x v).1 (inr (k.0 ∙ a.long, k.1))) ((grown L m x v).0 h);
    permitted = λ x v h d k. absurd (Memᴰ.not-nil (rw free at k));
  };
  closed = λ r i x j v h.
      ⊎_elim (λ k. supported_mono (λ y u l. (grown L m y u).1 (inl l)) (a.closed r i x j v k))
      (λ k. absurd (omega (arith, known r i x j, k.0, a.long))) ((grown L m x v).0 h);
  most = λ K h shut x v k.
      ⊎_elim
      (λ l. (grown L m x v).1 (inl (a.most (take n K) (within K h) (closed K shut) x v ((first_left n K x v).1 (left_below w.declared x v l, k)))))
      (λ l. (grown L m x v).1 (inr (l.0 ∙ sym a.long, l.1))) ((grown w.declared m x v).0 (h.declared x v k));
}
  where
    n : ℕ
    n = length w.declared

    within : (K : List ℕ) → Within (accepted w (add_variable m)) K → Within w (take n K)
    within K h = record {
      declared = λ x v k.
          let (l, j) = (first_left n K x v).0 k in
          ⊎_elim (λ d. d) (λ d. absurd (omega (arith, d.0, l))) ((grown w.declared m x v).0 (h.declared x v j));
      permitted = λ x v k d i. absurd (Memᴰ.not-nil (rw free at i));
    }

    closed : (K : List ℕ) → Closed w.rules K → Closed w.rules (take n K)
    closed K shut r i x j v k =
        let s = shut r i x j v ((first_left n K x v).0 k).1 in
        record {
          by = s.by;
          here = s.here;
          others = λ y q d. (first_left n K y (at s.by y)).1 (known r i y q, s.others y q d);
          satisfied = s.satisfied;
        }
