-- Every reading is judged right.
use Rattle.std.proofs.Common.{◌≡◌, ℕ, ◌+◌, ◌-◌, ◌%◌, ◌<◌, ◌≤◌, Bool, true, false, not, ◌||◌, eqb, leb, ltb, List, length, get_or, drop, Some, None, Ok, Err, Option, Result, sym, refl, ◌∙◌, subst, inl, inr, arith, length-drop}
use Rattle.std.proofs.lemmas.Bool.{cond_both, eqb-true, eqb-false, not-true, not-false, both_ways, cases_lt, and_from, le-leb}
use Rattle.std.proofs.lemmas.List.{get_or-drop, drop-drop}
use Rattle.std.proofs.lemmas.Bool.Decides.{nat_tests}
use Rattle.common.specs.Lengths.{right}
use Rattle.wire.specs.declared.fault.ReadFault.{ReadFault}
use Rattle.wire.specs.declared.fault.ReadFault.TheVariants.{Length, Size, Product, Unknown, Flag, Body}
use Rattle.wire.specs.declared.reader.Kind.{Kind}
use Rattle.wire.specs.declared.reader.Kind.TheVariants as kind
use Rattle.wire.specs.declared.message.Packet.{Packet}
use Rattle.wire.specs.Bytes.{be16, be32}
use Rattle.wire.specs.Reading.{Msg, Pkt, Hdr, told, and_then, kind_from, allowed, header_in, body_in, reading, reset_in, unavailable_in, mapping_in, full_in, delta_in, unless, wrong_in_full, wrong_in_delta}
use Rattle.wire.specs.Laws.{Long, Framed, Ours, code, Untyped, Headed, fits, wrong_at, RightBelow, message_of, Faulty, Cause, Judged}
use Rattle.wire.proofs.Firsts.{Firsts, first_is_first}

then_both : {A B E : Type 0} (P : Result A E → Type 0) (Q : Result B E → Type 0) (f : A → Result B E) (r : Result A E) →
    P r → ((a : A) → P (Ok a) → Q (f a)) → ((e : E) → P (Err e) → Q (Err e)) → Q (and_then r f)
then_both P Q f (Ok a) h ok err = ok a h
then_both P Q f (Err e) h ok err = err e h

KindJudged : ℕ → Result Kind ReadFault → Type 0
KindJudged n (Ok k) = code k ≡ n
KindJudged n (Err f) = (f ≡ Unknown) × Untyped n

kind_judged : (n : ℕ) → KindJudged n (kind_from n)
unfolding KindJudged
kind_judged n =
    cond_both (eqb n 1) _ _ (KindJudged n) (λ t. sym (eqb-true n 1 t)) (λ a.
    cond_both (eqb n 5) _ _ (KindJudged n) (λ t. sym (eqb-true n 5 t)) (λ b.
    cond_both (eqb n 35) _ _ (KindJudged n) (λ t. sym (eqb-true n 35 t)) (λ c.
    cond_both (eqb n 230) _ _ (KindJudged n) (λ t. sym (eqb-true n 230 t)) (λ d.
    cond_both (eqb n 231) _ _ (KindJudged n) (λ t. sym (eqb-true n 231 t)) (λ e.
    (refl, untyped n (eqb-false n 1 a) (eqb-false n 5 b) (eqb-false n 35 c) (eqb-false n 230 d) (eqb-false n 231 e)))))))
  where
    untyped : (n : ℕ) → (n ≡ 1 → ⊥) → (n ≡ 5 → ⊥) → (n ≡ 35 → ⊥) → (n ≡ 230 → ⊥) → (n ≡ 231 → ⊥) → Untyped n
    untyped n a b c d e kind.Reset h = a (sym h)
    untyped n a b c d e kind.Unavailable h = b (sym h)
    untyped n a b c d e kind.Mapping h = c (sym h)
    untyped n a b c d e kind.Full h = d (sym h)
    untyped n a b c d e kind.Delta h = e (sym h)

-- what a header comes to
HeaderJudged : List ℕ → Result Hdr ReadFault → Type 0
HeaderJudged p (Ok h) = Headed h.kind p × (h.number ≡ be32 p 4) × (h.flag ≡ get_or p 13 0) × (h.link ≡ get_or p 15 0) × (h.body ≡ drop 16 p)
HeaderJudged p (Err f) = Cause f p

long_right : {n : ℕ} → not (right n) ≡ true → (16 ≤ n) × (n ≤ 1500) → ⊥
long_right {n} t l = both_ways (right n) (not-true _ t) (and_from (leb 16 n) (leb n 1500) (le-leb 16 n l.0) (le-leb n 1500 l.1))

header_judged : (p : List ℕ) → HeaderJudged p (header_in p)
unfolding HeaderJudged KindJudged
header_judged p =
    cond_both (not (right (length p))) (Err Length) _ (HeaderJudged p) (λ t l. long_right t l) (λ a.
    let l : Long p = (grind (arith, nat_tests), grind (arith, nat_tests)) in
    cond_both (not (eqb (be16 p 0 + 2) (length p))) (Err Size) _ (HeaderJudged p) (λ t. (l, eqb-false _ _ (not-true _ t))) (λ b.
    let f : Framed p = (l, eqb-true _ _ (not-false _ b)) in
    cond_both (not (eqb (get_or p 12 0) 115)) (Err Product) _ (HeaderJudged p) (λ t. (f, eqb-false _ _ (not-true _ t))) (λ c.
    let o : Ours p = (f, eqb-true _ _ (not-false _ c)) in
    then_both (KindJudged (be16 p 2)) (HeaderJudged p) _ (kind_from (be16 p 2)) (kind_judged (be16 p 2))
    (λ k t. cond_both (not (allowed k (get_or p 13 0))) (Err Flag) _ (HeaderJudged p)
    (λ d. (o, (k, t, not-true _ d)))
    (λ d. (record { ours = o; typed = t; flagged = not-false _ d }, refl, refl, refl, refl)))
    (λ e t. let C : ReadFault → Type 0 = λ f. Cause f p in subst C (sym t.0) (o, t.1)))))

-- what a body comes to
BodyJudged : Kind → List ℕ → Result Msg ReadFault → Type 0
BodyJudged k p (Ok m) = (fits k (length p) ≡ true) × RightBelow k p (length p) × (m ≡ message_of k p)
BodyJudged k p (Err f) = (o : ℕ) × (f ≡ Body o) × Faulty k p o

wrong_length : (k : Kind) (p : List ℕ) → fits k (length p) ≡ false → BodyJudged k p (Err (Body 0))
unfolding BodyJudged
wrong_length k p t = (0, refl, ((λ _. refl), λ s. absurd (both_ways _ t s)))

wrong_byte : (k : Kind) (p : List ℕ) (o : ℕ) → fits k (length p) ≡ true → o < length p → wrong_at k p o ≡ true → RightBelow k p o → BodyJudged k p (Err (Body o))
unfolding BodyJudged
wrong_byte k p o s l w r = (o, refl, ((λ t. absurd (both_ways _ t s)), λ _. (l, w, r)))

-- a body whose points begin at `start`, where all before is right
module _ (k : Kind) (p : List ℕ) (start : ℕ) (f : ℕ → Bool) (fit : fits k (length p) ≡ true) (within : start ≤ length p)
    (below : (o : ℕ) → o < start → wrong_at k p o ≡ false) (shift : (j : ℕ) → wrong_at k p (start + j) ≡ f j) where
  right_below : (n : ℕ) → ((j : ℕ) → j < n → f j ≡ false) → RightBelow k p (start + n)
  right_below n h o l = elim (cases_lt o start) [
    | inl m ↦ below o m
    | inr m ↦ let e : start + (o - start) ≡ o = omega arith in rw e at (shift (o - start) ∙ h (o - start) (omega arith))
  ]

  points_judged : (m : Msg) → m ≡ message_of k p → (r : Option ℕ) → Firsts f (length p - start) r → BodyJudged k p (unless start r (Ok m))
  unfolding BodyJudged
  points_judged m e None h = (fit, (let n : start + (length p - start) ≡ length p = omega arith in rw n at (right_below (length p - start) h)), e)
  points_judged m e (Some o) h = wrong_byte k p (start + o) fit (let l = h.0 in omega arith) (shift o ∙ h.1) (right_below o h.2)

module _ (p : List ℕ) (l : 16 ≤ length p) where
  whole_is : 16 + length (drop 16 p) ≡ length p
  whole_is = rw length-drop (omega arith)

  mapping_judged : BodyJudged kind.Mapping p (mapping_in (drop 16 p))
  unfolding BodyJudged
  mapping_judged =
      rw whole_is (cond_both (not (eqb (length p) 30)) (Err (Body 0)) _ (BodyJudged kind.Mapping p)
      (λ t. wrong_length kind.Mapping p (not-true _ t)) (λ t. (not-false _ t, (λ _ _. refl), refl)))

  reset_judged : BodyJudged kind.Reset p (reset_in (drop 16 p))
  unfolding BodyJudged
  reset_judged =
      simp (whole_is, get_or-drop) (cond_both (not (eqb (length p) 20)) (Err (Body 0)) _ (BodyJudged kind.Reset p)
      (λ t. wrong_length kind.Reset p (not-true _ t)) (λ t.
      let n : length p ≡ 20 = eqb-true _ _ (not-false _ t) in
      cond_both (eqb (be32 p 16) 0) (Err (Body 16)) _ (BodyJudged kind.Reset p)
      (λ b. wrong_byte kind.Reset p 16 (not-false _ t) (omega arith) b (λ o h. grind (arith, nat_tests)))
      (λ b. (not-false _ t, (λ o h. grind (arith, nat_tests)), refl))))

  unavailable_judged : BodyJudged kind.Unavailable p (unavailable_in (drop 16 p))
  unfolding BodyJudged
  unavailable_judged =
      simp (whole_is, get_or-drop) (cond_both (not (eqb (length p) 24)) (Err (Body 0)) _ (BodyJudged kind.Unavailable p)
      (λ t. wrong_length kind.Unavailable p (not-true _ t)) (λ t.
      let n : length p ≡ 24 = eqb-true _ _ (not-false _ t) in
      cond_both (eqb (be32 p 16) 0) (Err (Body 16)) _ (BodyJudged kind.Unavailable p)
      (λ b. wrong_byte kind.Unavailable p 16 (not-false _ t) (omega arith) (grind (arith, nat_tests)) (λ o h. grind (arith, nat_tests))) (λ b.
      cond_both (ltb (be32 p 20) (be32 p 16)) (Err (Body 20)) _ (BodyJudged kind.Unavailable p)
      (λ e. wrong_byte kind.Unavailable p 20 (not-false _ t) (omega arith) (grind (arith, nat_tests)) (λ o h. grind (arith, nat_tests)))
      (λ e. (not-false _ t, (λ o h. grind (arith, nat_tests)), refl)))))

  full_judged : BodyJudged kind.Full p (full_in (drop 16 p))
  unfolding BodyJudged
  full_judged =
      simp (whole_is, drop-drop, get_or-drop, length-drop 46 p) (cond_both (ltb (length p) 46 || not (eqb ((length p - 46) % 12) 0)) (Err (Body 0)) _ (BodyJudged kind.Full p)
      (λ t. wrong_length kind.Full p (grind (arith, nat_tests))) (λ t.
      let fit : fits kind.Full (length p) ≡ true = grind (arith, nat_tests) in
      let n : 46 ≤ length p = grind (arith, nat_tests) in
      cond_both (ltb 9 (get_or p 42 0)) (Err (Body 42)) _ (BodyJudged kind.Full p)
      (λ b. wrong_byte kind.Full p 42 fit (omega arith) (grind (arith, nat_tests)) (λ o h. grind (arith, nat_tests)))
      (λ b. points_judged kind.Full p 46 (wrong_in_full (drop 46 p)) fit n
      (λ o h. grind (arith, nat_tests)) (λ j. let e : 46 + j - 46 ≡ j = omega arith in rw (e, get_or-drop 46 p j 0) (grind (arith, nat_tests))) _ refl _ (first_is_first _ _))))

  delta_judged : BodyJudged kind.Delta p (delta_in (drop 16 p))
  unfolding BodyJudged
  delta_judged =
      simp (whole_is, drop-drop, get_or-drop, length-drop 34 p) (cond_both (ltb (length p) 62 || not (eqb ((length p - 34) % 28) 0)) (Err (Body 0)) _ (BodyJudged kind.Delta p)
      (λ t. wrong_length kind.Delta p (grind (arith, nat_tests))) (λ t.
      let fit : fits kind.Delta (length p) ≡ true = grind (arith, nat_tests) in
      let n : 34 ≤ length p = grind (arith, nat_tests) in
      cond_both (ltb 9 (get_or p 33 0)) (Err (Body 33)) _ (BodyJudged kind.Delta p)
      (λ b. wrong_byte kind.Delta p 33 fit (omega arith) (grind (arith, nat_tests)) (λ o h. grind (arith, nat_tests)))
      (λ b. points_judged kind.Delta p 34 (wrong_in_delta (drop 34 p)) fit n
      (λ o h. grind (arith, nat_tests)) (λ j. let e : 34 + j - 34 ≡ j = omega arith in rw (e, get_or-drop 34 p j 0) (grind (arith, nat_tests))) _ refl _ (first_is_first _ _))))

  body_judged : (k : Kind) → BodyJudged k p (body_in k (drop 16 p))
  body_judged kind.Mapping = mapping_judged
  body_judged kind.Reset = reset_judged
  body_judged kind.Unavailable = unavailable_judged
  body_judged kind.Full = full_judged
  body_judged kind.Delta = delta_judged

pub judged : (p : List ℕ) → Judged p (reading p)
unfolding HeaderJudged BodyJudged
judged p =
    then_both (HeaderJudged p) (Judged p) _ (header_in p) (header_judged p)
    (λ h w. then_both (BodyJudged h.kind p) (Judged p) _ (body_in h.kind h.body)
    (rw w.4 (body_judged p w.0.ours.0.0.0 h.kind))
    (λ m v. record { kind = h.kind; headed = w.0; fitting = v.0; right = v.1; number = w.1; flag = w.2; link = w.3; message = v.2 })
    (λ f v. let C : ReadFault → Type 0 = λ e. Cause e p in subst C (sym v.1) (h.kind, w.0, v.2)))
    (λ f w. w)

pub told_judged : (p : List ℕ) (r : Result Packet ReadFault) → told r ≡ reading p → Judged p (told r)
told_judged p r e = let J : Result Pkt ReadFault → Type 0 = Judged p in subst J (sym e) (judged p)
