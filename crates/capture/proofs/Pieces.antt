-- More bytes behind a whole record change nothing.
use Rattle.std.proofs.Common.{◌≡◌, ℕ, ◌+◌, ◌-◌, ◌*◌, ◌/◌, ◌%◌, ◌<◌, ◌≤◌, false, ltb, List, ◌++◌, length, take, drop, Ok, Err, Result, refl, ◌∙◌, inl, inr, arith, length-append, length-drop}
use Rattle.std.proofs.lemmas.Bool.{cond_both, ltb-true}
use Rattle.std.proofs.lemmas.Bool.Decides.{nat_tests}
use Rattle.std.proofs.Math.ListN.{get_or-append}
use Rattle.std.proofs.lemmas.List.{drop-append-le, take-append-le}
use Rattle.std.proofs.Math.Seq.{take-append_seam}
use Rattle.std.proofs.lemmas.Nat.{div-add-mod'}
use Rattle.capture.specs.declared.format.Order.{Order}
use Rattle.capture.specs.declared.format.Order.TheVariants.{Big, Little}
use Rattle.capture.specs.declared.records.RecordFault.{RecordFault}
use Rattle.capture.specs.declared.records.RecordFault.TheVariants.{Short, Long}
use Rattle.capture.specs.Numbers.{u32_at}
use Rattle.capture.specs.Records.{Rec, captured, record_in}
use Rattle.capture.specs.Pieces.{ShortWhereEnds, StandsWithMore, record_bytes, ReadsBack}

u32_kept : (o : Order) (xs more : List ℕ) (i : ℕ) → i + 3 < length xs → u32_at o (xs ++ more) i ≡ u32_at o xs i
u32_kept o xs more i l =
    let a = get_or-append xs more 0 i (omega (arith, l)) in
    let b = get_or-append xs more 0 (i + 1) (omega (arith, l)) in
    let c = get_or-append xs more 0 (i + 2) (omega (arith, l)) in
    let d = get_or-append xs more 0 (i + 3) l in
    rw (a, b, c, d) refl

test_kept : (xs more : List ℕ) (n : ℕ) → ltb (length xs) n ≡ false → ltb (length (xs ++ more)) n ≡ false
test_kept xs more n t = rw (length-append xs more) (grind (arith, nat_tests, t))

bytes_kept : (xs more : List ℕ) (n : ℕ) → 16 ≤ length xs → 16 + n ≤ length xs → take n (drop 16 (xs ++ more)) ≡ take n (drop 16 xs)
bytes_kept xs more n a l = rw (drop-append-le 16 xs more a) (take-append-le n (drop 16 xs) more (rw (length-drop 16 xs) (omega (arith, l))))

behind : (n : ℕ) → 16 + n - 16 ≡ n
behind n = omega arith

-- any answer but Short is the same with more bytes
stands : (o : Order) (xs : List ℕ) → StandsWithMore o xs (record_in o xs)
stands o xs h more = cond_both (ltb (length xs) 16) (Err Short) _ (StandsWithMore o xs)
    (λ t h more. absurd (h refl)) (λ a.
    let l : 16 ≤ length xs = grind (arith, nat_tests, a) in
    cond_both (ltb 262144 (captured o xs)) (Err (Long (captured o xs))) _ (StandsWithMore o xs)
    (λ t h more. let k = u32_kept o xs more 8 (omega (arith, l)) in rw (test_kept xs more 16 a, k, t) refl) (λ b.
    cond_both (ltb (length xs) (16 + captured o xs)) (Err Short) _ (StandsWithMore o xs)
    (λ t h more. absurd (h refl)) (λ c h more.
    let n : 16 + captured o xs ≤ length xs = grind (arith, nat_tests, c) in
    let k0 = u32_kept o xs more 0 (omega (arith, l)) in
    let k4 = u32_kept o xs more 4 (omega (arith, l)) in
    let k8 = u32_kept o xs more 8 (omega (arith, l)) in
    let k12 = u32_kept o xs more 12 (omega (arith, l)) in
    rw (test_kept xs more 16 a, k8, b, test_kept xs more (16 + captured o xs) c, behind (captured o xs), k0, k4, k12, bytes_kept xs more (captured o xs) l n) refl))) h more

-- Short is told where the bytes end, and only there
short : (o : Order) (xs : List ℕ) → ShortWhereEnds o xs (record_in o xs)
short o xs = cond_both (ltb (length xs) 16) (Err Short) _ (ShortWhereEnds o xs)
    (λ t. ((λ _. inl (ltb-true _ _ t)), λ _. refl)) (λ a.
    cond_both (ltb 262144 (captured o xs)) (Err (Long (captured o xs))) _ (ShortWhereEnds o xs)
    (λ t. ((λ e. grind (arith, e)), λ n. elim n [ inl l ↦ grind (arith, nat_tests, a, l) | inr l ↦ let m = l.0 in grind (arith, nat_tests, t, m) ])) (λ b.
    cond_both (ltb (length xs) (16 + captured o xs)) (Err Short) _ (ShortWhereEnds o xs)
    (λ t. ((λ _. inr (grind (arith, nat_tests, b), ltb-true _ _ t)), λ _. refl))
    (λ c. ((λ e. grind (arith, e)), λ n. elim n [ inl l ↦ grind (arith, nat_tests, a, l) | inr l ↦ let m = l.1 in grind (arith, nat_tests, c, m) ]))))

whole_big : (n : ℕ) → n / 256 / 256 / 256 * 16777216 + n / 256 / 256 % 256 * 65536 + n / 256 % 256 * 256 + n % 256 ≡ n
whole_big n = let a = div-add-mod' n 256 in let b = div-add-mod' (n / 256) 256 in let c = div-add-mod' (n / 256 / 256) 256 in omega (arith, a, b, c)

whole_little : (n : ℕ) → n % 256 + n / 256 % 256 * 256 + n / 256 / 256 % 256 * 65536 + n / 256 / 256 / 256 * 16777216 ≡ n
whole_little n = let a = div-add-mod' n 256 in let b = div-add-mod' (n / 256) 256 in let c = div-add-mod' (n / 256 / 256) 256 in omega (arith, a, b, c)

-- a record that is laid out is read
reads_back : (o : Order) (r : Rec) (more : List ℕ) → length r.frame ≤ 262144 → record_in o (record_bytes o r more) ≡ Ok r
reads_back Big r more l =
    let n = length r.frame in
    let xs = record_bytes Big r more in
    let k = whole_big n in
    let both = length-append r.frame more in
    let long : ltb (length xs) 16 ≡ false = grind (arith, nat_tests) in
    let fits : ltb 262144 n ≡ false = grind (arith, nat_tests, l) in
    let whole : ltb (length xs) (16 + n) ≡ false = grind (arith, nat_tests, both) in
    rw (long, k, fits, whole, behind n, whole_big r.seconds, whole_big r.fraction, whole_big r.original, take-append_seam r.frame more) refl
reads_back Little r more l =
    let n = length r.frame in
    let xs = record_bytes Little r more in
    let k = whole_little n in
    let both = length-append r.frame more in
    let long : ltb (length xs) 16 ≡ false = grind (arith, nat_tests) in
    let fits : ltb 262144 n ≡ false = grind (arith, nat_tests, l) in
    let whole : ltb (length xs) (16 + n) ≡ false = grind (arith, nat_tests, both) in
    rw (long, k, fits, whole, behind n, whole_little r.seconds, whole_little r.fraction, whole_little r.original, take-append_seam r.frame more) refl

pub told_back : (o : Order) (xs : List ℕ) (a : Result Rec RecordFault) → a ≡ record_in o xs → ReadsBack o xs a
told_back o xs a e r more l i = e ∙ (rw i (reads_back o r more l))

pub told_stands : (o : Order) (xs : List ℕ) (r : Result Rec RecordFault) → r ≡ record_in o xs → StandsWithMore o xs r
told_stands o xs r e = rw e (stands o xs)

pub told_short : (o : Order) (xs : List ℕ) (r : Result Rec RecordFault) → r ≡ record_in o xs → ShortWhereEnds o xs r
told_short o xs r e = rw e (short o xs)
