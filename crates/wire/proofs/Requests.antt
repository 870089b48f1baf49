-- A source id written over the zeros behind the head of a request.
use Rattle.std.proofs.Common.{◌≡◌, ℕ, ◌+◌, ◌-◌, ◌*◌, ◌/◌, ◌%◌, ◌^◌, ◌<◌, ◌≤◌, Bool, true, false, cond, not, eqb, ◌&&◌, ◌||◌, leb, List, [], ◌∷◌, ◌++◌, length, get_or, take, drop, replicate, Ok, Err, sym, refl, ap, ◌∙◌, subst, append_assoc, arith}
use native.Mathlib.Nat.{div-div-eq-div-mul}
use lib.ListN.{length-replicate}
use borrow.Rule.Slice.PartMut.{put_mid}
use Rattle.std.proofs.lemmas.List.{append-nil, take_at, drop_at, drop-replicate, get_or_append_left, get_or-append_right, get_or-replicate}
use Rattle.std.proofs.lemmas.Bool.{le-leb, and_from, cond-true}
use Rattle.std.specs.List.{list_any}
use Rattle.wire.specs.declared.fault.RequestFault.TheVariants.{Source}
use Rattle.wire.specs.Request.{nonzero, source_right, request_head, request, request_after, Requests}

neither : (x y : Bool) → (not x && not y) ≡ not (x || y)
neither true y = refl
neither false y = refl

-- no byte is 0, as the search for one says
pub nonzero_any : (s : List ℕ) → nonzero s ≡ not (list_any (λ b. eqb b 0) s)
nonzero_any [] = refl
nonzero_any (b ∷ bs) = ap (λ (x : Bool). not (eqb b 0) && x) (nonzero_any bs) ∙ neither (eqb b 0) (list_any (λ b. eqb b 0) bs)

padded : (h s : List ℕ) (n : ℕ) → length h ≡ 24 → put_mid 24 n (h ++ replicate 20 0) s ≡ h ++ (s ++ replicate (20 - n) 0)
padded h s n l =
    let z : ℕ = 0 in
    rw (take_at h (replicate 20 z) 24 l, drop_at h (replicate 20 z) 24 l, drop-replicate n 20 z)

-- a request with its source id, written over the zeros
pub laid : (w v s : List ℕ) (t x y n : ℕ) → n ≡ length s → w ≡ request_head t x y ++ replicate 20 0 → v ≡ s → put_mid 24 (24 + n - 24) w v ≡ request t x y s
laid w v s t x y n m e d =
    let k : 24 + n - 24 ≡ length s = omega (arith, m) in
    ap (λ (j : ℕ). put_mid 24 j w v) k
    ∙ (ap (λ (u : List ℕ). put_mid 24 (length s) w u) d
    ∙ (ap (λ (u : List ℕ). put_mid 24 (length s) u s) e ∙ padded (request_head t x y) s (length s) refl))

-- four bytes of a number are the number
digits_back : (t a b c : ℕ) → t / 256 ≡ a → a / 256 ≡ b → b / 256 ≡ c → c < 256 → (c % 256) * 16777216 + (b % 256) * 65536 + (a % 256) * 256 + t % 256 ≡ t
digits_back t a b c x y z l = omega arith

bytes_back : (t : ℕ) → t < 2 ^ 32 → (t / 16777216 % 256) * 16777216 + (t / 65536 % 256) * 65536 + (t / 256 % 256) * 256 + t % 256 ≡ t
bytes_back t h =
    digits_back t (t / 256) (t / 65536) (t / 16777216) refl (div-div-eq-div-mul t 256 256) (div-div-eq-div-mul t 65536 256) (omega arith)

-- what stands behind a head of 24 bytes and a source
padding_is : (h s r : List ℕ) (k : ℕ) → length h ≡ 24 → 24 + length s ≤ k → k < 44 → get_or ((h ++ (s ++ replicate (20 - length s) 0)) ++ r) k 0 ≡ 0
padding_is h s r k e m n =
    let z : List ℕ = replicate (20 - length s) 0 in
    let w : length z ≡ 20 - length s = length-replicate {A = ℕ} (20 - length s) 0 in
    let i : k - 24 - length s < length z = omega arith in
    ap (λ (v : List ℕ). get_or v k 0) (append_assoc h (s ++ z) r)
    ∙ (get_or-append_right h ((s ++ z) ++ r) 24 k 0 e (omega arith)
    ∙ (ap (λ (v : List ℕ). get_or v (k - 24) 0) (append_assoc s z r)
    ∙ (get_or-append_right s (z ++ r) (length s) (k - 24) 0 refl (omega arith)
    ∙ (get_or_append_left z r 0 (k - 24 - length s) i ∙ get_or-replicate {A = ℕ} (20 - length s) (k - 24 - length s) 0 0 (omega arith)))))

-- a request in front of other bytes, field by field
pub request_fields : (t x y : ℕ) (s r : List ℕ) → t < 2 ^ 32 → x < 2 ^ 32 → y < 2 ^ 32 → Requests (request t x y s ++ r) t x y s
request_fields t x y s r a b c =
    record {
      size = refl;
      kind = refl;
      number = refl;
      sent = bytes_back t a;
      product = refl;
      flag = refl;
      entries = refl;
      link = refl;
      first = bytes_back x b;
      last = bytes_back y c;
      name = ap (λ (v : List ℕ). take (length s) v) (append_assoc s (replicate (20 - length s) 0) r) ∙ take_at s (replicate (20 - length s) 0 ++ r) (length s) refl;
      padding = λ k m n. padding_is (request_head t x y) s r k refl m n;
    }

-- the same of the request alone
pub request_alone : (t x y : ℕ) (s d : List ℕ) → t < 2 ^ 32 → x < 2 ^ 32 → y < 2 ^ 32 → d ≡ request t x y s → Requests d t x y s
request_alone t x y s d a b c e =
    let R : List ℕ → Type 0 = λ v. Requests v t x y s in
    subst R (append-nil (request t x y s) ∙ sym e) (request_fields t x y s [] a b c)

-- a source id that was made, and the bytes that it was made of
pub made : (b : Bool) (x s : List ℕ) → Ok x ≡ cond b (Ok s) (Err Source) → (b ≡ true) × (x ≡ s)
made true x s e = (refl, cc)
made false x s e = absurd (cc)

-- a buffer after a request that is not refused
pub wrote : (b d r s : List ℕ) (t x y : ℕ) → 44 ≤ length b → source_right s ≡ true → length r ≡ 44 → r ≡ request t x y s → d ≡ r ++ drop (length r) b → d ≡ request_after b t x y s
wrote b d r s t x y l right n is e =
    e ∙ ap (λ k. r ++ drop k b) n ∙ ap (λ (v : List ℕ). v ++ drop 44 b) is
    ∙ sym (cond-true (leb 44 (length b) && source_right s) _ _ (and_from (leb 44 (length b)) (source_right s) (le-leb 44 (length b) l) right))

pub requests : (b d s : List ℕ) (t x y : ℕ) → t < 2 ^ 32 → x < 2 ^ 32 → y < 2 ^ 32 → 44 ≤ length b → source_right s ≡ true → d ≡ request_after b t x y s → Requests d t x y s
requests b d s t x y tf xf yf l r e =
    let k : (leb 44 (length b) && source_right s) ≡ true = and_from (leb 44 (length b)) (source_right s) (le-leb 44 (length b) l) r in
    let R : List ℕ → Type 0 = λ v. Requests v t x y s in
    subst R (sym (e ∙ cond-true _ _ _ k)) (request_fields t x y s (drop 44 b) tf xf yf)
