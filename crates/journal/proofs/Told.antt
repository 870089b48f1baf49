-- A text that is told in pieces.
use Rattle.std.proofs.Common.{◌≡◌, ℕ, ◌+◌, ◌-◌, ◌/◌, ◌<◌, ◌≤◌, min, Bool, true, false, ◌&&◌, cond, nat_le, nat_lt, List, [], ◌∷◌, ◌++◌, length, take, Some, None, refl, ap, sym, ◌∙◌, arith, length-append, length-drop, append_assoc, append-nil}
use Rattle.std.specs.List.{flat_map}
use Rattle.std.proofs.lemmas.Bool.Decides.{nat_tests}
use Rattle.std.proofs.lemmas.List.{drop_all}
use Rattle.journal.specs.declared.tail.Tail.{Tail}
use Rattle.journal.specs.Tails.{Kept, top, last_part, meant, said, since}
use Rattle.journal.specs.Laws.{all_told, exactly}
use Rattle.journal.proofs.Parts.{last_first, last_put}

pub pieces_join : (a b : List ℕ) (t : Kept) → said b (said a t) ≡ said (a ++ b) t
unfolding said
pieces_join a b t =
    let e : min (min (t.told + length a) top + length b) top ≡ min (t.told + length (a ++ b)) top = omega (arith, length-append a b) in
    let f : last_part t.room (last_part t.room (t.kept ++ a) ++ b) ≡ last_part t.room (t.kept ++ (a ++ b)) =
    last_first t.room (t.kept ++ a) b ∙ ap (last_part t.room) (append_assoc t.kept a b) in
    ap (λ (n : ℕ). record { room = t.room; told = n; kept = last_part t.room (last_part t.room (t.kept ++ a) ++ b) }) e
    ∙ ap (λ (ys : List ℕ). record { room = t.room; told = min (t.told + length (a ++ b)) top; kept = ys }) f

-- nothing is told
pub said_nothing : (t : Tail) → meant t ≡ said [] (meant t)
unfolding said meant
said_nothing t =
    let n = length t.buffer.now / 2 in
    let e : min t.told top ≡ min (min t.told top + 0) top = omega arith in
    let f : last_part n (take t.used t.buffer.now) ≡ last_part n (last_part n (take t.used t.buffer.now) ++ []) =
    sym (last_first n (take t.used t.buffer.now) [] ∙ ap (last_part n) (append-nil (take t.used t.buffer.now))) in
    ap (λ (k : ℕ). record { room = n; told = k; kept = last_part n (take t.used t.buffer.now) }) e
    ∙ ap (λ (ys : List ℕ). record { room = n; told = min (min t.told top + 0) top; kept = ys }) f

-- a choice by two tests that agree, of two lists that are one where they hold
chosen : (p q : Bool) (v w : List ℕ) → p ≡ q → (q ≡ true → v ≡ w) → cond p (Some v) None ≡ cond q (Some w) None
chosen p true v w e f = ap (λ (b : Bool). cond b (Some v) None) e ∙ ap (λ (xs : List ℕ). Some xs) (f refl)
chosen p false v w e f = ap (λ (b : Bool). cond b (Some v) None) e

-- x was the count, and y is; b bytes were told, and m of r are kept
tests : (x b y k m r last : ℕ) → y ≡ min (x + b) last → m ≡ k + b - (k + b - r) → (nat_lt y last && (nat_le x y && nat_le (y - x) m)) ≡ (nat_le b r && nat_lt (x + b) last)
tests x b y k m r last e f = grind (arith, nat_tests)

both : (x b r last : ℕ) → (nat_le b r && nat_lt (x + b) last) ≡ true → (b ≤ r) × (x + b < last)
both x b r last e = grind (arith, nat_tests)

stands_once : (bs : List ℕ) (t : Kept) → since t.told (said bs t) ≡ exactly bs t
unfolding said last_part
stands_once bs t =
    let y = min (t.told + length bs) top in
    let ys = last_part t.room (t.kept ++ bs) in
    let l : length ys ≡ length t.kept + length bs - (length t.kept + length bs - t.room) =
    length-drop (length (t.kept ++ bs) - t.room) (t.kept ++ bs) ∙ ap (λ (n : ℕ). n - (n - t.room)) (length-append t.kept bs) in
    chosen _ _ (last_part (y - t.told) ys) bs
    (tests t.told (length bs) y (length t.kept) (length ys) t.room top refl l)
    (λ e. let h = both t.told (length bs) t.room top e in last_put (y - t.told) t.room t.kept bs (omega arith) (omega arith))

-- pieces that are told one after the other are told as one
all_join : {X : Type 0} (f : X → List ℕ) (xs : List X) (a : List ℕ) (t : Kept) → all_told (λ x k. said (f x) k) xs (said a t) ≡ said (a ++ flat_map f xs) t
all_join f [] a t = ap (λ (bs : List ℕ). said bs t) (sym (append-nil a))
all_join f (x ∷ xs) a t =
    ap (all_told (λ y k. said (f y) k) xs) (pieces_join a (f x) t)
    ∙ (all_join f xs (a ++ f x) t ∙ ap (λ (bs : List ℕ). said bs t) (append_assoc a (f x) (flat_map f xs)))

nothing : (x k r last : ℕ) → (nat_lt x last && (nat_le x x && nat_le (x - x) k)) ≡ (nat_le 0 r && nat_lt (x + 0) last)
nothing x k r last = grind (arith, nat_tests)

stands_none : (t : Kept) → since t.told t ≡ exactly [] t
unfolding last_part
stands_none t =
    chosen _ _ (last_part (t.told - t.told) t.kept) []
    (nothing t.told (length t.kept) t.room top)
    (λ e. drop_all (length t.kept - (t.told - t.told)) t.kept (omega arith))

pub stands : {X : Type 0} (f : X → List ℕ) (xs : List X) (t : Kept) → since t.told (all_told (λ x k. said (f x) k) xs t) ≡ exactly (flat_map f xs) t
stands f [] t = stands_none t
stands f (x ∷ xs) t = ap (since t.told) (all_join f xs (f x) t) ∙ stands_once (f x ++ flat_map f xs) t
