-- The chain of packets.
use Rattle.std.specs.Prelude.{◌≡◌, ℕ, ◌-◌, ◌<◌, ◌≤◌, List, [], ◌∷◌, ◌++◌, length, ◌≢◌, refl}
use Rattle.std.proofs.Common.{sym, ◌∙◌, ap, arith}
use Rattle.std.proofs.lemmas.Bool.{eq-eqb, ne_eqb}
use Rattle.chain_shelf.specs.Records.{Mem, trail, cnt, Apart, last, span}
use Rattle.shelf.specs.Store.{units}
use Rattle.chain_shelf.specs.Chain.{layout, packets, Seg, end}
use Rattle.chain_shelf.proofs.Fills.{cnt_first, apart_first, apart_rest}
use Rattle.chain_shelf.proofs.Counts.{cnt_append, last_in}
use Rattle.chain_shelf.proofs.Trails.{trail_more, trail_none}

pub seg_trail : (g : ℕ → ℕ) (q f : ℕ) (hs : List ℕ) → Seg g q hs → length hs < f → trail g f (g q) ≡ hs
seg_trail g q f [] s l = trail_none g f (g q) s
seg_trail g q f (h ∷ hs) s l =
    ap (trail g f) s.0 ∙ trail_more g f h (omega arith) s.1 ∙ ap (λ t. h ∷ t) (seg_trail g h (f - 1) hs s.2 (omega arith))

pub seg_keep : (g k : ℕ → ℕ) (q r : ℕ) (hs : List ℕ) → Seg g q hs → k r ≡ g q → ((s : ℕ) → 0 < cnt s hs → k s ≡ g s) → Seg k r hs
seg_keep g k q r [] s e h = e ∙ s
seg_keep g k q r (x ∷ hs) s e h = (e ∙ s.0, s.1, seg_keep g k x x hs s.2 (h x (cnt_first x hs)) (λ y l. h y (omega arith)))

-- q is before the last of the others
not_last : (q a : ℕ) (A B : List ℕ) → Apart (q ∷ a ∷ (A ++ B)) → q ≢ last a A
not_last q a A B p e =
    let z = apart_first q (a ∷ (A ++ B)) p in
    let l = last_in a A in
    let y = ap (λ t. cnt t (a ∷ A)) e in
    let c = cnt_append q A B in
    omega arith

-- r comes in behind A
pub seg_in : (g k : ℕ → ℕ) (q : ℕ) (A B : List ℕ) (r : ℕ) → Seg g q (A ++ B) → Apart (q ∷ (A ++ B)) → (r ≢ 0)
    → k (last q A) ≡ r → k r ≡ g (last q A) → ((s : ℕ) → 0 < cnt s (q ∷ (A ++ B)) → (s ≢ last q A) → k s ≡ g s) → Seg k q (A ++ r ∷ B)
seg_in g k q [] B r s p n u v h =
    (u, n, seg_keep g k q r B s v (λ x l. h x (omega arith) (λ e. let z = apart_first q B p in let y = ap (λ t. cnt t B) e in omega arith)))
seg_in g k q (a ∷ A) B r s p n u v h =
    (h q (cnt_first q (a ∷ (A ++ B))) (not_last q a A B p) ∙ s.0, s.1, seg_in g k a A B r s.2 (apart_rest q (a ∷ (A ++ B)) p) n u v (λ x l. h x (omega arith)))

-- the one behind A goes out
pub seg_out : (g k : ℕ → ℕ) (q : ℕ) (A B : List ℕ) (r : ℕ) → Seg g q (A ++ r ∷ B) → Apart (q ∷ (A ++ r ∷ B))
    → k (last q A) ≡ g r → ((s : ℕ) → 0 < cnt s (q ∷ (A ++ r ∷ B)) → (s ≢ last q A) → k s ≡ g s) → Seg k q (A ++ B)
seg_out g k q [] B r s p u h =
    seg_keep g k r q B s.2 u (λ x l. h x (omega arith) (λ e. let z = apart_first q (r ∷ B) p in let y = ap (λ t. cnt t B) e in omega arith))
seg_out g k q (a ∷ A) B r s p u h =
    (h q (cnt_first q (a ∷ (A ++ r ∷ B))) (not_last q a A (r ∷ B) p) ∙ s.0, s.1, seg_out g k a A B r s.2 (apart_rest q (a ∷ (A ++ r ∷ B)) p) u (λ x l. h x (omega arith)))

-- a packet has a record at least
pub heads_units : (m : Mem) (hs : List ℕ) → length hs ≤ units (span 10) (packets (layout m hs))
heads_units m [] = omega arith
heads_units m (h ∷ hs) = let e = heads_units m hs in omega arith

-- each is below R
abbrev pub Below : ℕ → List ℕ → Type 0
Below R [] = Unit {0}
Below R (h ∷ hs) = (h < R) × Below R hs

pub below_from : (R : ℕ) (hs : List ℕ) → ((q : ℕ) → 0 < cnt q hs → q < R) → Below R hs
below_from R [] h = tt
below_from R (x ∷ hs) h = (h x (cnt_first x hs), below_from R hs (λ q l. h q (omega arith)))

pub below_last : (R q : ℕ) (hs : List ℕ) → q < R → Below R hs → last q hs < R
below_last R q [] l b = l
below_last R q (h ∷ hs) l b = below_last R h hs b.0 b.1

abbrev pub first : List ℕ → ℕ
first [] = 0
first (h ∷ hs) = h

-- what is left of the chain behind A
pub seg_from : (g : ℕ → ℕ) (q : ℕ) (A B : List ℕ) → Seg g q (A ++ B) → Seg g (last q A) B
seg_from g q [] B s = s
seg_from g q (a ∷ A) B s = seg_from g a A B s.2

pub seg_first : (g : ℕ → ℕ) (q : ℕ) (B : List ℕ) → Seg g q B → g q ≡ first B
seg_first g q [] s = s
seg_first g q (h ∷ B) s = s.0

pub last_append : (q : ℕ) (A B : List ℕ) → last q (A ++ B) ≡ last (last q A) B
last_append q [] B = refl
last_append q (a ∷ A) B = last_append a A B

-- what is behind q stays, and x comes before it
pub seg_end : (g : ℕ → ℕ) (q x e : ℕ) (B : List ℕ) (old : ℕ) → Seg g q B → old ≡ last e B → end (g q) x old ≡ last x B
seg_end g q x e [] old s o = let t = eq-eqb (g q) 0 s in simp t
seg_end g q x e (h ∷ B) old s o = let t = ne_eqb (g q) 0 (λ z. s.1 (sym s.0 ∙ z)) in simp t o
