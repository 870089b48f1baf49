-- Counts of records, and walks.
use Rattle.std.specs.Prelude.{◌≡◌, ℕ, zero, suc, ◌+◌, ◌-◌, ◌/◌, ◌<◌, List, [], ◌∷◌, ◌++◌, ◌≢◌, refl}
use Rattle.std.proofs.Common.{◌∙◌, ap, arith}
use Rattle.chain_shelf.specs.Records.{Mem, link, size, walk, cnt, Apart, last}
use Rattle.chain_shelf.specs.Chain.{Pack, layout, packets, tally, loose}
use Rattle.chain_shelf.proofs.Fills.{cnt_first, apart_first, apart_rest}

pub cnt_append : (q : ℕ) (xs ys : List ℕ) → cnt q (xs ++ ys) ≡ cnt q xs + cnt q ys
cnt_append q [] ys = omega arith
cnt_append q (x ∷ xs) ys = let e = cnt_append q xs ys in omega arith

pub tally_append : (q : ℕ) (a b : List Pack) → tally q (a ++ b) ≡ tally q a + tally q b
tally_append q [] b = omega arith
tally_append q (x ∷ a) b = let e = tally_append q a b in omega arith

pub layout_append : (m : Mem) (a b : List ℕ) → layout m (a ++ b) ≡ layout m a ++ layout m b
layout_append m [] b = refl
layout_append m (h ∷ a) b = let e = layout_append m a b in cc

pub packets_append : (a b : List Pack) → packets (a ++ b) ≡ packets a ++ packets b
packets_append [] b = refl
packets_append (x ∷ a) b = let e = packets_append a b in cc

-- the record n steps behind s
abbrev pub ahead : (ℕ → ℕ) → ℕ → ℕ → ℕ
ahead g zero s = s
ahead g (suc n) s = ahead g n (g s)

pub ahead_last : (g : ℕ → ℕ) (n r : ℕ) → ahead g (suc n) r ≡ g (last r (walk g (suc n) r))
ahead_last g zero r = refl
ahead_last g (suc n) r = ahead_last g n (g r)

pub walk_split : (g : ℕ → ℕ) (n f r : ℕ) → walk g (n + f) r ≡ walk g n r ++ walk g f (ahead g n r)
walk_split g zero f r = let e : 0 + f ≡ f = omega arith in ap (λ t. walk g t r) e
walk_split g (suc n) f r = let e : suc n + f ≡ suc (n + f) = omega arith in ap (λ t. walk g t r) e ∙ ap (λ t. r ∷ t) (walk_split g n f (g r))

pub walk_keep : (g k : ℕ → ℕ) (n r : ℕ) → ((s : ℕ) → 0 < cnt s (walk g n r) → k s ≡ g s) → walk k n r ≡ walk g n r
walk_keep g k zero r h = refl
walk_keep g k (suc n) r h =
    ap (λ t. r ∷ walk k n t) (h r (cnt_first r (walk g n (g r)))) ∙ ap (λ t. r ∷ t) (walk_keep g k n (g r) (λ s l. h s (omega arith)))

pub last_in : (x : ℕ) (xs : List ℕ) → 0 < cnt (last x xs) (x ∷ xs)
last_in x [] = cnt_first x []
last_in x (y ∷ ys) = let l = last_in y ys in omega arith

-- all links are kept but the last one's
pub walk_turn : (g k : ℕ → ℕ) (n r : ℕ) → Apart (walk g (suc n) r) → ((s : ℕ) → 0 < cnt s (walk g (suc n) r) → (s ≢ last r (walk g (suc n) r)) → k s ≡ g s) → walk k (suc n) r ≡ walk g (suc n) r
walk_turn g k zero r a h = refl
walk_turn g k (suc n) r a h =
    let T = walk g (suc n) (g r) in
    let e : k r ≡ g r = h r (cnt_first r T) (λ x. let l = last_in (g r) (walk g n (g (g r))) in let z = apart_first r T a in let y = ap (λ t. cnt t T) x in omega arith) in
    ap (λ t. r ∷ walk k (suc n) t) e ∙ ap (λ t. r ∷ t) (walk_turn g k n (g r) (apart_rest r T a) (λ s l. h s (omega arith)))

-- the link behind a chain
pub last_link : (g k : ℕ → ℕ) (q p : ℕ) (Y : List ℕ) → k q ≡ g p → ((t : ℕ) → 0 < cnt t Y → k t ≡ g t) → k (last q Y) ≡ g (last p Y)
last_link g k q p [] e h = e
last_link g k q p (y ∷ Y) e h = h (last y Y) (last_in y Y)

pub loose_append : (m : Mem) (a b : List Pack) → loose m (a ++ b) ≡ loose m a + loose m b
loose_append m [] b = omega arith
loose_append m (x ∷ a) b = let e = loose_append m a b in omega arith

pub loose_keep : (m w : Mem) (hs : List ℕ) → ((t : ℕ) → 0 < tally t (layout m hs) → link w t ≡ link m t) → loose w (layout m hs) ≡ loose m (layout m hs)
loose_keep m w [] h = refl
loose_keep m w (x ∷ hs) h =
    let T = walk (link m) ((size m x - 54 + 61) / 62) (link m x) in
    let e = h (last x T) (let l = last_in x T in omega arith) in
    let i = loose_keep m w hs (λ t l. h t (omega arith)) in
    omega arith
