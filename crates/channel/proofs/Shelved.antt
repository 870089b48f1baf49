-- The packets on a shelf and the messages that wait.
use Rattle.std.proofs.Common.{◌≡◌, ℕ, ◌≤◌, Bool, true, false, cond, eqb, ltb, List, [], ◌∷◌, length, is_some, Some, sym, refl, ap, ◌∙◌, subst, arith}
use Rattle.std.proofs.lemmas.Bool.{eqb-true, ne_eqb}
use Rattle.std.proofs.lemmas.Bool.Decides.{nat_tests}
use Rattle.wire.specs.Reading.{Msg}
use Rattle.shelf.specs.Store.{Packets}
use Rattle.shelf.specs.Store as on_shelf
use Rattle.order.specs.Maps.{Map, lookup, has, insert, remove, Above, Rising}
use Rattle.handover.specs.Flows.{message_of}
use Rattle.channel.specs.Follows.{Waits}

pub waits_lookup : (n : ℕ) (h : Packets) (w : Map Msg) → Waits h w → message_of (on_shelf.lookup h n) ≡ lookup n w
waits_lookup n [] [] a = refl
waits_lookup n [] (y ∷ w) a = absurd a
waits_lookup n (x ∷ h) [] a = absurd a
waits_lookup n (x ∷ h) (y ∷ w) a =
    ap (λ b. message_of (cond b (Some x.1) (on_shelf.lookup h n))) (ap (eqb n) a.0) ∙ go (eqb n y.0) (waits_lookup n h w a.2)
  where
    go : (b : Bool) → message_of (on_shelf.lookup h n) ≡ lookup n w → message_of (cond b (Some x.1) (on_shelf.lookup h n)) ≡ cond b (Some y.1) (lookup n w)
    go true ih = a.1
    go false ih = ih

pub waits_has : (n : ℕ) (h : Packets) (w : Map Msg) → Waits h w → on_shelf.has h n ≡ has n w
waits_has n [] [] a = refl
waits_has n [] (y ∷ w) a = absurd a
waits_has n (x ∷ h) [] a = absurd a
waits_has n (x ∷ h) (y ∷ w) a = ap (λ b. cond b true (on_shelf.has h n)) (ap (eqb n) a.0) ∙ go (eqb n y.0) (waits_has n h w a.2)
  where
    go : (b : Bool) → on_shelf.has h n ≡ has n w → cond b true (on_shelf.has h n) ≡ is_some (cond b (Some y.1) (lookup n w))
    go true ih = refl
    go false ih = ih

pub waits_length : (h : Packets) (w : Map Msg) → Waits h w → length h ≡ length w
waits_length [] [] a = refl
waits_length [] (y ∷ w) a = absurd a
waits_length (x ∷ h) [] a = absurd a
waits_length (x ∷ h) (y ∷ w) a = let e = waits_length h w a.2 in omega arith

-- what is not there is not removed
remove_above : (n k : ℕ) (w : Map Msg) → n ≤ k → Above k w → remove n w ≡ w
remove_above n k [] l a = refl
remove_above n k (y ∷ w) l a =
    let ne : eqb n y.0 ≡ false = ne_eqb n y.0 (λ e. let u = a.0 in omega arith) in
    ap (λ b. cond b (remove n w) (y ∷ remove n w)) ne ∙ ap (λ (v : Map Msg). y ∷ v) (remove_above n k w l a.1)

pub waits_remove : (n : ℕ) (h : Packets) (w : Map Msg) → Waits h w → Rising w → Waits (on_shelf.remove n h) (remove n w)
waits_remove n [] [] a r = tt
waits_remove n [] (y ∷ w) a r = absurd a
waits_remove n (x ∷ h) [] a r = absurd a
waits_remove n (x ∷ h) (y ∷ w) a r =
    subst (λ b. Waits (cond b h (x ∷ on_shelf.remove n h)) (cond (eqb n y.0) (remove n w) (y ∷ remove n w))) (sym (ap (eqb n) a.0))
    (go (eqb n y.0) refl (waits_remove n h w a.2 r.1))
  where
    go : (b : Bool) → eqb n y.0 ≡ b → Waits (on_shelf.remove n h) (remove n w)
        → Waits (cond b h (x ∷ on_shelf.remove n h)) (cond b (remove n w) (y ∷ remove n w))
    go true e ih = let q = eqb-true n y.0 e in subst (λ v. Waits h v) (sym (remove_above n y.0 w (omega arith) r.0)) a.2
    go false e ih = (a.0, a.1, ih)

pub waits_insert : (n : ℕ) (p : List ℕ) (m : Msg) (h : Packets) (w : Map Msg) → Waits h w → has n w ≡ false → message_of (Some p) ≡ Some m
    → Waits (on_shelf.insert n p h) (insert n m w)
waits_insert n p m [] [] a free e = (refl, e, tt)
waits_insert n p m [] (y ∷ w) a free e = absurd a
waits_insert n p m (x ∷ h) [] a free e = absurd a
waits_insert n p m (x ∷ h) (y ∷ w) a free e =
    let ne : eqb n y.0 ≡ false = grind (arith, nat_tests) in
    let rest : has n w ≡ false = grind (arith, nat_tests) in
    subst (λ b. Waits (on_shelf.insert n p (x ∷ h)) (cond b ((n, m) ∷ w) (cond (ltb n y.0) ((n, m) ∷ y ∷ w) (y ∷ insert n m w)))) (sym ne)
    (subst (λ b. Waits (cond b ((n, p) ∷ x ∷ h) (x ∷ on_shelf.insert n p h)) (cond (ltb n y.0) ((n, m) ∷ y ∷ w) (y ∷ insert n m w))) (sym (ap (ltb n) a.0))
    (go (ltb n y.0) (waits_insert n p m h w a.2 rest e)))
  where
    go : (b : Bool) → Waits (on_shelf.insert n p h) (insert n m w)
        → Waits (cond b ((n, p) ∷ x ∷ h) (x ∷ on_shelf.insert n p h)) (cond b ((n, m) ∷ y ∷ w) (y ∷ insert n m w))
    go true ih = (refl, e, a)
    go false ih = (a.0, a.1, ih)
