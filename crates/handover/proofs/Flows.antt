-- Handing on turn by turn: what a loop has still to do leads where all would.
use Rattle.std.proofs.Common.{◌≡◌, ℕ, zero, suc, ◌+◌, ◌-◌, ◌^◌, ◌<◌, ◌≤◌, min, Bool, true, false, cond, eqb, leb, List, [], ◌∷◌, length, take, drop, Some, None, Ok, Option, sym, refl, ap, ◌∙◌, subst, ⊎_elim, arith, MatchOption, IfSome}
use Rattle.std.proofs.lemmas.Bool.{cond-true, cond-false, both_ways, cases_Bool, le-leb}
use Rattle.std.proofs.lemmas.Bool.Decides.{nat_tests}
use Rattle.std.proofs.lemmas.List.{take_at}
use Rattle.common.specs.declared.TheConstants.{SHORTEST, LONGEST}
use Rattle.shelf.specs.Store.{Packets, Store, lookup, has, above, remove, take_answer, take_buffer, take_after, length_of, written, with_held, Up, Sized}
use Rattle.shelf.proofs.Kept.{held_is_a_map, lookup_none, remove_none}
use Rattle.sink.specs.Events.{Event, loss_of}
use Rattle.order.specs.Machine.{turn}
use Rattle.handover.specs.Flows.{Flow, message_of, without, gap, hand, hands, handing, handed_on}
use Rattle.order.proofs.Plain.{never, ok_same}

pub length_removed : (h : Packets) (k : ℕ) → has h k ≡ true → suc (length (remove k h)) ≡ length h
length_removed [] k e = grind arith
length_removed (x ∷ h) k e = let ih = length_removed h k in grind (arith, nat_tests)

none_left : (h : Packets) (n : ℕ) → length h ≤ 0 → has h n ≡ false
none_left [] n l = refl
none_left (x ∷ h) n l = absurd (omega arith)

-- a number that is held fits 32 bits
pub held_small : (b k : ℕ) (h : Packets) → Up b h → has h k ≡ true → k < 2 ^ 32
held_small b k [] u e = absurd (let z : ◌≡◌ {A = ℕ} 0 1 = grind (arith, nat_tests) in omega arith)
held_small b k (x ∷ h) u e = let ih = held_small (suc x.0) k h u.2 in let l = u.1 in grind (arith, nat_tests)

-- so nothing is held past the largest number
pub past_largest : (h : Packets) (l : ℕ) → Up 0 h → l ≡ 4294967295 → has h (l + 1) ≡ false
past_largest h l u e = ⊎_elim (λ t. absurd (let s = held_small 0 (l + 1) h u t in omega arith)) (λ t. t) (cases_Bool (has h (l + 1)))

module _ {M : Type 0} (step : Event → M → M) where
  -- fuel past what is held changes nothing
  handing_same : (k j : ℕ) (f : Flow M) → length f.shelf.held ≤ k → length f.shelf.held ≤ j → handing step k f ≡ handing step j f
  handing_same zero zero f a b = refl
  handing_same zero (suc j) f a b = sym (cond-false (has f.shelf.held (f.last + 1)) _ _ (none_left f.shelf.held (f.last + 1) a))
  handing_same (suc k) zero f a b = cond-false (has f.shelf.held (f.last + 1)) _ _ (none_left f.shelf.held (f.last + 1) b)
  handing_same (suc k) (suc j) f a b =
      go (has f.shelf.held (f.last + 1)) refl (λ e. let l = length_removed f.shelf.held (f.last + 1) e in handing_same k j (hand step f) (omega arith) (omega arith))
    where
      go : (t : Bool) → has f.shelf.held (f.last + 1) ≡ t → (has f.shelf.held (f.last + 1) ≡ true → handing step k (hand step f) ≡ handing step j (hand step f))
          → cond t (handing step k (hand step f)) f ≡ cond t (handing step j (hand step f)) f
      go true e more = more e
      go false e more = refl

  -- one turn, and the end
  pub handed_on_more : (f g : Flow M) → g ≡ hand step f → has f.shelf.held (f.last + 1) ≡ true → handed_on step g ≡ handed_on step f
  handed_on_more f g is e =
      let l = length_removed f.shelf.held (f.last + 1) e in
      ap (handed_on step) is
      ∙ handing_same (length (remove (f.last + 1) f.shelf.held)) (length f.shelf.held) (hand step f) (omega arith) (omega arith)
      ∙ sym (cond-true (has f.shelf.held (f.last + 1)) _ _ e)
      ∙ handing_same (suc (length f.shelf.held)) (length f.shelf.held) f (omega arith) (omega arith)

  pub handed_on_rest : (f : Flow M) → has f.shelf.held (f.last + 1) ≡ false → handed_on step f ≡ f
  handed_on_rest f e =
      handing_same (length f.shelf.held) (suc (length f.shelf.held)) f (omega arith) (omega arith) ∙ cond-false (has f.shelf.held (f.last + 1)) _ _ e

  -- a range: one turn
  hands_more : (e k j : ℕ) (f g : Flow M) → g ≡ hand step f → f.last < e → k ≡ e - g.last → j ≡ e - f.last → hands step k g ≡ hands step j f
  hands_more e k j f g is l x y =
      let left : k ≡ e - (f.last + 1) = x ∙ ap (λ (h : Flow M). e - h.last) is in
      let more : j ≡ suc k = omega arith in
      ap (hands step k) is ∙ sym (ap (λ n. hands step n f) more)

  -- each turn moves last on by one
  hands_last : (k : ℕ) (f : Flow M) → (hands step k f).last ≡ f.last + k
  hands_last zero f = omega arith
  hands_last (suc k) f = let ih = hands_last k (hand step f) in omega arith

  -- turns, and turns after them
  hands_add : (k j : ℕ) (f : Flow M) → hands step j (hands step k f) ≡ hands step (k + j) f
  hands_add zero j f = let z : j ≡ 0 + j = omega arith in ap (λ n. hands step n f) z
  hands_add (suc k) j f = let z : suc (k + j) ≡ suc k + j = omega arith in hands_add k j (hand step f) ∙ ap (λ n. hands step n f) z

  -- a range: a run of its numbers, then the rest
  pub run_rest : (e r i j k : ℕ) (f g x : Flow M) → g ≡ hands step i f → r ≤ e → hands step j f ≡ x → i ≡ r - f.last → j ≡ e - f.last → k ≡ e - g.last → hands step k g ≡ x
  run_rest e r i j k f g x is within rest u v w =
      let last = hands_last i f in
      let moved : g.last ≡ (hands step i f).last = ap (λ (h : Flow M). h.last) is in
      let all : i + k ≡ j = omega arith in
      ap (hands step k) is ∙ hands_add i k f ∙ ap (λ n. hands step n f) all ∙ rest

  -- a range: a run of its numbers, one turn, then the rest
  pub run_more : (e r i j k : ℕ) (f g h x : Flow M) → h ≡ hand step g → g ≡ hands step i f → g.last < e → r ≤ e → hands step j f ≡ x → i ≡ r - f.last → j ≡ e - f.last → k ≡ e - h.last
      → hands step k h ≡ x
  run_more e r i j k f g h x one is l within rest u v w =
      hands_more e k (e - g.last) g h one l w refl ∙ run_rest e r i j (e - g.last) f g x is within rest u v refl

-- the least number held above last
above_some : (h : Packets) (l m : ℕ) → Some m ≡ above h l → Up 0 h → (l < m) × (has h m ≡ true) × ((j : ℕ) → l < j → has h j ≡ true → m ≤ j)
above_some h l m e up =
    subst (λ o. MatchOption o ((j : ℕ) → has h j ≡ true → j ≤ l) (λ m. (l < m) × (has h m ≡ true) × ((j : ℕ) → l < j → has h j ≡ true → m ≤ j))) (sym e) ((held_is_a_map h up).least l)

-- where the next number is not held, the least one held above last is past it
over : (h : Packets) (l m : ℕ) → Some m ≡ above h l → has h (l + 1) ≡ false → Up 0 h → l + 1 < m
over h l m e rest up =
    let x = above_some h l m e up in
    let past : l < m = x.0 in
    let next : m ≡ l + 1 → ⊥ = λ q. both_ways (has h m) (ap (has h) q ∙ rest) x.1 in
    omega arith

-- a gap: from the next number on, below the least one held, none is held
pub record Gap (l : ℕ) (h : Packets) (m : ℕ) : Type 0 where
  pub past : l + 1 < m
  pub missing : (n : ℕ) → l < n → n < m → has h n ≡ false

pub gap_found : (l : ℕ) (h : Packets) (m : ℕ) → Up 0 h → Some m ≡ gap l h → Gap l h m
gap_found l h m up e = go (has h (l + 1)) refl e
  where
    go : (t : Bool) → has h (l + 1) ≡ t → Some m ≡ cond t None (above h l) → Gap l h m
    go true rest e = absurd (never (cc))
    go false rest e =
        let x = above_some h l m e up in
        record {
          past = over h l m e rest up;
          missing = λ n a b. ⊎_elim (λ t. absurd (let z = x.2 n a t in omega arith)) (λ t. t) (cases_Bool (has h n));
        }

-- a packet that is held has a packet's length
pub held_sized : (h : Packets) (k : ℕ) (p : List ℕ) → Sized h → lookup h k ≡ Some p → (SHORTEST ≤ length p) × (length p ≤ LONGEST)
held_sized [] k p z e = absurd (never (cc))
held_sized (x ∷ h) k p z e = go (eqb k x.0) (held_sized h k p z.2) e
  where
    go : (b : Bool) → (lookup h k ≡ Some p → (SHORTEST ≤ length p) × (length p ≤ LONGEST)) → cond b (Some x.1) (lookup h k) ≡ Some p → (SHORTEST ≤ length p) × (length p ≤ LONGEST)
    go true ih e = let q : x.1 ≡ p = cc in subst (λ y. (SHORTEST ≤ length y) × (length y ≤ LONGEST)) q (z.0, z.1)
    go false ih e = ih e

-- a packet that came off the shelf: it stands in front of the buffer, and its length is a packet's
pub record Off (s : Store) (k : ℕ) (b : List ℕ) (t : Store) (out : List ℕ) (len : ℕ) : Type 0 where
  pub found : lookup s.held k ≡ Some (take len out)
  pub front : out ≡ written (Some (take len out)) b
  pub rest : t ≡ without k s
  pub within : len ≤ LONGEST

-- what was taken from the shelf stands in front of the buffer, which stays as long as it was
pub taken_some : (o : Option (List ℕ)) (buffer out : List ℕ) (len : ℕ) → Some len ≡ length_of o → out ≡ written o buffer → o ≡ Some (take len out)
taken_some None buffer out len e w = absurd (never (cc))
taken_some (Some p) buffer out len e w =
    let l : length p ≡ len = cc in
    ap (λ (x : List ℕ). Some x) (sym (ap (take len) w ∙ take_at p (drop (length p) buffer) len l))

took_off : (o : Option (List ℕ)) (s t : Store) (k : ℕ) (b out : List ℕ) (len : ℕ) → lookup s.held k ≡ o → Some len ≡ length_of o → out ≡ written o b → t ≡ without k s
    → Sized s.held → Off s k b t out len
took_off None s t k b out len e a w r z = absurd (never (cc))
took_off (Some p) s t k b out len e a w r z =
    let l : length p ≡ len = cc in
    let small = held_sized s.held k p z e in
    record {
      found = e ∙ taken_some (Some p) b out len a w;
      front = w ∙ ap (λ o. written o b) (taken_some (Some p) b out len a w);
      rest = r;
      within = omega arith;
    }

pub off : (s t : Store) (k : ℕ) (b out : List ℕ) (len : ℕ) → LONGEST ≤ length b → Ok (Some len) ≡ take_answer s k b → out ≡ take_buffer s k b → t ≡ take_after s k b
    → Sized s.held → Off s k b t out len
off s t k b out len room a w r z =
    let long : leb LONGEST (length b) ≡ true = le-leb LONGEST (length b) room in
    took_off (lookup s.held k) s t k b out len refl
    (ok_same (Some len) (length_of (lookup s.held k)) (a ∙ cond-true (leb LONGEST (length b)) _ _ long))
    (w ∙ cond-true (leb LONGEST (length b)) _ _ long) (r ∙ cond-true (leb LONGEST (length b)) _ _ long) z

-- the next number was handed over
pub handed : {M : Type 0} (step : Event → M → M) (f : Flow M) (s : Store) (m : M) (b : List ℕ) (o : Option (List ℕ)) → lookup f.shelf.held (f.last + 1) ≡ o
    → s ≡ without (f.last + 1) f.shelf → m ≡ step (turn (f.last + 1) (message_of o)) f.sink → b ≡ written o f.scratch
    → ◌≡◌ {A = Flow M} (record { last = f.last + 1; shelf = s; sink = m; scratch = b }) (hand step f)
handed step f s m b o p q r w =
    let x = r ∙ ap (λ y. step (turn (f.last + 1) (message_of y)) f.sink) (sym p) in
    let y = w ∙ ap (λ y. written y f.scratch) (sym p) in
    λ i. record { last = f.last + 1; shelf = q i; sink = x i; scratch = y i }

-- a number that is not held was handed over as lost
pub lost : {M : Type 0} (step : Event → M → M) (f : Flow M) (m : M) → has f.shelf.held (f.last + 1) ≡ false → m ≡ step (loss_of (f.last + 1)) f.sink
    → ◌≡◌ {A = Flow M} (record { last = f.last + 1; shelf = f.shelf; sink = m; scratch = f.scratch }) (hand step f)
lost step f m a r =
    handed step f f.shelf m f.scratch None (lookup_none f.shelf.held (f.last + 1) a) (sym (ap (with_held f.shelf) (remove_none f.shelf.held (f.last + 1) a))) r refl

-- a range: the loss of one number that is not held, then the rest
pub lost_more : {M : Type 0} (step : Event → M → M) (e l : ℕ) (s : Store) (n m : M) (b : List ℕ) (x : Flow M)
    → m ≡ step (loss_of (l + 1)) n → l < e → has s.held (l + 1) ≡ false
    → hands step (e - l) (record { last = l; shelf = s; sink = n; scratch = b }) ≡ x → hands step (e - (l + 1)) (record { last = l + 1; shelf = s; sink = m; scratch = b }) ≡ x
lost_more {M = M} step e l s n m b x is more a rest =
    let f : Flow M = record { last = l; shelf = s; sink = n; scratch = b } in
    hands_more step e (e - (l + 1)) (e - l) f (record { last = l + 1; shelf = s; sink = m; scratch = b }) (lost step f m a is) more refl refl ∙ rest

-- where none is held above last, no number above it is held
pub above_none : (h : Packets) (l n : ℕ) → None ≡ above h l → Up 0 h → l < n → has h n ≡ false
above_none h l n e up a =
    let x = subst (λ o. MatchOption o ((j : ℕ) → has h j ≡ true → j ≤ l) (λ m. (l < m) × (has h m ≡ true) × ((j : ℕ) → l < j → has h j ≡ true → m ≤ j))) (sym e) ((held_is_a_map h up).least l) in
    ⊎_elim (λ t. absurd (let s = x n t in omega arith)) (λ t. t) (cases_Bool (has h n))

-- where the next number is not held, the least one held above last, if there is one, is past it
pub above_over : (h : Packets) (l : ℕ) (o : Option ℕ) → o ≡ above h l → has h (l + 1) ≡ false → Up 0 h → IfSome o (λ m. l + 1 < m)
above_over h l None e rest up = tt
above_over h l (Some m) e rest up = over h l m e rest up

-- the least number held above last is not 0
pub above_positive : (h : Packets) (l m : ℕ) → Some m ≡ above h l → Up 0 h → 1 ≤ m
above_positive h l m e up = omega (arith, (above_some h l m e up).0)

-- no number between last and it is held
pub above_between : (h : Packets) (l m e r n : ℕ) → Some m ≡ above h l → Up 0 h → r ≡ min e (m - 1) → l < n → n ≤ r → has h n ≡ false
above_between h l m e r n is up least a b =
    ⊎_elim (λ t. absurd (let x = above_some h l m is up in let s = x.2 n a t in omega (arith, x.0))) (λ t. t) (cases_Bool (has h n))

-- it follows the last one below it
pub above_met : (h : Packets) (l m e r : ℕ) → Some m ≡ above h l → Up 0 h → r ≡ min e (m - 1) → r < e → has h (r + 1) ≡ true
above_met h l m e r is up least short =
    let x = above_some h l m is up in
    let same : r + 1 ≡ m = omega (arith, x.0) in
    ap (has h) same ∙ x.1
