-- The order and the last number of an earned history.
use Rattle.std.proofs.Common.{◌≡◌, ℕ, zero, suc, ◌+◌, ◌-◌, ◌<◌, ◌≤◌, Bool, true, false, cond, ◌&&◌, ◌||◌, eqb, leb, List, [], ◌∷◌, length, is_some, Some, None, Option, sym, refl, ap, ◌∙◌, ⊎_elim, arith}
use Rattle.std.proofs.lemmas.Bool.{cond_both, or_right, cases_lt, cases_eq, ne_eqb, eq-eqb, le-leb, lt-leb}
use Rattle.std.specs.Option.{option_or}
use Rattle.wire.specs.Reading.{Msg}
use Rattle.sink.specs.Events.{Event}
use Rattle.order.specs.Maps.{lookup, has, insert}
use Rattle.order.specs.Machine.{Call, made, offered, claimed, settled, restarted, History, Content, carries, declares, renews, nothing, Deed, begins, took, deed, Standing, idle, turn, pass, passes, drain, joins, does, machine}
use Rattle.order.specs.Promise.{Allowed, Earned, joined, since, begun, start, first_data, data_packets, covered, recent, due, InOrder, Reaches}
use Rattle.order.proofs.Maps.{none_left, lookup_inserted, lookup_insert, lookup_remove, length_removed}
use Rattle.order.proofs.Numbers.{falling, falling_same, falling_more, reverse_falling}

-- What holds of a machine that began at `s`: `f` gives the message of a number, `cov` says which numbers are covered.
pub record Inv (f : ℕ → Option Msg) (cov : ℕ → Bool) (s : ℕ) (m : Standing) : Type 0 where
  pub since : s ≤ m.last + 1
  pub waits : (n : ℕ) → m.last < n → lookup n m.waiting ≡ f n
  pub past : (n : ℕ) → s ≤ n → n ≤ m.last → cov n ≡ true
  pub tells : recent m.order ≡ falling (λ n. due n (f n)) s (m.last + 1 - s)

-- past `l` the covered numbers are those that came as data
abbrev pub Ahead : (ℕ → Option Msg) → (ℕ → Bool) → ℕ → Type 0
Ahead f cov l = (n : ℕ) → l < n → cov n ≡ is_some (f n)

pub record Stands (f : ℕ → Option Msg) (cov : ℕ → Bool) (s : ℕ) (m : Standing) : Type 0 where
  pub inv : Inv f cov s m
  pub ahead : Ahead f cov m.last
  pub rest : has (m.last + 1) m.waiting ≡ false

recent_turn : (n : ℕ) (o : Option Msg) (es : List Event) → recent (turn n o ∷ es) ≡ due n o ∷ recent es
recent_turn n None es = refl
recent_turn n (Some m) es = refl

module _ (f : ℕ → Option Msg) (cov : ℕ → Bool) (s : ℕ) where
  pass_keeps : (m : Standing) → Inv f cov s m → cov (m.last + 1) ≡ true → Inv f cov s (pass m)
  pass_keeps m i c = record {
    since = omega (arith, i.since);
    waits = λ n l. lookup_remove n (m.last + 1) m.waiting (λ e. omega arith) ∙ i.waits n (omega arith);
    past = λ n a b. ⊎_elim (λ l. i.past n a (omega arith)) (λ l. let e : n ≡ m.last + 1 = omega arith in ap cov e ∙ c) (cases_lt n (m.last + 1));
    tells =
        recent_turn (m.last + 1) (lookup (m.last + 1) m.waiting) m.order
        ∙ ap (λ o. due (m.last + 1) o ∷ recent m.order) (i.waits (m.last + 1) (omega arith))
        ∙ ap (λ es. due (m.last + 1) (f (m.last + 1)) ∷ es) i.tells
        ∙ sym (falling_more (λ n. due n (f n)) s m.last i.since);
  }

  passes_keeps : (k : ℕ) (m : Standing) → Inv f cov s m → ((n : ℕ) → m.last < n → n ≤ m.last + k → cov n ≡ true) → Inv f cov s (passes k m)
  passes_keeps zero m i c = i
  passes_keeps (suc k) m i c = passes_keeps k (pass m) (pass_keeps m i (c (m.last + 1) (omega arith) (omega arith))) (λ n a b. c n (omega arith) (omega arith))

  drain_keeps : (k : ℕ) (m : Standing) → Inv f cov s m → Ahead f cov m.last → Inv f cov s (drain k m) × Ahead f cov (drain k m).last
  drain_keeps zero m i a = (i, a)
  drain_keeps (suc k) m i a =
      cond_both (has (m.last + 1) m.waiting) (drain k (pass m)) m (λ d. Inv f cov s d × Ahead f cov d.last)
      (λ e. drain_keeps k (pass m) (pass_keeps m i (a (m.last + 1) (omega arith) ∙ ap is_some (sym (i.waits (m.last + 1) (omega arith))) ∙ e)) (λ n l. a n (omega arith)))
      (λ e. (i, a))

passes_last : (k : ℕ) (m : Standing) → (passes k m).last ≡ m.last + k
passes_last zero m = omega arith
passes_last (suc k) m = let e = passes_last k (pass m) in omega arith

drain_rests : (k : ℕ) (m : Standing) → length m.waiting ≤ k → has ((drain k m).last + 1) (drain k m).waiting ≡ false
drain_rests zero m l = none_left (m.last + 1) m.waiting l
drain_rests (suc k) m l =
    cond_both (has (m.last + 1) m.waiting) (drain k (pass m)) m (λ d. has (d.last + 1) d.waiting ≡ false)
    (λ e. let r = length_removed (m.last + 1) m.waiting e in drain_rests k (pass m) (omega arith))
    (λ e. e)

drained_stands : (f : ℕ → Option Msg) (cov : ℕ → Bool) (s : ℕ) (m : Standing) → Inv f cov s m → Ahead f cov m.last → Stands f cov s (drain (length m.waiting) m)
drained_stands f cov s m i a =
    let r = drain_keeps f cov s (length m.waiting) m i a in
    record { inv = r.0; ahead = r.1; rest = drain_rests (length m.waiting) m (omega arith) }

abbrev pub Now : List Content → ℕ → Standing → Type 0
Now cs s m = Stands (first_data cs) (covered cs) s m

-- a data packet
or_some : (o : Option Msg) (b : Bool) (x : Msg) → (b || is_some o) ≡ is_some (option_or o (cond b (Some x) None))
or_some None true x = refl
or_some None false x = refl
or_some (Some y) true x = refl
or_some (Some y) false x = refl

orOther_None : (o : Option Msg) → option_or o None ≡ o
orOther_None None = refl
orOther_None (Some x) = refl

no_some : (o : Option Msg) → is_some o ≡ false → o ≡ None
no_some None e = refl
no_some (Some x) e = grind arith

module _ (cs : List Content) (s : ℕ) (m : Standing) (st : Now cs s m) where
  module _ (n : ℕ) (x : Msg) (new : m.last < n) (free : has n m.waiting ≡ false) where
    first_other : (k : ℕ) → (k ≡ n → ⊥) → first_data (carries n x ∷ cs) k ≡ first_data cs k
    first_other k ne = ap (λ b. option_or (first_data cs k) (cond b (Some x) None)) (ne_eqb k n ne) ∙ orOther_None (first_data cs k)

    first_here : first_data (carries n x ∷ cs) n ≡ Some x
    first_here =
        let a : first_data cs n ≡ None = sym (st.inv.waits n new) ∙ no_some (lookup n m.waiting) free in
        ap (λ o. option_or o (cond (eqb n n) (Some x) None)) a ∙ ap (λ b. cond b (Some x) None) (eq-eqb n n refl)

    pub carries_waits : (k : ℕ) → m.last < k → lookup k (insert n x m.waiting) ≡ first_data (carries n x ∷ cs) k
    carries_waits k l = ⊎_elim
        (λ e. ap (λ j. lookup j (insert n x m.waiting)) e ∙ lookup_inserted n x m.waiting ∙ sym first_here ∙ ap (first_data (carries n x ∷ cs)) (sym e))
        (λ ne. lookup_insert k n x m.waiting ne ∙ st.inv.waits k l ∙ sym (first_other k ne))
        (cases_eq k n)

    carries_keeps : Now (carries n x ∷ cs) s (does (took (carries n x)) m)
    carries_keeps =
        drained_stands (first_data (carries n x ∷ cs)) (covered (carries n x ∷ cs)) s (joins n x m)
        (record {
          since = st.inv.since;
          waits = carries_waits;
          past = λ k a b. or_right (eqb k n) (covered cs k) (st.inv.past k a b);
          tells = st.inv.tells ∙ falling_same _ _ s (m.last + 1 - s) (λ k l. ap (due k) (sym (first_other k (λ e. let u = st.inv.since in omega arith))));
        })
        (λ k l. ap (λ c. eqb k n || c) (st.ahead k l) ∙ or_some (first_data cs k) (eqb k n) x)

  module _ (b e : ℕ) (low : b ≤ m.last + 1) (high : m.last < e) where
    declares_keeps : Now (declares b e ∷ cs) s (does (took (declares b e)) m)
    declares_keeps =
        let l = passes_last (e - m.last) m in
        drained_stands (first_data cs) (covered (declares b e ∷ cs)) s (passes (e - m.last) m)
        (passes_keeps (first_data cs) (covered (declares b e ∷ cs)) s (e - m.last) m
        (record {
          since = st.inv.since;
          waits = st.inv.waits;
          past = λ k x y. or_right (leb b k && leb k e) (covered cs k) (st.inv.past k x y);
          tells = st.inv.tells;
        })
        (λ n x y. let p = le-leb b n (omega arith) in let q = le-leb n e (omega arith) in grind arith))
        (λ n x. let q = lt-leb n e (omega arith) in let r = st.ahead n (omega arith) in grind arith)

  renews_keeps : (n : ℕ) (x : Msg) → Now (renews n x ∷ cs) s (does (took (renews n x)) m)
  renews_keeps n x = record {
    inv = record { since = st.inv.since; waits = st.inv.waits; past = st.inv.past; tells = st.inv.tells };
    ahead = st.ahead;
    rest = st.rest;
  }

starts : (n : ℕ) (m : Standing) → 1 ≤ n → Now [] n (does (begins n) m)
starts n m p = record {
  inv = record {
    since = omega arith;
    waits = λ k l. refl;
    past = λ k a b. absurd (omega arith);
    tells = let z : n - 1 + 1 - n ≡ 0 = omega arith in ap (λ k. falling (λ j. due j None) n k) (sym z);
  };
  ahead = λ k l. refl;
  rest = refl;
}

keeps : (d : Deed) (cs : List Content) (s : ℕ) (m : Standing) → Allowed d m.last m.waiting → Now cs s m → Now (joined d cs) (begun d s) (does d m)
keeps (begins n) cs s m a st = starts n m a
keeps (took (carries n x)) cs s m a st = carries_keeps cs s m st n x a.0 a.1
keeps (took (declares b e)) cs s m a st = declares_keeps cs s m st b e a.0 a.1
keeps (took (renews n x)) cs s m a st = renews_keeps cs s m st n x
keeps (took nothing) cs s m a st = record { inv = record { since = st.inv.since; waits = st.inv.waits; past = st.inv.past; tells = st.inv.tells }; ahead = st.ahead; rest = st.rest }

alone : (c : Call) → Earned (c ∷ []) → Now (since (c ∷ [])) (start (c ∷ [])) (machine (c ∷ []))
alone (made n true) e = starts n idle e.1
alone (made n false) e = absurd e.0
alone (offered p t) e = absurd e.0
alone (claimed t) e = absurd e.0
alone (settled t) e = absurd e.0
alone (restarted n t) e = absurd e.0

pub stands : (h : History) → Earned h → Now (since h) (start h) (machine h)
stands [] e = absurd e
stands (c ∷ []) e = alone c e
stands (c ∷ d ∷ h) e = keeps (deed c) (since (d ∷ h)) (start (d ∷ h)) (machine (d ∷ h)) e.1 (stands (d ∷ h) e.2)

pub in_order : (h : History) → Earned h → InOrder h
in_order h e =
    let st = stands h e in
    ap (λ es. mathlib.Core.List.reverse es) st.inv.tells ∙ reverse_falling (λ n. due n (first_data (since h) n)) (start h) ((machine h).last + 1 - start h)

pub reaches : (h : History) → Earned h → Reaches h
reaches h e =
    let st = stands h e in
    record {
      low = st.inv.since;
      behind = st.inv.past;
      next = st.ahead ((machine h).last + 1) (omega arith) ∙ ap is_some (sym (st.inv.waits ((machine h).last + 1) (omega arith))) ∙ st.rest;
    }

-- where no data packet was the first, there is none; and there is at most one
record Few (cs : List Content) : Type 0 where
  none : (n : ℕ) → first_data cs n ≡ None → data_packets cs n ≡ 0
  one : (n : ℕ) → data_packets cs n ≤ 1

none_before : (o : Option Msg) (y : Option Msg) → option_or o y ≡ None → o ≡ None
none_before None y e = refl
none_before (Some x) y e = e

none_now : (o : Option Msg) (b : Bool) (x : Msg) → option_or o (cond b (Some x) None) ≡ None → b ≡ false
none_now None true x e = let z : ◌≡◌ {A = ℕ} 0 1 = cc in absurd (omega arith)
none_now None false x e = refl
none_now (Some y) b x e = let z : ◌≡◌ {A = ℕ} 0 1 = cc in absurd (omega arith)

few_carries : (cs : List Content) (n : ℕ) (x : Msg) → first_data cs n ≡ None → Few cs → Few (carries n x ∷ cs)
few_carries cs n x free few = record {
  none = λ k e.
      let a = few.none k (none_before (first_data cs k) (cond (eqb k n) (Some x) None) e) in
      let b = none_now (first_data cs k) (eqb k n) x e in
      ap (λ t. cond t 1 0 + data_packets cs k) b ∙ omega arith;
  one = λ k. ⊎_elim
      (λ e. let a = few.none n free in let b = ap (data_packets cs) e in cond_both (eqb k n) 1 0 (λ t. t + data_packets cs k ≤ 1) (λ _. omega arith) (λ _. omega arith))
      (λ ne. let a = few.one k in let b : cond {A = ℕ} (eqb k n) 1 0 ≡ 0 = ap (λ t. cond t 1 0) (ne_eqb k n ne) in omega arith)
      (cases_eq k n);
}

few_more : (d : Deed) (cs : List Content) (s : ℕ) (m : Standing) → Allowed d m.last m.waiting → Now cs s m → Few cs → Few (joined d cs)
few_more (begins n) cs s m a st few = record { none = λ n e. refl; one = λ n. omega arith }
few_more (took (carries n x)) cs s m a st few = few_carries cs n x (sym (st.inv.waits n a.0) ∙ no_some (lookup n m.waiting) a.1) few
few_more (took (declares b e)) cs s m a st few = record { none = few.none; one = few.one }
few_more (took (renews n x)) cs s m a st few = record { none = few.none; one = few.one }
few_more (took nothing) cs s m a st few = record { none = few.none; one = few.one }

few_alone : (c : Call) → Earned (c ∷ []) → Few (since (c ∷ []))
few_alone (made n true) e = record { none = λ k e. refl; one = λ k. omega arith }
few_alone (made n false) e = absurd e.0
few_alone (offered p t) e = absurd e.0
few_alone (claimed t) e = absurd e.0
few_alone (settled t) e = absurd e.0
few_alone (restarted n t) e = absurd e.0

few_history : (h : History) → Earned h → Few (since h)
few_history [] e = absurd e
few_history (c ∷ []) e = few_alone c e
few_history (c ∷ d ∷ h) e = few_more (deed c) (since (d ∷ h)) (start (d ∷ h)) (machine (d ∷ h)) e.1 (stands (d ∷ h) e.2) (few_history (d ∷ h) e.2)

pub once : (h : History) → Earned h → (n : ℕ) → data_packets (since h) n ≤ 1
once h e = (few_history h e).one
