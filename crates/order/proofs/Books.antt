-- The books of an earned history.
use Rattle.std.proofs.Common.{◌≡◌, ℕ, zero, suc, ◌+◌, ◌-◌, ◌<◌, ◌≤◌, Bool, true, false, cond, eqb, List, [], ◌∷◌, length, Some, None, Option, sym, refl, ap, ◌∙◌, arith}
use Rattle.std.proofs.lemmas.Bool.{cond_both, eqb-true}
use Rattle.std.specs.Option.{option_or}
use Rattle.wire.specs.Reading.{Msg, reset, unavailable, mapping, full, delta}
use Rattle.sink.specs.Events.{Event}
use Rattle.sink.specs.Views.{Moves}
use Rattle.book_model.specs.Keepers.{Kept, keeper_step, book_of}
use Rattle.order.specs.Maps.{lookup, has, insert}
use Rattle.order.specs.Machine.{Call, made, offered, claimed, settled, restarted, History, Content, carries, declares, renews, nothing, Deed, begins, took, deed, Standing, idle, pass, passes, drain, joins, does, machine, led}
use Rattle.order.specs.Promise.{Allowed, Earned, joined, since, begun, start, first_data}
use Rattle.order.specs.Books.{Stream, sent, sent_all, stream_book, True, AllTrue, BooksRight}
use Rattle.order.proofs.Maps.{lookup_remove}
use Rattle.order.proofs.Order.{Now, stands, carries_waits}
use Rattle.order.proofs.Keeping.{Keeps, kept_forgotten, kept_turn, kept_refresh}

-- the stream's next book
next_book : (t : Stream) (s l i : ℕ) → s ≤ l + 1 → stream_book t s (l + 1) i ≡ sent (t.message (l + 1)) i (stream_book t s l i)
next_book t s l i h =
    let a : l + 1 + 1 - s ≡ suc (l + 1 - s) = omega arith in
    let b : s + (l + 1 - s) ≡ l + 1 = omega arith in
    ap (λ k. sent_all t s k i) a ∙ ap (λ k. sent (t.message k) i (stream_book t s l i)) b

-- the first data packet of a number is true
first_carried : (t : Stream) (o : Option Msg) (n k : ℕ) (m x : Msg) → m ≡ t.message k → (o ≡ Some x → x ≡ t.message n) → option_or o (cond (eqb n k) (Some m) None) ≡ Some x → x ≡ t.message n
first_carried t (Some y) n k m x p ih e = ih e
first_carried t None n k m x p ih e = go (eqb n k) refl e
  where
    go : (b : Bool) → eqb n k ≡ b → cond b (Some m) None ≡ Some x → x ≡ t.message n
    go true q z = let w = ap t.message (eqb-true n k q) in let u : x ≡ m = cc in u ∙ p ∙ sym w
    go false q z = cc

first_true : (t : Stream) (s : ℕ) (cs : List Content) → AllTrue t s cs → (n : ℕ) (x : Msg) → first_data cs n ≡ Some x → x ≡ t.message n
first_true t s [] a n x e = cc
first_true t s (carries k m ∷ cs) a n x e = first_carried t (first_data cs n) n k m x a.0 (first_true t s cs a.1 n x) e
first_true t s (declares b c ∷ cs) a n x e = first_true t s cs a.1 n x e
first_true t s (renews k m ∷ cs) a n x e = first_true t s cs a.1 n x e
first_true t s (nothing ∷ cs) a n x e = first_true t s cs a.1 n x e

module _ (t : Stream) (k : Kept) where
  -- the keeper that was handed the machine's order
  abbrev KeptBy : ℕ → Standing → Type 0
  KeptBy s m = Keeps (stream_book t s) s m.last (led keeper_step m.order k)

  record Kin (f : ℕ → Option Msg) (s : ℕ) (m : Standing) : Type 0 where
    pub low : s ≤ m.last + 1
    pub waits : (n : ℕ) → m.last < n → lookup n m.waiting ≡ f n
    pub kept : KeptBy s m

  module _ (f : ℕ → Option Msg) (s : ℕ) (true_to : (n : ℕ) (x : Msg) → f n ≡ Some x → x ≡ t.message n) where
    pass_kin : (m : Standing) → Kin f s m → Kin f s (pass m)
    pass_kin m i = record {
      low = omega (arith, i.low);
      waits = λ n l. lookup_remove n (m.last + 1) m.waiting (λ e. omega arith) ∙ i.waits n (omega arith);
      kept = kept_turn (stream_book t s) s m.last (led keeper_step m.order k) (lookup (m.last + 1) m.waiting) i.low
          (λ x e j. next_book t s m.last j i.low
          ∙ ap (λ y. sent y j (stream_book t s m.last j)) (sym (true_to (m.last + 1) x (sym (i.waits (m.last + 1) (omega arith)) ∙ e))))
          i.kept;
    }

    passes_kin : (n : ℕ) (m : Standing) → Kin f s m → Kin f s (passes n m)
    passes_kin zero m i = i
    passes_kin (suc n) m i = passes_kin n (pass m) (pass_kin m i)

    drain_kin : (n : ℕ) (m : Standing) → Kin f s m → Kin f s (drain n m)
    drain_kin zero m i = i
    drain_kin (suc n) m i = cond_both (has (m.last + 1) m.waiting) (drain n (pass m)) m (Kin f s) (λ e. drain_kin n (pass m) (pass_kin m i)) (λ e. i)

  renewed_kept : (n : ℕ) (x : Msg) (s : ℕ) (m : Standing) → n ≤ m.last → True t s (renews n x) → KeptBy s m → KeptBy s (does (took (renews n x)) m)
  renewed_kept n (reset c) s m h true_to kept = kept
  renewed_kept n (unavailable b e) s m h true_to kept = kept
  renewed_kept n mapping s m h true_to kept = kept
  renewed_kept n (full j c ps) s m h true_to kept = kept_refresh (stream_book t s) s m.last (led keeper_step m.order k) n j c ps h true_to kept
  renewed_kept n (delta j c ps) s m h true_to kept = kept

  begins_kept : (n : ℕ) (m : Standing) → KeptBy n (does (begins n) m)
  begins_kept n m = kept_forgotten (stream_book t n) n (n - 1) (led keeper_step m.order k) (omega arith)

  does_kept : (d : Deed) (cs : List Content) (s : ℕ) (m : Standing) → Allowed d m.last m.waiting → Now cs s m → AllTrue t (begun d s) (joined d cs)
      → (AllTrue t s cs → KeptBy s m) → KeptBy (begun d s) (does d m)
  does_kept (begins n) cs s m a st true_to ih = begins_kept n m
  does_kept (took (carries n x)) cs s m a st true_to ih =
      (drain_kin (first_data (carries n x ∷ cs)) s (first_true t s (carries n x ∷ cs) true_to) (length (insert n x m.waiting)) (joins n x m)
      (record { low = st.inv.since; waits = carries_waits cs s m st n x a.0 a.1; kept = ih true_to.1 })).kept
  does_kept (took (declares b e)) cs s m a st true_to ih =
      let f = first_data cs in
      let z = first_true t s cs true_to.1 in
      (drain_kin f s z (length (passes (e - m.last) m).waiting) (passes (e - m.last) m)
      (passes_kin f s z (e - m.last) m (record { low = st.inv.since; waits = st.inv.waits; kept = ih true_to.1 }))).kept
  does_kept (took (renews n x)) cs s m a st true_to ih = renewed_kept n x s m a true_to.0 (ih true_to.1)
  does_kept (took nothing) cs s m a st true_to ih = ih true_to.1

  alone_kept : (c : Call) → Earned (c ∷ []) → KeptBy (start (c ∷ [])) (machine (c ∷ []))
  alone_kept (made n true) e = begins_kept n idle
  alone_kept (made n false) e = absurd e.0
  alone_kept (offered p b) e = absurd e.0
  alone_kept (claimed b) e = absurd e.0
  alone_kept (settled b) e = absurd e.0
  alone_kept (restarted n b) e = absurd e.0

  history_kept : (h : History) → Earned h → AllTrue t (start h) (since h) → KeptBy (start h) (machine h)
  history_kept [] e true_to = absurd e
  history_kept (c ∷ []) e true_to = alone_kept c e
  history_kept (c ∷ d ∷ h) e true_to =
      does_kept (deed c) (since (d ∷ h)) (start (d ∷ h)) (machine (d ∷ h)) e.1 (stands (d ∷ h) e.2) true_to (history_kept (d ∷ h) e.2)

module _ {M : Type 0} (step : Event → M → M) where
  -- a view that moves as a keeper is where the keeper's steps lead
  seen : (view : M → Kept) → Moves step keeper_step view → (es : List Event) (m : M) → view (led step es m) ≡ led keeper_step es (view m)
  seen view moves [] m = refl
  seen view moves (e ∷ es) m = moves e (led step es m) ∙ ap (keeper_step e) (seen view moves es m)

  pub books_right : (before : M) (h : History) → Earned h → BooksRight step (led step (machine h).order before) h (machine h).last
  books_right before h e t true_to view moves i b at_i whole =
      ((history_kept t (view before) h e true_to).good i b (ap (λ (x : Kept). book_of i x.books) (sym (seen view moves (machine h).order before)) ∙ at_i)).right whole
