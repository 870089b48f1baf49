-- The clause of calls, and where they lead.
use Rattle.std.proofs.Common.{◌≡◌, ℕ, Bool, true, false, List, [], ◌∷◌, ◌++◌, is_ok, Some, None, Option, sym, refl, ap, ◌∙◌, subst, append_assoc}
use Rattle.sink.specs.Events.{Event}
use Rattle.order.specs.Machine.{Call, made, History}
use Rattle.order.specs.Promise.{Making}
use Rattle.handover.specs.Words.{either}
use Rattle.channel.specs.States.{State}
use Rattle.channel.specs.Calls.{make_answer, make_after}
use Rattle.channel.specs.Follows.{Follows, Ask, make, offer, claim, settle, restart, noted, taken, after}
use Rattle.channel.proofs.Follows.{calls_follow, making_follows}
use Rattle.channel.proofs.Kept.{promised}
use Rattle.operator.specs.declared.action.Action.{Action}
use Rattle.operator.specs.Desks.{Desk, asks, asked_after, desk_after, call_of, desks_after, calls_of, Opens, GoesBy}

-- what opens before further calls, opens with them
opens_behind : (ys : List Call) (x : Call) (xs : List Call) → Opens (ys ++ (x ∷ xs)) → Opens (x ∷ xs)
opens_behind [] x xs o = o
opens_behind (y ∷ []) x xs o = o
opens_behind (y ∷ z ∷ ys) x xs o = opens_behind (z ∷ ys) x xs o

nil_right : (ys : List Call) → ys ++ [] ≡ ys
nil_right [] = refl
nil_right (y ∷ ys) = ap (λ (zs : List Call). y ∷ zs) (nil_right ys)

-- a making that opens was taken
was_made : (n : ℕ) (t : Bool) → Making (made n t) → t ≡ true
was_made n true o = refl
was_made n false o = absurd o

module _ {M : Type 0} (step : Event → M → M) where
  -- the clause, from what is followed
  goes : (calls : List Call) (c d : State M) → ((before : M) (h : History) → Follows step before h c → Follows step before (calls ++ h) d)
      → (Opens calls → Follows step c.sink calls d) → (calls ≡ [] → d ≡ c) → GoesBy step calls c d
  goes calls c d on begins none = record {
    on = λ before h f. (on before h f, promised step before (calls ++ h) d (on before h f));
    begins = λ o. (begins o, promised step c.sink calls d (begins o));
    none = none;
  }

  -- no call
  pub goes_nowhere : (c : State M) → GoesBy step [] c c
  goes_nowhere c = goes [] c c (λ before h f. f) (λ o. absurd o) (λ e. refl)

  -- one call
  opening : (x : Ask) (c : State M) → Opens (noted x (taken step x c) ∷ []) → Follows step c.sink (noted x (taken step x c) ∷ []) (after step x c)
  opening (make number source first) c o =
      let t : is_ok (make_answer c source first) ≡ true = was_made first (is_ok (make_answer c source first)) o in
      subst (λ (t : Bool). Follows step c.sink (made first t ∷ []) (make_after step c number source first)) (sym t) (making_follows step c number source first t)
  opening (offer p b) c o = absurd o
  opening (claim time b) c o = absurd o
  opening (settle k) c o = absurd o
  opening (restart n) c o = absurd o

  goes_one : (x : Ask) (c : State M) → GoesBy step (noted x (taken step x c) ∷ []) c (after step x c)
  goes_one x c = goes (noted x (taken step x c) ∷ []) c (after step x c) (λ before h f. calls_follow step before h c x f) (opening x c) (λ e. cc)

  -- some calls after others
  begins_then : (xs ys : List Call) (c d e : State M) → GoesBy step xs c d → GoesBy step ys d e → Opens (ys ++ xs) → Follows step c.sink (ys ++ xs) e
  begins_then [] ys c d e f g o =
      subst (λ (zs : List Call). Follows step c.sink zs e) (sym (nil_right ys))
      (subst (λ (x : State M). Follows step x.sink ys e) (f.none refl) (g.begins (subst Opens (nil_right ys) o)).0)
  begins_then (x ∷ xs) ys c d e f g o = (g.on c.sink (x ∷ xs) (f.begins (opens_behind ys x xs o)).0).0

  none_then : (xs ys : List Call) (c d e : State M) → GoesBy step xs c d → GoesBy step ys d e → ys ++ xs ≡ [] → e ≡ c
  none_then [] [] c d e f g n = g.none refl ∙ f.none refl
  none_then (x ∷ xs) [] c d e f g n = cc
  none_then xs (y ∷ ys) c d e f g n = cc

  pub goes_then : (xs ys : List Call) (c d e : State M) → GoesBy step xs c d → GoesBy step ys d e → GoesBy step (ys ++ xs) c e
  goes_then xs ys c d e f g =
      goes (ys ++ xs) c e
      (λ before h o. subst (λ (zs : History). Follows step before zs e) (sym (append_assoc ys xs h)) (g.on before (xs ++ h) (f.on before h o).0).0)
      (begins_then xs ys c d e f g) (none_then xs ys c d e f g)

  -- one action
  goes_if : (x : Option Ask) (d : Desk M)
      → GoesBy step (either x [] (λ x. noted x (taken step x d.channel) ∷ [])) d.channel (either x d (λ x. asked_after step x d)).channel
  goes_if None d = goes_nowhere d.channel
  goes_if (Some x) d = goes_one x d.channel

  pub goes_action : (a : Action) (d : Desk M) (e : State M) → e ≡ (desk_after step a d).channel → GoesBy step (call_of step a d) d.channel e
  goes_action a d e is = subst (GoesBy step (call_of step a d) d.channel) (sym is) (goes_if (asks a d) d)

  -- a list of actions
  goes_all : (xs : List Action) (d : Desk M) → GoesBy step (calls_of step xs d) d.channel (desks_after step xs d).channel
  goes_all [] d = goes_nowhere d.channel
  goes_all (a ∷ xs) d =
      goes_then (call_of step a d) (calls_of step xs (desk_after step a d)) d.channel (desk_after step a d).channel (desks_after step xs (desk_after step a d)).channel
      (goes_if (asks a d) d) (goes_all xs (desk_after step a d))

  pub goes_list : (xs : List Action) (d : Desk M) (e : State M) → e ≡ (desks_after step xs d).channel → GoesBy step (calls_of step xs d) d.channel e
  goes_list xs d e is = subst (GoesBy step (calls_of step xs d) d.channel) (sym is) (goes_all xs d)
