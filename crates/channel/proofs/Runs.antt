-- Lists of calls.
use Rattle.std.proofs.Common.{◌≡◌, ℕ, Bool, true, List, [], ◌∷◌, is_ok, sym, refl, ap, ◌∙◌, subst}
use Rattle.sink.specs.Events.{Event}
use Rattle.order.specs.Machine.{History, made}
use Rattle.channel.specs.States.{State}
use Rattle.channel.specs.Calls.{make_answer, make_after}
use Rattle.channel.specs.Follows.{Follows, Ask, noted, taken, after}
use Rattle.channel.specs.Kept.{Promise, GoesOn, Begins}
use Rattle.channel.specs.Runs.{reply, run, logged, Joined}
use Rattle.channel.proofs.Follows.{calls_follow, making_follows}
use Rattle.channel.proofs.Kept.{promised}

module _ {M : Type 0} (step : Event → M → M) where
  pub joined : (xs ys : List Ask) (c : State M) → Joined step xs ys c
  joined [] ys c = record { leads = refl; gives = refl; notes = λ h. refl }
  joined (x ∷ xs) ys c =
      let more = joined xs ys (after step x c) in
      record {
        leads = more.leads;
        gives = ap (λ rs. reply step x c ∷ rs) more.gives;
        notes = λ h. more.notes (noted x (taken step x c) ∷ h);
      }

  run_follows : (before : M) (xs : List Ask) (h : History) (c : State M) → Follows step before h c → Follows step before (logged step xs c h) (run step xs c)
  run_follows before [] h c f = f
  run_follows before (x ∷ xs) h c f = run_follows before xs (noted x (taken step x c) ∷ h) (after step x c) (calls_follow step before h c x f)

  pub runs_stand : (c : State M) (number : ℕ) (source : List ℕ) (first : ℕ) → is_ok (make_answer c source first) ≡ true → (xs : List Ask)
      → Promise step c.sink (logged step xs (make_after step c number source first) (made first true ∷ [])) (run step xs (make_after step c number source first))
  runs_stand c number source first t xs =
      let made_now = make_after step c number source first in
      let h = made first true ∷ [] in
      promised step c.sink (logged step xs made_now h) (run step xs made_now)
      (run_follows c.sink xs h made_now (making_follows step c number source first t))

  -- the clause of a call, from what is known of its answer and of the channel it left
  pub goes_on : (c d : State M) (x : Ask) (t : Bool) → t ≡ taken step x c → d ≡ after step x c → GoesOn step (noted x t) c d
  goes_on c d x t told is before h f =
      let on : Follows step before (noted x t ∷ h) d =
      subst (λ u. Follows step before (noted x u ∷ h) d) (sym told) (subst (λ u. Follows step before (noted x (taken step x c) ∷ h) u) (sym is) (calls_follow step before h c x f)) in
      (on, promised step before (noted x t ∷ h) d on)

  -- the clause of a making that is taken
  pub begins : (c d : State M) (number : ℕ) (source : List ℕ) (first : ℕ) (t : Bool) → t ≡ is_ok (make_answer c source first) → d ≡ make_after step c number source first
      → Begins step first t c d
  begins c d number source first t told is ok =
      let on : Follows step c.sink (made first true ∷ []) d =
      subst (λ u. Follows step c.sink (made first true ∷ []) u) (sym is) (making_follows step c number source first (sym told ∙ ok)) in
      (on, promised step c.sink (made first true ∷ []) d on)
