-- A channel that follows a history goes on following it.
use Rattle.std.proofs.Common.{◌≡◌, ℕ, ◌+◌, ◌≤◌, true, false, List, [], ◌∷◌, is_some, is_ok, Some, None, Ok, Err, Option, Result, sym, refl, ap, ◌∙◌, subst}
use Rattle.wire.specs.Reading.{Pkt}
use Rattle.sink.specs.Events.{Event}
use Rattle.handover.specs.declared.fault.ChannelFault.{ChannelFault}
use Rattle.handover.specs.declared.fault.ChannelFault.TheVariants.{Phase}
use Rattle.handover.specs.declared.fault.OfferFault.{OfferFault}
use Rattle.handover.specs.declared.fault.OfferFault.TheVariants.{Channel}
use Rattle.channel.specs.declared.claim.Claim.{Claim}
use Rattle.order.specs.Machine.{Call, made, offered, claimed, settled, restarted, History, nothing, brought, content, read_content, begins, took, deed, does, machine}
use Rattle.order.specs.Promise.{Allowed, Making, Earned}
use Rattle.handover.specs.Words.{either, on_ok, answer}
use Rattle.handover.specs.Flows.{Flow, takes}
use Rattle.handover.specs.Offers.{verdict, grown, flow_answer, flow_after}
use Rattle.channel.specs.States.{Opened, State, last_of, flow_in, left_by, back}
use Rattle.channel.specs.Calls.{make_answer, make_after, begun_at, restart_verdict, claim_verdict, reclaimed, settle_verdict, missing_of}
use Rattle.order.specs.Machine.{led}
use Rattle.channel.specs.Follows.{Waits, Follows, Ask, make, offer, claim, settle, restart, noted, taken, after}
use Rattle.order.proofs.Plain.{never, some_same}
use Rattle.order.proofs.Order.{stands}
use Rattle.order.proofs.Rises.{waiting_rises}
use Rattle.channel.proofs.Turns.{Like, like_takes}
use Rattle.channel.proofs.Verdicts.{Passed, offer_passed, packet_allowed, restart_found, claim_found, settle_opened, make_found}

-- the rules were kept once more
earned_more : (c : Call) (h : History) → (Making c → ⊥) → Earned h → Allowed (deed c) (machine h).last (machine h).waiting → Earned (c ∷ h)
earned_more c [] nm e a = absurd e
earned_more c (d ∷ h) nm e a = (nm, a, e)

closed : (x : Option Opened) (n : ℕ) → is_some x ≡ false → last_of x ≡ Some n → ⊥
closed None n a b = never (cc)
closed (Some o) n a b = never (cc)

module _ {M : Type 0} (step : Event → M → M) (before : M) where
  -- a call that did nothing
  still : (h : History) (c d : State M) (call : Call) → (Making call → ⊥) → deed call ≡ took nothing → last_of d.opened ≡ last_of c.opened
      → d.shelf ≡ c.shelf → d.sink ≡ c.sink → Follows step before h c → Follows step before (call ∷ h) d
  still h c d call nm e l s k f =
      let m : machine (call ∷ h) ≡ machine h = ap (λ x. does x (machine h)) e in
      record {
        last = l ∙ f.last ∙ sym (ap (λ x. Some x.last) m);
        sink = k ∙ f.sink ∙ sym (ap (λ x. led step x.order before) m);
        waits = subst (λ x. Waits d.shelf.held x.waiting) (sym m) (subst (λ x. Waits x.held (machine h).waiting) (sym s) f.waits);
        earned = earned_more call h nm f.earned (subst (λ x. Allowed x (machine h).last (machine h).waiting) (sym e) tt);
      }

  -- a beginning
  anew : (h : History) (c : State M) (call : Call) (n : ℕ) (o : Opened) → (Making call → ⊥) → deed call ≡ begins n → 1 ≤ n → Follows step before h c
      → Follows step before (call ∷ h) (begun_at step n o c)
  anew h c call n o nm e l f =
      let m : machine (call ∷ h) ≡ does (begins n) (machine h) = ap (λ x. does x (machine h)) e in
      record {
        last = sym (ap (λ x. Some x.last) m);
        sink = ap (step _) f.sink ∙ sym (ap (λ x. led step x.order before) m);
        waits = subst (λ x. Waits [] x.waiting) (sym m) tt;
        earned = earned_more call h nm f.earned (subst (λ x. Allowed x (machine h).last (machine h).waiting) (sym e) l);
      }

  -- an offer to an open channel that is taken
  pub offer_took : (h : History) (c : State M) (o : Opened) (p b : List ℕ) (q : Pkt) → c.opened ≡ Some o → Passed (flow_in c o b) p q → Follows step before h c
      → Follows step before (offered p true ∷ h) (left_by o (takes step (brought q) p (flow_in c o b)))
  offer_took h c o p b q opened ok f =
      let s = machine h in
      let l : o.last ≡ s.last = some_same o.last s.last (sym (ap last_of opened) ∙ f.last) in
      let e : content p ≡ brought q = ap read_content ok.read in
      let a : Allowed (took (brought q)) s.last s.waiting =
      subst (λ n. Allowed (took (brought q)) n s.waiting) l (packet_allowed o.last c.shelf p s.waiting f.waits q ok.clear) in
      let flow : Flow M = flow_in c o b in
      let like = like_takes step before (brought q) p flow s (record { last = l; sink = f.sink; waits = f.waits; rises = waiting_rises h })
      a (stands h f.earned).rest e in
      let there : Like step before (takes step (brought q) p flow) (machine (offered p true ∷ h)) =
      subst (λ x. Like step before (takes step (brought q) p flow) (does (took x) s)) (sym e) like in
      record {
        last = ap (λ n. Some n) there.last;
        sink = there.sink;
        waits = there.waits;
        earned = earned_more (offered p true) h (λ x. x) f.earned (subst (λ x. Allowed (took x) s.last s.waiting) (sym e) a);
      }

  offer_open : (h : History) (c : State M) (o : Opened) (p b : List ℕ) → c.opened ≡ Some o → Follows step before h c
      → Follows step before (offered p (is_ok (flow_answer step (flow_in c o b) p)) ∷ h) (left_by o (flow_after step (flow_in c o b) p))
  offer_open h c o p b opened f = go (verdict (flow_in c o b) p) refl
    where
      go : (r : Result Pkt OfferFault) → verdict (flow_in c o b) p ≡ r
          → Follows step before (offered p (is_ok (answer r (λ q. grown o.last (takes step (brought q) p (flow_in c o b))))) ∷ h)
          (left_by o (on_ok r (λ q. takes step (brought q) p (flow_in c o b)) (flow_in c o b)))
      go (Ok q) e = offer_took h c o p b q opened (offer_passed (flow_in c o b) p q e) f
      go (Err x) e = still h c (left_by o (flow_in c o b)) (offered p false) (λ x. x) refl (sym (ap last_of opened)) refl refl f

  offer_follows : (h : History) (c : State M) (p b : List ℕ) → Follows step before h c
      → Follows step before (noted (offer p b) (taken step (offer p b) c) ∷ h) (after step (offer p b) c)
  offer_follows h c p b f = go c.opened refl
    where
      go : (x : Option Opened) → c.opened ≡ x
          → Follows step before (offered p (is_ok (either x (Err (Channel Phase)) (λ o. flow_answer step (flow_in c o b) p))) ∷ h)
          (either x c (λ o. left_by o (flow_after step (flow_in c o b) p)))
      go None e = still h c c (offered p false) (λ x. x) refl refl refl refl f
      go (Some o) e = offer_open h c o p b e f

  restart_follows : (h : History) (c : State M) (n : ℕ) → Follows step before h c
      → Follows step before (noted (restart n) (taken step (restart n) c) ∷ h) (after step (restart n) c)
  restart_follows h c n f = go (restart_verdict c n) refl
    where
      go : (r : Result Opened ChannelFault) → restart_verdict c n ≡ r
          → Follows step before (restarted n (is_ok (answer {B = Unit {0}} r (λ o. tt))) ∷ h) (on_ok r (λ o. begun_at step n o c) c)
      go (Ok o) e = anew h c (restarted n true) n o (λ x. x) refl (restart_found c n o e).number f
      go (Err x) e = still h c c (restarted n false) (λ x. x) refl refl refl refl f

  claim_follows : (h : History) (c : State M) (time : ℕ) (b : List ℕ) → Follows step before h c
      → Follows step before (noted (claim time b) (taken step (claim time b) c) ∷ h) (after step (claim time b) c)
  claim_follows h c time b f = go (claim_verdict c b) refl
    where
      go : (r : Result (Opened × Claim) ChannelFault) → claim_verdict c b ≡ r
          → Follows step before (claimed (is_ok (answer r (λ v. v.1))) ∷ h) (on_ok r (λ v. reclaimed c (Some v.1) (v.0.claims + 1) v.0) c)
      go (Ok v) e =
          still h c (reclaimed c (Some v.1) (v.0.claims + 1) v.0) (claimed true) (λ x. x) refl
          (sym (ap last_of (claim_found c b v e).opened)) refl refl f
      go (Err x) e = still h c c (claimed false) (λ x. x) refl refl refl refl f

  settle_follows : (h : History) (c : State M) (k : Claim) → Follows step before h c
      → Follows step before (noted (settle k) (taken step (settle k) c) ∷ h) (after step (settle k) c)
  settle_follows h c k f = go (settle_verdict c k) refl
    where
      go : (r : Result (Opened × Claim) ChannelFault) → settle_verdict c k ≡ r
          → Follows step before (settled (is_ok (back k (answer r (λ v. missing_of v c.shelf.held)))) ∷ h) (on_ok r (λ v. reclaimed c None v.0.claims v.0) c)
      go (Ok v) e =
          still h c (reclaimed c None v.0.claims v.0) (settled true) (λ x. x) refl (sym (ap last_of (settle_opened c k v e))) refl refl f
      go (Err x) e = still h c c (settled false) (λ x. x) refl refl refl refl f

  -- a making of a channel that is open is refused
  make_follows : (h : History) (c : State M) (number : ℕ) (source : List ℕ) (first : ℕ) → Follows step before h c
      → Follows step before (made first (is_ok (make_answer c source first)) ∷ h) (make_after step c number source first)
  make_follows h c number source first f = go (make_answer c source first) refl
    where
      go : (r : Result (Unit {0}) ChannelFault) → make_answer c source first ≡ r
          → Follows step before (made first (is_ok r) ∷ h)
          (on_ok r (λ u. begun_at step first (record { number = number; source = source; last = 0; out = None; claims = 0 }) c) c)
      go (Ok u) e = absurd (closed c.opened (machine h).last (make_found c source first u e).closed f.last)
      go (Err x) e = still h c c (made first false) (λ x. x) refl refl refl refl f

  pub calls_follow : (h : History) (c : State M) (a : Ask) → Follows step before h c → Follows step before (noted a (taken step a c) ∷ h) (after step a c)
  calls_follow h c (make number source first) f = make_follows h c number source first f
  calls_follow h c (offer p b) f = offer_follows h c p b f
  calls_follow h c (claim time b) f = claim_follows h c time b f
  calls_follow h c (settle k) f = settle_follows h c k f
  calls_follow h c (restart n) f = restart_follows h c n f

-- a making that is taken
pub making_follows : {M : Type 0} (step : Event → M → M) (c : State M) (number : ℕ) (source : List ℕ) (first : ℕ) → is_ok (make_answer c source first) ≡ true
    → Follows step c.sink (made first true ∷ []) (make_after step c number source first)
making_follows step c number source first t = go (make_answer c source first) refl t
  where
    go : (r : Result (Unit {0}) ChannelFault) → make_answer c source first ≡ r → is_ok r ≡ true
        → Follows step c.sink (made first true ∷ [])
        (on_ok r (λ u. begun_at step first (record { number = number; source = source; last = 0; out = None; claims = 0 }) c) c)
    go (Ok u) e t = record { last = refl; sink = refl; waits = tt; earned = (tt, (make_found c source first u e).number) }
    go (Err x) e t = absurd (never (cc))
