-- Counts, claims and source ids.
use Rattle.std.proofs.Common.{◌≡◌, ℕ, zero, suc, ◌+◌, ◌-◌, min, ◌≤◌, true, List, ◌∷◌, ◌++◌, length, drop, Some, None, Ok, Err, Option, Result, sym, refl, ap, ◌∙◌, subst, arith}
use Rattle.std.proofs.lemmas.Bool.{cond_both}
use Rattle.wire.specs.declared.request.TheConstants.{REQUEST}
use Rattle.wire.specs.Reading.{Msg, Pkt}
use Rattle.wire.specs.Request.{source_right, request}
use Rattle.shelf.specs.Store.{Lawful}
use Rattle.sink.specs.Events.{Event}
use Rattle.handover.specs.declared.fault.ChannelFault.{ChannelFault}
use Rattle.handover.specs.declared.fault.ChannelFault.TheVariants.{Phase}
use Rattle.handover.specs.declared.fault.OfferFault.{OfferFault}
use Rattle.handover.specs.declared.fault.OfferFault.TheVariants.{Channel}
use Rattle.channel.specs.declared.gaps.TheConstants.{MOST_ASKED}
use Rattle.channel.specs.declared.claim.Claim.{Claim}
use Rattle.handover.specs.declared.handover.Taken.{Taken}
use Rattle.order.specs.Machine.{History, offered, Content, carries, declares, renews, nothing, brought, content, took, Standing, turn, pass, passes, drain, joins, does, machine}
use Rattle.order.specs.Maps as waiting
use Rattle.handover.specs.Words.{either, on_ok, answer}
use Rattle.handover.specs.Flows.{takes}
use Rattle.handover.specs.Offers.{verdict, grown, flow_answer, flow_after}
use Rattle.handover.proofs.Flows.{gap_found}
use Rattle.channel.specs.States.{Opened, State, last_of, flow_in, left_by}
use Rattle.channel.specs.Calls.{make_answer, begun_at, restart_verdict, claim_verdict, claim_answer, reclaimed, settle_verdict}
use Rattle.channel.specs.Follows.{Follows, make, offer, claim, settle, restart}
use Rattle.channel.specs.Laws.{turns, SourceRight, Asks, GivenAsks, Counts, SourcesStay}
use Rattle.order.proofs.Plain.{never, some_same}
use Rattle.channel.proofs.Follows.{offer_took}
use Rattle.channel.proofs.Verdicts.{offer_passed, restart_found, claim_found, settle_opened, make_found}

-- Each turn is one data or loss event, and moves last by one.
record Turned (s t : Standing) : Type 0 where
  pub grows : s.last ≤ t.last
  pub counts : turns t.order + s.last ≡ turns s.order + t.last

turned_none : (s : Standing) → Turned s s
turned_none s = record { grows = omega arith; counts = refl }

turns_turn : (n : ℕ) (o : Option Msg) (es : List Event) → turns (turn n o ∷ es) ≡ 1 + turns es
turns_turn n None es = refl
turns_turn n (Some m) es = refl

turned_pass : (s t : Standing) → Turned (pass s) t → Turned s t
turned_pass s t a =
    let n = turns_turn (s.last + 1) (waiting.lookup (s.last + 1) s.waiting) s.order in
    let g = a.grows in
    let c = a.counts in
    record { grows = omega arith; counts = omega arith }

turned_passes : (k : ℕ) (s : Standing) → Turned s (passes k s)
turned_passes zero s = turned_none s
turned_passes (suc k) s = turned_pass s (passes k (pass s)) (turned_passes k (pass s))

turned_drain : (k : ℕ) (s : Standing) → Turned s (drain k s)
turned_drain zero s = turned_none s
turned_drain (suc k) s =
    cond_both (waiting.has (s.last + 1) s.waiting) (drain k (pass s)) s (Turned s)
    (λ e. turned_pass s (drain k (pass s)) (turned_drain k (pass s))) (λ e. turned_none s)

turned_trans : (s t u : Standing) → Turned s t → Turned t u → Turned s u
turned_trans s t u a b =
    let g = a.grows in
    let h = b.grows in
    let c = a.counts in
    let d = b.counts in
    record { grows = omega arith; counts = omega arith }

turned_takes : (x : Content) (s : Standing) → Turned s (does (took x) s)
turned_takes (carries n m) s =
    let r = turned_drain (length (joins n m s).waiting) (joins n m s) in record { grows = r.grows; counts = r.counts }
turned_takes (declares b e) s =
    turned_trans s (passes (e - s.last) s) _ (turned_passes (e - s.last) s) (turned_drain (length (passes (e - s.last) s).waiting) (passes (e - s.last) s))
turned_takes (renews n m) s = record { grows = omega arith; counts = refl }
turned_takes nothing s = turned_none s

module _ {M : Type 0} (step : Event → M → M) where
  counts_open : (before : M) (h : History) (c : State M) (o : Opened) (p b : List ℕ) (t : Taken) → c.opened ≡ Some o → Follows step before h c
      → flow_answer step (flow_in c o b) p ≡ Ok t
      → (last_of (left_by o (flow_after step (flow_in c o b) p)).opened ≡ Some t.last) × (turns (machine (offered p true ∷ h)).order ≡ turns (machine h).order + t.handed)
  counts_open before h c o p b t is f ok = go (verdict (flow_in c o b) p) refl ok
    where
      go : (r : Result Pkt OfferFault) → verdict (flow_in c o b) p ≡ r → answer r (λ q. grown o.last (takes step (brought q) p (flow_in c o b))) ≡ Ok t
          → (last_of (left_by o (on_ok r (λ q. takes step (brought q) p (flow_in c o b)) (flow_in c o b))).opened ≡ Some t.last)
          × (turns (machine (offered p true ∷ h)).order ≡ turns (machine h).order + t.handed)
      go (Ok q) e ok =
          let g = takes step (brought q) p (flow_in c o b) in
          let same : grown o.last g ≡ t = cc in
          let there : g.last ≡ (machine (offered p true ∷ h)).last = some_same _ _ (offer_took step before h c o p b q is (offer_passed (flow_in c o b) p q e) f).last in
          let here : o.last ≡ (machine h).last = some_same _ _ (sym (ap last_of is) ∙ f.last) in
          let n : g.last - o.last ≡ t.handed = ap (λ (x : Taken). x.handed) same in
          let r = turned_takes (content p) (machine h) in
          let x = r.grows in
          let y = r.counts in
          (ap (λ (x : Taken). Some x.last) same, omega arith)
      go (Err x) e ok = absurd (never (cc))

  pub counts : Counts step
  counts before h c p b t f ok = go c.opened refl ok
    where
      go : (x : Option Opened) → c.opened ≡ x → either x (Err (Channel Phase)) (λ o. flow_answer step (flow_in c o b) p) ≡ Ok t
          → (last_of (either x c (λ o. left_by o (flow_after step (flow_in c o b) p))).opened ≡ Some t.last)
          × (turns (machine (offered p true ∷ h)).order ≡ turns (machine h).order + t.handed)
      go None e ok = absurd (never (cc))
      go (Some o) e ok = counts_open before h c o p b t e f ok

  -- a channel with the source id of an open one
  kept_source : (c : State M) (o u : Opened) → c.opened ≡ Some o → u.source ≡ o.source → SourceRight c → (x : Opened) → ◌≡◌ {A = Option Opened} (Some u) (Some x) → source_right x.source ≡ true
  kept_source c o u is same right x e = ap (λ (y : Opened). source_right y.source) (sym (some_same u x e)) ∙ ap source_right same ∙ right o is

  pub sources_stay : SourcesStay step
  sources_stay c (make number source first) right = go (make_answer c source first) refl
    where
      go : (r : Result (Unit {0}) ChannelFault) → make_answer c source first ≡ r
          → SourceRight (on_ok r (λ u. begun_at step first (record { number = number; source = source; last = 0; out = None; claims = 0 }) c) c)
      go (Ok u) e = λ x is. ap (λ (y : Opened). source_right y.source) (sym (some_same _ x is)) ∙ (make_found c source first u e).named
      go (Err x) e = right
  sources_stay c (offer p b) right = go c.opened refl
    where
      go : (x : Option Opened) → c.opened ≡ x → SourceRight (either x c (λ o. left_by o (flow_after step (flow_in c o b) p)))
      go None e = right
      go (Some o) e = kept_source c o _ e refl right
  sources_stay c (claim time b) right = go (claim_verdict c b) refl
    where
      go : (r : Result (Opened × Claim) ChannelFault) → claim_verdict c b ≡ r → SourceRight (on_ok r (λ v. reclaimed c (Some v.1) (v.0.claims + 1) v.0) c)
      go (Ok v) e = kept_source c v.0 _ (claim_found c b v e).opened refl right
      go (Err x) e = right
  sources_stay c (settle k) right = go (settle_verdict c k) refl
    where
      go : (r : Result (Opened × Claim) ChannelFault) → settle_verdict c k ≡ r → SourceRight (on_ok r (λ v. reclaimed c None v.0.claims v.0) c)
      go (Ok v) e = kept_source c v.0 _ (settle_opened c k v e) refl right
      go (Err x) e = right
  sources_stay c (restart n) right = go (restart_verdict c n) refl
    where
      go : (r : Result Opened ChannelFault) → restart_verdict c n ≡ r → SourceRight (on_ok r (λ o. begun_at step n o c) c)
      go (Ok o) e = kept_source c o _ (restart_found c n o e).opened refl right
      go (Err x) e = right

-- the claim that was found
found_asks : {M : Type 0} (c : State M) (time : ℕ) (b : List ℕ) (v : Opened × Claim) → Lawful c.shelf → claim_verdict c b ≡ Ok v → Asks c v.0 time b v.1
found_asks c time b v lawful e =
    let found = claim_found c b v e in
    let h = c.shelf.held in
    let l = v.0.last in
    let m = found.least in
    let gap = gap_found l h m lawful.up (sym found.gap) in
    let begin : v.1.begin ≡ l + 1 = ap (λ (k : Claim). k.begin) found.claim in
    let end : v.1.end ≡ min (m - 1) (l + MOST_ASKED) = ap (λ (k : Claim). k.end) found.claim in
    let over = gap.past in
    record {
      number = ap (λ (k : Claim). k.channel) found.claim;
      serial = ap (λ (k : Claim). k.serial) found.claim;
      begins = begin;
      some = omega arith;
      few = omega arith;
      missing = λ n x y. gap.missing n (omega arith) (omega arith);
      request = ap (λ r. on_ok r (λ w. request time w.1.begin w.1.end w.0.source ++ drop REQUEST b) b) e;
    }

pub claims_ask : {M : Type 0} (c : State M) (time : ℕ) (b : List ℕ) → Lawful c.shelf → GivenAsks c time b (claim_answer c b)
claims_ask c time b lawful o k is ok = go (claim_verdict c b) refl ok
  where
    go : (r : Result (Opened × Claim) ChannelFault) → claim_verdict c b ≡ r → answer r (λ v. v.1) ≡ Ok k → Asks c o time b k
    go (Ok v) e ok =
        let same : v.1 ≡ k = cc in
        let here : v.0 ≡ o = some_same v.0 o (sym (claim_found c b v e).opened ∙ is) in
        subst (λ x. Asks c o time b x) same (subst (λ x. Asks c x time b v.1) here (found_asks c time b v lawful e))
    go (Err x) e ok = absurd (never (cc))

-- what is answered, as the claim of a call was
pub given_asks : {M : Type 0} (c : State M) (time : ℕ) (b : List ℕ) (r : Result Claim ChannelFault) → Lawful c.shelf → r ≡ claim_answer c b → GivenAsks c time b r
given_asks c time b r lawful is o k opened ok = claims_ask c time b lawful o k opened (sym is ∙ ok)
