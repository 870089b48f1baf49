-- What a verdict tells.
use Rattle.std.proofs.Common.{◌≡◌, ℕ, ◌+◌, ◌≤◌, Bool, true, false, cond, ◌||◌, eqb, ltb, leb, List, length, is_some, Some, None, Ok, Err, Option, Result, sym, refl, ap, ◌∙◌, subst, arith}
use Rattle.std.proofs.lemmas.Bool.{or_parts, leb-false, ltb-false, eqb-false}
use Rattle.wire.specs.declared.fault.ReadFault.{ReadFault}
use Rattle.wire.specs.declared.request.TheConstants.{REQUEST}
use Rattle.wire.specs.Reading.{Msg, Pkt, reading}
use Rattle.wire.specs.Request.{source_right}
use Rattle.common.specs.declared.TheConstants.{LONGEST}
use Rattle.shelf.specs.Store.{Store}
use Rattle.shelf.specs.Store as on_shelf
use Rattle.handover.specs.declared.fault.OfferFault.{OfferFault}
use Rattle.handover.specs.declared.fault.OfferFault.TheVariants.{Channel}
use Rattle.handover.specs.declared.fault.ChannelFault.TheVariants.{Short, Reset, Parts, Ahead, Behind, Owed, Whole, Spent, Other, Zero, Source, Phase}
use Rattle.channel.specs.declared.channel.TheConstants.{MOST_CLAIMS}
use Rattle.channel.specs.declared.claim.Claim.{Claim}
use Rattle.order.specs.Maps.{Map}
use Rattle.order.specs.Machine.{Content, carries, declares, renews, nothing, took, brought}
use Rattle.order.specs.Promise.{Allowed}
use Rattle.handover.specs.Words.{either}
use Rattle.channel.specs.States.{Opened, State}
use Rattle.handover.specs.Flows.{Flow, gap}
use Rattle.handover.specs.Offers.{against_data, against_range, against_refresh, against_content, next_of, against, read_then, verdict}
use Rattle.channel.specs.Calls.{make_answer, restart_verdict, claim_of, claim_verdict, same_claim, settle_verdict}
use Rattle.channel.specs.Follows.{Waits}
use Rattle.order.proofs.Plain.{never, ok_same}
use Rattle.channel.proofs.Shelved.{waits_has}

-- what was found where a call is taken
pub either_ok : {A B E : Type 0} (x : Option A) (e : E) (k : A → Result B E) (y : B) → either x (Err e) k ≡ Ok y → (a : A) × ((x ≡ Some a) × (k a ≡ Ok y))
either_ok None e k y q = absurd (never (cc))
either_ok (Some a) e k y q = (a, (refl, q))

pub cond_ok : {B E : Type 0} (t : Bool) (e : E) (r : Result B E) (y : B) → cond t (Err e) r ≡ Ok y → (t ≡ false) × (r ≡ Ok y)
cond_ok true e r y q = absurd (never (cc))
cond_ok false e r y q = (refl, q)

pub ok_cond : {B E : Type 0} (t : Bool) (e : E) (r : Result B E) (y : B) → cond t r (Err e) ≡ Ok y → (t ≡ true) × (r ≡ Ok y)
ok_cond true e r y q = (refl, q)
ok_cond false e r y q = absurd (never (cc))

read_ok : {B : Type 0} (r : Result Pkt ReadFault) (k : Pkt → Result B OfferFault) (y : B) → read_then r k ≡ Ok y → (a : Pkt) × ((r ≡ Ok a) × (k a ≡ Ok y))
read_ok (Ok a) k y q = (a, (refl, q))
read_ok (Err e) k y q = absurd (never (cc))

clear_ok : {B E : Type 0} (x : Option E) (a y : B) → either x (Ok a) (λ f. Err f) ≡ Ok y → (x ≡ None) × (a ≡ y)
clear_ok None a y q = (refl, cc)
clear_ok (Some f) a y q = absurd (never (cc))

cond_none : {B : Type 0} (t : Bool) (f : B) (r : Option B) → cond t (Some f) r ≡ None → (t ≡ false) × (r ≡ None)
cond_none true f r q = absurd (never (cc))
cond_none false f r q = (refl, q)

-- a packet that is taken: it is read, and nothing stands against it
pub record Passed {M : Type 0} (f : Flow M) (p : List ℕ) (q : Pkt) : Type 0 where
  pub read : reading p ≡ Ok q
  pub clear : against f.last f.shelf p q ≡ None

pub offer_passed : {M : Type 0} (f : Flow M) (p : List ℕ) (q : Pkt) → verdict f p ≡ Ok q → Passed f p q
offer_passed f p q e =
    let y = cond_ok (ltb (length f.scratch) LONGEST) (Channel Short) _ q e in
    let z = read_ok (reading p) _ q y.1 in
    let w = clear_ok (against f.last f.shelf p z.0) z.0 q z.1.1 in
    record { read = z.1.0 ∙ ap (λ (u : Pkt). Ok u) w.1; clear = subst (λ u. against f.last f.shelf p u ≡ None) w.1 w.0 }

-- what nothing stands against is allowed
module _ (l : ℕ) (s : Store) (p : List ℕ) (w : Map Msg) (waits : Waits s.held w) where
  data_allowed : (n : ℕ) (m : Msg) → against_data l s n p ≡ None → Allowed (took (carries n m)) l w
  data_allowed n m e =
      let a = cond_none (leb n l || on_shelf.has s.held n) (Channel Behind) _ e in
      let b = or_parts (leb n l) (on_shelf.has s.held n) a.0 in
      (leb-false n l b.0, sym (waits_has n s.held w waits) ∙ b.1)

  range_allowed : (b e : ℕ) → against_range l b e ≡ None → Allowed (took (declares b e)) l w
  range_allowed b e q =
      let x = cond_none (leb e l) (Channel Behind) _ q in
      let y = cond_none (ltb (l + 1) b) (Channel Ahead) _ x.1 in
      (ltb-false (l + 1) b y.0, leb-false e l x.0)

  refresh_allowed : (n : ℕ) (m : Msg) (q : Pkt) → against_refresh l n q ≡ None → Allowed (took (renews n m)) l w
  refresh_allowed n m q e = go _ e
    where
      go : (t : Bool) → cond t (cond (ltb l n) (Some (Channel Ahead)) None) (Some (Channel Parts)) ≡ None → n ≤ l
      go true z = ltb-false l n (cond_none (ltb l n) (Channel Ahead) None z).0
      go false z = absurd (never (cc))

  content_allowed : (x : Content) (q : Pkt) → against_content x l s p q ≡ None → Allowed (took x) l w
  content_allowed (carries n m) q e = data_allowed n m e
  content_allowed (declares b c) q e = range_allowed b c e
  content_allowed (renews n m) q e = refresh_allowed n m q e
  content_allowed nothing q e = tt

  pub packet_allowed : (q : Pkt) → against l s p q ≡ None → Allowed (took (brought q)) l w
  packet_allowed q e = go (next_of q.message) e
    where
      go : (x : Option ℕ) → either x (against_content (brought q) l s p q) (λ n. Some (Channel (Reset n))) ≡ None → Allowed (took (brought q)) l w
      go None z = content_allowed (brought q) q z
      go (Some n) z = absurd (never (cc))

-- what a restart that is taken found
pub record Restarted {M : Type 0} (c : State M) (n : ℕ) (o : Opened) : Type 0 where
  pub opened : c.opened ≡ Some o
  pub number : 1 ≤ n

pub restart_found : {M : Type 0} (c : State M) (n : ℕ) (o : Opened) → restart_verdict c n ≡ Ok o → Restarted c n o
restart_found c n o e =
    let x = either_ok c.opened Phase _ o e in
    let y = cond_ok (is_some x.0.out) Owed _ o x.1.1 in
    let z = cond_ok (eqb n 0) Zero (Ok x.0) o y.1 in
    let ne = eqb-false n 0 z.0 in
    record { opened = x.1.0 ∙ ap (λ (u : Opened). Some u) (ok_same x.0 o z.1); number = omega arith }

-- what a claim that is given found
pub record Claimed {M : Type 0} (c : State M) (b : List ℕ) (v : Opened × Claim) : Type 0 where
  pub opened : c.opened ≡ Some v.0
  pub least : ℕ
  pub gap : gap v.0.last c.shelf.held ≡ Some least
  pub claim : v.1 ≡ claim_of v.0 least

pub claim_found : {M : Type 0} (c : State M) (b : List ℕ) (v : Opened × Claim) → claim_verdict c b ≡ Ok v → Claimed c b v
claim_found c b v e =
    let x = either_ok c.opened Phase _ v e in
    let y = cond_ok (ltb (length b) REQUEST) Short _ v x.1.1 in
    let z = cond_ok (is_some x.0.out) Owed _ v y.1 in
    let u = either_ok (gap x.0.last c.shelf.held) Whole _ v z.1 in
    let t = cond_ok (leb MOST_CLAIMS x.0.claims) Spent _ v u.1.1 in
    let same : ◌≡◌ {A = Opened × Claim} (x.0, claim_of x.0 u.0) v = ok_same (x.0, claim_of x.0 u.0) v t.1 in
    let o : x.0 ≡ v.0 = ap (λ (p : Opened × Claim). p.0) same in
    record {
      opened = x.1.0 ∙ ap (λ (u : Opened). Some u) o;
      least = u.0;
      gap = ap (λ (p : Opened). gap p.last c.shelf.held) (sym o) ∙ u.1.0;
      claim = sym (ap (λ (p : Opened × Claim). p.1) same) ∙ ap (λ (p : Opened). claim_of p u.0) o;
    }

-- what a settlement that is taken found
pub settle_opened : {M : Type 0} (c : State M) (k : Claim) (v : Opened × Claim) → settle_verdict c k ≡ Ok v → c.opened ≡ Some v.0
settle_opened c k v e =
    let x = either_ok c.opened Phase _ v e in
    let y = either_ok x.0.out Other _ v x.1.1 in
    let z = ok_cond (same_claim k y.0) Other _ v y.1.1 in
    x.1.0 ∙ ap (λ (p : Opened × Claim). Some p.0) (ok_same (x.0, y.0) v z.1)

-- what a making that is taken found
pub record Makes {M : Type 0} (c : State M) (source : List ℕ) (first : ℕ) : Type 0 where
  pub closed : is_some c.opened ≡ false
  pub number : 1 ≤ first
  pub named : source_right source ≡ true

pub make_found : {M : Type 0} (c : State M) (source : List ℕ) (first : ℕ) (u : Unit {0}) → make_answer c source first ≡ Ok u → Makes c source first
make_found c source first u e =
    let x = cond_ok (is_some c.opened) Phase _ u e in
    let y = cond_ok (eqb first 0) Zero _ u x.1 in
    let z = ok_cond (source_right source) Source (Ok tt) u y.1 in
    let ne = eqb-false first 0 y.0 in
    record { closed = x.0; number = omega arith; named = z.0 }
