-- The state of a channel.
use Rattle.std.specs.Prelude.{ℕ, List, Some, Option, Result}
use Rattle.std.specs.Option.{option_map}
use Rattle.std.specs.Result as results
use Rattle.shelf.specs.Store.{Store}
use Rattle.handover.specs.Flows.{Flow}
use Rattle.channel.specs.declared.claim.Claim.{Claim}

-- an open channel: its number, the source id of its requests, the last number handed over, the claim that is out, and how many claims were made
-- since the making
pub record Opened : Type 0 where
  pub number : ℕ
  pub source : List ℕ
  pub last : ℕ
  pub out : Option Claim
  pub claims : ℕ

-- a channel, open or closed, with what its shelf and its sink mean
pub record State (M : Type 0) : Type 0 where
  pub opened : Option Opened
  pub shelf : Store
  pub sink : M

-- the last number of a channel that is open
abbrev pub last_of : Option Opened → Option ℕ
last_of x = option_map (λ o. o.last) x

-- with another last number
abbrev pub at_last : ℕ → Opened → Opened
at_last n o = record { number = o.number; source = o.source; last = n; out = o.out; claims = o.claims }

-- what flows on through an open channel, beside a scratch buffer
abbrev pub flow_in : {M : Type 0} → State M → Opened → List ℕ → Flow M
flow_in c o scratch = record { last = o.last; shelf = c.shelf; sink = c.sink; scratch = scratch }

-- the open channel that it leaves
abbrev pub left_by : {M : Type 0} → Opened → Flow M → State M
left_by o f = record { opened = Some (at_last f.last o); shelf = f.shelf; sink = f.sink }

-- a refusal that gives something back
abbrev pub back : {A E X : Type 0} → X → Result A E → Result A (E × X)
back x r = results.result_map_both (λ a. a) (λ e. (e, x)) r
