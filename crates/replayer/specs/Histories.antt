-- The history that a replay makes.
use Rattle.std.specs.Prelude.{ℕ, List, [], ◌∷◌, ◌++◌, is_ok, Option, Result}
use Rattle.order.specs.Machine.{Call, offered, claimed, restarted}
use Rattle.handover.specs.Words.{either}
use Rattle.handover.specs.declared.fault.ChannelFault.{ChannelFault}
use Rattle.operator.specs.declared.action.Asked.{Asked}
use Rattle.operator.specs.Desks.{settling}
use Rattle.replayer.specs.declared.followed.Followed.{Followed}

-- the call that an answer is of, if one was made
abbrev pub claiming : Option (Result Asked ChannelFault) → List Call
claiming r = either r [] (λ r. claimed (is_ok r) ∷ [])

abbrev pub restarting : Option (ℕ × Result (Unit {0}) ChannelFault) → List Call
restarting r = either r [] (λ r. restarted r.0 (is_ok r.1) ∷ [])

-- the calls that were made behind the offer of a packet, the newest first: those that have an answer in what came of it
abbrev pub calls_behind : Followed → List Call
calls_behind f = restarting f.restarted ++ (claiming f.claimed ++ settling f.settled)

-- THE CALLS that were made of a packet, the newest first: its offer, and those behind it
abbrev pub calls_of : List ℕ → Followed → List Call
calls_of p f = calls_behind f ++ (offered p (is_ok f.offered) ∷ [])
