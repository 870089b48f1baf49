-- The claim in hand, and the claim that is out of a channel.
use Rattle.std.specs.Prelude.{◌≡◌, Some, Option}
use Rattle.std.specs.Option.{option_and_then, ForSome}
use Rattle.channel.specs.declared.claim.Claim.{Claim}
use Rattle.channel.specs.States.{Opened}

-- the claim that is out, of a channel that is open
abbrev pub out_of : Option Opened → Option Claim
out_of x = option_and_then (λ o. o.out) x

-- THE CLAIM IN HAND, if one is, is the one that is out of the channel
abbrev pub IsOut : Option Opened → Option Claim → Type 0
IsOut x h = ForSome h (λ k. out_of x ≡ Some k)
