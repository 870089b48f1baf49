-- The text of the answers to a channel's calls, each line ended.
use Rattle.std.specs.Prelude.{ℕ, List, ◌++◌, take, Ok, Err, codes, decimal, Option}
use Rattle.std.specs.Option.{unwrap_or}
use Rattle.wire.specs.declared.request.TheConstants.{REQUEST}
use Rattle.handover.specs.declared.handover.Taken.{Taken}
use Rattle.handover.specs.Faults.{call_fault_text, offer_fault_text}
use Rattle.operator.specs.declared.action.Asked.{Asked}
use Rattle.operator.specs.declared.action.Reply.{Reply}
use Rattle.operator.specs.declared.action.Reply.TheVariants.{Made, Offered, Claimed, Settled, Restarted, NoClaim}
use Rattle.tally.specs.declared.tally.Counters.{Counters}
use Rattle.replies.specs.Hex.{hex_text}

abbrev pub made_text : ℕ → List ℕ
made_text last = codes "made last=" ++ (decimal last ++ codes "\n")

abbrev pub taken_text : Taken → List ℕ
taken_text t = codes "taken last=" ++ (decimal t.last ++ (codes " handed=" ++ (decimal t.handed ++ codes "\n")))

-- what a claim asks for, and the request that was written for it
abbrev pub claimed_text : Asked → List ℕ → List ℕ
claimed_text c request =
    codes "claimed channel=" ++ (decimal c.channel ++ (codes " serial=" ++ (decimal c.serial ++ (codes " from=" ++ (decimal c.begin ++
    (codes " to=" ++ (decimal c.end ++ (codes " request=" ++ (hex_text request ++ codes "\n")))))))))

abbrev pub settled_text : ℕ → List ℕ
settled_text missing = codes "settled missing=" ++ (decimal missing ++ codes "\n")

abbrev pub restarted_text : ℕ → List ℕ
restarted_text last = codes "restarted last=" ++ (decimal last ++ codes "\n")

-- the text of a reply, where last and the buffer are so after the action; the request is in front of the buffer
abbrev pub reply_text : Reply → Option ℕ → List ℕ → List ℕ
reply_text (Made (Ok u)) last buffer = made_text (unwrap_or last 0)
reply_text (Made (Err f)) last buffer = call_fault_text f ++ codes "\n"
reply_text (Offered (Ok t)) last buffer = taken_text t
reply_text (Offered (Err f)) last buffer = offer_fault_text f ++ codes "\n"
reply_text (Claimed (Ok a)) last buffer = claimed_text a (take REQUEST buffer)
reply_text (Claimed (Err f)) last buffer = call_fault_text f ++ codes "\n"
reply_text (Settled n) last buffer = settled_text n
reply_text (Restarted (Ok u)) last buffer = restarted_text (unwrap_or last 0)
reply_text (Restarted (Err f)) last buffer = call_fault_text f ++ codes "\n"
reply_text NoClaim last buffer = codes "no claim\n"

-- last, the units in use, the loss mark and the counts of a tally
abbrev pub state_line : ℕ → ℕ → ℕ → Counters → List ℕ
state_line last units mark counts =
    codes "state last=" ++ (decimal last ++ (codes " units=" ++ (decimal units ++ (codes " mark=" ++ (decimal mark ++
    (codes " missed=" ++ (decimal counts.missed ++ (codes " losses=" ++ (decimal counts.losses ++ codes "\n")))))))))

-- a closed channel has no last, and shows 0
abbrev pub state_text : Option ℕ → ℕ → ℕ → Counters → List ℕ
state_text last units mark counts = state_line (unwrap_or last 0) units mark counts
