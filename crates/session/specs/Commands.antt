-- What each command answers, and where it leaves a session.
use Rattle.std.specs.Prelude.{ℕ, List, [], Some, None, vec_items, codes, Option}
use Rattle.wire.specs.Reading.{reading}
use Rattle.shelf.specs.Store.{used}
use Rattle.sink.specs.declared.Sink.{Ghosts as Sink}
use Rattle.sink.specs.declared.Twin.{Twin}
use Rattle.sink.specs.Events.{Event}
use Rattle.sink.specs.Views.{both}
use Rattle.books.specs.declared.keeper.BookKeeper.{BookKeeper}
use Rattle.book_model.specs.Keepers.{Kept, keeper_step, book_of}
use Rattle.books.specs.Keepers.{keeper_means}
use Rattle.tally.specs.declared.tally.Counters.{Counters}
use Rattle.tally.specs.declared.tally.Tally.{Tally}
use Rattle.tally.specs.Tallies.{Counts, meant, executed_of, step as tally_step}
use Rattle.handover.specs.Words.{either}
use Rattle.channel.specs.States.{last_of}
use Rattle.operator.specs.declared.action.Action.{Action}
use Rattle.operator.specs.declared.action.Action.TheVariants as act
use Rattle.operator.specs.Desks.{Desk, desk_after, reply_to}
use Rattle.script.specs.declared.command.Command.{Command}
use Rattle.script.specs.declared.command.Command.TheVariants.{Read, Setup, Make, Offer, Claim, Settle, Restart, Book, Row, State}
use Rattle.console.specs.Texts.{reading_text}
use Rattle.replies.specs.Calls.{reply_text, state_text}
use Rattle.replies.specs.Reads.{book_text, row_text}

-- what a keeper beside a tally means
abbrev pub Board : Type 0
Board = Kept × Counts

-- what an event makes of it
abbrev pub told : Event → Board → Board
told = both keeper_step tally_step

-- a keeper beside a tally, as a sink
abbrev pub board : Sink (Twin BookKeeper Tally)
board = record { Meaning = Board; means = λ s. (keeper_means s.first, meant s.second); step = told }

-- the text of the reply to an action
abbrev pub acted_text : {M : Type 0} → (Event → M → M) → Action → Desk M → List ℕ
acted_text step a d = reply_text (reply_to step a d) (last_of (desk_after step a d).channel.opened) (desk_after step a d).buffer

-- the two counts of a tally
abbrev pub counters_of : Counts → Counters
counters_of c = record { missed = c.missed; losses = c.losses }

-- the action that a command asks for, if it asks for one
abbrev pub command_action : Command → Option Action
command_action (Make n source first) = Some (act.Make n source first)
command_action (Offer p) = Some (act.Offer p)
command_action (Claim t) = Some (act.Claim t)
command_action Settle = Some act.Settle
command_action (Restart n) = Some (act.Restart n)
command_action (Read p) = None
command_action (Setup s) = None
command_action (Book i) = None
command_action (Row i) = None
command_action State = None

-- where a command leaves a session
abbrev pub command_left : Command → Desk Board → Desk Board
command_left k d = either (command_action k) d (λ a. desk_after told a d)

-- what a command answers; a setup is answered where a session is made
abbrev pub command_answer : Command → Desk Board → List ℕ
command_answer (Make n source first) d = acted_text told (act.Make n source first) d
command_answer (Offer p) d = acted_text told (act.Offer p) d
command_answer (Claim t) d = acted_text told (act.Claim t) d
command_answer Settle d = acted_text told act.Settle d
command_answer (Restart n) d = acted_text told (act.Restart n) d
command_answer (Read p) d = reading_text (reading (vec_items p))
command_answer (Setup s) d = []
command_answer (Book i) d = book_text i (book_of i d.channel.sink.0.books)
command_answer (Row i) d = row_text i (executed_of i d.channel.sink.1.rows)
command_answer State d = state_text (last_of d.channel.opened) (used d.channel.shelf) d.channel.sink.0.mark (counters_of d.channel.sink.1)

-- what a command answers where no channel is set up
abbrev pub command_alone : Command → List ℕ
command_alone (Setup s) = []
command_alone (Read p) = reading_text (reading (vec_items p))
command_alone (Make n source first) = codes "unreadable\n"
command_alone (Offer p) = codes "unreadable\n"
command_alone (Claim t) = codes "unreadable\n"
command_alone Settle = codes "unreadable\n"
command_alone (Restart n) = codes "unreadable\n"
command_alone (Book i) = codes "unreadable\n"
command_alone (Row i) = codes "unreadable\n"
command_alone State = codes "unreadable\n"
