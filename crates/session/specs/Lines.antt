-- What is answered to what `parse` makes of a line, and where it leaves a session.
use Rattle.std.specs.Prelude.{ℕ, List, [], ◌++◌, Some, None, Ok, Err, codes, Option, Result}
use Rattle.order.specs.Machine.{Call}
use Rattle.handover.specs.Words.{either}
use Rattle.operator.specs.Desks.{Desk, call_of}
use Rattle.script.specs.declared.command.Command.{Command}
use Rattle.script.specs.declared.error.ParseError.{ParseError}
use Rattle.script.specs.Faults.{parse_fault_text}
use Rattle.session.specs.Commands.{Board, told, command_action, command_left, command_answer, command_alone}

-- what `parse` makes of a line: a command, nothing, or why it is none
abbrev pub Parsed : Type 0
Parsed = Result (Option Command) ParseError

-- the call that a line makes, if it makes one, and whether it was taken
abbrev pub calls_by : Parsed → Desk Board → List Call
calls_by (Ok None) d = []
calls_by (Ok (Some command)) d = either (command_action command) [] (λ a. call_of told a d)
calls_by (Err fault) d = []

-- where a line leaves a session
abbrev pub left_by : Parsed → Desk Board → Desk Board
left_by (Ok None) d = d
left_by (Ok (Some command)) d = command_left command d
left_by (Err fault) d = d

-- what a line that is no command is answered
abbrev pub refusal_text : ParseError → List ℕ
refusal_text fault = parse_fault_text fault ++ codes "\n"

-- what a line is answered
abbrev pub answer_to : Parsed → Desk Board → List ℕ
answer_to (Ok None) d = []
answer_to (Ok (Some command)) d = command_answer command d
answer_to (Err fault) d = refusal_text fault

-- what a line is answered where no channel is set up
abbrev pub answer_alone : Parsed → List ℕ
answer_alone (Ok None) = []
answer_alone (Ok (Some command)) = command_alone command
answer_alone (Err fault) = refusal_text fault
