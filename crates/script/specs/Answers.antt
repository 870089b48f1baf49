-- The answer of a program that only reads packets.
use Rattle.std.specs.Prelude.{ℕ, List, Vec, Some, None, vec_items, codes, Option, Result}
use Rattle.wire.specs.Reading.{reading}
use Rattle.console.specs.Texts.{reading_text}
use Rattle.script.specs.declared.error.ParseError.{ParseError}
use Rattle.script.specs.Faults.{Says}
use Rattle.script.specs.Commands.{Asked, pass, read}

-- every command but `read` is unreadable to it
abbrev pub answer_to : Asked → Option (List ℕ)
answer_to pass = None
answer_to (read packet) = Some (reading_text (reading packet))
answer_to _ = Some (codes "unreadable\n")

-- the answer to a packet that is to be read, if there is one
abbrev pub packet_answer : {Z : Type 0} → Option (Vec ℕ Z) → Option (List ℕ)
packet_answer None = None
packet_answer (Some packet) = Some (reading_text (reading (vec_items packet)))

-- a packet that was found, or none, comes to that answer; where memory ran out nothing is told of it
abbrev pub AnswersBy : {Z : Type 0} → Result (Option (Vec ℕ Z)) ParseError → Option (List ℕ) → Type 0
AnswersBy = Says packet_answer (Some (codes "unreadable\n"))
