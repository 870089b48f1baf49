-- What a line of a script asks.
use Rattle.std.specs.Prelude.{ℕ, cond, List, [], ◌∷◌, Some, None, vec_items, codes, Option, Result}
use Rattle.std.specs.Str.{bytes_eq}
use Rattle.script.specs.declared.command.Command.{Command}
use Rattle.script.specs.declared.command.Command.TheVariants as code
use Rattle.script.specs.declared.error.ParseError.{ParseError}
use Rattle.script.specs.declared.setup.Setup.{Setup}
use Rattle.script.specs.declared.verb.Verb.{Verb}
use Rattle.script.specs.declared.verb.Verb.TheVariants as verb
use Rattle.console.specs.Words.{words_in}
use Rattle.script.specs.Faults.{Says}
use Rattle.script.specs.Words.{begins}
use Rattle.script.specs.Numbers.{number_in}
use Rattle.script.specs.Fields.{only_number, packet_in, source_in, setup_in}

-- what a line asks: nothing, something unreadable, or one of the commands
pub data Asked : Type 0 where
  pass : Asked
  unreadable : Asked
  read : List ℕ → Asked
  setup : Setup → Asked
  make : ℕ → List ℕ → ℕ → Asked
  offer : List ℕ → Asked
  claim : ℕ → Asked
  settle : Asked
  restart : ℕ → Asked
  book : ℕ → Asked
  row : ℕ → Asked
  state : Asked

abbrev pub told_command : Command → Asked
told_command (code.Read packet) = read (vec_items packet)
told_command (code.Setup sizes) = setup sizes
told_command (code.Make number source first) = make number (vec_items source) first
told_command (code.Offer packet) = offer (vec_items packet)
told_command (code.Claim time) = claim time
told_command code.Settle = settle
told_command (code.Restart number) = restart number
told_command (code.Book index) = book index
told_command (code.Row index) = row index
told_command code.State = state

-- what a line comes to that may ask nothing
abbrev pub told_line : Option Command → Asked
told_line None = pass
told_line (Some c) = told_command c

-- a command that was read is what its words ask; where memory ran out nothing is told of them
abbrev pub Tells : Result Command ParseError → Asked → Type 0
Tells = Says told_command unreadable

-- the same of a line
abbrev pub TellsLine : Result (Option Command) ParseError → Asked → Type 0
TellsLine = Says told_line unreadable

-- the first word of a command
abbrev pub verb_of : List ℕ → Option Verb
verb_of w =
    cond (bytes_eq w (codes "read")) (Some verb.Read)
    (cond (bytes_eq w (codes "setup")) (Some verb.Setup)
    (cond (bytes_eq w (codes "make")) (Some verb.Make)
    (cond (bytes_eq w (codes "offer")) (Some verb.Offer)
    (cond (bytes_eq w (codes "claim")) (Some verb.Claim)
    (cond (bytes_eq w (codes "settle")) (Some verb.Settle)
    (cond (bytes_eq w (codes "restart")) (Some verb.Restart)
    (cond (bytes_eq w (codes "book")) (Some verb.Book)
    (cond (bytes_eq w (codes "row")) (Some verb.Row)
    (cond (bytes_eq w (codes "state")) (Some verb.State)
    None)))))))))

-- a command of what can be read behind its first word
abbrev pub asks : {T : Type 0} → (T → Asked) → Option T → Asked
asks f None = unreadable
asks f (Some x) = f x

-- a command that no word may follow
abbrev pub bare : Asked → List (List ℕ) → Asked
bare a [] = a
bare a (w ∷ ws) = unreadable

abbrev pub make_of : Option ℕ → Option ℕ → Option (List ℕ) → Asked
make_of None first source = unreadable
make_of (Some n) None source = unreadable
make_of (Some n) (Some f) None = unreadable
make_of (Some n) (Some f) (Some s) = make n s f

-- a number of 8 bits, a source id and a number of 32 bits
abbrev pub make_in : List (List ℕ) → Asked
make_in [] = unreadable
make_in (n ∷ []) = unreadable
make_in (n ∷ (s ∷ ws)) = make_of (number_in 8 n) (only_number 32 ws) (source_in s)

abbrev pub by_verb : Verb → List (List ℕ) → Asked
by_verb verb.Read ws = asks read (packet_in ws)
by_verb verb.Setup ws = asks setup (setup_in ws)
by_verb verb.Make ws = make_in ws
by_verb verb.Offer ws = asks offer (packet_in ws)
by_verb verb.Claim ws = asks claim (only_number 32 ws)
by_verb verb.Settle ws = bare settle ws
by_verb verb.Restart ws = asks restart (only_number 32 ws)
by_verb verb.Book ws = asks book (only_number 16 ws)
by_verb verb.Row ws = asks row (only_number 16 ws)
by_verb verb.State ws = bare state ws

abbrev pub asked : List (List ℕ) → Asked
asked [] = pass
asked (w ∷ ws) = asks (λ v. by_verb v ws) (verb_of w)

-- a line that begins with `#` is passed over, and so is one without a word
abbrev pub command_in : List ℕ → Asked
command_in line = cond (begins 35 line) pass (asked (words_in line))
