-- Why a line is no command.
use Rattle.std.specs.Prelude.{◌≡◌, Some, None, Ok, Err, Option, Result, ℕ, List, codes}
use Rattle.hex.specs.declared.error.FromHexError.{FromHexError}
use Rattle.hex.specs.declared.error.FromHexError.TheVariants as hex
use Rattle.script.specs.declared.error.ParseError.{ParseError}
use Rattle.script.specs.declared.error.ParseError.TheVariants.{Unreadable, OutOfMemory}

abbrev pub parse_fault_text : ParseError → List ℕ
parse_fault_text Unreadable = codes "unreadable"
parse_fault_text OutOfMemory = codes "memory allocation failed"

-- digits that write no bytes make a line unreadable
abbrev pub hex_fault : FromHexError → ParseError
hex_fault hex.OutOfMemory = OutOfMemory
hex_fault (hex.InvalidHexCharacter c i) = Unreadable
hex_fault hex.OddLength = Unreadable
hex_fault hex.InvalidStringLength = Unreadable

-- a result tells, by a function of its value, what was read, or the value that stands for what can't be read; where memory ran out it tells nothing
abbrev pub Says : {T U : Type 0} → (T → U) → U → Result T ParseError → U → Type 0
Says f unread (Ok x) u = f x ≡ u
Says f unread (Err Unreadable) u = unread ≡ u
Says f unread (Err OutOfMemory) u = Unit {0}

-- the same of what a text says, if it says something
abbrev pub Reads : {T U : Type 0} → (T → U) → Result T ParseError → Option U → Type 0
Reads f = Says (λ x. Some (f x)) None

-- what can be read, or else why not
abbrev pub readable : {T : Type 0} → Option T → Result T ParseError
readable None = Err Unreadable
readable (Some x) = Ok x
