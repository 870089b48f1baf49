-- A command by its first word.
use Rattle.std.proofs.Common.{◌≡◌, Ok, Some, None, Option, Result, subst}
use Rattle.script.specs.declared.command.Command.{Command}
use Rattle.script.specs.declared.verb.Verb.{Verb}
use Rattle.script.specs.declared.error.ParseError.{ParseError}
use Rattle.script.specs.Faults.{readable}
use Rattle.script.specs.Commands.{Asked, Tells, asks}

pub told_some : (o : Option Verb) (v : Verb) (f : Verb → Asked) (r : Result Command ParseError) → Ok v ≡ readable o → Tells r (f v) → Tells r (asks f o)
told_some None v f r e h = cc
told_some (Some w) v f r e h = let P : Verb → Type 0 = λ x. Tells r (f x) in subst P (cc) h
