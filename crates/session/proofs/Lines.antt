-- The promise of the call that a line makes.
use Rattle.std.proofs.Common.{◌≡◌, Some, None, Ok, Err, [], Option, sym, refl, subst}
use Rattle.handover.specs.Words.{either}
use Rattle.channel.specs.States.{State}
use Rattle.operator.specs.declared.action.Action.{Action}
use Rattle.operator.specs.Desks.{Desk, desk_after, call_of, GoesBy}
use Rattle.operator.proofs.Calls.{goes_nowhere, goes_action}
use Rattle.session.specs.Commands.{Board, told, command_action}
use Rattle.session.specs.Lines.{Parsed, calls_by, left_by}

goes_if : (x : Option Action) (d : Desk Board) → GoesBy told (either x [] (λ a. call_of told a d)) d.channel (either x d (λ a. desk_after told a d)).channel
goes_if None d = goes_nowhere told d.channel
goes_if (Some a) d = goes_action told a d (desk_after told a d).channel refl

goes_left : (asked : Parsed) (d : Desk Board) → GoesBy told (calls_by asked d) d.channel (left_by asked d).channel
goes_left (Ok None) d = goes_nowhere told d.channel
goes_left (Ok (Some command)) d = goes_if (command_action command) d
goes_left (Err fault) d = goes_nowhere told d.channel

pub goes_line : (asked : Parsed) (d : Desk Board) (e : State Board) → e ≡ (left_by asked d).channel → GoesBy told (calls_by asked d) d.channel e
goes_line asked d e is = subst (GoesBy told (calls_by asked d) d.channel) (sym is) (goes_left asked d)
