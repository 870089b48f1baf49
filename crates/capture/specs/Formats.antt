-- The header of a file. Offsets count from its start.
use Rattle.std.specs.Prelude.{ℕ, ◌%◌, cond, ◌||◌, List, length, Some, None, Ok, Err, Option, Result, ◌==◌, nat_lt}
use Rattle.std.specs.Option.{option_map, option_or}
use Rattle.capture.specs.declared.format.Order.{Order}
use Rattle.capture.specs.declared.format.Order.TheVariants.{Big, Little}
use Rattle.capture.specs.declared.format.Unit as unit
use Rattle.capture.specs.declared.format.Unit.TheVariants.{Micros, Nanos}
use Rattle.capture.specs.declared.format.Link.{Link}
use Rattle.capture.specs.declared.format.Link.TheVariants as link
use Rattle.capture.specs.declared.format.Format.{Format}
use Rattle.capture.specs.declared.format.FormatFault.{FormatFault}
use Rattle.capture.specs.declared.format.FormatFault.TheVariants as fault
use Rattle.capture.specs.Numbers.{u32_at}

-- the unit that a magic number tells: a1b2c3d4 is microseconds, a1b23c4d nanoseconds
unfoldable pub unit_of : ℕ → Option unit.Unit
unit_of n = cond (n == 2712847316) (Some Micros) (cond (n == 2712812621) (Some Nanos) None)

-- the order and the unit, of the number in the one order and in the other
unfoldable pub magic_of : ℕ → ℕ → Option (Order × unit.Unit)
magic_of big little = option_or (option_map (λ u. (Big, u)) (unit_of big)) (option_map (λ u. (Little, u)) (unit_of little))

-- the first four bytes are a magic number in one order or the other
abbrev pub magic_in : List ℕ → Option (Order × unit.Unit)
magic_in xs = magic_of (u32_at Big xs 0) (u32_at Little xs 0)

-- the link types that are read
unfoldable pub link_of : ℕ → Result Link FormatFault
link_of n =
    cond (n == 1) (Ok link.Ethernet)
    (cond (n == 101 || n == 228 || n == 12 || n == 14) (Ok link.Ipv4)
    (cond (n == 113) (Ok link.Cooked)
    (cond (n == 276) (Ok link.CookedTwo)
    (Err (fault.Link n)))))

abbrev pub and_then : {A B E : Type 0} → Result A E → (A → Result B E) → Result B E
and_then (Ok a) f = f a
and_then (Err e) f = Err e

abbrev pub or_fault : {A E : Type 0} → E → Option A → Result A E
or_fault e (Some a) = Ok a
or_fault e None = Err e

-- the order and the unit from the magic number, and the link type from the lower 16 bits of the last four bytes
abbrev pub format_in : List ℕ → Result Format FormatFault
format_in xs =
    cond (nat_lt (length xs) 24) (Err fault.Short)
    (and_then (or_fault fault.Magic (magic_in xs)) (λ m.
    and_then (link_of (u32_at m.0 xs 20 % 65536)) (λ l.
    Ok (record { order = m.0; unit = m.1; link = l }))))
