-- Machines that take events in, and views of one that move as another does.
use Rattle.std.specs.Prelude.{◌≡◌}
use Rattle.sink.specs.Events.{Event}

-- a step of two machines at once
abbrev pub both : {M N : Type 0} → (Event → M → M) → (Event → N → N) → Event → M × N → M × N
both first second e m = (first e m.0, second e m.1)

-- what is viewed of a machine moves as another machine: a step and then a look is a look and then the other's step
abbrev pub Moves : {M N : Type 0} → (Event → M → M) → (Event → N → N) → (M → N) → Type 0
Moves {M = M} step other view = (e : Event) (m : M) → view (step e m) ≡ other e (view m)

-- a view of the first, and of the second, of two machines moves in both as it does alone
abbrev pub FirstMoves : {M N V : Type 0} → (Event → M → M) → (Event → N → N) → (Event → V → V) → Type 0
FirstMoves {M = M} {V = V} first second other = (view : M → V) → Moves first other view → Moves (both first second) other (λ m. view m.0)

abbrev pub SecondMoves : {M N V : Type 0} → (Event → M → M) → (Event → N → N) → (Event → V → V) → Type 0
SecondMoves {N = N} {V = V} first second other = (view : N → V) → Moves second other view → Moves (both first second) other (λ m. view m.1)
