-- What is promised of a channel that follows a history.
use Rattle.std.specs.Prelude.{◌≡◌, ℕ, Bool, true, [], ◌∷◌, Some}
use Rattle.sink.specs.Events.{Event}
use Rattle.order.specs.Machine.{Call, made, History, machine, led}
use Rattle.order.specs.Promise.{InOrder, Reaches}
use Rattle.channel.specs.States.{State, last_of}
use Rattle.channel.specs.Follows.{Follows}
use Rattle.order.specs.Books.{BooksRight}

-- The promise, in three parts. The sink's meaning is its steps over the order, from what it meant before the making, and the order is as it should be.
-- Last is the machine's, and the largest number up to which every number was taken or declared unavailable. Whole books are the stream's after last.
pub record Promise {M : Type 0} (step : Event → M → M) (before : M) (h : History) (c : State M) : Type 0 where
  pub sink : c.sink ≡ led step (machine h).order before
  pub order : InOrder h
  pub last : last_of c.opened ≡ Some (machine h).last
  pub reaches : Reaches h
  pub books : BooksRight step c.sink h (machine h).last

-- whatever follows a history keeps the promise
abbrev pub PromiseStands : {M : Type 0} → (Event → M → M) → Type 0
PromiseStands {M = M} step = (before : M) (h : History) (c : State M) → Follows step before h c → Promise step before h c

-- THE CLAUSE of a call that leads from one state to another, for whatever history the channel follows and whoever made its earlier calls: the
-- channel follows the history with the call added, and keeps the promise of it.
abbrev pub GoesOn : {M : Type 0} → (Event → M → M) → Call → State M → State M → Type 0
GoesOn {M = M} step call c d = (before : M) (h : History) → Follows step before h c → Follows step before (call ∷ h) d × Promise step before (call ∷ h) d

-- the same of a making that is taken, which begins a history at what the sink meant before
abbrev pub Begins : {M : Type 0} → (Event → M → M) → ℕ → Bool → State M → State M → Type 0
Begins step n t c d = t ≡ true → Follows step c.sink (made n true ∷ []) d × Promise step c.sink (made n true ∷ []) d
