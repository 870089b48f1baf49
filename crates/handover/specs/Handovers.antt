-- What a handover means, as what flows on, beside a scratch buffer.
use Rattle.std.specs.Prelude.{ℕ, List}
use Rattle.sink.specs.declared.Sink.{Ghosts as Sink}
use Rattle.shelf.specs.declared.Shelf.{Ghosts as Shelf}
use Rattle.handover.specs.declared.handover.Handover.{Handover}
use Rattle.handover.specs.Flows.{Flow}

module _ {X Y : Type 0} (sink : Sink X) (shelf : Shelf Y) where
  -- what flows on
  abbrev pub flow : Handover X Y → List ℕ → Flow sink.Meaning
  flow x scratch = record { last = x.last; shelf = shelf.means x.shelf; sink = sink.means x.sink; scratch = scratch }
