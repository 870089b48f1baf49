-- What one of two shelves means.
use Rattle.std.specs.Prelude.{vec_items}
use Rattle.shelf.specs.Store.{Store}
use Rattle.slot_shelf.specs.Slots.{slot_store}
use Rattle.slot_shelf.specs.declared.SlotShelf.{SlotShelf}
use Rattle.chain_shelf.specs.Chain.{store}
use Rattle.chain_shelf.specs.declared.chain_shelf.ChainShelf.{ChainShelf}
use Rattle.any_shelf.specs.declared.Either.{Either}
use Rattle.any_shelf.specs.declared.Either.TheVariants.{First, Second}

-- what the shelf that it has means
abbrev pub either_store : {A B : Type 0} → (A → Store) → (B → Store) → Either A B → Store
either_store first second (First a) = first a
either_store first second (Second b) = second b

-- what slots or a chain mean
abbrev pub any_store : Either SlotShelf ChainShelf → Store
any_store = either_store (λ s. slot_store s.slots.items) (λ s. store (vec_items s.region))
