-- Why one of two shelves keeps the law of shelves.
use Rattle.shelf.specs.Store.{Store, Lawful}
use Rattle.any_shelf.specs.Either.{either_store}
use Rattle.any_shelf.specs.declared.Either.{Either}
use Rattle.any_shelf.specs.declared.Either.TheVariants.{First, Second}

-- what one of two lawful shelves means is lawful
pub either_lawful : {A B : Type 0} (first : A → Store) (second : B → Store) → ((a : A) → Lawful (first a)) → ((b : B) → Lawful (second b)) → (s : Either A B) → Lawful (either_store first second s)
either_lawful first second f g (First a) = f a
either_lawful first second f g (Second b) = g b
