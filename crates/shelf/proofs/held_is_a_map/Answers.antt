use Rattle.shelf.proofs.Kept.{held_is_a_map}
use Rattle.shelf.proofs.held_is_a_map.Goals as goal

pub returns : goal.returns
returns c = held_is_a_map
