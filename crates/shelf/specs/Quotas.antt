-- Why a quota keeps the law of shelves.
use Rattle.std.specs.Prelude.{ℕ}
use Rattle.std.proofs.Common.{arith}
use Rattle.common.specs.declared.TheConstants.{LONGEST}
use Rattle.shelf.specs.Store.{Store, Lawful, capped}

-- what a quota on a lawful shelf means is lawful
pub quota_lawful : (limit : ℕ) (s : Store) → Lawful s → Lawful (capped limit s)
quota_lawful limit s w = record {
  least = w.least;
  most = λ n a b. let m = w.most n a b in let g = w.grows n LONGEST a b (omega arith) in omega arith;
  grows = w.grows;
  fits = let f = w.fits in omega arith;
  spent = w.spent;
  up = w.up;
  sized = w.sized;
}
