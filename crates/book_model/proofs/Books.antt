-- What holds of each of a keeper's books.
use Rattle.std.proofs.Common.{ℕ, zero, suc, List, [], ◌∷◌, get_or, replicate}
use Rattle.std.specs.List.{AllByRecursion}
use Rattle.std.proofs.ByRecursion.{All-set}
use Rattle.book_model.specs.Entering.{Known, unknown}
use Rattle.book_model.specs.Keepers.{changed_at}

module _ (P : Known → Type 0) (none : P unknown) where
  pub all_none : (n : ℕ) → AllByRecursion P (replicate n unknown)
  all_none zero = tt
  all_none (suc n) = (none, all_none n)

  pub one_of : (bs : List Known) (i : ℕ) → AllByRecursion P bs → P (get_or bs i unknown)
  one_of [] i a = none
  one_of (b ∷ bs) zero a = a.0
  one_of (b ∷ bs) (suc i) a = one_of bs i a.1

  pub all_changed : (i : ℕ) (f : Known → Known) (bs : List Known) → ((b : Known) → P b → P (f b)) → AllByRecursion P bs → AllByRecursion P (changed_at i f bs)
  all_changed zero f bs h a = a
  all_changed (suc i) f bs h a = All-set P bs i _ (h _ (one_of bs i a)) a
