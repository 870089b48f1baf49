-- The calls of the trait, from the facts that their code finds.
use Rattle.std.proofs.Common.{◌≡◌, ℕ, ◌-◌, ◌/◌, ◌≤◌, true, List, length, Ok, Option, ap, arith}
use Rattle.std.proofs.lemmas.Bool.Decides.{nat_tests}
use Rattle.std.proofs.lemmas.Bool.{le-leb}
use Rattle.chain_shelf.specs.Records.{span}
use Rattle.shelf.specs.Store.{Packets, remove, lookup, with_held, take_answer, take_buffer, take_after, length_of, written}
use Rattle.common.specs.Lengths.{right}
use Rattle.chain_shelf.specs.Chain.{held, store}

pub store_is : (b d : List ℕ) (h : Packets) → held d ≡ h → length d ≡ length b → store d ≡ with_held (store b) h
store_is b d h e l = λ i. record { held = e i; total = l i / 64 - 1; price = span 10 }

pub right_least : (n : ℕ) → right n ≡ true → 16 ≤ n
right_least n r = grind (arith, nat_tests)

pub right_most : (n : ℕ) → right n ≡ true → n ≤ 1500
right_most n r = grind (arith, nat_tests)

pub take_ok : (b : List ℕ) (k : ℕ) (B : List ℕ) (o : Option ℕ) → 1500 ≤ length B → o ≡ length_of (lookup (held b) k) → Ok o ≡ take_answer (store b) k B
take_ok b k B o l e = let t = le-leb 1500 (length B) l in simp t (ap Ok e)

pub take_wrote : (b : List ℕ) (k : ℕ) (B C : List ℕ) → 1500 ≤ length B → C ≡ written (lookup (held b) k) B → C ≡ take_buffer (store b) k B
take_wrote b k B C l e = let t = le-leb 1500 (length B) l in simp t e

pub take_done : (b d : List ℕ) (k : ℕ) (B : List ℕ) → 1500 ≤ length B → held d ≡ remove k (held b) → length d ≡ length b → store d ≡ take_after (store b) k B
take_done b d k B l h n = let t = le-leb 1500 (length B) l in simp t (store_is b d (remove k (held b)) h n)
