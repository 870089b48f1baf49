-- Worked cases of a shelf's refusals and their order, of the lengths, and of the total under a quota.
use Rattle.std.specs.Prelude.{◌≡◌, ℕ, true, false, List, [], ◌∷◌, ◌++◌, map, replicate, Some, None, Ok, Err}
use Rattle.shelf.specs.declared.PutFault.TheVariants.{Length, Held, Full}
use Rattle.shelf.specs.declared.TakeFault.TheVariants.{Short}
use Rattle.shelf.specs.Store.{Store, above, used, priced, with_held, put_answer, put_after, take_answer, take_buffer, take_after, put_fault_number, take_fault_number, capped}
use Rattle.common.specs.Lengths.{right}

-- the shortest packet
abbrev pub shortest : List ℕ
shortest = replicate 16 7

-- a shelf that holds packet 5, of three units as each packet is, and has so many units
abbrev pub holding : ℕ → Store
holding total = record { held = (5, shortest) ∷ []; total = total; price = λ _. 3 }

-- each case by computing
pub record Cases : Type 0 where
  -- the numbers of the refusals
  pub put_numbers : map put_fault_number (Length ∷ Held ∷ Full ∷ []) ≡ 2 ∷ 11 ∷ 13 ∷ []
  pub take_number : take_fault_number Short ≡ 1
  -- lengths
  pub lengths : map right (15 ∷ 16 ∷ 1500 ∷ 1501 ∷ []) ≡ false ∷ true ∷ true ∷ false ∷ []
  pub prices : map (priced (holding 6)) (15 ∷ 16 ∷ 1500 ∷ 1501 ∷ []) ≡ 0 ∷ 3 ∷ 3 ∷ 0 ∷ []
  -- a put: whatever else is wrong, the first of the refusals is told
  pub put_length : put_answer (holding 5) 5 [] ≡ Err Length
  pub put_held : put_answer (holding 5) 5 shortest ≡ Err Held
  pub put_full : put_answer (holding 5) 6 shortest ≡ Err Full
  pub put_taken : put_answer (holding 6) 6 shortest ≡ Ok tt
  pub put_kept : put_after (holding 6) 4 shortest ≡ with_held (holding 6) ((4, shortest) ∷ (5, shortest) ∷ [])
  pub put_units : used (put_after (holding 6) 4 shortest) ≡ 6
  -- a take, of a buffer that is long enough and of one that is not
  pub take_short : take_answer (holding 6) 5 (replicate 1499 0) ≡ Err Short
  pub take_absent : take_answer (holding 6) 4 (replicate 1500 0) ≡ Ok None
  pub take_taken : take_answer (holding 6) 5 (replicate 1500 0) ≡ Ok (Some 16)
  pub take_rest : take_buffer (holding 6) 5 (replicate 1500 0) ≡ shortest ++ replicate 1484 0
  pub take_gone : take_after (holding 6) 5 (replicate 1500 0) ≡ with_held (holding 6) []
  -- the least above
  pub above_equal : above (holding 6).held 5 ≡ None
  pub above_less : above (holding 6).held 4 ≡ Some 5
  -- a quota: its limit, but no less than the longest packet's price, and no more than the total below
  pub quota_totals : map (λ limit. (capped limit (holding 6)).total) (0 ∷ 3 ∷ 4 ∷ 6 ∷ 7 ∷ []) ≡ 3 ∷ 3 ∷ 4 ∷ 6 ∷ 6 ∷ []
