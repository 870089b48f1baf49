-- Some rows.
use Rattle.std.specs.Prelude.{◌≡◌, ℕ, List, [], ◌∷◌, ◌++◌, codes}
use Rattle.wire.specs.Reading.{reset, unavailable, mapping, full, delta}
use Rattle.sink.specs.Events.{data_of, loss_of, refresh_of, restart_of}
use Rattle.journal.specs.RunTexts.{run_row}
use Rattle.journal.specs.LossTexts.{loss_row}

-- a level to buy 100 at 27.56, and one to sell 200 at 27.58, as a full update has them at scale 2
abbrev pub buys : List ℕ
buys = 0 ∷ 0 ∷ 10 ∷ 196 ∷ 0 ∷ 0 ∷ 0 ∷ 100 ∷ 0 ∷ 3 ∷ 66 ∷ 0 ∷ []

abbrev pub sells : List ℕ
sells = 0 ∷ 0 ∷ 10 ∷ 198 ∷ 0 ∷ 0 ∷ 0 ∷ 200 ∷ 0 ∷ 1 ∷ 83 ∷ 0 ∷ []

-- an execution of 25 that leaves the first of them, with the link 7, as a delta has it
abbrev pub executes : List ℕ
executes = 0 ∷ 0 ∷ 10 ∷ 196 ∷ 0 ∷ 0 ∷ 0 ∷ 100 ∷ 0 ∷ 0 ∷ 0 ∷ 25 ∷ 0 ∷ 3 ∷ 66 ∷ 69 ∷ 0 ∷ 0 ∷ 0 ∷ 7 ∷ 0 ∷ 0 ∷ 0 ∷ 0 ∷ 0 ∷ 0 ∷ 0 ∷ 0 ∷ []

-- an order that adds 30 at 27.58
abbrev pub orders : List ℕ
orders = 0 ∷ 0 ∷ 10 ∷ 198 ∷ 0 ∷ 0 ∷ 0 ∷ 230 ∷ 0 ∷ 0 ∷ 0 ∷ 30 ∷ 0 ∷ 2 ∷ 83 ∷ 79 ∷ 0 ∷ 0 ∷ 0 ∷ 0 ∷ 0 ∷ 0 ∷ 0 ∷ 0 ∷ 0 ∷ 0 ∷ 0 ∷ 0 ∷ []

-- a row of a run for each kind of event and of message
pub record RunWorked : Type 0 where
  pub whole : run_row (data_of 17 (full 5 2 (buys ++ sells))) ≡ codes "17,data,full,5,buy 27.560000000 100 3;sell 27.580000000 200 1\n"
  pub empty : run_row (data_of 17 (full 5 2 [])) ≡ codes "17,data,full,5,\n"
  pub changed : run_row (data_of 18 (delta 5 2 (executes ++ orders))) ≡ codes "18,data,delta,5,buy 27.560000000 100 3 E 25 7;sell 27.580000000 230 2 O 30 0\n"
  pub mapped : run_row (data_of 19 mapping) ≡ codes "19,data,mapping,,\n"
  pub lost : run_row (loss_of 20) ≡ codes "20,loss,,,\n"
  pub refreshed : run_row (refresh_of 17 (full 5 0 buys)) ≡ codes "17,refresh,full,5,buy 2756.000000000 100 3\n"
  pub restarted : run_row (restart_of 1) ≡ codes "1,restart,,,\n"
  pub reset_told : run_row (data_of 17 (reset 40)) ≡ codes "17,data,reset,,\n"
  pub range_told : run_row (data_of 17 (unavailable 20 30)) ≡ codes "17,data,unavailable,,\n"

-- a row of lost numbers, and events that have none
pub record LossWorked : Type 0 where
  pub lost : loss_row (loss_of 20) ≡ codes "loss,,,20,20,,,\n"
  pub mapped : loss_row (data_of 19 mapping) ≡ []
  pub refreshed : loss_row (refresh_of 17 (full 5 0 buys)) ≡ []
  pub restarted : loss_row (restart_of 1) ≡ []
