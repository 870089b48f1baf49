-- The rows of lost numbers.
use Rattle.std.specs.Prelude.{List, [], ◌++◌, codes, decimal, ℕ}
use Rattle.sink.specs.Events.{Event, data_of, loss_of, refresh_of, restart_of}

-- a lost number is a range of one; nothing is said of any other event
abbrev pub loss_row : Event → List ℕ
loss_row (data_of n m) = []
loss_row (loss_of n) = codes "loss,,," ++ (decimal n ++ (codes "," ++ (decimal n ++ codes ",,,\n")))
loss_row (refresh_of n m) = []
loss_row (restart_of n) = []
