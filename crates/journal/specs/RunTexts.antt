-- The rows of a run.
use Rattle.std.specs.Prelude.{ℕ, List, [], ◌∷◌, ◌++◌, codes, decimal}
use Rattle.std.specs.List.{flat_map}
use Rattle.wire.specs.declared.point.PricePoint.{PricePoint}
use Rattle.wire.specs.declared.point.DeltaPoint.{DeltaPoint}
use Rattle.wire.specs.Prices.{price}
use Rattle.wire.specs.Points.{points_in_full, points_in_delta}
use Rattle.wire.specs.Reading.{Msg, reset, unavailable, mapping, full, delta}
use Rattle.sink.specs.Events.{Event, data_of, loss_of, refresh_of, restart_of}
use Rattle.console.specs.Texts.{level_words, change_words}

-- a level: the side, the price, the volume and the count of orders
abbrev pub level_text : ℕ → PricePoint → List ℕ
level_text scale p = level_words p.side (price p.numerator scale) p.volume p.orders

-- a change: the level, then reason, changed quantity and link
abbrev pub change_text : ℕ → DeltaPoint → List ℕ
change_text scale p = level_text scale p.level ++ change_words p

-- a semicolon before each of some points
abbrev pub behind : {P : Type 0} → (P → List ℕ) → List P → List ℕ
behind text ps = flat_map (λ p. codes ";" ++ text p) ps

-- points parted by semicolons
abbrev pub joined : {P : Type 0} → (P → List ℕ) → List P → List ℕ
joined text [] = []
joined text (p ∷ ps) = text p ++ behind text ps

-- the type, the index and the points of an update
abbrev pub update_text : List ℕ → ℕ → List ℕ → List ℕ
update_text kind index points = kind ++ (codes "," ++ (decimal index ++ (codes "," ++ points)))

-- the type of a message, and the index and the points of an update
abbrev pub message_text : Msg → List ℕ
message_text (reset n) = codes "reset,,"
message_text (unavailable b e) = codes "unavailable,,"
message_text mapping = codes "mapping,,"
message_text (full index scale ps) = update_text (codes "full") index (joined (level_text scale) (points_in_full ps))
message_text (delta index scale ps) = update_text (codes "delta") index (joined (change_text scale) (points_in_delta ps))

-- the row of a message: its number, its event and what it says
abbrev pub message_row : List ℕ → ℕ → Msg → List ℕ
message_row event number m = decimal number ++ (event ++ (message_text m ++ codes "\n"))

-- the row of an event
abbrev pub run_row : Event → List ℕ
run_row (data_of n m) = message_row (codes ",data,") n m
run_row (loss_of n) = decimal n ++ codes ",loss,,,\n"
run_row (refresh_of n m) = message_row (codes ",refresh,") n m
run_row (restart_of n) = decimal n ++ codes ",restart,,,\n"
