-- The text of answers.
use Rattle.std.specs.Prelude.{ℕ, ◌+◌, ◌/◌, ◌%◌, List, [], ◌∷◌, ◌++◌, length, Ok, Err, codes, decimal, Result}
use Rattle.std.specs.List.{flat_map}
use Rattle.wire.specs.declared.fault.ReadFault.{ReadFault}
use Rattle.wire.specs.declared.point.Side.{Side}
use Rattle.wire.specs.declared.point.PricePoint.{PricePoint}
use Rattle.wire.specs.declared.point.DeltaPoint.{DeltaPoint}
use Rattle.wire.specs.Texts.{side_text, reason_text, fault_text}
use Rattle.wire.specs.Prices.{price}
use Rattle.wire.specs.Points.{points_in_full, points_in_delta}
use Rattle.wire.specs.Reading.{Msg, Pkt, reset, unavailable, mapping, full, delta}

-- the digits of a number at the given places
abbrev pub places_from : ℕ → List ℕ → List ℕ
places_from n [] = []
places_from n (p ∷ ps) = (48 + n / p % 10) ∷ places_from n ps

abbrev pub decimals : List ℕ
decimals = 100000000 ∷ 10000000 ∷ 1000000 ∷ 100000 ∷ 10000 ∷ 1000 ∷ 100 ∷ 10 ∷ 1 ∷ []

-- dollars with nine decimals
abbrev pub price_text : ℕ → List ℕ
price_text n = decimal (n / 1000000000) ++ (codes "." ++ places_from n decimals)

-- a level: the side, the price in billionths, the volume and the count of orders
abbrev pub level_words : Side → ℕ → ℕ → ℕ → List ℕ
level_words side billionths volume orders =
    side_text side ++ (codes " " ++ (price_text billionths ++ (codes " " ++ (decimal volume ++ (codes " " ++ decimal orders)))))

-- the same behind two blanks
abbrev pub priced_level_text : Side → ℕ → ℕ → ℕ → List ℕ
priced_level_text side billionths volume orders = codes "  " ++ level_words side billionths volume orders

-- the level that a point names, at the scale of its message
abbrev pub level_text : ℕ → PricePoint → List ℕ
level_text scale p = priced_level_text p.side (price p.numerator scale) p.volume p.orders

-- what changed a level: the reason, the changed quantity and the link
abbrev pub change_words : DeltaPoint → List ℕ
change_words p = codes " " ++ (reason_text p.reason ++ (codes " " ++ (decimal p.changed ++ (codes " " ++ decimal p.link))))

-- the level of a delta's point, and what changed it
abbrev pub delta_text : ℕ → DeltaPoint → List ℕ
delta_text scale p = level_text scale p.level ++ change_words p

-- an update by its kind, number, flag, link flag, index, scale and count of points
abbrev pub update_text : List ℕ → Pkt → ℕ → ℕ → ℕ → List ℕ
update_text kind q index scale count =
    kind ++ (codes " number=" ++ (decimal q.number ++ (codes " flag=" ++ (decimal q.flag ++ (codes " link=" ++ (decimal q.link ++
    (codes " index=" ++ (decimal index ++ (codes " scale=" ++ (decimal scale ++ (codes " points=" ++ decimal count)))))))))))

-- what a packet with this message is, in one line
abbrev pub heading_of : Msg → Pkt → List ℕ
heading_of (reset next) q = codes "reset number=" ++ (decimal q.number ++ (codes " next=" ++ decimal next))
heading_of (unavailable b e) q =
    codes "unavailable number=" ++ (decimal q.number ++ (codes " begin=" ++ (decimal b ++ (codes " end=" ++ decimal e))))
heading_of mapping q = codes "mapping number=" ++ decimal q.number
heading_of (full index scale ps) q = update_text (codes "full") q index scale (length (points_in_full ps))
heading_of (delta index scale ps) q = update_text (codes "delta") q index scale (length (points_in_delta ps))

abbrev pub heading : Pkt → List ℕ
heading q = heading_of q.message q

-- a line for each point that a line says so
abbrev pub point_lines : {P : Type 0} → (P → List ℕ) → List P → List ℕ
point_lines f ps = flat_map (λ p. f p ++ codes "\n") ps

-- a line for each point of a message
abbrev pub points_text : Msg → List ℕ
points_text (reset next) = []
points_text (unavailable b e) = []
points_text mapping = []
points_text (full index scale ps) = point_lines (level_text scale) (points_in_full ps)
points_text (delta index scale ps) = point_lines (delta_text scale) (points_in_delta ps)

-- the answer to the reading of a packet, each line ended
abbrev pub reading_text : Result Pkt ReadFault → List ℕ
reading_text (Ok q) = heading q ++ (codes "\n" ++ points_text q.message)
reading_text (Err f) = fault_text f ++ codes "\n"
