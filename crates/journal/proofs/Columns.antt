-- The columns of a run's rows have no comma and no line end.
use Rattle.std.proofs.Common.{◌≡◌, ℕ, zero, suc, ◌+◌, ◌/◌, ◌%◌, ◌<◌, Bool, true, false, not, ◌&&◌, cond, List, [], ◌∷◌, ◌++◌, codes, decimal, refl, ap, ◌∙◌, arith, append_assoc, ◌==◌, nat_lt}
use Rattle.std.specs.Fmt.{digits, digits_onto}
use Rattle.std.proofs.lemmas.Bool.{cond_both}
use Rattle.std.proofs.lemmas.Bool.Decides.{nat_tests}
use Rattle.wire.specs.declared.point.Side.{Side}
use Rattle.wire.specs.declared.point.Side.TheVariants.{Buy, Sell}
use Rattle.wire.specs.declared.point.Reason.{Reason}
use Rattle.wire.specs.declared.point.Reason.TheVariants.{Order, Cancel, Execution, Multiple}
use Rattle.wire.specs.declared.point.PricePoint.{PricePoint}
use Rattle.wire.specs.declared.point.DeltaPoint.{DeltaPoint}
use Rattle.wire.specs.Texts.{side_text, reason_text}
use Rattle.wire.specs.Prices.{price}
use Rattle.wire.specs.Points.{points_in_full, points_in_delta}
use Rattle.wire.specs.Reading.{Msg, reset, unavailable, mapping, full, delta}
use Rattle.console.specs.Texts.{places_from, decimals, price_text}
use Rattle.sink.specs.Events.{data_of, loss_of, refresh_of, restart_of}
use Rattle.journal.specs.RunTexts.{level_text, change_text, behind, joined, message_row}
use Rattle.journal.specs.Columns.{plain, Columns, RunColumns}

-- a byte above the point is plain
plain_byte : (b : ℕ) (bs : List ℕ) → 45 < b → plain bs ≡ true → plain (b ∷ bs) ≡ true
plain_byte b bs h e =
    let f : (not (b == 44) && not (b == 10)) ≡ true = grind (arith, nat_tests) in
    ap (λ (t : Bool). t && plain bs) f ∙ e

first_plain : (p q : Bool) → (p && q) ≡ true → p ≡ true
first_plain true q e = refl
first_plain false q e = e

rest_plain : (p q : Bool) → (p && q) ≡ true → q ≡ true
rest_plain true q e = e
rest_plain false true e = refl
rest_plain false false e = e

both_plain : (bs cs : List ℕ) → plain bs ≡ true → plain cs ≡ true → plain (bs ++ cs) ≡ true
both_plain [] cs e f = f
both_plain (b ∷ bs) cs e f =
    let t = not (b == 44) && not (b == 10) in
    ap (λ (q : Bool). t && q) (both_plain bs cs (rest_plain t (plain bs) e) f)
    ∙ ap (λ (p : Bool). p && true) (first_plain t (plain bs) e)

glyph_above : (d : ℕ) (t : Bool) → 45 < cond t (48 + d) (87 + d)
glyph_above d true = omega arith
glyph_above d false = omega arith

digits_plain : (k n : ℕ) (acc : List ℕ) → plain acc ≡ true → plain (digits_onto k 10 false n acc) ≡ true
digits_plain zero n acc e = e
digits_plain (suc k) n acc e =
    let f = plain_byte _ acc (glyph_above (n % 10) (nat_lt (n % 10) 10)) e in
    cond_both (n / 10 == 0) _ _ (λ (bs : List ℕ). plain bs ≡ true) (λ _. f) (λ _. digits_plain k (n / 10) _ f)

decimal_plain : (n : ℕ) → plain (decimal n) ≡ true
unfolding digits
decimal_plain n = digits_plain 64 n [] refl

places_plain : (n : ℕ) (ps : List ℕ) → plain (places_from n ps) ≡ true
places_plain n [] = refl
places_plain n (p ∷ ps) = plain_byte (48 + n / p % 10) (places_from n ps) (omega arith) (places_plain n ps)

price_plain : (n : ℕ) → plain (price_text n) ≡ true
price_plain n = both_plain (decimal (n / 1000000000)) (codes "." ++ places_from n decimals) (decimal_plain (n / 1000000000)) (both_plain (codes ".") (places_from n decimals) refl (places_plain n decimals))

-- two texts parted by a blank
spaced : (bs cs : List ℕ) → plain bs ≡ true → plain cs ≡ true → plain (bs ++ (codes " " ++ cs)) ≡ true
spaced bs cs e f = both_plain bs (codes " " ++ cs) e f

side_plain : (s : Side) → plain (side_text s) ≡ true
side_plain Buy = refl
side_plain Sell = refl

reason_plain : (r : Reason) → plain (reason_text r) ≡ true
reason_plain Order = refl
reason_plain Cancel = refl
reason_plain Execution = refl
reason_plain Multiple = refl

level_plain : (s : ℕ) (p : PricePoint) → plain (level_text s p) ≡ true
level_plain s p =
    let n = price p.numerator s in
    let sizes = decimal p.volume ++ (codes " " ++ decimal p.orders) in
    spaced (side_text p.side) (price_text n ++ (codes " " ++ sizes)) (side_plain p.side)
    (spaced (price_text n) sizes (price_plain n)
    (spaced (decimal p.volume) (decimal p.orders) (decimal_plain p.volume) (decimal_plain p.orders)))

change_plain : (s : ℕ) (p : DeltaPoint) → plain (change_text s p) ≡ true
change_plain s p =
    let sizes = decimal p.changed ++ (codes " " ++ decimal p.link) in
    spaced (level_text s p.level) (reason_text p.reason ++ (codes " " ++ sizes)) (level_plain s p.level)
    (spaced (reason_text p.reason) sizes (reason_plain p.reason)
    (spaced (decimal p.changed) (decimal p.link) (decimal_plain p.changed) (decimal_plain p.link)))

module _ {P : Type 0} (text : P → List ℕ) (each : (p : P) → plain (text p) ≡ true) where
  behind_plain : (ps : List P) → plain (behind text ps) ≡ true
  behind_plain [] = refl
  behind_plain (p ∷ ps) = both_plain (codes ";" ++ text p) (behind text ps) (both_plain (codes ";") (text p) refl (each p)) (behind_plain ps)

  joined_plain : (ps : List P) → plain (joined text ps) ≡ true
  joined_plain [] = refl
  joined_plain (p ∷ ps) = both_plain (text p) (behind text ps) (each p) (behind_plain ps)

-- the columns of an update
update_columns : (n : ℕ) (event kind : List ℕ) (i : ℕ) (points : List ℕ) → plain event ≡ true → plain kind ≡ true → plain points ≡ true
    → Columns n (decimal n ++ ((codes "," ++ (event ++ codes ",")) ++ ((kind ++ (codes "," ++ (decimal i ++ (codes "," ++ points)))) ++ codes "\n")))
update_columns n event kind i points e f g = record {
  event = event;
  kind = kind;
  index = decimal i;
  points = points;
  is = simp append_assoc;
  plain_number = decimal_plain n;
  plain_event = e;
  plain_kind = f;
  plain_index = decimal_plain i;
  plain_points = g;
}

-- the columns of a row with no index and no points
bare_columns : (n : ℕ) (event kind : List ℕ) → plain event ≡ true → plain kind ≡ true → Columns n (decimal n ++ (codes "," ++ (event ++ (codes "," ++ (kind ++ codes ",,\n")))))
bare_columns n event kind e f = record {
  event = event;
  kind = kind;
  index = [];
  points = [];
  is = refl;
  plain_number = decimal_plain n;
  plain_event = e;
  plain_kind = f;
  plain_index = refl;
  plain_points = refl;
}

bare_message : (n : ℕ) (event kind : List ℕ) → plain event ≡ true → plain kind ≡ true → Columns n (decimal n ++ ((codes "," ++ (event ++ codes ",")) ++ ((kind ++ codes ",,") ++ codes "\n")))
bare_message n event kind e f = record {
  event = event;
  kind = kind;
  index = [];
  points = [];
  is = simp append_assoc;
  plain_number = decimal_plain n;
  plain_event = e;
  plain_kind = f;
  plain_index = refl;
  plain_points = refl;
}

message_columns : (n : ℕ) (event : List ℕ) (m : Msg) → plain event ≡ true → Columns n (message_row (codes "," ++ (event ++ codes ",")) n m)
message_columns n event (reset x) e = bare_message n event (codes "reset") e refl
message_columns n event (unavailable b x) e = bare_message n event (codes "unavailable") e refl
message_columns n event mapping e = bare_message n event (codes "mapping") e refl
message_columns n event (full i s ps) e = update_columns n event (codes "full") i _ e refl (joined_plain (level_text s) (level_plain s) (points_in_full ps))
message_columns n event (delta i s ps) e = update_columns n event (codes "delta") i _ e refl (joined_plain (change_text s) (change_plain s) (points_in_delta ps))

pub run_columns : RunColumns
run_columns (data_of n m) = message_columns n (codes "data") m refl
run_columns (loss_of n) = bare_columns n (codes "loss") [] refl refl
run_columns (refresh_of n m) = message_columns n (codes "refresh") m refl
run_columns (restart_of n) = bare_columns n (codes "restart") [] refl refl
