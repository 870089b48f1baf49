-- Numbers, prices and bytes have no comma and no newline, so a row has those of its words.
use Rattle.std.proofs.Common.{◌≡◌, ℕ, zero, suc, ◌+◌, ◌/◌, ◌%◌, ◌<◌, ◌≤◌, Bool, true, false, cond, List, [], ◌∷◌, ◌++◌, Some, decimal, refl, ap, ◌∙◌, arith, nat_eq, nat_lt}
use Rattle.std.proofs.Math.Dec.{eqb}
use Rattle.std.proofs.lemmas.Bool.{ne_eqb, cond_both}
use Rattle.std.specs.Fmt.{digits, digits_onto, digit_glyph}
use Rattle.wire.specs.declared.point.Side.{Side}
use Rattle.wire.specs.declared.point.Side.TheVariants.{Buy, Sell}
use Rattle.wire.specs.Texts.{side_text}
use Rattle.book_model.specs.declared.level.Level.{Level}
use Rattle.operator.specs.declared.action.Asked.{Asked}
use Rattle.console.specs.Texts.{places_from}
use Rattle.replies.specs.Hex.{hex_digit, hex_text}
use Rattle.replies.specs.Reads.{whole_text}
use Rattle.reports.specs.GapLog.{requested_text, settled_text}
use Rattle.reports.specs.DayBook.{level_row, empty_row}
use Rattle.reports.specs.Executed.{executed_row}
use Rattle.reports.specs.Headers.{gap_header, day_book_header, tally_header, times, IsRow, Rows}

both_step : (t : Bool) (n m : ℕ) → cond t (suc (n + m)) (n + m) ≡ cond t (suc n) n + m
both_step true n m = omega arith
both_step false n m = refl

both : (b : ℕ) (xs ys : List ℕ) → times b (xs ++ ys) ≡ times b xs + times b ys
both b [] ys = omega arith
both b (x ∷ xs) ys = ap (λ (n : ℕ). cond (eqb x b) (suc n) n) (both b xs ys) ∙ both_step (eqb x b) (times b xs) (times b ys)

-- a byte that is lower than all of these
module _ (b : ℕ) (low : b < 46) where
  other : (c : ℕ) (cs : List ℕ) → 46 ≤ c → times b (c ∷ cs) ≡ times b cs
  other c cs h = let n : eqb c b ≡ false = ne_eqb c b (λ e. omega arith) in rw n refl

  glyph : (d : ℕ) → 46 ≤ digit_glyph false d
  glyph d = cond_both (nat_lt d 10) (48 + d) (87 + d) (λ n. 46 ≤ n) (λ t. omega arith) (λ t. omega arith)

  in_digits : (k n : ℕ) (acc : List ℕ) → times b (digits_onto k 10 false n acc) ≡ times b acc
  in_digits zero n acc = refl
  in_digits (suc k) n acc =
      let more = digit_glyph false (n % 10) ∷ acc in
      let one = other (digit_glyph false (n % 10)) acc (glyph (n % 10)) in
      cond_both (nat_eq (n / 10) 0) more (digits_onto k 10 false (n / 10) more) (λ cs. times b cs ≡ times b acc) (λ t. one) (λ t. in_digits k (n / 10) more ∙ one)

  in_decimal : (n : ℕ) → times b (decimal n) ≡ 0
  unfolding digits
  in_decimal n = in_digits 64 n []

  in_places : (n : ℕ) (ps : List ℕ) → times b (places_from n ps) ≡ 0
  in_places n [] = refl
  in_places n (p ∷ ps) = other (48 + n / p % 10) (places_from n ps) (omega arith) ∙ in_places n ps

  digit : (n : ℕ) → 46 ≤ hex_digit n
  digit n = cond_both (nat_lt n 10) (48 + n) (87 + n) (λ m. 46 ≤ m) (λ t. omega arith) (λ t. omega arith)

  in_hex : (bs : List ℕ) → times b (hex_text bs) ≡ 0
  in_hex [] = refl
  in_hex (x ∷ xs) =
      other (hex_digit (x / 16)) (hex_digit (x % 16) ∷ hex_text xs) (digit (x / 16)) ∙ (other (hex_digit (x % 16)) (hex_text xs) (digit (x % 16)) ∙ in_hex xs)

-- words of a state and of a side have none
state_comma : (w : Bool) → times 44 (whole_text w) ≡ 0
state_comma true = refl
state_comma false = refl

state_newline : (w : Bool) → times 10 (whole_text w) ≡ 0
state_newline true = refl
state_newline false = refl

side_comma : (s : Side) → times 44 (side_text s) ≡ 0
side_comma Buy = refl
side_comma Sell = refl

side_newline : (s : Side) → times 10 (side_text s) ≡ 0
side_newline Buy = refl
side_newline Sell = refl

comma : 44 < 46
comma = omega arith

newline : 10 < 46
newline = omega arith

row_requested : (a : Asked) (time : ℕ) (request : List ℕ) → IsRow gap_header (requested_text a time request)
row_requested a time request = record {
  columns = simp (both 44, in_decimal 44 comma, in_hex 44 comma);
  line = simp (both 10, in_decimal 10 newline, in_hex 10 newline);
}

row_settled : (a : Asked) (time missing : ℕ) → IsRow gap_header (settled_text a time missing)
row_settled a time missing = record { columns = simp (both 44, in_decimal 44 comma); line = simp (both 10, in_decimal 10 newline) }

row_level : (i : ℕ) (whole : Bool) (side : Side) (place : ℕ) (l : Level) → IsRow day_book_header (level_row i whole side place l)
row_level i whole side place l = record {
  columns = simp (both 44, in_decimal 44 comma, in_places 44 comma, state_comma, side_comma);
  line = simp (both 10, in_decimal 10 newline, in_places 10 newline, state_newline, side_newline);
}

row_empty : (i : ℕ) (whole : Bool) → IsRow day_book_header (empty_row i whole)
row_empty i whole = record { columns = simp (both 44, in_decimal 44 comma, state_comma); line = simp (both 10, in_decimal 10 newline, state_newline) }

row_executed : (i n : ℕ) → IsRow tally_header (executed_row i (Some n))
row_executed i n = record { columns = simp (both 44, in_decimal 44 comma); line = simp (both 10, in_decimal 10 newline) }

pub all_rows : Rows
all_rows = record { requested = row_requested; settled = row_settled; level = row_level; empty = row_empty; executed = row_executed }
