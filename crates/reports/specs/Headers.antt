-- The first line of each file, and what its rows have of it.
use Rattle.std.specs.Prelude.{◌≡◌, ℕ, suc, Bool, cond, List, [], ◌∷◌, Some, codes, ◌==◌}
use Rattle.wire.specs.declared.point.Side.{Side}
use Rattle.book_model.specs.declared.level.Level.{Level}
use Rattle.operator.specs.declared.action.Asked.{Asked}
use Rattle.reports.specs.GapLog.{requested_text, settled_text}
use Rattle.reports.specs.DayBook.{level_row, empty_row}
use Rattle.reports.specs.Executed.{executed_row}

abbrev pub gap_header : List ℕ
gap_header = codes "event,channel,serial,begin,end,time,missing,request\n"

abbrev pub day_book_header : List ℕ
day_book_header = codes "index,state,side,level,price,volume,orders\n"

abbrev pub tally_header : List ℕ
tally_header = codes "index,executed\n"

-- how often a byte stands in a text
abbrev pub times : ℕ → List ℕ → ℕ
times b [] = 0
times b (c ∷ cs) = cond (c == b) (suc (times b cs)) (times b cs)

-- a row is one line, and has as many commas as the first line
pub record IsRow (header row : List ℕ) : Type 0 where
  pub columns : times 44 row ≡ times 44 header
  pub line : times 10 row ≡ 1

-- so is every row of every file, whatever its values
pub record Rows : Type 0 where
  pub requested : (a : Asked) (time : ℕ) (request : List ℕ) → IsRow gap_header (requested_text a time request)
  pub settled : (a : Asked) (time missing : ℕ) → IsRow gap_header (settled_text a time missing)
  pub level : (i : ℕ) (whole : Bool) (side : Side) (place : ℕ) (l : Level) → IsRow day_book_header (level_row i whole side place l)
  pub empty : (i : ℕ) (whole : Bool) → IsRow day_book_header (empty_row i whole)
  pub executed : (i n : ℕ) → IsRow tally_header (executed_row i (Some n))
