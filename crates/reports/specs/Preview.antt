-- The parts of the page about a day.
use Rattle.std.specs.Prelude.{ℕ, ◌+◌, true, false, cond, List, [], ◌∷◌, ◌++◌, Some, None, codes, decimal, Option, nat_lt}
use Rattle.std.specs.List.{slice_get}
use Rattle.book_model.specs.declared.level.Level.{Level}
use Rattle.book_model.specs.Entering.{Known}
use Rattle.book_model.specs.Keepers.{book_of}
use Rattle.tally.specs.declared.row.Row.{Row}
use Rattle.tally.specs.Tallies.{executed_of}
use Rattle.console.specs.Texts.{price_text}
use Rattle.reports.specs.declared.counts.Counts.{Counts}
use Rattle.reports.specs.Each.{each_below, each_to}
use Rattle.reports.specs.Counts.{offered, duplicates}
use Rattle.reports.specs.DayBook.{count_state}
use Rattle.reports.specs.Lines.{right, count_line}

-- the packets of each kind
abbrev pub kinds_text : Counts → List ℕ
kinds_text c =
    count_line (codes "full updates            ") c.full ++ (count_line (codes "deltas                  ") c.delta ++
    (count_line (codes "symbol mappings         ") c.mapping ++ (count_line (codes "refreshes               ") c.refresh ++
    (count_line (codes "unavailable ranges      ") c.unavailable ++ (count_line (codes "resets                  ") c.reset ++
    count_line (codes "unreadable              ") c.unreadable)))))

-- the records skipped by each cause
abbrev pub skips_text : Counts → List ℕ
skips_text c =
    count_line (codes "truncated               ") c.truncated ++ (count_line (codes "fragments               ") c.fragments ++
    (count_line (codes "other protocols         ") c.others ++ count_line (codes "other groups or ports   ") c.filtered))

abbrev pub packets_text : Counts → List ℕ
packets_text c =
    codes "Packets offered\n" ++ (kinds_text c ++ (count_line (codes "in all                  ") (offered c) ++
    (codes "\nRecords skipped\n" ++ (skips_text c ++ codes "\n"))))

-- the refusals with a number, where there were any
abbrev pub refusal_line : ℕ → ℕ → List ℕ
refusal_line number count =
    cond (nat_lt 0 count) (codes "  refused " ++ (decimal number ++ (codes ": " ++ (decimal count ++ codes "\n")))) []

-- the counts of refusals in the order of their numbers, the first with a number
abbrev pub refusal_lines : ℕ → List ℕ → List ℕ
refusal_lines number [] = []
refusal_lines number (c ∷ cs) = refusal_line number c ++ refusal_lines (number + 1) cs

abbrev pub refusals_text : Counts → List ℕ
refusals_text c =
    codes "Refusals\n" ++ (count_line (codes "duplicates turned away  ") (duplicates c) ++
    (count_line (codes "resets that came again  ") c.repeated_resets ++ (refusal_lines 0 c.refused ++ codes "\n")))

-- a closed channel has no last number
abbrev pub last_line : Option ℕ → List ℕ
last_line None = codes "  last number                     none\n"
last_line (Some n) = count_line (codes "last number             ") n

abbrev pub gaps_text : Counts → Option ℕ → ℕ → List ℕ
gaps_text c last losses =
    codes "Gaps\n" ++ (count_line (codes "claims                  ") c.claims ++ (count_line (codes "numbers asked for       ") c.asked ++
    (count_line (codes "missing at settlement   ") c.missing ++ (count_line (codes "numbers lost            ") losses ++
    (last_line last ++ codes "\n")))))

-- the best level of a side, if it has one
abbrev pub top_text : Option Level → List ℕ
top_text None = codes "none"
top_text (Some l) = price_text l.price ++ (codes " x " ++ (decimal l.volume ++ (codes " (" ++ (decimal l.orders ++ codes ")"))))

-- a book by the best levels of its two sides
abbrev pub tops_line : ℕ → Option Level → Option Level → List ℕ
tops_line i buy sell =
    codes "  book " ++ (decimal i ++ (codes "  buy " ++ (top_text buy ++ (codes "  sell " ++ (top_text sell ++ codes "\n")))))

-- nothing for a book that is not whole, or is none
abbrev pub book_line : ℕ → Option Known → List ℕ
book_line i None = []
book_line i (Some b) = cond b.whole (tops_line i (slice_get b.buys 0) (slice_get b.sells 0)) []

-- the books with the indexes from 1 to a count
abbrev pub book_lines : ℕ → List Known → List ℕ
book_lines count bs = each_to count (λ i. book_line i (book_of i bs))

abbrev pub books_text : ℕ → List Known → List ℕ
books_text count bs =
    codes "Books\n" ++ (count_line (codes "whole                   ") (count_state true count bs) ++
    (count_line (codes "partial                 ") (count_state false count bs) ++ (book_lines count bs ++ codes "\n")))

-- an index and its volume; nothing where it has no row
abbrev pub index_line : ℕ → Option ℕ → List ℕ
index_line i None = []
index_line i (Some n) = codes "  index " ++ (right 5 (decimal i) ++ (right 25 (decimal n) ++ codes "\n"))

-- every index of 16 bits that has a row
abbrev pub index_lines : List Row → List ℕ
index_lines rs = each_below 65536 (λ i. index_line i (executed_of i rs))

abbrev pub executed_text : ℕ → List Row → List ℕ
executed_text missed rs =
    codes "Executed volume\n" ++ (index_lines rs ++ (count_line (codes "found no row            ") missed ++ codes "\n"))
