-- Records of a file that is read in pieces.
use Rattle.std.specs.Prelude.{◌≡◌, ◌≢◌, ◌↔◌, ◌⊎◌, ℕ, ◌+◌, ◌/◌, ◌%◌, ◌<◌, ◌≤◌, List, ◌∷◌, ◌++◌, length, Ok, Err, Result}
use Rattle.capture.specs.declared.format.Order.{Order}
use Rattle.capture.specs.declared.format.Order.TheVariants.{Big, Little}
use Rattle.capture.specs.declared.records.RecordFault.{RecordFault}
use Rattle.capture.specs.declared.records.RecordFault.TheVariants.{Short}
use Rattle.capture.specs.Records.{Rec, captured, record_in}

-- the bytes end before a record does: within its header, or before the captured bytes that the header counts
abbrev pub Ends : Order → List ℕ → Type 0
Ends o xs = (length xs < 16) ⊎ ((captured o xs ≤ 262144) × (length xs < 16 + captured o xs))

-- an answer is Short where the bytes end so, and only there
abbrev pub ShortWhereEnds : Order → List ℕ → Result Rec RecordFault → Type 0
ShortWhereEnds o xs r = (r ≡ Err Short) ↔ Ends o xs

-- any other answer is the same whatever bytes come behind
abbrev pub StandsWithMore : Order → List ℕ → Result Rec RecordFault → Type 0
StandsWithMore o xs r = (r ≢ Err Short) → (more : List ℕ) → record_in o (xs ++ more) ≡ r

-- a number as four bytes in an order, before others
abbrev pub four : Order → ℕ → List ℕ → List ℕ
four Big n xs = n / 256 / 256 / 256 ∷ n / 256 / 256 % 256 ∷ n / 256 % 256 ∷ n % 256 ∷ xs
four Little n xs = n % 256 ∷ n / 256 % 256 ∷ n / 256 / 256 % 256 ∷ n / 256 / 256 / 256 ∷ xs

-- a record as a file has it, before what follows
abbrev pub record_bytes : Order → Rec → List ℕ → List ℕ
record_bytes o r more = four o r.seconds (four o r.fraction (four o (length r.frame) (four o r.original (r.frame ++ more))))

-- what is laid out so is read so, whatever follows
abbrev pub ReadsBack : Order → List ℕ → Result Rec RecordFault → Type 0
ReadsBack o xs a = (r : Rec) (more : List ℕ) → length r.frame ≤ 262144 → xs ≡ record_bytes o r more → a ≡ Ok r
