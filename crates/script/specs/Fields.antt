-- The words behind the first of a command.
use Rattle.std.specs.Prelude.{ℕ, min, cond, List, [], ◌∷◌, Some, None, codes, Option, ◌==◌}
use Rattle.std.specs.Borrow.{Bor}
use Rattle.std.specs.Str.{bytes_eq}
use Rattle.script.specs.declared.setup.Setup.{Setup}
use Rattle.script.specs.declared.setup.ShelfKind.{ShelfKind}
use Rattle.script.specs.declared.setup.ShelfKind.TheVariants.{Slots, Chain}
use Rattle.console.specs.Words.{words_in}
use Rattle.script.specs.Numbers.{number_in}
use Rattle.script.specs.Hex.{hex_bytes}

-- what a function makes of a value, if there is one
abbrev pub then : {T U : Type 0} → Option T → (T → Option U) → Option U
then None f = None
then (Some x) f = f x

-- the one word, if there is just one
abbrev pub only : List (List ℕ) → Option (List ℕ)
only [] = None
only (w ∷ []) = Some w
only (w ∷ (v ∷ ws)) = None

-- the one number, if there is just one word and it writes a number of that many bits
abbrev pub only_number : ℕ → List (List ℕ) → Option ℕ
only_number bits ws = then (only ws) (number_in bits)

-- the bytes of just one word; no word writes no byte
abbrev pub packet_in : List (List ℕ) → Option (List ℕ)
packet_in [] = Some []
packet_in (w ∷ []) = hex_bytes w
packet_in (w ∷ (v ∷ ws)) = None

-- what stands behind a key that a word begins with
abbrev pub keyed : List ℕ → List ℕ → Option (List ℕ)
keyed [] w = Some w
keyed (k ∷ ks) [] = None
keyed (k ∷ ks) (b ∷ bs) = cond (k == b) (keyed ks bs) None

-- a text, or bytes behind `hex:`
abbrev pub source_by : Option (List ℕ) → List ℕ → Option (List ℕ)
source_by None w = Some w
source_by (Some ds) w = hex_bytes ds

abbrev pub source_in : List ℕ → Option (List ℕ)
source_in w = source_by (keyed (codes "hex:") w) w

-- a number behind a key in the first word, and the other words
abbrev pub numbered : List (List ℕ) → Option ℕ → Option (ℕ × List (List ℕ))
numbered ws None = None
numbered ws (Some n) = Some (n, ws)

abbrev pub field : List ℕ → List (List ℕ) → Option (ℕ × List (List ℕ))
field key [] = None
field key (w ∷ ws) = numbered ws (then (keyed key w) (number_in 32))

-- `slots`, or `chain=` and a count of records
abbrev pub chain_of : Option ℕ → Option ShelfKind
chain_of None = None
chain_of (Some n) = Some (Chain n)

abbrev pub shelf_in : List ℕ → Option ShelfKind
shelf_in w = cond (bytes_eq w (codes "slots")) (Some Slots) (chain_of (then (keyed (codes "chain=") w) (number_in 32)))

-- one more quota word, if this is one: its limit must be a number
abbrev pub quota_by : {T : Type 0} → Option (List ℕ) → Option T → (ℕ → Option T) → Option T
quota_by None stop more = stop
quota_by (Some ds) stop more = then (number_in 32 ds) more

-- the least of a limit and those of the quota words in front, and the words behind these
abbrev pub quotas_from : ℕ → List (List ℕ) → Option (ℕ × List (List ℕ))
quotas_from least [] = Some (least, [])
quotas_from least (w ∷ ws) = quota_by (keyed (codes "quota=") w) (Some (least, w ∷ ws)) (λ n. quotas_from (min least n) ws)

abbrev pub ended : List (List ℕ) → Setup → Option Setup
ended [] s = Some s
ended (w ∷ ws) s = None

-- a shelf, its quotas, then books, depth and rows; the least limit is that of all quotas together, and 2^32 - 1 limits nothing
abbrev pub setup_in : List (List ℕ) → Option Setup
setup_in [] = None
setup_in (w ∷ ws) =
    then (shelf_in w) (λ shelf.
    then (quotas_from 4294967295 ws) (λ q.
    then (field (codes "books=") q.1) (λ b.
    then (field (codes "depth=") b.1) (λ d.
    then (field (codes "rows=") d.1) (λ r.
    ended r.1 (record { shelf = shelf; limit = q.0; books = b.0; depth = d.0; rows = r.0 }))))))

-- what the code's number and rest of the line come to
abbrev pub told_field : Option (ℕ × Bor (List ℕ)) → Option (ℕ × List (List ℕ))
told_field None = None
told_field (Some x) = Some (x.0, words_in x.1.now)
