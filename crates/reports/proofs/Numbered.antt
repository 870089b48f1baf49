-- One row more of a list whose rows are numbered.
use Rattle.std.proofs.Common.{◌≡◌, ℕ, ◌+◌, ◌<◌, Bool, List, ◌∷◌, ◌++◌, length, drop, get_or, ap, ◌∙◌, add-one, append_assoc, sym}
use Rattle.std.proofs.Math.Seq.{drop-cons}
use Rattle.wire.specs.declared.point.Side.{Side}
use Rattle.book_model.specs.declared.level.Level.{Level}
use Rattle.reports.specs.DayBook.{level_row, side_rows}
use Rattle.reports.specs.Preview.{refusal_line, refusal_lines}

next : {X : Type 0} (xs : List X) (n : ℕ) (d : X) → n < length xs → drop n xs ≡ get_or xs n d ∷ drop (n + 1) xs
next xs n d h = rw add-one (drop-cons xs n d h)

pub side_next : (i : ℕ) (whole : Bool) (side : Side) (n : ℕ) (ls : List Level) (d : Level) (done all : List ℕ) → n < length ls
    → done ++ side_rows i whole side (n + 1) (drop n ls) ≡ all
    → (done ++ level_row i whole side (n + 1) (get_or ls n d)) ++ side_rows i whole side (n + 1 + 1) (drop (n + 1) ls) ≡ all
side_next i whole side n ls d done all h e =
    append_assoc done _ _ ∙ (ap (λ (xs : List Level). done ++ side_rows i whole side (n + 1) xs) (sym (next ls n d h)) ∙ e)

pub refusal_next : (n : ℕ) (cs : List ℕ) (d : ℕ) (done all : List ℕ) → n < length cs
    → done ++ refusal_lines n (drop n cs) ≡ all
    → (done ++ refusal_line n (get_or cs n d)) ++ refusal_lines (n + 1) (drop (n + 1) cs) ≡ all
refusal_next n cs d done all h e =
    append_assoc done _ _ ∙ (ap (λ (xs : List ℕ). done ++ refusal_lines n xs) (sym (next cs n d h)) ∙ e)
