-- The last part of a text.
use Rattle.std.specs.Prelude.{ℕ, ◌+◌, ◌-◌, ◌/◌, min, cond, ◌&&◌, List, [], ◌++◌, length, take, drop, Some, None, Option, nat_le, nat_lt}
use Rattle.journal.specs.declared.tail.Tail.{Tail}

-- how many bytes there is room for, how many were told, and the last of them
pub record Kept : Type 0 where
  pub room : ℕ
  pub told : ℕ
  pub kept : List ℕ

-- the last n of a list, or all of it where there are fewer
unfoldable pub last_part : ℕ → List ℕ → List ℕ
last_part n xs = drop (length xs - n) xs

-- the largest number of 64 bits, where the count of what is told stops
abbrev pub top : ℕ
top = 18446744073709551615

-- what the code's tail means: of the bytes in use, which are the first of the buffer, the last as many as half of it holds
unfoldable pub meant : Tail → Kept
meant t = record {
  room = length t.buffer.now / 2;
  told = min t.told top;
  kept = last_part (length t.buffer.now / 2) (take t.used t.buffer.now);
}

-- nothing is told
abbrev pub fresh : ℕ → Kept
fresh room = record { room = room; told = 0; kept = [] }

-- bytes are told behind the text so far
unfoldable pub said : List ℕ → Kept → Kept
said bytes t = record { room = t.room; told = min (t.told + length bytes) top; kept = last_part t.room (t.kept ++ bytes) }

-- what was told since the count stood at a number: none where not all of it is kept, or the count has not come there or has stopped
abbrev pub since : ℕ → Kept → Option (List ℕ)
since n t =
    cond (nat_lt t.told top && (nat_le n t.told && nat_le (t.told - n) (length t.kept)))
    (Some (last_part (t.told - n) t.kept))
    None
