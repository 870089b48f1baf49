-- The lines of the log of gaps, column by column.
use Rattle.std.specs.Prelude.{ℕ, List, ◌++◌, codes, decimal}
use Rattle.operator.specs.declared.action.Asked.{Asked}
use Rattle.replies.specs.Hex.{hex_text}

-- channel, serial, begin and end of a claim
abbrev pub asked_text : Asked → List ℕ
asked_text a =
    decimal a.channel ++ (codes "," ++ (decimal a.serial ++ (codes "," ++ (decimal a.begin ++ (codes "," ++ decimal a.end)))))

-- a claim was made: nothing is missing yet, and the request stands last
abbrev pub requested_text : Asked → ℕ → List ℕ → List ℕ
requested_text a time request =
    codes "requested," ++ (asked_text a ++ (codes "," ++ (decimal time ++ (codes ",," ++ (hex_text request ++ codes "\n")))))

-- a claim was settled: so many numbers are missing, and there is no request
abbrev pub settled_text : Asked → ℕ → ℕ → List ℕ
settled_text a time missing =
    codes "settled," ++ (asked_text a ++ (codes "," ++ (decimal time ++ (codes "," ++ (decimal missing ++ codes ",\n")))))
