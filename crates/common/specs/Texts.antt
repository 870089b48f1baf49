-- How a refusal is told.
use Rattle.std.specs.Prelude.{ℕ, List, ◌++◌, codes, decimal}

-- a refusal by its number
abbrev pub refused_text : ℕ → List ℕ
refused_text n = codes "refused " ++ decimal n
