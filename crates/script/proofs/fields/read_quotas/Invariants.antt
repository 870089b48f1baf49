use Rattle.std.proofs.Common.{◌≡◌, length}
use Rattle.console.specs.Words.{words_in}
use Rattle.script.specs.Fields.{quotas_from}
use Rattle.script.proofs.fields.read_quotas.Given as goal

-- what is left decides, from the least limit so far
abbrev pub invariant-loop-word : goal.invariant-loop-word
invariant-loop-word l = quotas_from l.least (words_in l.rest) ≡ quotas_from 4294967295 (words_in l.words)

abbrev pub decreases-loop-word : goal.decreases-loop-word
decreases-loop-word l = length (words_in l.rest)
