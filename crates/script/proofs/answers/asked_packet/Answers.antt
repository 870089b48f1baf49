use Rattle.std.proofs.Common.{rules}
use Rattle.console.specs.Words.{words_in}
use Rattle.script.specs.Words.{begins}
use Rattle.script.proofs.Others.{other_verb}
use Rattle.script.proofs.answers.asked_packet.Goals as goal

pub returns-in_default-2 : goal.returns-in_default-2
returns-in_default-2 c =
    let line = c.args.line.now in
    let word = c.in-Some.word.now in
    let words = c.in-Some.words.now in
    other_verb (begins 35 line) word (words_in words) (words_in line) c.in_ok-try_from.field-0 (search rules) (search rules) (search rules)
