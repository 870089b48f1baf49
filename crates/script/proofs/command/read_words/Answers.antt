use Rattle.std.proofs.Common.{rules}
use Rattle.console.specs.Words.{words_in}
use Rattle.script.specs.declared.verb.Verb.{Verb}
use Rattle.script.specs.Commands.{by_verb, verb_of}
use Rattle.script.proofs.Verbs.{told_some}
use Rattle.script.proofs.command.read_words.Goals as goal

pub returns : goal.returns
returns c =
    let f = λ (v : Verb). by_verb v (words_in c.args.words.now) in
    told_some (verb_of c.args.word.now) c.in_ok-try_from.field-0 f c.read_command.result (search rules) c.read_command.ensures
