use Rattle.std.proofs.Common.{◌∙◌}
use Rattle.script.proofs.Numerals.{number_no_text, number_read}
use Rattle.script.proofs.number.plain_number.Goals as goal

pub returns-in-Ok : goal.returns-in-Ok
returns-in-Ok c =
    c.ok.ensures.value ∙ number_read 32 c.args.word.now c.in-Ok.text.now c.parse.result c.in-Ok.ensures.cases.0 c.requires c.parse.ensures.value.0

pub returns-in-Err : goal.returns-in-Err
returns-in-Err c = number_no_text 32 c.args.word.now c.in-Err.ensures.cases.0
