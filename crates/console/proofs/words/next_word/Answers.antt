use Rattle.std.proofs.Common.{◌≡◌, Some, None, ap, ◌∙◌, rules, drop}
use Rattle.std.proofs.lemmas.List.{take_rest}
use Rattle.console.specs.Words.{next_word, words_of}
use Rattle.console.proofs.Places.{word_at, word_ends}
use Rattle.console.proofs.Splits.{words_next}
use Rattle.console.proofs.words.next_word.Goals as goal

pub returns-in_err-line : goal.returns-in_err-line
returns-in_err-line c =
    let e : None ≡ next_word c.args.line.now = search (rules, word_at) in
    record { value = search rules; words = search (rules, ap words_of e ∙ words_next c.args.line.now) }

pub returns : goal.returns
returns c =
    let l = c.args.line.now in
    let i = c.in_ok-line.field-0 in
    let w = word_at l in
    let t = take_rest l i in
    let n = word_ends (drop i l) in
    let e : Some (c.split_at.result.0.now, c.split_at.result.1.now) ≡ next_word c.args.line.now = search rules in
    record { value = e; words = ap words_of e ∙ words_next c.args.line.now }
