use Rattle.std.proofs.Common.{◌≡◌, ℕ, List, get_or, codes, sym, ap, refl, arith, rules}
use Rattle.std.proofs.lemmas.List.FromFn.{fill_by_all}
use Rattle.script.specs.Commands.{verb_of}
use Rattle.script.specs.Faults.{readable}
use Rattle.script.proofs.verb.VerbTryFromRefSliceU8.try_from.Goals as goal

-- the two longest words, letter by letter
pub returns-in-settle : goal.returns-in-settle
returns-in-settle c =
    let w = c.args.word.now in
    let l = fill_by_all (λ (k : ℕ). get_or w k 0) w 6 0 (omega arith) (λ k h. refl) in
    let e : w ≡ codes "settle" = search rules in
    ap (λ (v : List ℕ). readable (verb_of v)) (sym e)

pub returns-in-restart : goal.returns-in-restart
returns-in-restart c =
    let w = c.args.word.now in
    let l = fill_by_all (λ (k : ℕ). get_or w k 0) w 7 0 (omega arith) (λ k h. refl) in
    let e : w ≡ codes "restart" = search rules in
    ap (λ (v : List ℕ). readable (verb_of v)) (sym e)
