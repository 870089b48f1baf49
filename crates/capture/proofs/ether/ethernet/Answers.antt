use Rattle.std.proofs.Common.{rules, arith, ◌≡◌, ◌≤◌, true, false, Ok, Err, length, drop, ap, sym, ◌∙◌}
use Rattle.std.proofs.lemmas.Bool.Decides.{nat_tests}
use Rattle.capture.specs.Ether.{told_bytes, behind, tagged, untagged, ethernet_in}
use Rattle.capture.proofs.Tags.{tag_passed, tag_cut, no_tag, behind_refused}
use Rattle.capture.proofs.ether.ethernet.Goals as goal

pub loop-rest-preserved : goal.loop-rest-preserved
loop-rest-preserved c =
    let t : tagged c.loop-rest.rest.now ≡ true = search rules in
    let l : 4 ≤ length c.loop-rest.rest.now = search rules in
    let d : c.in_ok-rest-2.rest.now ≡ drop 4 c.loop-rest.rest.now = search rules in
    (c.loop-rest.invariant.0, rw d (sym (tag_passed c.loop-rest.rest.now t l) ∙ c.loop-rest.invariant.1))

pub returns : goal.returns
returns c =
    let t : tagged c.loop-rest.rest.now ≡ false = search rules in
    let l = c.loop-rest.invariant.0 in
    let w : ethernet_in c.args.frame.now ≡ untagged (drop 12 c.args.frame.now) = grind (arith, nat_tests, l) in
    c.typed.ensures ∙ sym (no_tag c.loop-rest.rest.now t) ∙ c.loop-rest.invariant.1 ∙ sym w

pub returns-in_err-rest-2 : goal.returns-in_err-rest-2
returns-in_err-rest-2 c =
    let xs = c.loop-rest.rest.now in
    let s = c.in_err-rest-2.field-0.0 in
    let t : tagged xs ≡ true = search rules in
    let b : behind 4 xs Ok ≡ Err s = search rules in
    let e : told_bytes c.from_residual-in_err-rest-2.result ≡ Err s = search rules in
    let l = c.loop-rest.invariant.0 in
    let w : ethernet_in c.args.frame.now ≡ untagged (drop 12 c.args.frame.now) = grind (arith, nat_tests, l) in
    let p = behind_refused 4 xs s b in
    e ∙ ap (λ s. Err s) p.1 ∙ sym (tag_cut xs t p.0) ∙ c.loop-rest.invariant.1 ∙ sym w
