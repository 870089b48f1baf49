use Rattle.std.proofs.Common.{◌≡◌, ℕ, ◌+◌, ◌-◌, ◌≤◌, Bool, ap, sym, ◌∙◌, arith}
use Rattle.book_model.specs.Keepers.{book_of}
use Rattle.books.specs.Keepers.{keeper_means}
use Rattle.reports.specs.DayBook.{has_state, count_state}
use Rattle.reports.proofs.EachMore.{count_yes, count_no}
use Rattle.reports.proofs.day_book.count_state.Goals as goal
use Rattle.reports.proofs.day_book.count_state.Goals.{then-has_state, else-has_state}

pub loop-index-preserved : goal.loop-index-preserved
loop-index-preserved c =
    let n = c.loop-index.index in
    let books = (keeper_means c.args.keeper.now).books in
    let test : ℕ → Bool = λ i. has_state c.args.whole (book_of i books) in
    let same : n + 1 - 1 ≡ n = omega arith in
    let found : c.if-has_state.found ≡ count_state c.args.whole (n + 1 - 1) books =
    elim c.if-has_state.branch [
      | then-has_state w ↦
          w.found-is ∙ (ap (λ (j : ℕ). j + 1) c.loop-index.invariant.2 ∙ sym (count_yes test n (n + 1 - 1) c.loop-index.auto.index same (sym c.has_state.ensures ∙ w.if-has_state.true)))
      | else-has_state w ↦
          w.found-is ∙ (c.loop-index.invariant.2 ∙ sym (count_no test n (n + 1 - 1) c.loop-index.auto.index same (sym c.has_state.ensures ∙ w.if-has_state.false)))
    ] in
    let few : c.if-has_state.found + 1 ≤ n + 1 = elim c.if-has_state.branch [ then-has_state w ↦ omega arith | else-has_state w ↦ omega arith ] in
    (omega arith, few, found)

pub returns-after-has_state : goal.returns-after-has_state
returns-after-has_state c =
    let n = c.loop-index.index in
    let books = (keeper_means c.args.keeper.now).books in
    let test : ℕ → Bool = λ i. has_state c.args.whole (book_of i books) in
    let last : c.args.count ≡ n = omega arith in
    elim c.if-has_state.branch [
      | then-has_state w ↦
          w.found-is ∙ (ap (λ (j : ℕ). j + 1) c.loop-index.invariant.2 ∙ sym (count_yes test n c.args.count c.loop-index.auto.index last (sym c.has_state.ensures ∙ w.if-has_state.true)))
      | else-has_state w ↦
          w.found-is ∙ (c.loop-index.invariant.2 ∙ sym (count_no test n c.args.count c.loop-index.auto.index last (sym c.has_state.ensures ∙ w.if-has_state.false)))
    ]
