use Rattle.std.proofs.Common.{sym, ap, ◌∙◌, arith}
use Rattle.std.proofs.lemmas.Bool.{cond-true, le-leb}
use Rattle.std.specs.Prelude.{nat_le}
use Rattle.wire.specs.Reading.{model}
use Rattle.sink.specs.Events.{refresh_of}
use Rattle.book_model.specs.declared.start.Start.TheVariants.{Refresh}
use Rattle.book_model.specs.Entering.{points_of}
use Rattle.book_model.specs.Keepers.{keeper_step, heard}
use Rattle.books.specs.Keepers.{keeper_means}
use Rattle.books.proofs.keeper.BookKeeperSink.refresh.Goals as goal

pub returns-then-self-number : goal.returns-then-self-number
returns-then-self-number c =
    let k = keeper_means c.args.self.now in
    let n = c.args.number in
    let m = c.in-Full in
    c.hear.ensures
    ∙ ap (λ ps. heard m.index (Refresh n) (points_of (λ p. p) m.scale ps) k) c.new.ensures.all
    ∙ sym (cond-true (nat_le k.mark n) _ _ (le-leb k.mark n (omega arith)))
    ∙ sym (ap (λ m. keeper_step (refresh_of n (model m)) k) m.is)
