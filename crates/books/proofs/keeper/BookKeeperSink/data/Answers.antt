use Rattle.std.proofs.Common.{sym, ap, ◌∙◌}
use Rattle.wire.specs.Reading.{model}
use Rattle.sink.specs.Events.{data_of}
use Rattle.book_model.specs.declared.start.Start.TheVariants.{Full, Delta}
use Rattle.book_model.specs.Entering.{points_of}
use Rattle.book_model.specs.Keepers.{keeper_step, heard}
use Rattle.books.specs.Keepers.{keeper_means}
use Rattle.books.proofs.keeper.BookKeeperSink.data.Goals as goal

pub returns-in-Full : goal.returns-in-Full
returns-in-Full c =
    let k = keeper_means c.args.self.now in
    let n = c.args.number in
    let m = c.in-Full in
    c.hear.ensures ∙ ap (λ ps. heard m.index (Full n) (points_of (λ p. p) m.scale ps) k) c.new.ensures.all ∙ sym (ap (λ m. keeper_step (data_of n (model m)) k) m.is)

pub returns-in-Delta : goal.returns-in-Delta
returns-in-Delta c =
    let k = keeper_means c.args.self.now in
    let n = c.args.number in
    let m = c.in-Delta in
    c.hear-in-Delta.ensures ∙ ap (λ ps. heard m.index (Delta n) (points_of (λ p. p.level) m.scale ps) k) c.new-in-Delta.ensures.all ∙ sym (ap (λ m. keeper_step (data_of n (model m)) k) m.is)
