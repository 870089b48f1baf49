use Rattle.std.proofs.Common.{sym, ap, ◌∙◌, arith}
use Rattle.book_model.specs.Entering.{levels, unknown}
use Rattle.books.specs.Tabled.{blank}
use Rattle.books.specs.Keepers.{tables_known}
use Rattle.std.specs.Prelude.{slice_index_or}
use Rattle.books.proofs.Rows.{buys_shown, sells_shown}
use Rattle.books.proofs.tables.Tables.side.Goals as goal

pub returns-in-Buy : goal.returns-in-Buy
returns-in-Buy c =
    let t = c.args.self.now in
    buys_shown t c.args.i c.requires blank _ _ _ c.rows.ensures.start (omega arith) (omega arith)
    ∙ sym (ap (λ s. levels s (slice_index_or (tables_known t) c.args.i unknown)) c.in-Buy.is)

pub returns-in-Sell : goal.returns-in-Sell
returns-in-Sell c =
    let t = c.args.self.now in
    sells_shown t c.args.i c.requires blank _ _ _ c.rows-in-Sell.ensures.start (omega arith) (omega arith)
    ∙ sym (ap (λ s. levels s (slice_index_or (tables_known t) c.args.i unknown)) c.in-Sell.is)
