use Rattle.std.proofs.Common.{suc, ◌-◌, sym, refl, ap, ◌∙◌, arith}
use Rattle.wire.specs.declared.point.Side.TheVariants.{Buy, Sell}
use Rattle.book_model.specs.Entering.{limited}
use Rattle.book_model.specs.Keepers.{changed_at}
use Rattle.books.specs.Keepers.{tables_known}
use Rattle.books.proofs.Told.{limited_ordered, buys_sorted, sells_sorted, buys_told, sells_told, buys_lost, sells_lost}
use Rattle.books.proofs.tables.Tables.put.Goals as goal

pub change-requires-clause-ordered : goal.change-requires-clause-ordered
change-requires-clause-ordered c =
    let rows = c.rows-rows.result in
    buys_sorted c.args.self.now c.args.i c.requires rows.start (rows.end - rows.start) c.rows-rows.ensures.start (omega arith)

pub change-requires-in-Sell-clause-ordered : goal.change-requires-in-Sell-clause-ordered
change-requires-in-Sell-clause-ordered c =
    let rows = c.rows-rows.result in
    sells_sorted c.args.self.now c.args.i c.requires rows.start (rows.end - rows.start) c.rows-rows.ensures.start (omega arith)

pub invariant_of-self-clause-ordered : goal.invariant_of-self-clause-ordered
invariant_of-self-clause-ordered c =
    let t = c.args.self.now in
    let l = c.args.point.level in
    let rows = c.rows-rows.result in
    limited_ordered t c.args.i Buy l _ (buys_told t c.args.i c.requires rows.start (rows.end - rows.start) c.rows-rows.ensures.start (omega arith) l c.change.new.rows c.in-Some.used c.change.auto.rows c.in-Some.ensures)

pub invariant_of-self-in-None-clause-ordered : goal.invariant_of-self-in-None-clause-ordered
invariant_of-self-in-None-clause-ordered c =
    let t = c.args.self.now in
    let l = c.args.point.level in
    let rows = c.rows-rows.result in
    limited_ordered t c.args.i Buy l _ (buys_lost t c.args.i c.requires rows.start (rows.end - rows.start) c.rows-rows.ensures.start (omega arith) l c.change.new.rows c.overflown-row.result c.overflown-row.ensures c.change.auto.rows c.in-None.ensures)

pub returns-in-Some : goal.returns-in-Some
returns-in-Some c =
    let t = c.args.self.now in
    let l = c.args.point.level in
    let rows = c.rows-rows.result in
    record {
      depth = refl;
      books = buys_told t c.args.i c.requires rows.start (rows.end - rows.start) c.rows-rows.ensures.start (omega arith) l c.change.new.rows c.in-Some.used c.change.auto.rows c.in-Some.ensures
          ∙ ap (λ s. changed_at (suc c.args.i) (limited t.depth s l) (tables_known t)) (sym c.in-Buy.is);
    }

pub returns-in-None : goal.returns-in-None
returns-in-None c =
    let t = c.args.self.now in
    let l = c.args.point.level in
    let rows = c.rows-rows.result in
    record {
      depth = refl;
      books = buys_lost t c.args.i c.requires rows.start (rows.end - rows.start) c.rows-rows.ensures.start (omega arith) l c.change.new.rows c.overflown-row.result c.overflown-row.ensures c.change.auto.rows c.in-None.ensures
          ∙ ap (λ s. changed_at (suc c.args.i) (limited t.depth s l) (tables_known t)) (sym c.in-Buy.is);
    }

pub invariant_of-self-in-Some-change-clause-ordered : goal.invariant_of-self-in-Some-change-clause-ordered
invariant_of-self-in-Some-change-clause-ordered c =
    let t = c.args.self.now in
    let l = c.args.point.level in
    let rows = c.rows-rows.result in
    limited_ordered t c.args.i Sell l _ (sells_told t c.args.i c.requires rows.start (rows.end - rows.start) c.rows-rows.ensures.start (omega arith) l c.change-in-Sell.new.rows c.in-Some-change.used c.change-in-Sell.auto.rows c.in-Some-change.ensures)

pub invariant_of-self-in-None-change-clause-ordered : goal.invariant_of-self-in-None-change-clause-ordered
invariant_of-self-in-None-change-clause-ordered c =
    let t = c.args.self.now in
    let l = c.args.point.level in
    let rows = c.rows-rows.result in
    limited_ordered t c.args.i Sell l _ (sells_lost t c.args.i c.requires rows.start (rows.end - rows.start) c.rows-rows.ensures.start (omega arith) l c.change-in-Sell.new.rows c.overflown-row-in-None-change.result c.overflown-row-in-None-change.ensures c.change-in-Sell.auto.rows c.in-None-change.ensures)

pub returns-in-Some-change : goal.returns-in-Some-change
returns-in-Some-change c =
    let t = c.args.self.now in
    let l = c.args.point.level in
    let rows = c.rows-rows.result in
    record {
      depth = refl;
      books = sells_told t c.args.i c.requires rows.start (rows.end - rows.start) c.rows-rows.ensures.start (omega arith) l c.change-in-Sell.new.rows c.in-Some-change.used c.change-in-Sell.auto.rows c.in-Some-change.ensures
          ∙ ap (λ s. changed_at (suc c.args.i) (limited t.depth s l) (tables_known t)) (sym c.in-Sell.is);
    }

pub returns-in-None-change : goal.returns-in-None-change
returns-in-None-change c =
    let t = c.args.self.now in
    let l = c.args.point.level in
    let rows = c.rows-rows.result in
    record {
      depth = refl;
      books = sells_lost t c.args.i c.requires rows.start (rows.end - rows.start) c.rows-rows.ensures.start (omega arith) l c.change-in-Sell.new.rows c.overflown-row-in-None-change.result c.overflown-row-in-None-change.ensures c.change-in-Sell.auto.rows c.in-None-change.ensures
          ∙ ap (λ s. changed_at (suc c.args.i) (limited t.depth s l) (tables_known t)) (sym c.in-Sell.is);
    }
