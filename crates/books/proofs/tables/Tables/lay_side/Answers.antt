use Rattle.std.proofs.Common.{◌≡◌, ◌-◌, ◌*◌, [], take, drop, sym, refl, ap, ◌∙◌, arith}
use Rattle.std.specs.Prelude.{slice_index_or}
use Rattle.book_model.specs.Entering.{unknown, levels, with_levels, filled, points_of}
use Rattle.books.specs.Tabled.{blank}
use Rattle.books.specs.Keepers.{tables_known}
use Rattle.books.specs.Laying.{pending}
use Rattle.books.proofs.Filling.{leaves}
use Rattle.books.proofs.Rows.{book_is}
use Rattle.books.proofs.Told.{laid_ordered, buys_long, sells_long, buys_laid, sells_laid, buys_unused, sells_unused}
use Rattle.books.proofs.tables.Tables.lay_side.Goals as goal

pub invariant_of-self-clause-ordered : goal.invariant_of-self-clause-ordered
invariant_of-self-clause-ordered g c =
    let rows = c.rows-rows.result in
    buys_unused c.args.self.now c.args.i c.requires rows.start (rows.end - rows.start) c.rows-rows.ensures.start (omega arith) c.lay-used.new.rows c.if-book-eq0.true c.lay-used.auto.rows

pub invariant_of-self-in-Sell-clause-ordered : goal.invariant_of-self-in-Sell-clause-ordered
invariant_of-self-in-Sell-clause-ordered g c =
    let rows = c.rows-rows.result in
    sells_unused c.args.self.now c.args.i c.requires rows.start (rows.end - rows.start) c.rows-rows.ensures.start (omega arith) c.lay-used-in-Sell.new.rows c.if-book-eq0-2.true c.lay-used-in-Sell.auto.rows

pub invariant_of-self-in-Buy-clause-ordered : goal.invariant_of-self-in-Buy-clause-ordered
invariant_of-self-in-Buy-clause-ordered g c =
    let t = c.args.self.now in
    let rows = c.rows-rows.result in
    let us = c.lay-used.new.rows in
    let used = c.lay-used.result.0 in
    laid_ordered t c.args.i c.args.side (take used us) _ c.lay-used.ensures.ordered
    (buys_laid t c.args.i c.requires rows.start (rows.end - rows.start) c.rows-rows.ensures.start (omega arith) c.args.side us used c.in-Buy.is c.lay-used.auto.rows)

pub returns-in-Buy : goal.returns-in-Buy
returns-in-Buy g c =
    let t = c.args.self.now in
    let i = c.args.i in
    let s = c.args.side in
    let rows = c.rows-rows.result in
    let us = c.lay-used.new.rows in
    let used = c.lay-used.result.0 in
    let k = slice_index_or (tables_known t) i unknown in
    let is = book_is t i c.requires blank in
    let long = buys_long t i c.requires rows.start (rows.end - rows.start) c.rows-rows.ensures.start (omega arith) in
    let none : levels s k ≡ [] = ap (λ s. levels s k) c.in-Buy.is ∙ ap (λ k. k.buys) is ∙ ap (λ n. take n (take t.depth (drop (i * t.depth) t.buys.now))) c.if-book-eq0.true in
    let named = points_of g.P.Point.named c.args.scale in
    leaves t i c.requires _ (with_levels s (take used us)) _ _ refl
    (buys_laid t i c.requires rows.start (rows.end - rows.start) c.rows-rows.ensures.start (omega arith) s us used c.in-Buy.is c.lay-used.auto.rows)
    (ap (λ d. filled d (named (pending c.args.first c.args.points.now)) k) (sym long)
    ∙ c.lay-used.ensures.told k (ap (λ k. k.whole) is ∙ c.if-book.true) none
    ∙ ap (λ d. filled d (named (pending c.lay-used.result.1 c.lay-used.new.points)) (with_levels s (take used us) k)) long)

pub invariant_of-self-in-Sell-2-clause-ordered : goal.invariant_of-self-in-Sell-2-clause-ordered
invariant_of-self-in-Sell-2-clause-ordered g c =
    let t = c.args.self.now in
    let rows = c.rows-rows.result in
    let us = c.lay-used-in-Sell.new.rows in
    let used = c.lay-used-in-Sell.result.0 in
    laid_ordered t c.args.i c.args.side (take used us) _ c.lay-used-in-Sell.ensures.ordered
    (sells_laid t c.args.i c.requires rows.start (rows.end - rows.start) c.rows-rows.ensures.start (omega arith) c.args.side us used c.in-Sell.is c.lay-used-in-Sell.auto.rows)

pub returns-in-Sell : goal.returns-in-Sell
returns-in-Sell g c =
    let t = c.args.self.now in
    let i = c.args.i in
    let s = c.args.side in
    let rows = c.rows-rows.result in
    let us = c.lay-used-in-Sell.new.rows in
    let used = c.lay-used-in-Sell.result.0 in
    let k = slice_index_or (tables_known t) i unknown in
    let is = book_is t i c.requires blank in
    let long = sells_long t i c.requires rows.start (rows.end - rows.start) c.rows-rows.ensures.start (omega arith) in
    let none : levels s k ≡ [] = ap (λ s. levels s k) c.in-Sell.is ∙ ap (λ k. k.sells) is ∙ ap (λ n. take n (take t.depth (drop (i * t.depth) t.sells.now))) c.if-book-eq0-2.true in
    let named = points_of g.P.Point.named c.args.scale in
    leaves t i c.requires _ (with_levels s (take used us)) _ _ refl
    (sells_laid t i c.requires rows.start (rows.end - rows.start) c.rows-rows.ensures.start (omega arith) s us used c.in-Sell.is c.lay-used-in-Sell.auto.rows)
    (ap (λ d. filled d (named (pending c.args.first c.args.points.now)) k) (sym long)
    ∙ c.lay-used-in-Sell.ensures.told k (ap (λ k. k.whole) is ∙ c.if-book-2.true) none
    ∙ ap (λ d. filled d (named (pending c.lay-used-in-Sell.result.1 c.lay-used-in-Sell.new.points)) (with_levels s (take used us) k)) long)
