-- A keeper that is stale: nothing is known of any book, whatever its tables hold.
use Rattle.std.proofs.Common.{◌≡◌, ℕ, Bool, true, false, List, length, replicate, sym, refl, ap, ◌∙◌}
use lib.ListN.{length-replicate}
use Rattle.books.specs.declared.tables.Tables.{Tables}
use Rattle.book_model.specs.Entering.{Known, unknown}
use Rattle.book_model.specs.Keepers.{at_book, changed_at}
use Rattle.books.specs.Keepers.{keeper_means, tables_known, unless_stale}

-- there are as many books
pub as_many : (s : Bool) (bs : List Known) → length (unless_stale s bs) ≡ length bs
as_many true bs = length-replicate (length bs) unknown
as_many false bs = refl

-- what was forgotten is what a stale keeper knows
pub forgets : (s : Bool) (bs : List Known) → replicate (length bs) unknown ≡ replicate (length (unless_stale s bs)) unknown
forgets s bs = ap (λ n. replicate n unknown) (sym (as_many s bs))

-- what a keeper is after its tables were told
pub tables_heard : (t u : Tables) (m i : ℕ) (f : Known → Known) (s : Bool) → s ≡ false → u.depth ≡ t.depth → tables_known u ≡ changed_at i f (tables_known t)
    → keeper_means (record { tables = u; mark = m; stale = s }) ≡ at_book i f (keeper_means (record { tables = t; mark = m; stale = s }))
tables_heard t u m i f true c e h = cc
tables_heard t u m i f false c e h =
    ap (λ d. record { depth = d; mark = m; books = tables_known u }) e
    ∙ ap (λ bs. record { depth = t.depth; mark = m; books = bs }) h
