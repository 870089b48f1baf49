-- Whatever follows a history keeps the promise.
use Rattle.std.proofs.Common.{sym, subst}
use Rattle.sink.specs.Events.{Event}
use Rattle.order.specs.Machine.{History, machine}
use Rattle.order.specs.Books.{BooksRight}
use Rattle.order.proofs.Order.{in_order, reaches}
use Rattle.order.proofs.Books.{books_right}
use Rattle.channel.specs.States.{State}
use Rattle.channel.specs.Follows.{Follows}
use Rattle.channel.specs.Kept.{Promise}

module _ {M : Type 0} (step : Event → M → M) where
  pub promised : (before : M) (h : History) (c : State M) → Follows step before h c → Promise step before h c
  promised before h c f = record {
    sink = f.sink;
    order = in_order h f.earned;
    last = f.last;
    reaches = reaches h f.earned;
    books = subst (λ m. BooksRight step m h (machine h).last) (sym f.sink) (books_right step before h f.earned);
  }
