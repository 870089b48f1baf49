-- What a channel tells a sink.
use Rattle.std.specs.Prelude.{ℕ}
use Rattle.wire.specs.Reading.{Msg}

-- An event: the message with a number, in its turn; this number is lost; a message out of a refresh, as of a number;
-- the channel begins again at a number.
pub data Event : Type 0 where
  data_of : ℕ → Msg → Event
  loss_of : ℕ → Event
  refresh_of : ℕ → Msg → Event
  restart_of : ℕ → Event
