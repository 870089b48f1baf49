-- The worked cases, by computing.
use Rattle.std.proofs.Common.{refl}
use Rattle.wire.specs.Bytes.{first}
use Rattle.channel_cases.specs.Cases.{Cases}

pub cases : Cases
unfolding first
cases = record {
  numbers = refl;
  make_phase = refl;
  make_zero = refl;
  make_source = refl;
  make_long = refl;
  make_nul = refl;
  make_taken = refl;
  offer_phase = refl;
  offer_short = refl;
  offer_reader = refl;
  offer_reset = refl;
  refresh_flag = refl;
  refresh_link = refl;
  refresh_ahead = refl;
  refresh_taken = refl;
  range_behind = refl;
  range_ahead = refl;
  range_wide = refl;
  range_taken = refl;
  data_behind = refl;
  data_held = refl;
  data_far = refl;
  data_full = refl;
  scratch_after = refl;
  scratch_refused = refl;
  shelved_range = refl;
  shelved_refresh = refl;
  shelved_reset = refl;
  shelved_unread = refl;
  claim_phase = refl;
  claim_short = refl;
  claim_owed = refl;
  claim_none = refl;
  claim_next = refl;
  claim_spent = refl;
  claim_last = refl;
  claim_wide = refl;
  claim_request = refl;
  claim_out = refl;
  settle_phase = refl;
  settle_none = refl;
  settle_serial = refl;
  settle_channel = refl;
  settle_missing = refl;
  settle_out = refl;
  settle_range = refl;
  restart_phase = refl;
  restart_owed = refl;
  restart_zero = refl;
  restart_taken = refl;
  made = refl;
  restarted = refl;
  restart_refused = refl;
}
