-- The worked cases, by computing.
use Rattle.std.proofs.Common.{refl}
use Rattle.shelf_cases.specs.Cases.{Cases}

pub cases : Cases
cases = record {
  put_numbers = refl;
  take_number = refl;
  lengths = refl;
  prices = refl;
  put_length = refl;
  put_held = refl;
  put_full = refl;
  put_taken = refl;
  put_kept = refl;
  put_units = refl;
  take_short = refl;
  take_absent = refl;
  take_taken = refl;
  take_rest = refl;
  take_gone = refl;
  above_equal = refl;
  above_less = refl;
  quota_totals = refl;
}
