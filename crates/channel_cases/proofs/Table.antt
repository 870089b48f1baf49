-- The worked cases, by computing.
use Rattle.std.proofs.Common.{refl}
use Rattle.wire.specs.Bytes.{first}
use Rattle.wire.specs.Points.{points}
use Rattle.channel_cases.specs.Table.{Table}

pub table : Table
unfolding first points
table = record {
  cost_54 = refl;
  cost_55 = refl;
  cost_116 = refl;
  cost_117 = refl;
  cost_1500 = refl;
  early = refl;
  near = refl;
  near_held = refl;
  far = refl;
  lost = refl;
  wide = refl;
  wider = refl;
  full = refl;
  full_held = refl;
  used = refl;
  unused = refl;
}
