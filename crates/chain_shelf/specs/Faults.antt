-- The refusals of a region.
use Rattle.std.specs.Prelude.{ℕ}
use Rattle.chain_shelf.specs.declared.region.RegionFault.{RegionFault}
use Rattle.chain_shelf.specs.declared.region.RegionFault.TheVariants.{Size}

-- the number of each refusal of a region
abbrev pub region_fault_number : RegionFault → ℕ
region_fault_number (Size v) = 21
