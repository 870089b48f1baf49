-- The number of each refusal, and what stands beside it.
use Rattle.std.specs.Prelude.{ℕ, Some, None, Option}
use Rattle.wire.specs.declared.fault.ReadFault.{ReadFault}
use Rattle.wire.specs.declared.fault.ReadFault.TheVariants.{Length, Size, Product, Unknown, Flag, Body}
use Rattle.wire.specs.declared.fault.RequestFault.{RequestFault}
use Rattle.wire.specs.declared.fault.RequestFault.TheVariants.{Short, Source}

-- the number of each refusal of the reader
abbrev pub fault_number : ReadFault → ℕ
fault_number Length = 2
fault_number Size = 3
fault_number Product = 4
fault_number Unknown = 5
fault_number Flag = 6
fault_number (Body _) = 7

-- the offset beside it
abbrev pub fault_offset : ReadFault → Option ℕ
fault_offset Length = None
fault_offset Size = None
fault_offset Product = None
fault_offset Unknown = None
fault_offset Flag = None
fault_offset (Body o) = Some o

-- the number of each refusal of a request
abbrev pub request_fault_number : RequestFault → ℕ
request_fault_number Short = 1
request_fault_number Source = 20
