-- The texts of sides, reasons and refusals.
use Rattle.std.specs.Prelude.{ℕ, List, ◌++◌, Some, None, codes, decimal, Option}
use Rattle.common.specs.Texts.{refused_text}
use Rattle.wire.specs.declared.fault.ReadFault.{ReadFault}
use Rattle.wire.specs.declared.fault.RequestFault.{RequestFault}
use Rattle.wire.specs.declared.point.Side.{Side}
use Rattle.wire.specs.declared.point.Side.TheVariants.{Buy, Sell}
use Rattle.wire.specs.declared.point.Reason.{Reason}
use Rattle.wire.specs.declared.point.Reason.TheVariants.{Order, Cancel, Execution, Multiple}
use Rattle.wire.specs.declared.point.UnknownLetter.{UnknownLetter}
use Rattle.wire.specs.Faults.{fault_number, fault_offset, request_fault_number}

abbrev pub side_text : Side → List ℕ
side_text Buy = codes "buy"
side_text Sell = codes "sell"

abbrev pub reason_text : Reason → List ℕ
reason_text Order = codes "O"
reason_text Cancel = codes "C"
reason_text Execution = codes "E"
reason_text Multiple = codes "X"

-- an offset stands beside the number of a body fault
abbrev pub offset_text : Option ℕ → List ℕ
offset_text None = codes " by reader"
offset_text (Some o) = codes " by reader offset=" ++ decimal o

abbrev pub fault_text : ReadFault → List ℕ
fault_text f = refused_text (fault_number f) ++ offset_text (fault_offset f)

abbrev pub request_fault_text : RequestFault → List ℕ
request_fault_text f = refused_text (request_fault_number f)

abbrev pub unknown_letter_text : UnknownLetter → List ℕ
unknown_letter_text e = codes "unknown letter " ++ decimal e.0
