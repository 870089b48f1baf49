-- The texts of the refusals.
use Rattle.std.specs.Prelude.{ℕ, List, ◌++◌, codes, decimal}
use Rattle.capture.specs.declared.format.FormatFault.{FormatFault}
use Rattle.capture.specs.declared.format.FormatFault.TheVariants as format
use Rattle.capture.specs.declared.records.RecordFault.{RecordFault}
use Rattle.capture.specs.declared.records.RecordFault.TheVariants as records

abbrev pub format_fault_text : FormatFault → List ℕ
format_fault_text format.Short = codes "the file ends within its header of 24 bytes"
format_fault_text format.Magic = codes "the file does not begin with the magic number of a pcap capture"
format_fault_text (format.Link code) = codes "frames of link type " ++ (decimal code ++ codes " are not read")

abbrev pub record_fault_text : RecordFault → List ℕ
record_fault_text records.Short = codes "the bytes end within a record"
record_fault_text (records.Long length) = codes "a record claims " ++ (decimal length ++ codes " captured bytes, more than 262144")
