-- What a source id of the code means.
use Rattle.std.specs.Prelude.{ℕ, List, take}
use Rattle.wire.specs.declared.request.SourceId.{SourceId}

-- its bytes
abbrev pub source_bytes : SourceId → List ℕ
source_bytes s = take s.len s.bytes
