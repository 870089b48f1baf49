use Rattle.std.proofs.Common.{sym, arith}
use Rattle.std.proofs.lemmas.List.{take_all}
use Rattle.replies.proofs.calls.request_in.Goals as goal

pub returns-then-buffer-lt-REQUEST : goal.returns-then-buffer-lt-REQUEST
returns-then-buffer-lt-REQUEST c = sym (take_all 44 c.args.buffer.now (omega arith))
