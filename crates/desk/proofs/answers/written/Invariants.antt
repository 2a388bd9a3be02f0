use Rattle.std.proofs.Common.{◌≡◌, ◌++◌, codes, take, string_bytes}
use Rattle.desk.specs.Told.{hex_bytes}
use Rattle.desk.proofs.answers.written.Given as goal

abbrev pub invariant-loop-byte : goal.invariant-loop-byte
invariant-loop-byte l = string_bytes l.text ≡ l.call ++ codes ":" ++ hex_bytes (take l.byte-index l.written)
