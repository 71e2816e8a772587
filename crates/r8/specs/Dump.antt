-- r8_listing: what it returns, and what is then in the text.
use Rattle.std.specs.Prelude.{List, ℕ}
use Rattle.dump.specs.Dump.{Answer, written, refused, refused_at, Dumped}
use Rattle.r8.specs.Codes.{ok, code_number}

-- a refusal's number is returned as itself; neither the bytes written, which the caller knows, nor the offset of 4, which is 0, is
abbrev pub dump_code : Answer → ℕ
dump_code (written bytes) = code_number ok
dump_code (refused number) = number
dump_code (refused_at number offset) = number

abbrev pub dump_returned : Dumped → ℕ × List ℕ
dump_returned x = (dump_code x.answer, x.text)
