-- What the functions return, by the names of include/r8.h, each with its number.
use Rattle.std.specs.Prelude.{ℕ}

pub data Code : Type 0 where
  ok : Code
  undefined : Code
  no_room : Code
  no_core : Code
  no_call : Code
  no_stretch : Code
  too_long : Code

-- 0: done; 6: document 01's 'word undefined', as itself; from 100 on this interface's own, past that document's numbers: a slice that would be
-- written is too short; numbers are no core's; three numbers are no call, or fewer are left; a load names no stretch of the text; a listing is
-- too long
abbrev pub code_number : Code → ℕ
code_number ok = 0
code_number undefined = 6
code_number no_room = 100
code_number no_core = 101
code_number no_call = 102
code_number no_stretch = 103
code_number too_long = 104
