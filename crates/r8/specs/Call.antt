-- r8_run and r8_step: a call of a core given as numbers.
use Rattle.std.specs.Prelude.{cond, List, ℕ, eqb, ltb, length}
use Rattle.r8_core.specs.Calls.{Reply}
use Rattle.r8_core.specs.declared.Core.{Core}
use Rattle.layout.specs.Layout.{answer_size, answer_numbers, onto}
use Rattle.r8.specs.Codes.{Code, ok, no_room, no_core, code_number}
use Rattle.r8.specs.Numbers.{registers_of, state_of, core_of, is_core}

-- the slices that a caller lends
pub record Slices : Type 0 where
  pub registers : List ℕ
  pub state : List ℕ
  pub memory : List ℕ
  pub answer : List ℕ

abbrev pub slices : List ℕ → List ℕ → List ℕ → List ℕ → Slices
slices registers state memory answer =
    record { registers = registers; state = state; memory = memory; answer = answer }

-- first whether the numbers are a core's, then whether the answer has room
unfoldable pub code_of : List ℕ → List ℕ → List ℕ → Code
code_of registers state answer =
    cond (is_core registers state) (cond (ltb (length answer) answer_size) no_room ok) no_core

-- the next core, the memory and the answer
abbrev pub after : Reply → List ℕ → Slices
after reply answer =
    slices (registers_of reply.core) (state_of reply.core) reply.memory (onto (answer_numbers reply.answer) answer)

abbrev pub made : (Core → List ℕ → Reply) → Slices → Slices
made call x = after (call (core_of x.registers x.state) x.memory) x.answer

-- what is returned, and what is then in the slices: with a code other than 0, what was there
abbrev pub returned : ℕ → Slices → Slices → ℕ × Slices
returned code x next = (code, cond (eqb code 0) next x)

unfoldable pub called : (Core → List ℕ → Reply) → Slices → ℕ × Slices
called call x = returned (code_number (code_of x.registers x.state x.answer)) x (made call x)
