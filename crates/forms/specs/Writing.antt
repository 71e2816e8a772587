-- Document 01, 'Instruction table': form to word, by the same table (that `entry` and `word_of` are its inverse is shown in
-- `table`, and that both ways meet in Theorems); the fields that it does not use are zero.
use Rattle.std.specs.Prelude.{ℕ, cond, pos}
use Rattle.words.specs.Arithmetic.{sum}
use Rattle.table.specs.Table.{entry, word_of}
use Rattle.isa.specs.declared.Kind.{Kind}
use Rattle.isa.specs.declared.Target.{Target}
use Rattle.forms.specs.declared.Form.{Form}
use Rattle.forms.specs.declared.Operands.{Operands}
use Rattle.forms.specs.declared.Parts.{Parts}
use Rattle.forms.specs.Answers.{Answer, given, refused}
use Rattle.forms.specs.Operands.{fault, placed}

-- the word of the table's entry n with operands in their fields, or number 5
unfoldable pub written_at : ℕ → Operands → Answer ℕ
written_at n x = cond (fault x) (refused 5) (given (sum (word_of n) (placed x)))

-- an instruction by its place in the table, with operands
abbrev pub parts : Kind → Operands → Parts
parts kind x = record { 0 = entry kind; 1 = x }

-- a form taken apart; the operands (t, a, b, k, d10, d12) that it lacks are zero
abbrev pub parts_of : Form → Parts
parts_of (Form.Binary op t a b) = parts (Kind.Binary op) (t, a, b, 0, pos 0, pos 0)
parts_of (Form.Constant op t k) = parts (Kind.Constant op) (t, 0, 0, k, pos 0, pos 0)
parts_of (Form.Ld t a b) = parts Kind.Ld (t, a, b, 0, pos 0, pos 0)
parts_of (Form.St t a b) = parts Kind.St (t, a, b, 0, pos 0, pos 0)
parts_of (Form.Unary op t a) = parts (Kind.Unary op) (t, a, 0, 0, pos 0, pos 0)
parts_of Form.Nop = parts Kind.Nop (0, 0, 0, 0, pos 0, pos 0)
parts_of Form.Halt = parts Kind.Halt (0, 0, 0, 0, pos 0, pos 0)
parts_of (Form.Ldsp a) = parts Kind.Ldsp (0, a, 0, 0, pos 0, pos 0)
parts_of Form.Rts = parts Kind.Rts (0, 0, 0, 0, pos 0, pos 0)
parts_of (Form.Pop t) = parts Kind.Pop (t, 0, 0, 0, pos 0, pos 0)
parts_of (Form.Push t) = parts Kind.Push (t, 0, 0, 0, pos 0, pos 0)
parts_of (Form.JumpRelative condition a) = parts (Kind.Jump condition Target.Relative) (0, a, 0, 0, pos 0, pos 0)
parts_of (Form.JumpAbsolute condition a) = parts (Kind.Jump condition Target.Absolute) (0, a, 0, 0, pos 0, pos 0)
parts_of (Form.CallRelative a) = parts (Kind.Call Target.Relative) (0, a, 0, 0, pos 0, pos 0)
parts_of (Form.CallAbsolute a) = parts (Kind.Call Target.Absolute) (0, a, 0, 0, pos 0, pos 0)
parts_of (Form.JumpDisplaced condition d10) = parts (Kind.Jump condition Target.Displaced) (0, 0, 0, 0, d10, pos 0)
parts_of (Form.CallDisplaced d12) = parts (Kind.Call Target.Displaced) (0, 0, 0, 0, pos 0, d12)

-- what form to word answers
unfoldable pub form_to_word : Form → Answer ℕ
form_to_word form = written_at (parts_of form).0 (parts_of form).1
