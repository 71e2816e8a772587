-- Document 01, 'Instruction table': word to form, by the table.
use Rattle.std.specs.Prelude.{ℕ}
use Rattle.table.specs.Table.{kind_of}
use Rattle.isa.specs.declared.Kind.{Kind}
use Rattle.isa.specs.declared.Target.{Target}
use Rattle.forms.specs.declared.Form.{Form}
use Rattle.forms.specs.declared.Operands.{Operands}
use Rattle.forms.specs.Answers.{Answer, given, refused}
use Rattle.forms.specs.Operands.{operands_of}

-- an instruction with its operands, those that it has
abbrev pub form_with : Kind → Operands → Answer Form
form_with Kind.Undefined x = refused 6
form_with (Kind.Binary op) x = given (Form.Binary op x.0 x.1 x.2)
form_with (Kind.Constant op) x = given (Form.Constant op x.0 x.3)
form_with Kind.Ld x = given (Form.Ld x.0 x.1 x.2)
form_with Kind.St x = given (Form.St x.0 x.1 x.2)
form_with (Kind.Unary op) x = given (Form.Unary op x.0 x.1)
form_with Kind.Nop x = given Form.Nop
form_with Kind.Halt x = given Form.Halt
form_with Kind.Ldsp x = given (Form.Ldsp x.1)
form_with Kind.Rts x = given Form.Rts
form_with Kind.Pop x = given (Form.Pop x.0)
form_with Kind.Push x = given (Form.Push x.0)
form_with (Kind.Jump condition Target.Relative) x = given (Form.JumpRelative condition x.1)
form_with (Kind.Jump condition Target.Absolute) x = given (Form.JumpAbsolute condition x.1)
form_with (Kind.Jump condition Target.Displaced) x = given (Form.JumpDisplaced condition x.4)
form_with (Kind.Call Target.Relative) x = given (Form.CallRelative x.1)
form_with (Kind.Call Target.Absolute) x = given (Form.CallAbsolute x.1)
form_with (Kind.Call Target.Displaced) x = given (Form.CallDisplaced x.5)

-- what word to form answers
unfoldable pub word_to_form : ℕ → Answer Form
word_to_form w = form_with (kind_of w) (operands_of w)
