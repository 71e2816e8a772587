-- Document 01, 'Numbers from the input': what the two answers of `forms` say.
use Rattle.std.specs.Prelude.{ℕ, Result, Ok, Err}
use Rattle.forms.specs.declared.Form.{Form}
use Rattle.forms.specs.declared.Undefined.{Undefined}
use Rattle.forms.specs.declared.OutOfRange.{OutOfRange}

-- a value, or the number of a refusal
pub data Answer (A : Type 0) : Type 0 where
  given : A → Answer A
  refused : ℕ → Answer A

-- 6 is 'word undefined (word to form only)'
abbrev pub form_answer : Result Form Undefined → Answer Form
form_answer (Ok form) = given form
form_answer (Err undefined) = refused 6

-- 5 is that of a form with an operand out of range
abbrev pub word_answer : Result ℕ OutOfRange → Answer ℕ
word_answer (Ok word) = given word
word_answer (Err out_of_range) = refused 5
