-- r8_form: the form of a word as seven numbers.
use Rattle.std.specs.Prelude.{cond, List, [], ◌∷◌, ℕ, ltb, length}
use Rattle.forms.specs.Answers.{Answer, given, refused}
use Rattle.forms.specs.Operands.{unsigned}
use Rattle.forms.specs.Reading.{word_to_form}
use Rattle.forms.specs.Writing.{parts_of}
use Rattle.forms.specs.declared.Form.{Form}
use Rattle.forms.specs.declared.Parts.{Parts}
use Rattle.layout.specs.Layout.{onto}
use Rattle.r8.specs.Codes.{ok, no_room, code_number}

abbrev pub form_size : ℕ
form_size = 7

-- the place in the table, from 0 (ADD) to 39 (JSRD); then t, a, b, k, d10, d12, a displacement as a word
abbrev pub part_numbers : Parts → List ℕ
part_numbers x =
    x.0 ∷ x.1.0 ∷ x.1.1 ∷ x.1.2 ∷ x.1.3 ∷ unsigned x.1.4 ∷ unsigned x.1.5 ∷ []

-- of a form, whose operands are zero where it lacks them
unfoldable pub form_numbers : Form → List ℕ
form_numbers form = part_numbers (parts_of form)

-- a refusal's number is returned as itself
abbrev pub formed_from : Answer Form → List ℕ → ℕ × List ℕ
formed_from (given form) slice = (code_number ok, onto (form_numbers form) slice)
formed_from (refused number) slice = (number, slice)

-- what r8_form returns and leaves in the slice: first whether that has room
unfoldable pub formed : ℕ → List ℕ → ℕ × List ℕ
formed word slice = cond (ltb (length slice) form_size) (code_number no_room, slice) (formed_from (word_to_form word) slice)
