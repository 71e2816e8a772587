-- Words and forms, over all fields at one go, and what answers are read as: seven statements, proved in proofs/Theorems.antt,
-- proofs/Means.antt and proofs/Read.antt.
use Rattle.std.specs.Prelude.{◌≡◌, ◌↔◌, Bool, true, false, cond, ◌||◌, ℕ, ◌+◌, ◌-◌, ◌*◌, ◌%◌, ◌<◌, ltb, ℤ, pos, Ok, Err}
use Rattle.std.proofs.Math.IntN.{sub_ℕ}
use Rattle.isa.specs.Fields.{field_t, field_a, field_b, field_k, bits11to10}
use Rattle.table.specs.Table.{kind_of}
use Rattle.isa.specs.declared.Kind.{Kind}
use Rattle.isa.specs.declared.Kind.TheVariants.{Undefined, Binary, Constant, Ld, St, Unary, Nop, Halt, Ldsp, Rts, Pop, Push, Jump, Call}
use Rattle.isa.specs.declared.Condition.TheVariants.{Always, Negative, Zero, Carry, Overflow}
use Rattle.isa.specs.declared.Target.TheVariants.{Relative, Absolute, Displaced}
use Rattle.forms.specs.declared.Form.{Form}
use Rattle.forms.specs.declared.Undefined.{Undefined as NoForm}
use Rattle.forms.specs.declared.OutOfRange.{OutOfRange}
use Rattle.forms.specs.Answers.{given, refused, form_answer, word_answer}
use Rattle.forms.specs.Operands.{no_register, no_constant, no_short, no_long}
use Rattle.forms.specs.Reading.{word_to_form}
use Rattle.forms.specs.Writing.{form_to_word}

-- 'sign extended': a number below 2 * half with its sign, from half on that number less 2 * half
abbrev pub with_sign : ℕ → ℕ → ℤ
with_sign half v = cond (ltb v half) (pos v) (sub_ℕ v (2 * half))

-- what a form says of a word: which instruction of the table it is, and its fields by their names; 'd10 and d12 are bits 9-0 and 11-0'
abbrev pub Means : Form → ℕ → Type 0
Means (Form.Binary op t a b) w = (kind_of w ≡ Binary op) × (t ≡ field_t w) × (a ≡ field_a w) × (b ≡ field_b w)
Means (Form.Constant op t k) w = (kind_of w ≡ Constant op) × (t ≡ field_t w) × (k ≡ field_k w)
Means (Form.Ld t a b) w = (kind_of w ≡ Ld) × (t ≡ field_t w) × (a ≡ field_a w) × (b ≡ field_b w)
Means (Form.St t a b) w = (kind_of w ≡ St) × (t ≡ field_t w) × (a ≡ field_a w) × (b ≡ field_b w)
Means (Form.Unary op t a) w = (kind_of w ≡ Unary op) × (t ≡ field_t w) × (a ≡ field_a w)
Means Form.Nop w = kind_of w ≡ Nop
Means Form.Halt w = kind_of w ≡ Halt
Means (Form.Ldsp a) w = (kind_of w ≡ Ldsp) × (a ≡ field_a w)
Means Form.Rts w = kind_of w ≡ Rts
Means (Form.Pop t) w = (kind_of w ≡ Pop) × (t ≡ field_t w)
Means (Form.Push t) w = (kind_of w ≡ Push) × (t ≡ field_t w)
Means (Form.JumpRelative condition a) w = (kind_of w ≡ Jump condition Relative) × (a ≡ field_a w)
Means (Form.JumpAbsolute condition a) w = (kind_of w ≡ Jump condition Absolute) × (a ≡ field_a w)
Means (Form.CallRelative a) w = (kind_of w ≡ Call Relative) × (a ≡ field_a w)
Means (Form.CallAbsolute a) w = (kind_of w ≡ Call Absolute) × (a ≡ field_a w)
Means (Form.JumpDisplaced condition d10) w = (kind_of w ≡ Jump condition Displaced) × (d10 ≡ with_sign 512 (w % 1024))
Means (Form.CallDisplaced d12) w = (kind_of w ≡ Call Displaced) × (d12 ≡ with_sign 2048 (w % 4096))

-- a form is a word's form exactly where it means that word (proved as `form_means`)
abbrev pub FormMeans : Type 0
FormMeans = (w : ℕ) (f : Form) → (word_to_form w ≡ given f) ↔ Means f w

-- the fields that the table does not use for an instruction, as they stand in a word: t, a, or bits 11-10 of D (of an undefined
-- word nothing is asked)
abbrev pub unused_by : Kind → ℕ → ℕ
unused_by Undefined w = 0
unused_by (Binary op) w = 0
unused_by (Constant op) w = 0
unused_by Ld w = 0
unused_by St w = 0
unused_by (Unary op) w = 0
unused_by Nop w = field_t w * 256 + field_a w * 16
unused_by Halt w = field_t w * 256 + field_a w * 16
unused_by Ldsp w = field_t w * 256
unused_by Rts w = field_t w * 256 + field_a w * 16
unused_by Pop w = field_a w * 16
unused_by Push w = field_a w * 16
unused_by (Jump condition Relative) w = field_t w * 256
unused_by (Jump condition Absolute) w = field_t w * 256
unused_by (Jump Always Displaced) w = bits11to10 w * 1024
unused_by (Jump Negative Displaced) w = 0
unused_by (Jump Zero Displaced) w = 0
unused_by (Jump Carry Displaced) w = 0
unused_by (Jump Overflow Displaced) w = 0
unused_by (Call Relative) w = field_t w * 256
unused_by (Call Absolute) w = field_t w * 256
unused_by (Call Displaced) w = 0

-- of any word; they are fields of it in their places, so that `w - unused w` is the word with them zero
unfoldable pub unused : ℕ → ℕ
unused w = unused_by (kind_of w) w

-- form to word to form is the identity on every form that has a word (proved as `form_word_form`)
abbrev pub FormWordForm : Type 0
FormWordForm = (f : Form) (w : ℕ) → form_to_word f ≡ given w → word_to_form w ≡ given f

-- word to form to word, where the word has a form, is the word with its unused fields zero (proved as `word_form_word`)
abbrev pub WordFormWord : Type 0
WordFormWord = (w : ℕ) → w < 65536 → (f : Form) → word_to_form w ≡ given f → form_to_word f ≡ given (w - unused w)

-- and is the word itself exactly where they are zero (proved as `unchanged`)
abbrev pub Unchanged : Type 0
Unchanged = (w : ℕ) → w < 65536 → (f : Form) → word_to_form w ≡ given f → (form_to_word f ≡ given w) ↔ (unused w ≡ 0)

-- a word is refused exactly where its kind is undefined, with 6 (proved as `refused_word`)
abbrev pub RefusedWord : Type 0
RefusedWord = (w n : ℕ) → (word_to_form w ≡ refused n) ↔ ((kind_of w ≡ Undefined) × (n ≡ 6))

-- number 5 of a form: 'a register above 15, constant above 255, d10 outside -512..511 or d12 outside -2048..2047'
abbrev pub out_of_range : Form → Bool
out_of_range (Form.Binary op t a b) = no_register t || (no_register a || no_register b)
out_of_range (Form.Constant op t k) = no_register t || no_constant k
out_of_range (Form.Ld t a b) = no_register t || (no_register a || no_register b)
out_of_range (Form.St t a b) = no_register t || (no_register a || no_register b)
out_of_range (Form.Unary op t a) = no_register t || no_register a
out_of_range Form.Nop = false
out_of_range Form.Halt = false
out_of_range (Form.Ldsp a) = no_register a
out_of_range Form.Rts = false
out_of_range (Form.Pop t) = no_register t
out_of_range (Form.Push t) = no_register t
out_of_range (Form.JumpRelative condition a) = no_register a
out_of_range (Form.JumpAbsolute condition a) = no_register a
out_of_range (Form.CallRelative a) = no_register a
out_of_range (Form.CallAbsolute a) = no_register a
out_of_range (Form.JumpDisplaced condition d10) = no_short d10
out_of_range (Form.CallDisplaced d12) = no_long d12

-- a form is refused exactly there, with 5 (proved as `refused_form`)
abbrev pub RefusedForm : Type 0
RefusedForm = (f : Form) (n : ℕ) → (form_to_word f ≡ refused n) ↔ ((out_of_range f ≡ true) × (n ≡ 5))

-- 'this paper's number and values for each of its cases': an answer of either conversion is read as what it holds, or as 6 or 5 (proved as
-- `forms_read`)
abbrev pub FormsRead : Type 0
FormsRead =
    ((form : Form) → form_answer (Ok form) ≡ given form)
    × ((undefined : NoForm) → form_answer (Err undefined) ≡ refused 6)
    × ((word : ℕ) → word_answer (Ok word) ≡ given word)
    × ((out_of_range : OutOfRange) → word_answer (Err out_of_range) ≡ refused 5)
