-- Scripts: the calls that the lines of a text are, as `replay::replay` takes them, and listings among them. The contract of `read` is an
-- equation with `script_read`.
use Rattle.std.specs.Prelude.{Bool, true, false, cond, List, [], ◌∷◌, ◌++◌, ℕ, ◌+◌, ◌*◌, leb, length, drop, Result, Ok, Err}
use Rattle.lines.specs.Lines.{lines}
use Rattle.script.specs.Commands.{command_of}
use Rattle.script.specs.declared.Command.{Command}
use Rattle.script.specs.declared.Command.TheVariants.{Blank, Reset, Load, End, Run, Step, View, Listing, Unknown}
use Rattle.script.specs.declared.Place.{Place}
use Rattle.script.specs.declared.Place.TheVariants.{Outside, Inside}
use Rattle.script.specs.declared.Meaning.{Meaning}
use Rattle.script.specs.declared.Meaning.TheVariants as meaning
use Rattle.script.specs.declared.ScriptError.{ScriptError}
use Rattle.script.specs.declared.ScriptError.TheVariants as error

-- outside a load a line is a call or nothing, or cannot be read; a load is a call only once its `end` is there. The cases below 100 are
-- those of `replay::replay`; from 100 on a case is the script's own
abbrev pub outside : Command → Meaning
outside Blank = meaning.Nothing
outside Reset = meaning.Call 0 0 0
outside Load = meaning.Nothing
outside End = meaning.Unreadable
outside (Run b) = meaning.Call 2 b 0
outside Step = meaning.Call 3 0 0
outside View = meaning.Call 4 0 0
outside (Listing first count) = meaning.Call 100 first count
outside Unknown = meaning.Unreadable

-- `load` opens a load, and `end` closes it
abbrev pub is_load : Command → Bool
is_load Blank = false
is_load Reset = false
is_load Load = true
is_load End = false
is_load (Run b) = false
is_load Step = false
is_load View = false
is_load (Listing first count) = false
is_load Unknown = false

abbrev pub is_end : Command → Bool
is_end Blank = false
is_end Reset = false
is_end Load = false
is_end End = true
is_end (Run b) = false
is_end Step = false
is_end View = false
is_end (Listing first count) = false
is_end Unknown = false

-- inside a load every line is its listing's, one of only a comment too, which is ill-formed there; up to `end`: the load's stretch goes up
-- to the start of that line
abbrev pub inside : Bool → ℕ → ℕ → Meaning
inside closed from start = cond closed (meaning.Call 1 from start) meaning.Nothing

-- what a line that starts at an offset comes to
abbrev pub meaning_of : Place → Command → ℕ → Meaning
meaning_of Outside command start = outside command
meaning_of (Inside number from) command start = inside (is_end command) from start

-- where the next line is: a load holds the number of its own line and the start of the line after it
abbrev pub after_outside : Bool → ℕ → ℕ → Place
after_outside opened number next = cond opened (Inside number next) Outside

abbrev pub after_inside : Bool → ℕ → ℕ → Place
after_inside closed number from = cond closed Outside (Inside number from)

abbrev pub place_after : Place → Command → ℕ → ℕ → Place
place_after Outside command number next = after_outside (is_load command) number next
place_after (Inside load from) command number next = after_inside (is_end command) load from

-- a call as three numbers: the case and two more
pub data Call : Type 0 where
  call : ℕ → ℕ → ℕ → Call

-- what a script is: its calls, or the number of the first line that cannot be read
pub data Script : Type 0 where
  calls : List Call → Script
  unreadable : ℕ → Script

abbrev pub called : Call → Script → Script
called first (calls rest) = calls (first ∷ rest)
called first (unreadable number) = unreadable number

abbrev pub followed : Meaning → ℕ → Script → Script
followed meaning.Nothing number rest = rest
followed (meaning.Call kind first second) number rest = called (call kind first second) rest
followed meaning.Unreadable number rest = unreadable number

-- a load that is still open at the end cannot be read
abbrev pub at_end : Place → Script
at_end Outside = calls []
at_end (Inside number from) = unreadable number

-- some lines, with the number and the start of the first; the next starts past a line and its LF
unfoldable pub script_from : Place → ℕ → ℕ → List (List ℕ) → Script
script_from place number start [] = at_end place
script_from place number start (line ∷ rest) =
    followed (meaning_of place (command_of line) start) number
    (script_from (place_after place (command_of line) number (start + length line + 1)) (number + 1) (start + length line + 1) rest)

-- lines are numbered from 1
unfoldable pub script_of : List ℕ → Script
script_of text = script_from Outside 1 0 (lines text)

unfoldable pub numbers_of : List Call → List ℕ
numbers_of [] = []
numbers_of (call kind first second ∷ rest) = kind ∷ first ∷ second ∷ numbers_of rest

-- what reading a script gives back: its answer, and the lent calls as they then are
pub record Given : Type 0 where
  pub answer : Result ℕ ScriptError
  pub calls : List ℕ

abbrev pub gave : Result ℕ ScriptError → List ℕ → Given
gave a numbers = record { answer = a; calls = numbers }

-- calls that fit are written from the first place on, and what is past them stays; else nothing changes
abbrev pub script_read : Script → List ℕ → Given
script_read (calls cs) old =
    cond (leb (3 * length cs) (length old)) (gave (Ok (length cs)) (numbers_of cs ++ drop (3 * length cs) old))
    (gave (Err error.NoRoom) old)
script_read (unreadable number) old = gave (Err (error.Unreadable number)) old
