-- Only contracts of private functions and proofs cite this: how `read` goes, line by line.
use Rattle.std.specs.Prelude.{List, [], ◌∷◌, ◌++◌, ℕ, ◌+◌, ◌*◌, ◌≤◌, length, drop, Result, Ok, Err}
use Rattle.std.proofs.lemmas.List.Edits.{sets}
use Rattle.lines.specs.Lines.{lines}
use Rattle.script.specs.Script.{Script, calls, unreadable, script_from, numbers_of}
use Rattle.script.specs.declared.Place.{Place}
use Rattle.script.specs.declared.Place.TheVariants.{Outside, Inside}
use Rattle.script.specs.declared.LineStart.{LineStart}
use Rattle.script.specs.declared.Meaning.{Meaning}
use Rattle.script.specs.declared.Meaning.TheVariants as meaning
use Rattle.script.specs.declared.ScriptError.{ScriptError}
use Rattle.script.specs.declared.ScriptError.TheVariants as error

-- the script that the lines from a start on are
abbrev pub script_at : List ℕ → LineStart → Script
script_at text start = script_from start.place start.number start.at (lines (drop start.at text))

-- a start that reading comes to: of a line, or past the text's end, by one at most, as the last line may lack its LF; and every line before
-- it took a byte or more
abbrev pub Within : List ℕ → LineStart → Type 0
Within text start = (start.at ≤ length text + 1) × (start.number ≤ start.at + 1)

-- what a script is found to be before anything is written
abbrev pub verdict_of : Script → Result ℕ ScriptError
verdict_of (calls cs) = Ok (length cs)
verdict_of (unreadable number) = Err (error.Unreadable number)

abbrev pub at_end_answer : Place → ℕ → Result ℕ ScriptError
at_end_answer Outside count = Ok count
at_end_answer (Inside number from) count = Err (error.Unreadable number)

abbrev pub calls_in : Meaning → ℕ
calls_in meaning.Nothing = 0
calls_in (meaning.Call kind first second) = 1
calls_in meaning.Unreadable = 0

-- one line's call written at a place
abbrev pub put : Meaning → ℕ → List ℕ → List ℕ
put meaning.Nothing to old = old
put (meaning.Call kind first second) to old = sets old to (kind ∷ first ∷ second ∷ [])
put meaning.Unreadable to old = old

-- a script whose calls fit, and what they leave
abbrev pub Fits : Script → ℕ → Type 0
Fits (calls cs) size = 3 * length cs ≤ size
Fits (unreadable number) size = ⊥

abbrev pub calls_written : Script → List ℕ → List ℕ
calls_written (calls cs) old = numbers_of cs ++ drop (3 * length cs) old
calls_written (unreadable number) old = old
