-- What the numbers of a script are: to `replay::replay` the calls that its lines say; and the listings that they ask for. One statement,
-- `ScriptPlayed`, proved in proofs/Played.antt. Its definitions up to `meant` know nothing of numbers: a call is one of the theorem over
-- lists.
use Rattle.std.specs.Prelude.{◌≡◌, cond, List, [], ◌∷◌, ◌++◌, ℕ, ◌+◌, ◌-◌, ◌*◌, length, take, drop, Ok}
use Rattle.lines.specs.Lines.{lines}
use Rattle.machine.specs.Theorem.{Call, reset, load, run, step, view}
use Rattle.replay.specs.Replay.{listed, read_calls}
use Rattle.script.specs.Commands.{command_of}
use Rattle.script.specs.Script.{is_load, is_end, script_of, Given, script_read}
use Rattle.script.specs.declared.Command.{Command}
use Rattle.script.specs.declared.Command.TheVariants.{Blank, Reset, Load, End, Run, Step, View, Listing, Unknown}

-- what a line asks for: a call of the theorem over lists, or a listing of so many words from an address on
pub data Asked : Type 0 where
  called : Call → Asked
  listing : ℕ → ℕ → Asked

-- a line stands in no load, or in one whose listing starts at an offset
pub data Opened : Type 0 where
  free : Opened
  loading : ℕ → Opened

-- in no load, a line asks for its call or listing, or for none; one that cannot be read is in no script that is read
abbrev pub said_free : Command → List Asked
said_free Blank = []
said_free Reset = called reset ∷ []
said_free Load = []
said_free End = []
said_free (Run b) = called (run b) ∷ []
said_free Step = called step ∷ []
said_free View = called view ∷ []
said_free (Listing first count) = listing first count ∷ []
said_free Unknown = []

-- in a load, `end` asks for the load of the bytes from its listing's start up to the start of this line
abbrev pub said : List ℕ → Opened → Command → ℕ → List Asked
said text free command start = said_free command
said text (loading from) command start = cond (is_end command) (called (load (take (start - from) (drop from text))) ∷ []) []

-- `load` opens a load, whose listing starts with the next line, and `end` closes it
abbrev pub opened_after : Opened → Command → ℕ → Opened
opened_after free command next = cond (is_load command) (loading next) free
opened_after (loading from) command next = cond (is_end command) free (loading from)

-- what some lines of a text ask for, with the start of the first; the next starts past a line and its LF
unfoldable pub meant : List ℕ → Opened → ℕ → List (List ℕ) → List Asked
meant text opened start [] = []
meant text opened start (line ∷ rest) =
    said text opened (command_of line) start
    ++ meant text (opened_after opened (command_of line) (start + length line + 1)) (start + length line + 1) rest

-- three numbers are what is asked for: by themselves they are, to `replay::replay`, just that call; or they are the case 100, the address
-- and the count
abbrev pub ReadAs : List ℕ → ℕ → ℕ → ℕ → Asked → Type 0
ReadAs text kind first second (called c) = read_calls text (kind ∷ first ∷ second ∷ []) ≡ listed (c ∷ [])
ReadAs text kind first second (listing address count) = (kind ≡ 100) × (first ≡ address) × (second ≡ count)

-- and so in order, no number more and none less
unfoldable pub AllReadAs : List ℕ → List ℕ → List Asked → Type 0
AllReadAs text [] [] = Unit
AllReadAs text [] (asked ∷ others) = ⊥
AllReadAs text (kind ∷ []) asked = ⊥
AllReadAs text (kind ∷ first ∷ []) asked = ⊥
AllReadAs text (kind ∷ first ∷ second ∷ rest) [] = ⊥
AllReadAs text (kind ∷ first ∷ second ∷ rest) (asked ∷ others) = ReadAs text kind first second asked × AllReadAs text rest others

-- the numbers that `read` writes, three for each of as many as it answers, are what the script's lines ask for: every stretch lies in the text
-- and every budget has 32 bits, so that `replay::replay` takes each call for the one that is meant (proved as `script_played`)
abbrev pub ScriptPlayed : Type 0
ScriptPlayed =
    (text old : List ℕ) (count : ℕ)
    → let given : Given = script_read (script_of text) old in
    given.answer ≡ Ok count → AllReadAs text (take (3 * count) given.calls) (meant text free 0 (lines text))
