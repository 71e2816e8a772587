-- What a line says, byte by byte, and which lines open and close a load: four statements, proved in proofs/Said.antt. Bytes stand here as
-- numbers, and a decimal's value has a recursion of its own, so that what the contracts cite is held to something else.
use Rattle.std.specs.Prelude.{◌≡◌, ◌↔◌, ◌⊎◌, true, List, [], ◌∷◌, ◌++◌, ℕ, ◌+◌, ◌-◌, ◌*◌, ◌≤◌, length, replicate}
use Rattle.lines.specs.Theorems.{Writes}
use Rattle.script.specs.Commands.{command_of}
use Rattle.script.specs.Script.{is_load, is_end}
use Rattle.script.specs.declared.Command.{Command}
use Rattle.script.specs.declared.Command.TheVariants.{Blank, Reset, Load, End, Run, Step, View, Listing}

-- the digits 0 to 9 are the bytes 48 to 57
unfoldable pub AllDigits : List ℕ → Type 0
AllDigits [] = Unit
AllDigits (b ∷ t) = (48 ≤ b) × (b ≤ 57) × AllDigits t

-- what digits write, the highest first, behind those whose value is n
unfoldable pub written : ℕ → List ℕ → ℕ
written n [] = n
written n (b ∷ t) = written (n * 10 + (b - 48)) t

-- 'spaces or none, then nothing or `;` and a comment'
abbrev pub EndLine : List ℕ → Type 0
EndLine t =
    (spaces : ℕ) × (rest : List ℕ) × ((rest ≡ []) ⊎ ((comment : List ℕ) × (rest ≡ 59 ∷ comment))) × (t ≡ replicate spaces 32 ++ rest)

-- a decimal digit or more, which write a number of 32 bits, then the end of a line
pub record DecimalLast (t : List ℕ) (n : ℕ) : Type 0 where
  pub digits : List ℕ
  pub end : List ℕ
  pub some : 1 ≤ length digits
  pub all : AllDigits digits
  pub value : written 0 digits ≡ n
  pub small : n ≤ 4294967295
  pub ending : EndLine end
  pub whole : t ≡ digits ++ end

-- `run`, one space, a number
pub record RunLine (line : List ℕ) (budget : ℕ) : Type 0 where
  pub text : List ℕ
  pub number : DecimalLast text budget
  pub whole : line ≡ 114 ∷ 117 ∷ 110 ∷ 32 ∷ text

-- `listing`, one space, an address in four hexadecimal digits, one space, a number
pub record ListingLine (line : List ℕ) (first count : ℕ) : Type 0 where
  pub address : List ℕ
  pub text : List ℕ
  pub writes : Writes address first
  pub number : DecimalLast text count
  pub whole : line ≡ 108 ∷ 105 ∷ 115 ∷ 116 ∷ 105 ∷ 110 ∷ 103 ∷ 32 ∷ (address ++ (32 ∷ text))

-- a line says a run exactly where it is written as one, with its budget (proved as `run_exactly`)
abbrev pub RunExactly : Type 0
RunExactly = (line : List ℕ) (b : ℕ) → (command_of line ≡ Run b) ↔ RunLine line b

-- and a listing exactly where it is written as one, with its address and its count (proved as `listing_exactly`)
abbrev pub ListingExactly : Type 0
ListingExactly = (line : List ℕ) (first count : ℕ) → (command_of line ≡ Listing first count) ↔ ListingLine line first count

-- a word, then the end of a line
abbrev pub WordLine : List ℕ → List ℕ → Type 0
WordLine word line = (end : List ℕ) × EndLine end × (line ≡ word ++ end)

-- a line is blank exactly where it is only the end of one, and says `reset`, `load`, `end`, `step` and `view` exactly where it is that
-- word; so what is none of these, and no run or listing, is `Unknown` (proved as `words_exactly`)
abbrev pub WordsExactly : Type 0
WordsExactly =
    (line : List ℕ)
    → ((command_of line ≡ Blank) ↔ EndLine line)
    × ((command_of line ≡ Reset) ↔ WordLine (114 ∷ 101 ∷ 115 ∷ 101 ∷ 116 ∷ []) line)
    × ((command_of line ≡ Load) ↔ WordLine (108 ∷ 111 ∷ 97 ∷ 100 ∷ []) line)
    × ((command_of line ≡ End) ↔ WordLine (101 ∷ 110 ∷ 100 ∷ []) line)
    × ((command_of line ≡ Step) ↔ WordLine (115 ∷ 116 ∷ 101 ∷ 112 ∷ []) line)
    × ((command_of line ≡ View) ↔ WordLine (118 ∷ 105 ∷ 101 ∷ 119 ∷ []) line)

-- only `load` opens a load, and only `end` closes it (proved as `load_exactly`)
abbrev pub LoadExactly : Type 0
LoadExactly = (command : Command) → ((is_load command ≡ true) ↔ (command ≡ Load)) × ((is_end command ≡ true) ↔ (command ≡ End))
