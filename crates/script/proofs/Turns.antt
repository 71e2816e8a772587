-- One line of a script read; and what the lines from a start on are found to be. Assumes nothing.
use mathlib.Core.Path.{◌≡◌, refl, ap}
use mathlib.Core.List.{List}
use Prim.Native.Nat.{ℕ, ◌+◌, ◌-◌, ◌≤◌, ◌<◌}
use native.Mathlib.Omega.{arith}
use lib.ListN.{length, take, drop, drop_of_length-le}
use Rattle.std.specs.Prelude.{Result, Ok, Err}
use Rattle.lines.specs.Lines.{lines, first_line}
use Rattle.lines.proofs.Places.{to_end, first_length}
use Rattle.lines.proofs.Front.{front_at}
use Rattle.script.specs.Commands.{command_of}
use Rattle.script.specs.Script.{meaning_of, place_after, Call, Script, calls, unreadable, called, followed, at_end, script_from}
use Rattle.script.specs.ScriptParts.{script_at, verdict_of, at_end_answer}
use Rattle.script.specs.declared.Command.{Command}
use Rattle.script.specs.declared.Place.{Place}
use Rattle.script.specs.declared.Place.TheVariants.{Outside, Inside}
use Rattle.script.specs.declared.LineStart.{LineStart}
use Rattle.script.specs.declared.Meaning.{Meaning}
use Rattle.script.specs.declared.ScriptError.{ScriptError}
use Rattle.script.specs.declared.ScriptError.TheVariants as error

-- a line of n bytes at a place of a text s
module _ (s : List ℕ) (at : ℕ) {n : ℕ} (long : n ≡ length (first_line (take (length s - at) (drop at s)))) where
  line_size : n ≡ length (first_line (drop at s))
  line_size = rw to_end at long

  line_text_lem : take n (take (length s - at) (drop at s)) ≡ first_line (drop at s)
  line_text_lem = rw (line_size, to_end s at, first_length (drop at s))

  -- the lines from there on, by what the first comes to
  pub line_turn : (place : Place) (number : ℕ) {k : Command} {m : Meaning} {p : Place} → at < length s
      → k ≡ command_of (take n (take (length s - at) (drop at s))) → m ≡ meaning_of place k at → p ≡ place_after place k number (at + n + 1)
      → script_from place number at (lines (drop at s)) ≡ followed m number (script_from p (number + 1) (at + n + 1) (lines (drop (at + n + 1) s)))
  unfolding script_from
  line_turn place number h says means after =
      let next : at + (length (first_line (drop at s)) + 1) ≡ at + n + 1 = omega (arith, line_size) in
      rw (front_at s at h, next, ← line_size, means, after, says, line_text_lem)

pub reads_end : (s : List ℕ) (start : LineStart) → length s ≤ start.at → script_at s start ≡ at_end start.place
unfolding script_from lines
reads_end s start h = rw (drop_of_length-le s h)

-- the verdict where n calls were read before
abbrev pub verdict_from : ℕ → Script → Result ℕ ScriptError
verdict_from n (calls cs) = Ok (n + length cs)
verdict_from n (unreadable number) = Err (error.Unreadable number)

pub verdict_starts : (x : Script) → verdict_of x ≡ verdict_from 0 x
verdict_starts (calls cs) = ap (λ (k : ℕ). Ok k) (omega arith)
verdict_starts (unreadable number) = refl

pub one_more : (n : ℕ) (c : Call) (rest : Script) → verdict_from n (called c rest) ≡ verdict_from (n + 1) rest
one_more n c (calls cs) = ap (λ (k : ℕ). Ok k) (omega arith)
one_more n c (unreadable k) = refl

pub verdict_ends : (n : ℕ) (place : Place) → verdict_from n (at_end place) ≡ at_end_answer place n
verdict_ends n Outside = ap (λ (k : ℕ). Ok k) (omega arith)
verdict_ends n (Inside number from) = refl
