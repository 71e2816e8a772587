-- The theorem `ScriptPlayed` of specs/Played.antt: by induction on the lines; what is read is what is written. Assumes nothing.
use mathlib.Core.Path.{◌≡◌, refl}
use mathlib.Core.Bool.{Bool, true, false, cond}
use mathlib.Core.List.{List, [], ◌∷◌, ◌++◌}
use Prim.Native.Nat.{ℕ, ◌+◌, ◌-◌, ◌*◌, ◌≤◌}
use native.Mathlib.Omega.{arith}
use borrow.Author.Tests.{le-leb}
use lib.Dec.{leb}
use lib.ListN.{length, take, drop}
use lib.Seq.{take_at}
use Rattle.std.specs.Prelude.{Ok, Err}
use Rattle.lines.specs.Lines.{lines}
use Rattle.lines.specs.Theorems.{start_after}
use Rattle.machine.specs.Theorem.{reset, load, run, step, view}
use Rattle.replay.specs.Replay.{read_from}
use Rattle.script.specs.Commands.{command_of}
use Rattle.script.specs.Script.{is_load, is_end, inside, meaning_of, after_outside, after_inside, place_after, Script, calls, unreadable, call, followed, script_from, script_of, numbers_of, gave, script_read}
use Rattle.script.specs.Script as script
use Rattle.script.specs.Played.{Asked, called, listing, Opened, free, loading, said, opened_after, meant, ReadAs, AllReadAs, ScriptPlayed}
use Rattle.script.specs.declared.Command.{Command}
use Rattle.script.specs.declared.Command.TheVariants.{Blank, Reset, Load, End, Run, Step, View, Listing, Unknown}
use Rattle.script.specs.declared.Place.{Place}
use Rattle.script.specs.declared.Place.TheVariants.{Outside, Inside}
use Rattle.script.specs.declared.Meaning.{Meaning}
use Rattle.script.specs.declared.Meaning.TheVariants as meaning
use Rattle.script.specs.declared.ScriptError.TheVariants as error
use Rattle.script.proofs.Writes.{not_calls, numbers_length}
use Rattle.script.proofs.Theorems.{Bounded, command_fair, Before, lines_bytes}

-- a place, by the offset alone
abbrev opened_at : Place → Opened
opened_at Outside = free
opened_at (Inside number from) = loading from

module _ (number next : ℕ) where
  opened_after_lem : (place : Place) (command : Command)
      → opened_at (place_after place command number next) ≡ opened_after (opened_at place) command next
  opened_after_lem Outside command = by (is_load command) where
    by : (t : Bool) → opened_at (after_outside t number next) ≡ cond t (loading next) free
    by true = refl
    by false = refl
  opened_after_lem (Inside opener from) command = by (is_end command) where
    by : (t : Bool) → opened_at (after_inside t opener from) ≡ cond t free (loading from)
    by true = refl
    by false = refl

  before_after : (place : Place) (command : Command) (start : ℕ) → start ≤ next → Before place start
      → Before (place_after place command number next) next
  before_after Outside command start h b = by (is_load command) where
    by : (t : Bool) → Before (after_outside t number next) next
    by true = omega arith
    by false = tt
  before_after (Inside opener from) command start h b = by (is_end command) where
    by : (t : Bool) → Before (after_inside t opener from) next
    by true = tt
    by false = omega arith

module _ (text : List ℕ) where
  -- a line's numbers are read as what it asks for
  Means : Meaning → List Asked → Type 0
  Means meaning.Nothing s = s ≡ []
  Means (meaning.Call kind first second) s = (asked : Asked) × ReadAs text kind first second asked × (s ≡ asked ∷ [])
  Means meaning.Unreadable s = Unit

  means : (place : Place) (command : Command) (start : ℕ) → Bounded command → Before place start → start ≤ length text
      → Means (meaning_of place command start) (said text (opened_at place) command start)
  unfolding Means read_from
  means Outside Blank start s b h = refl
  means Outside Reset start s b h = (called reset, refl, refl)
  means Outside Load start s b h = refl
  means Outside End start s b h = tt
  means Outside (Run n) start s b h = (called (run n), rw (le-leb n 4294967295 s), refl)
  means Outside Step start s b h = (called step, refl, refl)
  means Outside View start s b h = (called view, refl, refl)
  means Outside (Listing first count) start s b h = (listing first count, (refl, refl, refl), refl)
  means Outside Unknown start s b h = tt
  means (Inside number from) command start s b h = by (is_end command) where
    by : (t : Bool) → Means (inside t from start) (cond t (called (load (take (start - from) (drop from text))) ∷ []) [])
    by true = (called (load (take (start - from) (drop from text))), rw (le-leb from start b, le-leb start (length text) h), refl)
    by false = refl

  -- a line more
  one_more : (m : Meaning) (s : List Asked) (number : ℕ) (x : Script) (more : List Asked) → Means m s
      → ((cs : List script.Call) → x ≡ calls cs → AllReadAs text (numbers_of cs) more)
      → (cs : List script.Call) → followed m number x ≡ calls cs → AllReadAs text (numbers_of cs) (s ++ more)
  unfolding Means AllReadAs numbers_of
  one_more meaning.Nothing s number x more r ih cs e = rw r (ih cs e)
  one_more (meaning.Call kind first second) s number (calls left) more r ih cs e =
      let split : cs ≡ call kind first second ∷ left = cc in rw (split, r.2) (r.1, ih left refl)
  one_more (meaning.Call kind first second) s number (unreadable k) more r ih cs e = absurd (not_calls e)
  one_more meaning.Unreadable s number x more r ih cs e = absurd (not_calls e)

  played : (ls : List (List ℕ)) (place : Place) (number start : ℕ) → start + start_after ls ≤ length text + 1 → Before place start
      → (cs : List script.Call) → script_from place number start ls ≡ calls cs
      → AllReadAs text (numbers_of cs) (meant text (opened_at place) start ls)
  unfolding script_from meant start_after AllReadAs numbers_of
  played [] Outside number start h b cs e = let none : cs ≡ [] = cc in rw none tt
  played [] (Inside opener from) number start h b cs e = absurd (not_calls e)
  played (line ∷ rest) place number start h b cs e =
      let next = start + length line + 1 in
      let command = command_of line in
      one_more (meaning_of place command start) (said text (opened_at place) command start) number
      (script_from (place_after place command number next) (number + 1) next rest)
      (meant text (opened_after (opened_at place) command next) next rest)
      (means place command start (command_fair line).small b (omega arith))
      (λ left r.
      rw (← opened_after_lem number next place command)
      (played rest (place_after place command number next) (number + 1) next (omega arith)
      (before_after number next place command start (omega arith) b) left r))
      cs e

all_played : (text : List ℕ) (cs : List script.Call) → script_of text ≡ calls cs → AllReadAs text (numbers_of cs) (meant text free 0 (lines text))
unfolding script_of
all_played text cs e = played text (lines text) Outside 1 0 (omega (arith, lines_bytes text)) tt cs e

pub script_played : ScriptPlayed
script_played text old count = by (script_of text) refl
  where
    room : (cs : List script.Call) → script_of text ≡ calls cs → (fits : Bool)
        → (cond fits (gave (Ok (length cs)) (numbers_of cs ++ drop (3 * length cs) old)) (gave (Err error.NoRoom) old)).answer ≡ Ok count
        → AllReadAs text (take (3 * count) (cond fits (gave (Ok (length cs)) (numbers_of cs ++ drop (3 * length cs) old)) (gave (Err error.NoRoom) old)).calls) (meant text free 0 (lines text))
    room cs e true r =
        let many : length cs ≡ count = cc in
        rw (← many, take_at (numbers_of cs) (drop (3 * length cs) old) (3 * length cs) (numbers_length cs)) (all_played text cs e)
    room cs e false r = let z : ◌≡◌ {A = ℕ} 0 1 = cc in absurd (omega arith)

    by : (x : Script) → script_of text ≡ x → (script_read x old).answer ≡ Ok count
        → AllReadAs text (take (3 * count) (script_read x old).calls) (meant text free 0 (lines text))
    by (calls cs) e r = room cs e (leb (3 * length cs) (length old)) r
    by (unreadable number) e r = let z : ◌≡◌ {A = ℕ} 0 1 = cc in absurd (omega arith)
