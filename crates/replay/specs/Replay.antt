-- Lists of calls given as data: how a list is read, and what a replay of it gives. The contract of `replay` is an equation with
-- `replayed`, which plays the list on the instruction machine; that of `play_call`, for a single call on a core, one with `call_played`.
use Rattle.std.specs.Prelude.{cond, List, [], ◌∷◌, ◌++◌, ℕ, ◌+◌, ◌-◌, ◌*◌, eqb, leb, length, take, drop, Result, Ok, Err}
use Rattle.r8_core.specs.Calls.{Answer}
use Rattle.r8_core.specs.declared.Core.{Core}
use Rattle.layout.specs.Layout.{answer_size, answer_numbers, left_numbers, onto, NumberedReply, numbered}
use Rattle.plays.specs.Plays.{play}
use Rattle.machine.specs.Machine.{Machine, cycles_of, fresh_machine}
use Rattle.machine.specs.Theorem.{Call, reset, load, run, step, view, reply_to, on_machine}
use Rattle.replay.specs.declared.ListedCall.{ListedCall}
use Rattle.replay.specs.declared.ListedCall.TheVariants as listed_call
use Rattle.replay.specs.declared.CallFault.{CallFault}
use Rattle.replay.specs.declared.CallFault.TheVariants.{NoCall, NoStretch}
use Rattle.r8_core.specs.declared.Answered.{Answered}
use Rattle.replay.specs.declared.ReplayError.{ReplayError}
use Rattle.replay.specs.declared.ReplayError.TheVariants as error

-- A call is three numbers, the case and two more: 0 is reset; 1 a load of the bytes of the text from the first up to the second, which is
-- not included; 2 a run with the first as its budget, at most 4,294,967,295; 3 step; 4 view. What a case does not name is ignored.
abbrev pub read_stretch : ℕ → ℕ → ℕ → Result ListedCall CallFault
read_stretch first second size =
    cond (leb first second) (cond (leb second size) (Ok (listed_call.Load first second)) (Err NoStretch)) (Err NoStretch)

abbrev pub read_budget : ℕ → Result ListedCall CallFault
read_budget first = cond (leb first 4294967295) (Ok (listed_call.Run first)) (Err NoCall)

abbrev pub read_call : ℕ → ℕ → ℕ → ℕ → Result ListedCall CallFault
read_call kind first second size =
    cond (eqb kind 0) (Ok listed_call.Reset)
    (cond (eqb kind 1) (read_stretch first second size)
    (cond (eqb kind 2) (read_budget first)
    (cond (eqb kind 3) (Ok listed_call.Step) (cond (eqb kind 4) (Ok listed_call.View) (Err NoCall)))))

-- a call that was read, as one of `EveryList`
abbrev pub call_of : List ℕ → ListedCall → Call
call_of text listed_call.Reset = reset
call_of text (listed_call.Load from to) = load (take (to - from) (drop from text))
call_of text (listed_call.Run b) = run b
call_of text listed_call.Step = step
call_of text listed_call.View = view

-- what a single call gives back: the numbers of its answer, or why it is not played, and the next core and the lent memory as they then are
pub record CallPlayed : Type 0 where
  pub answer : Result (List ℕ) CallFault
  pub core : Core
  pub memory : List ℕ

abbrev pub call_gave : Answered (Result (List ℕ) CallFault) → List ℕ → CallPlayed
call_gave r memory = record { answer = r.answer; core = r.core; memory = memory }

-- core and memory stay
abbrev pub kept : CallFault → Core → List ℕ → CallPlayed
kept why core memory = record { answer = Err why; core = core; memory = memory }

abbrev pub answered : NumberedReply → CallPlayed
answered reply = record { answer = Ok reply.numbers; core = reply.core; memory = reply.memory }

-- what is read as a call replies as that call does; anything else is not played
abbrev pub call_played : List ℕ → Result ListedCall CallFault → Core → List ℕ → CallPlayed
call_played text (Ok call) core memory = answered (numbered (reply_to (call_of text call) core memory))
call_played text (Err why) core memory = kept why core memory

-- what a list is read as: its calls; or the index, from 0, of the first that is no call, or whose stretch is not in the text
pub data Reading : Type 0 where
  listed : List Call → Reading
  no_call : ℕ → Reading
  no_stretch : ℕ → Reading

abbrev pub following : Call → Reading → Reading
following call (listed calls) = listed (call ∷ calls)
following call (no_call i) = no_call i
following call (no_stretch i) = no_stretch i

abbrev pub read_then : List ℕ → ℕ → Result ListedCall CallFault → Reading → Reading
read_then text i (Ok call) rest = following (call_of text call) rest
read_then text i (Err NoCall) rest = no_call i
read_then text i (Err NoStretch) rest = no_stretch i

-- the calls from index i on; one or two numbers at the end are no call
unfoldable pub read_from : List ℕ → ℕ → List ℕ → Reading
read_from text i [] = listed []
read_from text i (a ∷ []) = no_call i
read_from text i (a ∷ b ∷ []) = no_call i
read_from text i (a ∷ b ∷ c ∷ rest) = read_then text i (read_call a b c (length text)) (read_from text (i + 1) rest)

abbrev pub read_calls : List ℕ → List ℕ → Reading
read_calls text numbers = read_from text 0 numbers

-- the numbers of some answers, one after the other, and then some more
unfoldable pub numbers_then : List Answer → List ℕ → List ℕ
numbers_then [] last = last
numbers_then (answer ∷ rest) last = answer_numbers answer ++ numbers_then rest last

-- what a replay gives back: its answer, and the lent memory and answers as they then are
pub record Replayed : Type 0 where
  pub answer : Result ℕ ReplayError
  pub memory : List ℕ
  pub answers : List ℕ

abbrev pub replay_gave : Result ℕ ReplayError → List ℕ → List ℕ → Replayed
replay_gave answer memory answers = record { answer = answer; memory = memory; answers = answers }

-- the calls played on the instruction machine, which starts fresh on the memory
abbrev pub machine_play : List Call → List ℕ → List Answer × Machine
machine_play calls memory = play on_machine calls (fresh_machine memory)

-- the clock is written as the sum of the finished instructions' cycles since the last reset plus those of the unfinished one; by `EveryList` it is T
abbrev pub machine_left : Machine → List ℕ
machine_left m = left_numbers m.visible m.spent (cycles_of m.log + m.spent)

abbrev pub machine_numbers : List Answer × Machine → List ℕ
machine_numbers p = numbers_then p.0 (machine_left p.1)

-- the memory is the machine's; its answers are written from the first place on, then what the list left; places past that stay
abbrev pub machine_replay : List Call → List ℕ → List ℕ → Replayed
machine_replay calls memory answers =
    replay_gave (Ok (length calls)) (machine_play calls memory).1.memory
    (onto (machine_numbers (machine_play calls memory)) answers)

-- the places that are written: 23 for each answer, and 23 for what the list left
abbrev pub places_for : List Call → ℕ
places_for calls = answer_size * (length calls + 1)

-- a list that is read, where there are places enough, is played; any other changes nothing
abbrev pub replayed : Reading → List ℕ → List ℕ → Replayed
replayed (listed calls) memory answers =
    cond (leb (places_for calls) (length answers)) (machine_replay calls memory answers) (replay_gave (Err error.NoRoom) memory answers)
replayed (no_call i) memory answers = replay_gave (Err (error.NoCall i)) memory answers
replayed (no_stretch i) memory answers = replay_gave (Err (error.NoStretch i)) memory answers
