-- For the functions under `replay`: only contracts of private functions and proofs cite what is here.
use Rattle.std.specs.Prelude.{cond, List, [], ◌∷◌, ℕ, ◌≤◌, leb, length, Result, Ok, Err}
use Rattle.r8_core.specs.Cores.{visible_of}
use Rattle.r8_core.specs.Spent.{spent_of}
use Rattle.r8_core.specs.Calls.{Answer}
use Rattle.r8_core.specs.declared.Core.{Core}
use Rattle.layout.specs.Layout.{left_numbers, onto_if_room}
use Rattle.plays.specs.Plays.{play}
use Rattle.machine.specs.Theorem.{State, fresh_state, on_core}
use Rattle.replay.specs.Replay.{read_call, Reading, listed, no_call, no_stretch, numbers_then, places_for}
use Rattle.replay.specs.declared.ListedCall.{ListedCall}
use Rattle.replay.specs.declared.ListedCall.TheVariants as listed_call
use Rattle.replay.specs.declared.CallFault.{CallFault}
use Rattle.replay.specs.declared.CallFault.TheVariants.{NoCall, NoStretch}
use Rattle.replay.specs.declared.ReplayError.{ReplayError}
use Rattle.replay.specs.declared.ReplayError.TheVariants as error

-- the fault of the call with an index
abbrev pub fault_at : CallFault → ℕ → ReplayError
fault_at NoCall i = error.NoCall i
fault_at NoStretch i = error.NoStretch i

-- what is found before anything is played
abbrev pub verdict_of : Reading → ℕ → Result ℕ ReplayError
verdict_of (listed calls) room = cond (leb (places_for calls) room) (Ok (length calls)) (Err error.NoRoom)
verdict_of (no_call i) room = Err (error.NoCall i)
verdict_of (no_stretch i) room = Err (error.NoStretch i)

-- a stretch that is read lies in the text
abbrev pub FitsIn : ℕ → ListedCall → Type 0
FitsIn size listed_call.Reset = Unit
FitsIn size (listed_call.Load from to) = (from ≤ to) × (to ≤ size)
FitsIn size (listed_call.Run b) = Unit
FitsIn size listed_call.Step = Unit
FitsIn size listed_call.View = Unit

abbrev pub ReadFits : ℕ → Result ListedCall CallFault → Type 0
ReadFits size (Ok call) = FitsIn size call
ReadFits size (Err why) = Unit

-- what a chunk of a list is read as: three numbers; a last chunk may have fewer
abbrev pub read_chunk : List ℕ → ℕ → Result ListedCall CallFault
read_chunk [] size = Err NoCall
read_chunk (a ∷ []) size = Err NoCall
read_chunk (a ∷ b ∷ []) size = Err NoCall
read_chunk (a ∷ b ∷ c ∷ []) size = read_call a b c size
read_chunk (a ∷ b ∷ c ∷ d ∷ more) size = Err NoCall

-- a list that can be played, with room for so many numbers
abbrev pub Playable : Reading → ℕ → Type 0
Playable (listed calls) room = places_for calls ≤ room
Playable (no_call i) room = ⊥
Playable (no_stretch i) room = ⊥

-- memory and answers of a list played on a core
pub record AfterPlay : Type 0 where
  pub memory : List ℕ
  pub answers : List ℕ

abbrev pub after_play : List ℕ → List ℕ → AfterPlay
after_play memory answers = record { memory = memory; answers = answers }

-- what a core is left as, and what is written of a play on it
abbrev pub core_left : Core → List ℕ
core_left core = left_numbers (visible_of core) (spent_of core) core.clock.0

abbrev pub core_numbers : List Answer × State → List ℕ
core_numbers p = numbers_then p.0 (core_left p.1.core)

abbrev pub core_played : Reading → List ℕ → List ℕ → AfterPlay
core_played (listed calls) memory answers =
    let played : List Answer × State = play on_core calls (fresh_state memory) in
    after_play played.1.memory (onto_if_room (core_numbers played) answers)
core_played (no_call i) memory answers = after_play memory answers
core_played (no_stretch i) memory answers = after_play memory answers
