-- r8_replay: what it returns, and what is then in the slices and behind `at`.
use Rattle.std.specs.Prelude.{List, ℕ, Result, Ok, Err}
use Rattle.replay.specs.Replay.{Replayed}
use Rattle.replay.specs.declared.ReplayError.{ReplayError}
use Rattle.replay.specs.declared.ReplayError.TheVariants.{NoCall, NoStretch, NoRoom}
use Rattle.r8.specs.Codes.{Code, ok, no_call, no_stretch, no_room, code_number}

abbrev pub replay_code : Result ℕ ReplayError → Code
replay_code (Ok count) = ok
replay_code (Err (NoCall i)) = no_call
replay_code (Err (NoStretch i)) = no_stretch
replay_code (Err NoRoom) = no_room

-- how many calls were played, or which is faulty
abbrev pub replay_place : Result ℕ ReplayError → ℕ
replay_place (Ok count) = count
replay_place (Err (NoCall i)) = i
replay_place (Err (NoStretch i)) = i
replay_place (Err NoRoom) = 0

pub record Returned : Type 0 where
  pub code : ℕ
  pub at : ℕ
  pub memory : List ℕ
  pub answers : List ℕ

abbrev pub returned_replay : ℕ → ℕ → List ℕ → List ℕ → Returned
returned_replay code at memory answers = record { code = code; at = at; memory = memory; answers = answers }

-- what `replay` says of it, with its answer as numbers
abbrev pub replay_returned : Replayed → Returned
replay_returned x = returned_replay (code_number (replay_code x.answer)) (replay_place x.answer) x.memory x.answers
