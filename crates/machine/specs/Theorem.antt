-- Demand 3: on every list of calls a core and the instruction machine agree (`EveryList`), and after each cycle of a run, as the definition of
-- run has them (`EveryMoment`); and so do calls of the code, made one after the other (`EveryListMade`, by the contracts of the functions:
-- `ContractsKept`, `NothingAsked` of Contracts.antt). Three statements, proved in proofs/Theorem.antt and proofs/Made.antt.
use Rattle.std.specs.Prelude.{◌≡◌, true, List, map, ℕ, ◌+◌, ◌≤◌, length, Result}
use Rattle.r8_core.specs.declared.Answered.{Answered}
use Rattle.r8_core.specs.declared.ListingError.{ListingError}
use Rattle.r8_core.specs.declared.Ran.{Ran}
use Rattle.refusals.specs.declared.Refusal.{Refusal}
use Rattle.r8_core.specs.declared.Snapshot.{Snapshot}
use Rattle.r8_core.specs.Cores.{visible_of, fresh_core}
use Rattle.r8_core.specs.Spent.{spent_of, due_in_range}
use Rattle.r8_core.specs.Progress.{Progress, starting, cycles_on}
use Rattle.r8_core.specs.Calls as core
use Rattle.r8_core.specs.Calls.{Answer, done, stored, ran, viewed, refused, refused_at, Reply}
use Rattle.r8_core.specs.Answers.{load_answer_of, run_answer_of, view_answer_of, reset_gave, load_gave, run_gave, view_gave}
use Rattle.r8_core.specs.declared.Core.{Core}
use Rattle.r8_core.specs.declared.End.{End}
use Rattle.plays.specs.Plays.{play, Each, counted}
use Rattle.machine.specs.Machine as machine
use Rattle.machine.specs.Machine.{Machine, fresh_machine, cycles_of}

-- a call, with what the caller puts into it: the bytes of a listing, a budget
pub data Call : Type 0 where
  reset : Call
  load : List ℕ → Call
  run : ℕ → Call
  step : Call
  view : Call

-- what a call answers and leaves on a core and a lent memory, by the definitions that the contracts of the calls cite
abbrev pub reply_to : Call → Core → List ℕ → Reply
reply_to reset c M = core.reset c M
reply_to (load text) c M = core.load text c M
reply_to (run b) c M = core.run b c M
reply_to step c M = core.step c M
reply_to view c M = core.view c M

-- what a list of calls is played on: a core, and the memory that it is lent
pub record State : Type 0 where
  pub core : Core
  pub memory : List ℕ

abbrev pub state : Core → List ℕ → State
state core memory = record { core = core; memory = memory }

abbrev pub fresh_state : List ℕ → State
fresh_state memory = state fresh_core memory

abbrev pub handed : Reply → Answer × State
handed r = (r.answer, state r.core r.memory)

abbrev pub on_core : Call → State → Answer × State
on_core call s = handed (reply_to call s.core s.memory)

-- and on the instruction machine
abbrev pub on_machine : Call → Machine → Answer × Machine
on_machine reset m = machine.reset m
on_machine (load text) m = machine.load text m
on_machine (run b) m = machine.run b m
on_machine step m = machine.step m
on_machine view m = machine.view m

-- when a core and its memory are those of a machine
pub record Alike (s : State) (m : Machine) : Type 0 where
  -- the memory, the clock T, the stop state
  pub memory : s.memory ≡ m.memory
  pub clock : s.core.clock.0 ≡ m.clock
  pub stop : s.core.stop ≡ m.visible.stop
  -- 'cycles spent (0 to 3), compared with the cycle due less one'
  pub due : due_in_range s.core ≡ true
  pub spent : spent_of s.core ≡ m.spent
  pub at_most_three : m.spent ≤ 3
  -- R0 to R15, PC, SP and flags, when s is 0
  pub visible : m.spent ≡ 0 → visible_of s.core ≡ m.visible
  -- 'the clock is the sum of the finished instructions' cycles since the last reset plus those of the unfinished one'
  pub total : s.core.clock.0 ≡ cycles_of m.log + m.spent

-- n instructions were answered as finished so far: how many with one answer more. A reset, which alone answers `done`, starts again at 0
abbrev pub counted_with : Answer → ℕ → ℕ
counted_with done n = 0
counted_with (stored count) n = n
counted_with (ran used finished end) n = n + finished
counted_with (viewed v due clock) n = n
counted_with (refused number) n = n
counted_with (refused_at number offset) n = n

-- what lists of calls come to: every answer is the same, the states are alike, and the log has as many instructions as were answered as
-- finished since the last reset, or the start
pub record Agree (c : List Answer × State) (m : List Answer × Machine) : Type 0 where
  pub answers : c.0 ≡ m.0
  pub states : Alike c.1 m.1
  pub finished : counted counted_with c.0 0 ≡ length m.1.log

-- for every memory, of any length (those of 1 to 65,536 words among them) and whatever is in it, and every list of calls, from a
-- fresh core and a fresh machine (proved as `every_list`). So also after each call of a list: its beginning is a list
abbrev pub EveryList : Type 0
EveryList =
    (memory : List ℕ) (calls : List Call)
    → Agree (play on_core calls (fresh_state memory)) (play on_machine calls (fresh_machine memory))

-- 'Memory is compared at every moment, registers and flags when s is 0': after any calls, where a run of b is taken, and for each i up to
-- b: core and memory after i of its cycles, fewer if the core stops, are those of the machine after a run of i (proved as `every_moment`)
abbrev pub EveryMoment : Type 0
EveryMoment =
    (memory : List ℕ) (calls : List Call) (b i used finished : ℕ) (end : End)
    → let s : State = (play on_core calls (fresh_state memory)).1 in
    let m : Machine = (play on_machine calls (fresh_machine memory)).1 in
    let moment : Progress = cycles_on i (starting s.core s.memory) in
    (on_core (run b) s).0 ≡ ran used finished end → i ≤ b
    → Alike (state moment.core moment.memory) (on_machine (run i) m).1

-- The code: what a call gives back and, if it is lent the memory, the memory as it then is
abbrev pub Given : Call → Type 0
Given reset = Core
Given (load text) = Answered (Result ℕ ListingError) × List ℕ
Given (run b) = Answered (Result Ran Refusal) × List ℕ
Given step = Answered (Result Ran Refusal) × List ℕ
Given view = Answered (Result Snapshot Refusal)

-- a call that was made, and what it gave back
pub record Made : Type 0 where
  pub call : Call
  pub given : Given call

-- its answer, read, and the core and the memory that it left; M is the memory there was, which reset and view are not lent
abbrev pub handed_back : (call : Call) → Given call → List ℕ → Answer × State
handed_back reset c M = (done, state c M)
handed_back (load text) r M = (load_answer_of r.0.answer, state r.0.core r.1)
handed_back (run b) r M = (run_answer_of r.0.answer, state r.0.core r.1)
handed_back step r M = (run_answer_of r.0.answer, state r.0.core r.1)
handed_back view r M = (view_answer_of r.answer, state r.core M)

abbrev pub as_made : Made → State → Answer × State
as_made m s = handed_back m.call m.given s.memory

-- the equation of its contract (of reset and view, at the memory there is), on the core c and the memory M that it was made on
abbrev pub Kept : (call : Call) → Given call → Core → List ℕ → Type 0
Kept reset r c M = reset_gave r M ≡ core.reset c M
Kept (load text) r c M = load_gave r.0 r.1 ≡ core.load text c M
Kept (run b) r c M = run_gave r.0 r.1 ≡ core.run b c M
Kept step r c M = run_gave r.0 r.1 ≡ core.step c M
Kept view r c M = view_gave r M ≡ core.view c M

-- for every memory and every list of calls that were made, each on the core and the memory that the one before left, the first on a fresh
-- core, where of each the equation holds (proved as `every_list_made`). If the caller changes core or memory between calls, this says
-- nothing; the contracts still do
abbrev pub EveryListMade : Type 0
EveryListMade =
    (memory : List ℕ) (calls : List Made)
    → Each as_made (λ m s. Kept m.call m.given s.core s.memory) calls (fresh_state memory)
    → Agree (play as_made calls (fresh_state memory)) (play on_machine (map (λ m. m.call) calls) (fresh_machine memory))
