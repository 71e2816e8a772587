-- Document 01, 'Proof bench', program `r8trace`: what is found of a listing, as numbers.
use Rattle.std.specs.Prelude.{Bool, true, false, cond, List, [], ◌∷◌, ◌++◌, ℕ, zero, suc, ◌*◌, ltb, length, drop, replicate, Result, Ok, Err}
use Rattle.words.specs.Memory.{word_at}
use Rattle.listing.specs.Answers.{fault_number}
use Rattle.r8_core.specs.Cores.{fresh_core}
use Rattle.r8_core.specs.Calls.{Answer, done, stored, ran, viewed, refused, refused_at, Reply, load, run, step}
use Rattle.r8_core.specs.declared.Core.{Core}
use Rattle.layout.specs.Layout.{flags_number}
use Rattle.r8_core.specs.declared.Ran.{Ran}
use Rattle.trace.specs.declared.TraceError.{TraceError}
use Rattle.trace.specs.declared.TraceError.TheVariants.{Faulty, TooLong, NoRoom}

-- the cycles and the instructions of an answer to a run or a step; of another answer, none
abbrev pub cycles_of : Answer → ℕ
cycles_of done = 0
cycles_of (stored count) = 0
cycles_of (ran used finished end) = used
cycles_of (viewed v due clock) = 0
cycles_of (refused number) = 0
cycles_of (refused_at number offset) = 0

abbrev pub instructions_of : Answer → ℕ
instructions_of done = 0
instructions_of (stored count) = 0
instructions_of (ran used finished end) = finished
instructions_of (viewed v due clock) = 0
instructions_of (refused number) = 0
instructions_of (refused_at number offset) = 0

-- did a load store its listing
abbrev pub is_stored : Answer → Bool
is_stored done = false
is_stored (stored count) = true
is_stored (ran used finished end) = false
is_stored (viewed v due clock) = false
is_stored (refused number) = false
is_stored (refused_at number offset) = false

-- 'A line per finished instruction: address, word, cycles, NZCV after', as four numbers: of the instruction that a step of this core does
abbrev pub row_of : Core → List ℕ → Reply → List ℕ
row_of core memory stepped =
    core.pc ∷ word_at memory core.pc ∷ cycles_of stepped.answer ∷ flags_number stepped.core.flags ∷ []

-- the rows of so many steps, one after the other
unfoldable pub rows_of : ℕ → Core → List ℕ → List ℕ
rows_of zero core memory = []
rows_of (suc n) core memory =
    let stepped : Reply = step core memory in
    row_of core memory stepped ++ rows_of n stepped.core stepped.memory

-- what is found: the answer of the run, or of the load where that is refused; or that the listing is too long, or that there is no room for
-- the rows
pub data Finding : Type 0 where
  answered : Answer → Finding
  too_long : Finding
  no_room : Finding

-- it, and the rows as they then are
pub record Trace : Type 0 where
  pub finding : Finding
  pub rows : List ℕ

-- a row for each instruction that a run finished; what is past them stays; without room for all of them, nothing is written
abbrev pub trace_of : Answer → List ℕ → List ℕ → Trace
trace_of answer memory rows =
    let count : ℕ = instructions_of answer in
    cond (ltb (length rows) (4 * count)) (record { finding = no_room; rows = rows })
    (record { finding = answered answer; rows = rows_of count fresh_core memory ++ drop (4 * count) rows })

-- 'fresh core, 1,000 cycles'
unfoldable pub traced_on : List ℕ → List ℕ → Trace
traced_on memory rows = trace_of (run 1000 fresh_core memory).answer memory rows

-- a listing that is loaded is traced, of another there is 'only `refused N at offset`'
abbrev pub after_load : Reply → List ℕ → Trace
after_load loaded rows =
    cond (is_stored loaded.answer) (traced_on loaded.memory rows) (record { finding = answered loaded.answer; rows = rows })

-- 'reads a listing of at most 65,536 bytes .. (`too long` otherwise), L = 16,384, all words zero before the load'
unfoldable pub traced : List ℕ → List ℕ → Trace
traced listing rows =
    cond (ltb 65536 (length listing)) (record { finding = too_long; rows = rows })
    (after_load (load listing fresh_core (replicate 16384 0)) rows)

-- what the code gives back, read so. It has cases for the refusals of lines alone: that it is what `traced` says means that no other
-- refusal arises
abbrev pub finding_of : Result Ran TraceError → Finding
finding_of (Ok r) = answered (ran r.cycles.0 r.instructions.0 r.end)
finding_of (Err (Faulty at)) = answered (refused_at (fault_number at.fault) at.offset)
finding_of (Err TooLong) = too_long
finding_of (Err NoRoom) = no_room

abbrev pub trace_gave : Result Ran TraceError → List ℕ → Trace
trace_gave answer rows = record { finding = finding_of answer; rows = rows }
