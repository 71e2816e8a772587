-- The rows come from steps, by the instruction engine: they are those of the run by the datapath, and 2,000 numbers have room for them.
-- Three statements, proved in proofs/Theorems.antt.
use Rattle.std.specs.Prelude.{◌≡◌, true, List, [], ◌∷◌, ◌++◌, ℕ, ◌+◌, ◌≤◌, ◌<◌, length}
use Rattle.words.specs.Memory.{word_at}
use Rattle.r8_core.specs.Cores.{visible_of, fresh_core}
use Rattle.r8_core.specs.Spent.{spent_of, due_in_range, due_one}
use Rattle.r8_core.specs.Instruction.{takes}
use Rattle.r8_core.specs.Calls.{Reply, run}
use Rattle.layout.specs.Layout.{flags_number}
use Rattle.trace.specs.Trace.{cycles_of, instructions_of, rows_of, no_room, traced}

-- the cycles of some rows: the third number of each
unfoldable pub cycles_in : List ℕ → ℕ
cycles_in (address ∷ word ∷ cycles ∷ flags ∷ rest) = cycles + cycles_in rest
cycles_in (address ∷ word ∷ cycles ∷ []) = 0
cycles_in (address ∷ word ∷ []) = 0
cycles_in (address ∷ []) = 0
cycles_in [] = 0

-- the run, cut after the cycles of the first i rows
abbrev pub cut_at : ℕ → List ℕ → Reply
cut_at i memory = run (cycles_in (rows_of i fresh_core memory)) fresh_core memory

-- cut there it has finished i instructions and is between two, within the 1,000 cycles; the row of the next has the address, the word and
-- the cost of the instruction that it comes to, and the flags with which it leaves it (proved as `rows_of_the_run`)
abbrev pub RowsOfTheRun : Type 0
RowsOfTheRun =
    (memory : List ℕ) (i : ℕ) → length memory ≡ 16384
    → let count : ℕ = instructions_of (run 1000 fresh_core memory).answer in
    let before : Reply = cut_at i memory in
    let after : Reply = cut_at (i + 1) memory in
    (i ≤ count
    → (cycles_in (rows_of i fresh_core memory) ≤ 1000) × (instructions_of before.answer ≡ i) × (due_one before.core ≡ true))
    × (i < count
    → rows_of (i + 1) fresh_core memory
    ≡ rows_of i fresh_core memory
    ++ (before.core.pc
    ∷ word_at before.memory before.core.pc
    ∷ takes before.memory (visible_of before.core)
    ∷ flags_number after.core.flags
    ∷ []))

-- the cycles of all rows and those spent in an unfinished instruction are the cycles of the run (proved as `cycles_add_up`)
abbrev pub CyclesAddUp : Type 0
CyclesAddUp =
    (memory : List ℕ) → length memory ≡ 16384
    → let whole : Reply = run 1000 fresh_core memory in
    (due_in_range whole.core ≡ true)
    × (cycles_in (rows_of (instructions_of whole.answer) fresh_core memory) + spent_of whole.core ≡ cycles_of whole.answer)

-- an instruction has 2 cycles or more, so 1,000 cycles finish at most 500: 2,000 numbers have room for every trace (proved as
-- `room_always`)
abbrev pub RoomAlways : Type 0
RoomAlways = (listing rows : List ℕ) → 2000 ≤ length rows → (traced listing rows).finding ≡ no_room → ⊥
