-- The lines are those of the instructions themselves, and a page of 16,384 bytes holds what is written of every listing: three statements,
-- proved in proofs/Lines.antt and proofs/Fits.antt.
use Rattle.std.specs.Prelude.{◌≡◌, List, [], ◌++◌, ℕ, zero, suc, ◌≤◌, ◌<◌, length, drop}
use Rattle.words.specs.Memory.{word_at}
use Rattle.r8_core.specs.Calls.{Reply, step}
use Rattle.r8_core.specs.declared.Core.{Core}
use Rattle.text.specs.Text.{line_text}
use Rattle.trace.specs.Trace.{cycles_of, rows_of}
use Rattle.output.specs.Page.{page_at, put_on}
use Rattle.printed.specs.Printed.{lines_text, printed_trace}

-- the lines of so many steps, one after the other: 'address, word, cycles, NZCV after' of each, without rows of numbers between
unfoldable pub steps_text : ℕ → Core → List ℕ → List ℕ
steps_text zero core memory = []
steps_text (suc n) core memory =
    let stepped : Reply = step core memory in
    line_text core.pc (word_at memory core.pc) (cycles_of stepped.answer) stepped.core.flags
    ++ steps_text n stepped.core stepped.memory

-- they are the lines of the rows that a trace has of these steps (proved as `lines_of_steps`)
abbrev pub LinesOfSteps : Type 0
LinesOfSteps = (n : ℕ) (core : Core) (memory rest : List ℕ) → lines_text n (rows_of n core memory ++ rest) ≡ steps_text n core memory

-- of every listing something is written, and at most 16,384 bytes (proved as `text_fits`)
abbrev pub TextFits : Type 0
TextFits = (listing : List ℕ) → (0 < length (printed_trace listing)) × (length (printed_trace listing) ≤ 16384)

-- so on a page that has as many, the first bytes are all that is written, their count is answered, and the others stay (proved as
-- `page_holds`)
abbrev pub PageHolds : Type 0
PageHolds =
    (listing page : List ℕ) → 16384 ≤ length page
    → let text : List ℕ = printed_trace listing in
    put_on (page_at page 0) text ≡ page_at (text ++ drop (length text) page) (length text)
