-- Nothing is lost between a core and its numbers, so calls one after the other on the same slices are calls of one core; and what codes say that
-- the functions return. Eleven statements, proved in proofs/Theorems.antt, proofs/Apart.antt and proofs/Exactly.antt.
use Rattle.std.specs.Prelude.{◌≡◌, ◌↔◌, ◌⊎◌, true, false, List, ℕ, ◌+◌, ◌≤◌, ◌<◌, length, Result}
use Rattle.isa.specs.declared.Kind.{Kind}
use Rattle.table.specs.Table.{kind_of}
use Rattle.effects.specs.declared.Stop.TheVariants.{Going}
use Rattle.r8_core.specs.Calls.{Reply, run, step}
use Rattle.refusals.specs.Theorems.{First, NoneApplies}
use Rattle.replay.specs.declared.ReplayError.{ReplayError}
use Rattle.r8_core.specs.TheoremsOfCalls.{run_numbers}
use Rattle.r8_core.specs.declared.Core.{Core}
use Rattle.layout.specs.Layout.{answer_size}
use Rattle.trace.specs.Trace.{no_room, traced}
use Rattle.dump.specs.Dump.{dumped}
use Rattle.dump.specs.Theorems.{dump_numbers}
use Rattle.r8.specs.Codes.{Code, ok, undefined, code_number}
use Rattle.r8.specs.Numbers.{registers_of, state_of, core_of, is_core}
use Rattle.r8.specs.Call.{Slices, code_of, after, called}
use Rattle.r8.specs.Form.{form_size, formed}
use Rattle.r8.specs.Dump.{dump_returned}
use Rattle.r8.specs.Replay.{replay_code, replay_place}
use Rattle.r8.specs.Trace.{traced_returned}

-- a core as the code holds it: sixteen registers, a cycle due of a byte
abbrev pub Held : Core → Type 0
Held core = (length core.regs ≡ 16) × (core.due ≤ 255)

-- a core comes back from its numbers, which are taken (proved as `core_back`)
abbrev pub CoreBack : Type 0
CoreBack =
    (core : Core) → Held core
    → (is_core (registers_of core) (state_of core) ≡ true) × (core_of (registers_of core) (state_of core) ≡ core)

-- numbers that are taken come back from their core (proved as `numbers_back`)
abbrev pub NumbersBack : Type 0
NumbersBack =
    (registers state : List ℕ) → is_core registers state ≡ true
    → let core : Core = core_of registers state in
    Held core × (registers_of core ≡ registers) × (state_of core ≡ state)

-- run and step hand back such a core (proved as `held_on`)
abbrev pub HeldOn : Type 0
HeldOn =
    (core : Core) (memory : List ℕ) (b : ℕ) → Held core → Held (run b core memory).core × Held (step core memory).core

-- where a call that was made hands back a core as the code holds it, as run and step do, the next call is made too, on that very core and
-- memory (proved as `call_after_call`)
abbrev pub CallAfterCall : Type 0
CallAfterCall =
    (first second : Core → List ℕ → Reply) (x : Slices) → code_of x.registers x.state x.answer ≡ ok
    → let reply : Reply = first (core_of x.registers x.state) x.memory in
    let left : Slices = (called first x).1 in
    Held reply.core
    → called second left ≡ (0, after (second reply.core reply.memory) left.answer)

-- so a run of i + j cycles can be made in pieces, i and then j on the slices as they are left, unless the first stops the core (proved as
-- `run_in_pieces`)
abbrev pub RunInPieces : Type 0
RunInPieces =
    (x : Slices) (i j : ℕ) → code_of x.registers x.state x.answer ≡ ok
    → let core : Core = core_of x.registers x.state in
    let pieces : Slices = (called (run j) (called (run i) x).1).1 in
    let whole : Slices = (called (run (i + j)) x).1 in
    NoneApplies (run_numbers (i + j) core x.memory)
    → (run i core x.memory).core.stop ≡ Going
    → (pieces.registers ≡ whole.registers) × (pieces.state ≡ whole.state) × (pieces.memory ≡ whole.memory)

-- no two codes have one number, and each but that of 'done' and document 01's 6 is 100 or more: none is a number of that document (proved as
-- `codes_apart`)
abbrev pub CodesApart : Type 0
CodesApart =
    ((x y : Code) → code_number x ≡ code_number y → x ≡ y)
    × ((x : Code) → (x ≡ ok) ⊎ (x ≡ undefined) ⊎ (100 ≤ code_number x))

-- the code that r8_replay returns, and what is then behind `at`, say which answer the replay gave (proved as `replay_apart`)
abbrev pub ReplayApart : Type 0
ReplayApart = (x y : Result ℕ ReplayError) → replay_code x ≡ replay_code y → replay_place x ≡ replay_place y → x ≡ y

-- what the codes of r8_run and r8_step say (proved as `call_codes`)
abbrev pub CallCodes : Type 0
CallCodes =
    (registers state answer : List ℕ)
    → let code : ℕ = code_number (code_of registers state answer) in
    ((code ≡ code_number Code.no_core) ↔ (is_core registers state ≡ false))
    × ((code ≡ code_number Code.no_room) ↔ ((is_core registers state ≡ true) × (length answer < answer_size)))

-- of r8_form, document 01's number among them (proved as `form_codes`)
abbrev pub FormCodes : Type 0
FormCodes =
    (word : ℕ) (slice : List ℕ)
    → let code : ℕ = (formed word slice).0 in
    ((code ≡ code_number Code.no_room) ↔ (length slice < form_size))
    × ((code ≡ code_number undefined) ↔ ((form_size ≤ length slice) × (kind_of word ≡ Kind.Undefined)))

-- of r8_listing: the first number that applies, 0 where none does; the text is the call's own (proved as `dump_codes`)
abbrev pub DumpCodes : Type 0
DumpCodes =
    (memory : List ℕ) (first count : ℕ) (text : List ℕ)
    → let code : ℕ = (dump_returned (dumped memory first count text)).0 in
    ((code ≡ code_number ok) ↔ NoneApplies (dump_numbers memory first count text))
    × ((n : ℕ) → ((code ≡ n) × (n ≡ 0 → ⊥)) ↔ First n (dump_numbers memory first count text))
    × ((dump_returned (dumped memory first count text)).1 ≡ (dumped memory first count text).text)

-- and of r8_trace (proved as `trace_codes`)
abbrev pub TraceCodes : Type 0
TraceCodes =
    (listing rows answer : List ℕ)
    → let code : ℕ = (traced_returned listing rows answer).code in
    ((code ≡ code_number Code.too_long) ↔ (65536 < length listing))
    × ((code ≡ code_number Code.no_room)
    ↔ ((length listing ≤ 65536) × ((length answer < answer_size) ⊎ ((traced listing rows).finding ≡ no_room))))
