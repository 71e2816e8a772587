-- What the calls come to, for every core and memory: when a call is refused, and that it then changes nothing; what it does where it is
-- taken; and that different answers are read differently, each by its own parts. Ten statements, proved in proofs/Refusals.antt, proofs/Taken.antt,
-- proofs/Again.antt and proofs/Apart.antt.
use Rattle.std.specs.Prelude.{◌≡◌, ◌↔◌, ◌⊎◌, false, List, [], ◌∷◌, ℕ, ◌+◌, ◌≤◌, ◌<◌, length, Result, Ok, Err, None}
use Rattle.r8_core.specs.declared.Answered.{Answered}
use Rattle.refusals.specs.Refusals.{refusal_number}
use Rattle.refusals.specs.Theorems.{First, NoneApplies}
use Rattle.refusals.specs.declared.Refusal.{Refusal}
use Rattle.listing.specs.Answers as listing
use Rattle.listing.specs.Listing.{listing_answer, listing_memory}
use Rattle.listing.specs.declared.Fault.{Fault}
use Rattle.listing.specs.declared.FaultAt.{FaultAt}
use Rattle.words.specs.Arithmetic.{bit}
use Rattle.effects.specs.declared.Stop.TheVariants.{Going, Halted, Undefined}
use Rattle.effects.specs.Effect.{applied}
use Rattle.effects.specs.Hidden.{no_hidden}
use Rattle.r8_core.specs.Cores.{fresh_core, with_hidden, visible_of}
use Rattle.r8_core.specs.Instruction.{takes}
use Rattle.r8_core.specs.Calls.{Answer, done, stored, ran, viewed, refused, refused_at, Reply, reset, load, view, run, step}
use Rattle.r8_core.specs.Answers.{load_answer_of, run_answer_of, view_answer_of, shown, reset_gave, load_gave, run_gave, view_gave}
use Rattle.r8_core.specs.Datapath.{due_cycle, cycle_or_idle}
use Rattle.r8_core.specs.declared.Core.{Core}
use Rattle.r8_core.specs.declared.Transition.{Transition}
use Rattle.r8_core.specs.declared.End.{End}
use Rattle.r8_core.specs.declared.End.TheVariants.{H, U, B, M}
use Rattle.r8_core.specs.declared.Ran.{Ran}
use Rattle.r8_core.specs.declared.ListingError.{ListingError}
use Rattle.r8_core.specs.declared.ListingError.TheVariants.{Faulty}
use Rattle.r8_core.specs.declared.Snapshot.{Snapshot}

-- '1: L is 0 or above 65,536'; '8: stopped'; '7: cycle due is not 1'
abbrev pub WrongLength : List ℕ → Type 0
WrongLength memory = (length memory ≡ 0) ⊎ (65536 < length memory)

abbrev pub IsStopped : Core → Type 0
IsStopped core = core.stop ≡ Going → ⊥

abbrev pub OneDue : Core → Type 0
OneDue core = core.due ≡ 1

abbrev pub NotOneDue : Core → Type 0
NotOneDue core = OneDue core → ⊥

-- 'Order: load 1, 7, lines; run and step 1, 8, 7, 9; view only 7.'
abbrev pub load_numbers : Core → List ℕ → List (ℕ × Type 0)
load_numbers core memory = (1, WrongLength memory) ∷ (7, NotOneDue core) ∷ []

abbrev pub run_numbers : ℕ → Core → List ℕ → List (ℕ × Type 0)
run_numbers b core memory =
    (1, WrongLength memory)
    ∷ (8, IsStopped core)
    ∷ (7, (core.due < 1) ⊎ (4 < core.due))
    ∷ (9, 4294967295 < core.clock.0 + b)
    ∷ []

abbrev pub step_numbers : Core → List ℕ → List (ℕ × Type 0)
step_numbers core memory =
    (1, WrongLength memory) ∷ (8, IsStopped core) ∷ (7, NotOneDue core) ∷ (9, 4294967295 < core.clock.0 + 4) ∷ []

abbrev pub view_numbers : Core → List (ℕ × Type 0)
view_numbers core = (7, NotOneDue core) ∷ []

-- the numbers 1, 7, 8 and 9 arise as listed above, in each call's own order, and only so, for every core and memory; 2, 3 and 4, of a
-- load's lines, come with an offset: see `OthersTaken` (proved as `numbers_exactly`)
abbrev pub NumbersExactly : Type 0
NumbersExactly =
    (core : Core) (memory : List ℕ) (n b : ℕ) (text : List ℕ)
    → (((load text core memory).answer ≡ refused n) ↔ First n (load_numbers core memory))
    × (((run b core memory).answer ≡ refused n) ↔ First n (run_numbers b core memory))
    × (((step core memory).answer ≡ refused n) ↔ First n (step_numbers core memory))
    × (((view core memory).answer ≡ refused n) ↔ First n (view_numbers core))
    × ((reset core memory).answer ≡ refused n → ⊥)

-- 'A refusal returns its number (and offset) and changes nothing'
abbrev pub UnchangedAt : Core → List ℕ → Answer → Reply → Type 0
UnchangedAt core memory refusal reply = reply.answer ≡ refusal → (reply.core ≡ core) × (reply.memory ≡ memory)

-- of every call that can be refused (proved as `refusals_unchanged`)
abbrev pub RefusalsUnchanged : Type 0
RefusalsUnchanged =
    (core : Core) (memory : List ℕ) (n offset b : ℕ) (text : List ℕ)
    → UnchangedAt core memory (refused n) (load text core memory)
    × UnchangedAt core memory (refused_at n offset) (load text core memory)
    × UnchangedAt core memory (refused n) (run b core memory)
    × UnchangedAt core memory (refused n) (step core memory)
    × UnchangedAt core memory (refused n) (view core memory)

-- 'the end: H halted, U undefined, B cycle 1 due, M otherwise', of the core that is handed back
abbrev pub Letter : End → Core → Type 0
Letter end core =
    ((end ≡ H) ↔ (core.stop ≡ Halted))
    × ((end ≡ U) ↔ (core.stop ≡ Undefined))
    × ((end ≡ B) ↔ ((core.stop ≡ Going) × OneDue core))
    × ((end ≡ M) ↔ ((core.stop ≡ Going) × NotOneDue core))

-- a run that is taken answers the cycles used, which are its budget, 'fewer if the core stops', and the letter of the core that it hands
-- back, whose clock has moved by what was used; how instructions are counted is said by `OneInstruction` and `ForeignCore` of Theorems (proved
-- as `run_taken`)
abbrev pub RunTaken : Type 0
RunTaken =
    (core : Core) (memory : List ℕ) (b : ℕ) → NoneApplies (run_numbers b core memory)
    → (used : ℕ)
    × (finished : ℕ)
    × (end : End)
    × ((run b core memory).answer ≡ ran used finished end)
    × Letter end (run b core memory).core
    × (used ≤ b)
    × ((run b core memory).core.stop ≡ Going → used ≡ b)
    × ((run b core memory).core.clock.0 ≡ core.clock.0 + used)

-- a run can be cut at every cycle: a run of i + j is a run of i and, unless that stops the core, a run of j on from there, with the
-- same core and memory; cycles and instructions add up (proved as `run_again`)
abbrev pub RunAgain : Type 0
RunAgain =
    (core : Core) (memory : List ℕ) (i j : ℕ) → NoneApplies (run_numbers (i + j) core memory)
    → let first : Reply = run i core memory in
    let second : Reply = run j first.core first.memory in
    let whole : Reply = run (i + j) core memory in
    (IsStopped first.core → whole ≡ first)
    × (first.core.stop ≡ Going
    → (used : ℕ)
    × (finished : ℕ)
    × (end : End)
    × (more : ℕ)
    × (others : ℕ)
    × (last : End)
    × (first.answer ≡ ran used finished end)
    × (second.answer ≡ ran more others last)
    × (whole.answer ≡ ran (used + more) (finished + others) last)
    × (whole.core ≡ second.core)
    × (whole.memory ≡ second.memory))

-- a run of no cycle changes nothing; a run of one does what the method `cycle` does, with its store made, and counts the cycle, and the
-- instruction where it is finished. By `RunAgain` every run is made of these (proved as `run_by_cycles`)
abbrev pub RunByCycles : Type 0
RunByCycles =
    (core : Core) (memory : List ℕ)
    → let t : Transition = cycle_or_idle memory core in
    (NoneApplies (run_numbers 0 core memory)
    → ((run 0 core memory).core ≡ core)
    × ((run 0 core memory).memory ≡ memory)
    × ((end : End) × ((run 0 core memory).answer ≡ ran 0 0 end) × Letter end core))
    × (NoneApplies (run_numbers 1 core memory)
    → ((run 1 core memory).core ≡ t.core)
    × ((run 1 core memory).memory ≡ applied t.store memory)
    × ((end : End) × ((run 1 core memory).answer ≡ ran 1 (bit t.finished) end) × Letter end t.core))

-- one cycle of any core, on any memory: it is the datapath's, of a stopped core too, where the clock has room; a core whose clock is full, or
-- whose cycle due is none of 1 to 4, is handed back as it is, with nothing finished or stored (proved as `cycle_exactly`)
abbrev pub CycleExactly : Type 0
CycleExactly =
    (core : Core) (memory : List ℕ)
    → (core.clock.0 < 4294967295 → cycle_or_idle memory core ≡ due_cycle memory core)
    × ((4294967295 ≤ core.clock.0) ⊎ ((core.due < 1) ⊎ (4 < core.due))
    → cycle_or_idle memory core ≡ record { core = core; finished = false; store = None })

-- a step that is taken answers its instruction's cost, 1 instruction finished and the letter of the core that it hands back; it is as a run
-- of just that cost, but that the 'hidden registers become zero' (proved as `step_taken`)
abbrev pub StepTaken : Type 0
StepTaken =
    (core : Core) (memory : List ℕ) → NoneApplies (step_numbers core memory)
    → let as_run : Reply = run (takes memory (visible_of core)) core memory in
    (end : End)
    × ((step core memory).answer ≡ ran (takes memory (visible_of core)) 1 end)
    × Letter end (step core memory).core
    × (as_run.answer ≡ (step core memory).answer)
    × (as_run.memory ≡ (step core memory).memory)
    × OneDue as_run.core
    × ((step core memory).core ≡ with_hidden no_hidden as_run.core)

-- a load that comes to its lines answers what `listing_answer` says, a refusal too, leaves the memory that the listing makes, and the core; a view
-- that is taken shows the core and changes nothing; reset is never refused, makes the core fresh and 'leaves memory as it was' (proved
-- as `others_taken`)
abbrev pub OthersTaken : Type 0
OthersTaken =
    (core : Core) (memory text : List ℕ)
    → (NoneApplies (load_numbers core memory)
    → ((count : ℕ) → listing_answer text (length memory) ≡ listing.stored count → (load text core memory).answer ≡ stored count)
    × ((number offset : ℕ) → listing_answer text (length memory) ≡ listing.refused number offset
    → (load text core memory).answer ≡ refused_at number offset)
    × ((load text core memory).memory ≡ listing_memory text memory)
    × ((load text core memory).core ≡ core))
    × (NoneApplies (view_numbers core)
    → ((view core memory).answer ≡ viewed (visible_of core) 1 core.clock.0)
    × ((view core memory).memory ≡ memory)
    × ((view core memory).core ≡ core))
    × ((reset core memory).answer ≡ done)
    × ((reset core memory).core ≡ fresh_core)
    × ((reset core memory).memory ≡ memory)

-- 'this paper's number and values for each of its cases': different answers of a load, of a run or a step, and of a view are read
-- differently; and no refusal has a fault's number, so that with `NumbersApart` and `FaultsApart` each has one meaning (proved as
-- `read_apart`)
abbrev pub ReadApart : Type 0
ReadApart =
    ((x y : Result ℕ ListingError) → load_answer_of x ≡ load_answer_of y → x ≡ y)
    × ((x y : Result Ran Refusal) → run_answer_of x ≡ run_answer_of y → x ≡ y)
    × ((x y : Result Snapshot Refusal) → view_answer_of x ≡ view_answer_of y → x ≡ y)
    × ((why : Refusal) (fault : Fault) → refusal_number why ≡ listing.fault_number fault → ⊥)

-- a reply that hands back this core and this memory
abbrev pub Hands : Core → List ℕ → Reply → Type 0
Hands core memory reply = (reply.core ≡ core) × (reply.memory ≡ memory)

-- what a call gave is read as handing back the very core that it gave, and the memory there is; a load is read as its own count, or number and
-- offset, a run as its own cycles, instructions and letter; and what a view shows is the core's, part by part, and is read as that (proved
-- as `read_exactly`)
abbrev pub ReadExactly : Type 0
ReadExactly =
    (core : Core) (memory : List ℕ) (l : Answered (Result ℕ ListingError)) (r : Answered (Result Ran Refusal)) (v : Answered (Result Snapshot Refusal))
    (n : ℕ) (at : FaultAt) (ran_so : Ran)
    → Hands core memory (reset_gave core memory)
    × Hands l.core memory (load_gave l memory)
    × Hands r.core memory (run_gave r memory)
    × Hands v.core memory (view_gave v memory)
    × (load_answer_of (Ok n) ≡ stored n)
    × (load_answer_of (Err (Faulty at)) ≡ refused_at (listing.fault_number at.fault) at.offset)
    × (run_answer_of (Ok ran_so) ≡ ran ran_so.cycles.0 ran_so.instructions.0 ran_so.end)
    × ((shown core).regs ≡ core.regs)
    × ((shown core).pc ≡ core.pc)
    × ((shown core).sp ≡ core.sp)
    × ((shown core).flags ≡ core.flags)
    × ((shown core).stop ≡ core.stop)
    × ((shown core).due ≡ core.due)
    × ((shown core).clock ≡ core.clock)
    × (view_answer_of (Ok (shown core)) ≡ viewed (visible_of core) core.due core.clock.0)
