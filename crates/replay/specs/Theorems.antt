-- What a replay, and a single call, tell of the calls of a core: two statements, proved in proofs/Told.antt.
use Rattle.std.specs.Prelude.{◌≡◌, List, [], ◌∷◌, ℕ, ◌*◌, ◌≤◌, length, take, drop, Ok, Err}
use Rattle.r8_core.specs.Cores.{visible_of}
use Rattle.r8_core.specs.Spent.{spent_of}
use Rattle.r8_core.specs.Calls.{Answer}
use Rattle.r8_core.specs.declared.Core.{Core}
use Rattle.layout.specs.Layout.{answer_size, answer_numbers, left_numbers}
use Rattle.plays.specs.Plays.{play}
use Rattle.machine.specs.Theorem.{Call, State, state, fresh_state, on_core}
use Rattle.replay.specs.Replay.{read_call, Reading, listed, no_call, no_stretch, read_calls, CallPlayed, call_played, numbers_then, places_for, Replayed, replayed}
use Rattle.replay.specs.declared.CallFault.TheVariants.{NoCall, NoStretch}

-- calls that were read, with places enough, are played, and tell what they answer and leave on a fresh core: the memory, the answers in their
-- order, and then the core after all of them; places behind that stay. What the promise of `replay` says by the machine is said here by the calls of
-- the core: by `EveryList` it is the same (proved as `core_told`)
abbrev pub CoreTold : Type 0
CoreTold =
    (calls : List Call) (memory answers : List ℕ) → places_for calls ≤ length answers
    → let told : Replayed = replayed (listed calls) memory answers in
    let played : List Answer × State = play on_core calls (fresh_state memory) in
    let core : Core = played.1.core in
    let behind : List ℕ = drop (answer_size * length calls) told.answers in
    (told.answer ≡ Ok (length calls))
    × (told.memory ≡ played.1.memory)
    × (take (answer_size * length calls) told.answers ≡ numbers_then played.0 [])
    × (take answer_size behind ≡ left_numbers (visible_of core) (spent_of core) core.clock.0)
    × (drop answer_size behind ≡ drop (places_for calls) answers)

-- what a single call tells on a core and a memory, by what a list of it alone is read as: it answers the numbers of that call, and leaves the core
-- and the memory that it leaves in every list (`on_core`); three numbers that are no call, or name no stretch, leave both and answer no numbers
abbrev pub Tells : Core → List ℕ → CallPlayed → Reading → Type 0
Tells core memory told read =
    let left : State = state told.core told.memory in
    ((c : Call) → read ≡ listed (c ∷ [])
    → (told.answer ≡ Ok (answer_numbers (on_core c (state core memory)).0))
    × (left ≡ (on_core c (state core memory)).1))
    × (read ≡ no_call 0 → (told.answer ≡ Err NoCall) × (left ≡ state core memory))
    × (read ≡ no_stretch 0 → (told.answer ≡ Err NoStretch) × (left ≡ state core memory))

-- so does every call of three numbers (proved as `call_told`)
abbrev pub CallTold : Type 0
CallTold =
    (text : List ℕ) (kind first second : ℕ) (core : Core) (memory : List ℕ)
    → Tells core memory (call_played text (read_call kind first second (length text)) core memory) (read_calls text (kind ∷ first ∷ second ∷ []))
