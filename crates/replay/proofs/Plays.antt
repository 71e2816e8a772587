-- Laws about a list of calls played on a core: where a play starts, one call more, and where it ends.
use mathlib.Core.Path.{◌≡◌, refl, sym, ap, subst, ◌∙◌}
use mathlib.Core.List.{List, [], ◌∷◌, ◌++◌}
use Prim.Native.Nat.{ℕ, ◌+◌, ◌*◌, ◌/◌, ◌≤◌}
use native.Mathlib.Omega.{arith}
use lib.ListN.{length, take, drop, length-append}
use Rattle.std.specs.Prelude.{Result, Ok, Err, IsOk}
use Rattle.r8_core.specs.Cores.{visible_of, fresh_core}
use Rattle.r8_core.specs.Spent.{spent_of}
use Rattle.r8_core.specs.Calls.{Answer}
use Rattle.r8_core.specs.declared.Core.{Core}
use Rattle.layout.specs.Layout.{answer_numbers, onto_if_room, NumberedReply, numbered}
use Rattle.layout.proofs.Sizes.{numbers_size, left_size}
use Rattle.layout.proofs.Onto.{in_two_parts}
use Rattle.plays.specs.Plays.{play}
use Rattle.machine.specs.Theorem.{Call, State, state, reply_to, on_core}
use Rattle.replay.specs.Replay.{Reading, listed, no_call, no_stretch, call_of, following, read_then, read_from, read_calls, numbers_then}
use Rattle.replay.specs.declared.ListedCall.{ListedCall}
use Rattle.replay.specs.declared.CallFault.{CallFault}
use Rattle.replay.specs.declared.CallFault.TheVariants.{NoCall, NoStretch}
use Rattle.replay.proofs.Readings.{chunk_whole, Cut, reads_on, none_left}
use Rattle.replay.specs.ReplayParts.{read_chunk, Playable, AfterPlay, after_play, core_left, core_numbers, core_played}

-- a list that can be played is read as calls, and there are places enough
pub playable : (r : Reading) (room : ℕ) → Playable r room
    → (calls : List Call) × (r ≡ listed calls) × (23 * (length calls + 1) ≤ room)
playable (listed calls) room h = (calls, refl, h)
playable (no_call i) room h = absurd h
playable (no_stretch i) room h = absurd h

no_call_listed : (calls : List Call) (i : ℕ) → no_call i ≡ listed calls → ⊥
no_call_listed calls i e = let z : ◌≡◌ {A = ℕ} 0 1 = cc in omega arith

no_stretch_listed : (calls : List Call) (i : ℕ) → no_stretch i ≡ listed calls → ⊥
no_stretch_listed calls i e = let z : ◌≡◌ {A = ℕ} 0 1 = cc in omega arith

-- of calls, each that is read is one
is_call : (text : List ℕ) (i : ℕ) (r : Result ListedCall CallFault) (rest : Reading) (calls : List Call)
    → read_then text i r rest ≡ listed calls → IsOk r
is_call text i (Ok call) rest calls e = refl
is_call text i (Err NoCall) rest calls e = absurd (no_call_listed calls i e)
is_call text i (Err NoStretch) rest calls e = absurd (no_stretch_listed calls i e)

-- calls of which the first is known, and those behind it
split_first : (call : Call) (r : Reading) (calls : List Call) → following call r ≡ listed calls
    → (rest : List Call) × (r ≡ listed rest) × (calls ≡ call ∷ rest)
split_first call (listed rest) calls e = (rest, refl, cc)
split_first call (no_call i) calls e = absurd (no_call_listed calls i e)
split_first call (no_stretch i) calls e = absurd (no_stretch_listed calls i e)

-- how many numbers are written of a play
pub numbers_length : (calls : List Call) (s : State) → length (core_numbers (play on_core calls s)) ≡ 23 * (length calls + 1)
unfolding play numbers_then
numbers_length [] s = left_size (visible_of s.core) (spent_of s.core) s.core.clock.0
numbers_length (call ∷ rest) s =
    let next = on_core call s in
    let more = core_numbers (play on_core rest next.1) in
    let after : length more ≡ 23 * (length rest + 1) = numbers_length rest next.1 in
    let first : length (answer_numbers next.0) ≡ 23 = numbers_size next.0 in
    length-append (answer_numbers next.0) more ∙ omega arith

-- what a play of some calls leaves, with its numbers written from a place on
abbrev from : List Call → State → List ℕ → ℕ → AfterPlay
from calls s answers to =
    record {
      memory = (play on_core calls s).1.memory;
      answers = take to answers ++ onto_if_room (core_numbers (play on_core calls s)) (drop to answers);
    }

-- the first of them played, with its reply's numbers
from_next : (call : Call) (rest : List Call) (s : State) (answers : List ℕ) (to : ℕ) (reply : NumberedReply)
    → reply ≡ numbered (reply_to call s.core s.memory) → to + 23 * (length (call ∷ rest) + 1) ≤ length answers
    → from (call ∷ rest) s answers to
    ≡ from rest (state reply.core reply.memory) (take to answers ++ onto_if_room reply.numbers (drop to answers)) (to + 23)
unfolding play numbers_then
from_next call rest s answers to reply e room =
    let more = core_numbers (play on_core rest (state reply.core reply.memory)) in
    let size : length reply.numbers ≡ 23 =
    ap (λ (x : NumberedReply). length x.numbers) e ∙ numbers_size (reply_to call s.core s.memory).answer in
    let after : length more ≡ 23 * (length rest + 1) = numbers_length rest (state reply.core reply.memory) in
    let next = take to answers ++ onto_if_room reply.numbers (drop to answers) in
    ap
    (λ (x : NumberedReply). let played : List Answer × State = play on_core rest (state x.core x.memory) in
    after_play played.1.memory (take to answers ++ onto_if_room (x.numbers ++ core_numbers played) (drop to answers)))
    (sym e)
    ∙ ap (after_play (play on_core rest (state reply.core reply.memory)).1.memory)
    (in_two_parts reply.numbers more answers to (omega arith)
    ∙ ap (λ (n : ℕ). take (to + n) next ++ onto_if_room more (drop (to + n) next)) size)

-- a play under way: the calls left, from the core, memory and answers reached, give what the whole list gives
pub record Reached (text calls memory₀ answers₀ : List ℕ) (core : Core) (memory answers : List ℕ) (i : ℕ) (rest : List ℕ) : Type 0 where
  pub left : List Call
  pub reads : read_from text i rest ≡ listed left
  pub whole : 3 * i + length rest ≡ length calls
  pub room : 23 * i + 23 * (length left + 1) ≤ length answers
  pub size : length memory ≡ length memory₀
  pub same : length answers ≡ length answers₀
  pub gives : core_played (read_calls text calls) memory₀ answers₀ ≡ from left (state core memory) answers (23 * i)

pub starts : (text calls memory answers : List ℕ) (core : Core) → core ≡ fresh_core → Playable (read_calls text calls) (length answers)
    → Reached text calls memory answers core memory answers 0 calls
starts text calls memory answers core fresh h =
    let p = playable (read_calls text calls) (length answers) h in
    record {
      left = p.0;
      reads = p.1;
      whole = omega arith;
      room = omega (arith, p.2);
      size = refl;
      same = refl;
      gives =
          ap (λ (r : Reading). core_played r memory answers) p.1
          ∙ ap (λ (c : Core). from p.0 (state c memory) answers 0) (sym fresh);
    }

module _ {text calls memory₀ answers₀ : List ℕ} {core : Core} {memory answers : List ℕ} {i : ℕ} {ns : List ℕ} (r : Reached text calls memory₀ answers₀ core memory answers i ns) where
  module _ {chunk rest : List ℕ} (cut : Cut ns chunk rest) where
    -- what the next is read as
    reads_next : (x : Result ListedCall CallFault) → x ≡ read_chunk chunk (length text) → read_then text i x (read_from text (i + 1) rest) ≡ listed r.left
    reads_next x read = sym (reads_on text i x cut read) ∙ r.reads

    -- the next is a call
    pub next_is_call : (x : Result ListedCall CallFault) → x ≡ read_chunk chunk (length text) → IsOk x
    next_is_call x read = is_call text i x (read_from text (i + 1) rest) r.left (reads_next x read)

    -- one call more
    pub goes_on : (call : ListedCall) (reply : NumberedReply) (next : List ℕ) (h j : ℕ) → h ≡ i → j ≡ i + 1 → Ok call ≡ read_chunk chunk (length text)
        → reply ≡ numbered (reply_to (call_of text call) core memory) → length reply.memory ≡ length memory
        → next ≡ take (23 * h) answers ++ onto_if_room reply.numbers (drop (23 * h) answers) → length next ≡ length answers
        → Reached text calls memory₀ answers₀ reply.core reply.memory next j rest
    goes_on call reply next h j this count read e size written same =
        let s = split_first (call_of text call) (read_from text (i + 1) rest) r.left (reads_next (Ok call) read) in
        let room : 23 * i + 23 * (length (call_of text call ∷ s.0) + 1) ≤ length answers =
        subst (λ (l : List Call). 23 * i + 23 * (length l + 1) ≤ length answers) s.2 r.room in
        let place : 23 * i + 23 ≡ 23 * (i + 1) = omega arith in
        let put = ap (λ (n : ℕ). take (23 * n) answers ++ onto_if_room reply.numbers (drop (23 * n) answers)) (sym this) ∙ sym written in
        rw count record {
          left = s.0;
          reads = s.1;
          whole = omega (arith, chunk_whole chunk (length text) call read, r.whole, ap length cut.parts, length-append chunk rest);
          room = omega (arith, same);
          size = size ∙ r.size;
          same = same ∙ r.same;
          gives =
              r.gives
              ∙ ap (λ (l : List Call). from l (state core memory) answers (23 * i)) s.2
              ∙ from_next (call_of text call) s.0 (state core memory) answers (23 * i) reply e room
              ∙ (λ k. from s.0 (state reply.core reply.memory) (put k) (place k));
        }

  -- no call left
  over : length ns ≡ 0 → r.left ≡ []
  over h = cc (r.reads, none_left text i ns h)

  pub ends : length ns ≡ 0
      → core_played (read_calls text calls) memory₀ answers₀
      ≡ after_play memory (take (23 * (length calls / 3)) answers ++ onto_if_room (core_left core) (drop (23 * (length calls / 3)) answers))
  unfolding play numbers_then
  ends h =
      let count : i ≡ length calls / 3 = omega (arith, r.whole) in
      r.gives
      ∙ ap (λ (l : List Call). from l (state core memory) answers (23 * i)) (over h)
      ∙ ap (λ (n : ℕ). after_play memory (take (23 * n) answers ++ onto_if_room (core_left core) (drop (23 * n) answers))) count
