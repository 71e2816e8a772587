-- Laws about the reading of a list of calls: the call at its front, the rest behind it, and the verdict from a place on.
use mathlib.Core.Path.{◌≡◌, refl, sym, ap, ◌∙◌}
use mathlib.Core.Bool.{Bool, cond}
use mathlib.Core.List.{List, [], ◌∷◌, ◌++◌}
use Prim.Native.Nat.{ℕ, ◌+◌, ◌*◌, ◌/◌, ◌<◌, ◌≤◌, min}
use native.Mathlib.Omega.{arith}
use borrow.Author.Tests.{le-leb, lt-leb}
use lib.Dec.{leb}
use lib.ListN.{length, length-append}
use Rattle.std.specs.Prelude.{Result, Ok, Err, Some}
use Rattle.std.specs.Borrow.{Bor}
use Rattle.std.specs.declared.slice.Chunks.{Chunks}
use Rattle.std.specs.Slice.Iter.{chunks_rest, chunks_size, chunks_steps}
use Rattle.machine.specs.Theorem.{Call}
use Rattle.replay.specs.Replay.{call_of, Reading, listed, no_call, no_stretch, following, read_then, read_from, read_calls}
use Rattle.replay.specs.ReplayParts.{fault_at, verdict_of, read_chunk}
use Rattle.replay.specs.declared.ListedCall.{ListedCall}
use Rattle.replay.specs.declared.CallFault.{CallFault}
use Rattle.replay.specs.declared.CallFault.TheVariants.{NoCall, NoStretch}
use Rattle.replay.specs.declared.ReplayError.{ReplayError}
use Rattle.replay.specs.declared.ReplayError.TheVariants as error

-- a chunk that is read as a call has three numbers
pub chunk_whole : (chunk : List ℕ) (size : ℕ) (call : ListedCall) → Ok call ≡ read_chunk chunk size → length chunk ≡ 3
chunk_whole (a ∷ b ∷ c ∷ []) size call e = refl
chunk_whole [] size call e = let z : ◌≡◌ {A = ℕ} 0 1 = cc in absurd (omega arith)
chunk_whole (a ∷ []) size call e = let z : ◌≡◌ {A = ℕ} 0 1 = cc in absurd (omega arith)
chunk_whole (a ∷ b ∷ []) size call e = let z : ◌≡◌ {A = ℕ} 0 1 = cc in absurd (omega arith)
chunk_whole (a ∷ b ∷ c ∷ d ∷ more) size call e = let z : ◌≡◌ {A = ℕ} 0 1 = cc in absurd (omega arith)

-- what is left of a list, in a first chunk and the rest
pub record Cut (left chunk rest : List ℕ) : Type 0 where
  pub parts : left ≡ chunk ++ rest
  pub size : length chunk ≡ min 3 (length left)
  pub some : 0 < length left

-- as the chunks of three numbers come
pub next_cut : (s t : Chunks ℕ) (chunk : Bor (List ℕ)) → chunks_size s ≡ 3 → chunks_steps s (Some chunk) t
    → Cut (chunks_rest s) chunk.now (chunks_rest t)
next_cut s t chunk three step = record {
  parts = step.1.0;
  size = step.1.1 ∙ ap (λ (n : ℕ). min n (length (chunks_rest s))) three;
  some = step.1.2;
}

-- numbers are read as their first chunk and what follows it
reads_first : (text : List ℕ) (i : ℕ) (chunk rest : List ℕ) → length chunk ≡ min 3 (length chunk + length rest) → 0 < length chunk + length rest
    → read_from text i (chunk ++ rest) ≡ read_then text i (read_chunk chunk (length text)) (read_from text (i + 1) rest)
unfolding read_from
reads_first text i [] rest s h = absurd (omega (arith, s))
reads_first text i (a ∷ []) [] s h = refl
reads_first text i (a ∷ []) (b ∷ rest) s h = absurd (omega (arith, s))
reads_first text i (a ∷ b ∷ []) [] s h = refl
reads_first text i (a ∷ b ∷ []) (c ∷ rest) s h = absurd (omega (arith, s))
reads_first text i (a ∷ b ∷ c ∷ []) rest s h = refl
reads_first text i (a ∷ b ∷ c ∷ d ∷ more) rest s h = absurd (omega (arith, s))

-- with what the chunk was read as
pub reads_on : (text : List ℕ) (i : ℕ) {left chunk rest : List ℕ} (r : Result ListedCall CallFault) → Cut left chunk rest
    → r ≡ read_chunk chunk (length text) → read_from text i left ≡ read_then text i r (read_from text (i + 1) rest)
reads_on text i {left} {chunk} {rest} r cut read =
    let whole : length left ≡ length chunk + length rest = ap length cut.parts ∙ length-append chunk rest in
    ap (read_from text i) cut.parts
    ∙ reads_first text i chunk rest (cut.size ∙ ap (min 3) whole) (omega (arith, whole, cut.some))
    ∙ ap (λ (x : Result ListedCall CallFault). read_then text i x (read_from text (i + 1) rest)) (sym read)

pub none_left : (text : List ℕ) (i : ℕ) (left : List ℕ) → length left ≡ 0 → read_from text i left ≡ listed []
unfolding read_from
none_left text i [] h = refl
none_left text i (a ∷ rest) h = absurd (omega (arith, h))

-- the verdict where n calls were read before
abbrev pub verdict_from : ℕ → Reading → ℕ → Result ℕ ReplayError
verdict_from n (listed calls) room = cond (leb (23 * (n + length calls + 1)) room) (Ok (n + length calls)) (Err error.NoRoom)
verdict_from n (no_call i) room = Err (error.NoCall i)
verdict_from n (no_stretch i) room = Err (error.NoStretch i)

pub verdict_starts : (r : Reading) (room : ℕ) → verdict_of r room ≡ verdict_from 0 r room
verdict_starts (listed calls) room =
    ap (λ (n : ℕ). cond (leb (23 * (n + 1)) room) (Ok n) (Err error.NoRoom)) (omega arith)
verdict_starts (no_call i) room = refl
verdict_starts (no_stretch i) room = refl

verdict_goes_on : (n : ℕ) (call : Call) (r : Reading) (room : ℕ) → verdict_from n (following call r) room ≡ verdict_from (n + 1) r room
verdict_goes_on n call (listed calls) room =
    ap (λ (m : ℕ). cond (leb (23 * (m + 1)) room) (Ok m) (Err error.NoRoom)) (omega arith)
verdict_goes_on n call (no_call i) room = refl
verdict_goes_on n call (no_stretch i) room = refl

-- n calls and no more
verdict_room : (n room : ℕ) → 23 * (n + 1) ≤ room → verdict_from n (listed []) room ≡ Ok n
verdict_room n room h =
    ap (λ (m : ℕ). cond (leb (23 * (m + 1)) room) (Ok m) (Err error.NoRoom)) (omega arith) ∙ ap (λ (b : Bool). cond b (Ok n) (Err error.NoRoom)) (le-leb _ _ h)

verdict_no_room : (n room : ℕ) → room < 23 * (n + 1) → verdict_from n (listed []) room ≡ Err error.NoRoom
verdict_no_room n room h =
    ap (λ (m : ℕ). cond (leb (23 * (m + 1)) room) (Ok m) (Err error.NoRoom)) (omega arith) ∙ ap (λ (b : Bool). cond b (Ok n) (Err error.NoRoom)) (lt-leb _ _ h)

-- a call that is not read
verdict_fails : (n i : ℕ) (text : List ℕ) (why : CallFault) (rest : Reading) (room : ℕ)
    → verdict_from n (read_then text i (Err why) rest) room ≡ Err (fault_at why i)
verdict_fails n i text NoCall rest room = refl
verdict_fails n i text NoStretch rest room = refl

-- a check under way: the verdict on what is left, with the i calls passed, is that on the whole list
pub record Passed (text calls : List ℕ) (room i : ℕ) (left : List ℕ) : Type 0 where
  pub whole : 3 * i + length left ≡ length calls
  pub same : verdict_of (read_calls text calls) room ≡ verdict_from i (read_from text i left) room

module _ {text calls : List ℕ} {room i : ℕ} {left : List ℕ} (p : Passed text calls room i left) where
  module _ {chunk rest : List ℕ} (cut : Cut left chunk rest) where
    finds : (r : Result ListedCall CallFault) → r ≡ read_chunk chunk (length text)
        → verdict_of (read_calls text calls) room ≡ verdict_from i (read_then text i r (read_from text (i + 1) rest)) room
    finds r read = p.same ∙ ap (λ (x : Reading). verdict_from i x room) (reads_on text i r cut read)

    pub fails : (why : CallFault) (j : ℕ) → j ≡ i → Err why ≡ read_chunk chunk (length text)
        → verdict_of (read_calls text calls) room ≡ Err (fault_at why j)
    fails why j e read = rw e (finds (Err why) read ∙ verdict_fails i i text why (read_from text (i + 1) rest) room)

    -- one call more
    pub passes : (call : ListedCall) (j : ℕ) → j ≡ i + 1 → Ok call ≡ read_chunk chunk (length text) → Passed text calls room j rest
    passes call j e read = rw e record {
      whole = omega (arith, chunk_whole chunk (length text) call read, p.whole, ap length cut.parts, length-append chunk rest);
      same = finds (Ok call) read ∙ verdict_goes_on i (call_of text call) (read_from text (i + 1) rest) room;
    }

  -- no call left
  ended : length left ≡ 0 → verdict_of (read_calls text calls) room ≡ verdict_from i (listed []) room
  ended h = p.same ∙ ap (λ (x : Reading). verdict_from i x room) (none_left text i left h)

  counted : length left ≡ 0 → length calls / 3 ≡ i
  counted h = omega (arith, p.whole)

  pub ends_with_room : length left ≡ 0 → 23 * (length calls / 3 + 1) ≤ room → verdict_of (read_calls text calls) room ≡ Ok (length calls / 3)
  ends_with_room h fits = rw (counted h) (ended h ∙ verdict_room i room (omega (arith, counted h)))

  pub ends_without : length left ≡ 0 → room < 23 * (length calls / 3 + 1) → verdict_of (read_calls text calls) room ≡ Err error.NoRoom
  ends_without h short = ended h ∙ verdict_no_room i room (omega (arith, counted h))
