-- Document 02, note 1, said a second time, for every memory, range and text: which number is answered and when, what every byte of the text then
-- is, and that a load of what was written gives the words back. Six statements, proved in proofs/Refusals.antt, proofs/Bytes.antt,
-- proofs/LoadedBack.antt and proofs/Apart.antt.
use Rattle.std.specs.Prelude.{◌≡◌, ◌↔◌, ◌⊎◌, List, [], ◌∷◌, ℕ, ◌+◌, ◌*◌, ◌/◌, ◌%◌, ◌≤◌, ◌<◌, length, get_or, take, Result, Ok, Err}
use Rattle.words.specs.Memory.{word_at}
use Rattle.refusals.specs.Refusals.{refusal_number}
use Rattle.refusals.specs.Theorems.{First, NoneApplies}
use Rattle.refusals.specs.declared.Refusal.{Refusal}
use Rattle.listing.specs.Answers.{fault_number}
use Rattle.listing.specs.declared.Fault.{Fault}
use Rattle.hexadecimal.specs.Theorems.{capitals}
use Rattle.r8_core.specs.Calls.{stored, Reply, load}
use Rattle.r8_core.specs.declared.Core.{Core}
use Rattle.r8_core.specs.declared.ListingError.{ListingError}
use Rattle.r8_core.specs.declared.ListingError.TheVariants.{Refused, Faulty}
use Rattle.dump.specs.Dump.{written, refused, refused_at, Dumped, dumped, answer_of}

-- the numbers in their order: 'L is 0 or above 65,536', 'First address plus count above L', 'the lent text is shorter than ten bytes a word'
abbrev pub dump_numbers : List ℕ → ℕ → ℕ → List ℕ → List (ℕ × Type 0)
dump_numbers memory first count text =
    (1, (length memory ≡ 0) ⊎ (65536 < length memory))
    ∷ (4, length memory < first + count)
    ∷ (10, length text < 10 * count)
    ∷ []

-- the first that applies is answered, 4 with the offset 0, and the text is as it was; where none does, ten bytes a word are written (proved as
-- `dump_numbers_lem`)
abbrev pub DumpNumbers : Type 0
DumpNumbers =
    (memory : List ℕ) (first count : ℕ) (text : List ℕ)
    → let gave : Dumped = dumped memory first count text in
    let numbers : List (ℕ × Type 0) = dump_numbers memory first count text in
    ((n : ℕ) → (gave.answer ≡ refused n) ↔ (First n numbers × ((n ≡ 1) ⊎ (n ≡ 10))))
    × ((n offset : ℕ) → (gave.answer ≡ refused_at n offset) ↔ (First n numbers × (n ≡ 4) × (offset ≡ 0)))
    × ((bytes : ℕ) → (gave.answer ≡ written bytes) ↔ (NoneApplies numbers × (bytes ≡ 10 * count)))
    × ((n : ℕ) → First n numbers → gave.text ≡ text)

-- the byte at a place of the text is the digit of a value, in capitals
abbrev pub DigitAt : List ℕ → ℕ → ℕ → Type 0
DigitAt text at value = get_or text at 0 ≡ get_or capitals value 0

-- the four digits of a number stand there, the highest first
abbrev pub DigitsAt : List ℕ → ℕ → ℕ → Type 0
DigitsAt text at n =
    DigitAt text at (n / 4096 % 16)
    × DigitAt text (at + 1) (n / 256 % 16)
    × DigitAt text (at + 2) (n / 16 % 16)
    × DigitAt text (at + 3) (n % 16)

-- and there a whole line: 'address, space, word, LF', byte by byte
abbrev pub EntryAt : List ℕ → ℕ → ℕ → ℕ → Type 0
EntryAt text at address word =
    DigitsAt text at address × (get_or text (at + 4) 0 ≡ 32) × DigitsAt text (at + 5) word × (get_or text (at + 9) 0 ≡ 10)

-- the lines follow each other, 'ten bytes each', and 'Text bytes past the last line stay' (proved as `dump_bytes`)
abbrev pub DumpBytes : Type 0
DumpBytes =
    (memory : List ℕ) (first count bytes : ℕ) (text : List ℕ)
    → let gave : Dumped = dumped memory first count text in
    gave.answer ≡ written bytes
    → (length gave.text ≡ length text)
    × ((k : ℕ) → k < count → EntryAt gave.text (10 * k) (first + k) (word_at memory (first + k)))
    × ((i : ℕ) → 10 * count ≤ i → get_or gave.text i 0 ≡ get_or text i 0)

-- a memory of words of 16 bits
abbrev pub Words : List ℕ → Type 0
Words memory = (x : ℕ) → word_at memory x < 65536

-- 'Loading the written lines into any memory of the same length, on a core with cycle 1 due, gives the same words at those addresses and changes
-- no others'. The written lines are the first ten bytes for each word; the load answers the count, and leaves the core (proved as `loaded_back`)
abbrev pub LoadedBack : Type 0
LoadedBack =
    (memory other text : List ℕ) (first count bytes : ℕ) (core : Core)
    → Words memory → length other ≡ length memory → core.due ≡ 1
    → (dumped memory first count text).answer ≡ written bytes
    → let reply : Reply = load (take (10 * count) (dumped memory first count text).text) core other in
    (reply.answer ≡ stored count)
    × (reply.core ≡ core)
    × (length reply.memory ≡ length other)
    × ((x : ℕ) → first ≤ x → x < first + count → word_at reply.memory x ≡ word_at memory x)
    × ((x : ℕ) → (x < first) ⊎ (first + count ≤ x) → word_at reply.memory x ≡ word_at other x)

-- so a full memory, 655,360 bytes of text, comes back whole (proved as `whole_memory`)
abbrev pub WholeMemory : Type 0
WholeMemory =
    (memory other text : List ℕ) (core : Core)
    → Words memory → length memory ≡ 65536 → length other ≡ 65536 → 655360 ≤ length text → core.due ≡ 1
    → let gave : Dumped = dumped memory 0 65536 text in
    let reply : Reply = load (take 655360 gave.text) core other in
    (gave.answer ≡ written 655360) × (reply.answer ≡ stored 65536) × (reply.memory ≡ memory)

-- 'this paper's number and values for each of its cases': different answers are read differently (proved as `dump_apart`)
abbrev pub DumpApart : Type 0
DumpApart = (x y : Result ℕ ListingError) → answer_of x ≡ answer_of y → x ≡ y

-- and each as its own bytes, number, or number and offset (proved as `dump_read`)
abbrev pub DumpRead : Type 0
DumpRead =
    (n : ℕ) (why : Refusal) (fault : Fault)
    → (answer_of (Ok n) ≡ written n)
    × (answer_of (Err (Refused why)) ≡ refused (refusal_number why))
    × (answer_of (Err (Faulty (record { fault = fault; offset = n }))) ≡ refused_at (fault_number fault) n)
