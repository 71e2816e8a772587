-- What is written, read again: the lines of the text, what each says, and that they have no fault. Assumes nothing.
use mathlib.Core.Path.{◌≡◌, refl, ap, ◌∙◌}
use mathlib.Core.Logic.{inl}
use mathlib.Core.Bool.{Bool, true, false, cond}
use mathlib.Core.List.{List, [], ◌∷◌, ◌++◌}
use Prim.Native.Nat.{ℕ, zero, suc, ◌+◌, ◌/◌, ◌%◌, ◌≤◌, ◌<◌}
use native.Mathlib.Omega.{arith}
use borrow.Author.Tests.{ne_eqb, lt-leb, le-ltb}
use lib.Dec.{ltb}
use lib.ListN.{length, get_or}
use Rattle.words.specs.Memory.{word_at}
use Rattle.hexadecimal.specs.Digits.{hex_digit, word_text}
use Rattle.lines.specs.Lines.{lines, read_line}
use Rattle.lines.specs.declared.Line.{Line}
use Rattle.lines.specs.declared.Line.TheVariants.{Entry}
use Rattle.lines.proofs.Grammar.{entry_exactly}
use Rattle.lines.proofs.ReadBack.{word_read_back}
use Rattle.listing.specs.Answers.{stored}
use Rattle.listing.specs.Listing.{Check, fault_of, sound, first_of, first_fault, words_in, check_of, listing_answer}
use Rattle.dump.specs.Dump.{listing_text}
use Rattle.dump.specs.Theorems.{Words}

-- a line without its LF
abbrev pub body : ℕ → ℕ → List ℕ
body address word = word_text address ++ (32 ∷ word_text word)

pub bodies : List ℕ → ℕ → ℕ → List (List ℕ)
bodies memory first zero = []
bodies memory first (suc count) = body first (word_at memory first) ∷ bodies memory (first + 1) count

-- a byte that is no LF belongs to the line behind it
other_byte : (b : ℕ) (t line : List ℕ) (rest : List (List ℕ)) → (b ≡ 10 → ⊥) → lines t ≡ line ∷ rest → lines (b ∷ t) ≡ (b ∷ line) ∷ rest
unfolding lines
other_byte b t line rest n e = rw (ne_eqb b 10 n, e)

-- no digit is one
digit_byte : (n : ℕ) → hex_digit n ≡ 10 → ⊥
digit_byte n = by (ltb (n % 16) 10)
  where
    by : (low : Bool) → cond low (48 + n % 16) (55 + n % 16) ≡ 10 → ⊥
    by true e = omega arith
    by false e = omega arith

word_bytes : (w : ℕ) (t line : List ℕ) (rest : List (List ℕ)) → lines t ≡ line ∷ rest → lines (word_text w ++ t) ≡ (word_text w ++ line) ∷ rest
word_bytes w t line rest e =
    other_byte (hex_digit (w / 4096)) _ _ rest (digit_byte (w / 4096))
    (other_byte (hex_digit (w / 256)) _ _ rest (digit_byte (w / 256))
    (other_byte (hex_digit (w / 16)) _ _ rest (digit_byte (w / 16)) (other_byte (hex_digit w) _ _ rest (digit_byte w) e)))

line_off : (address word : ℕ) (t : List ℕ) → lines (word_text address ++ (32 ∷ (word_text word ++ (10 ∷ t)))) ≡ body address word ∷ lines t
unfolding lines
line_off address word t =
    word_bytes address (32 ∷ (word_text word ++ (10 ∷ t))) (32 ∷ word_text word) (lines t)
    (other_byte 32 (word_text word ++ (10 ∷ t)) (word_text word) (lines t) (λ e. omega arith) (word_bytes word (10 ∷ t) [] (lines t) refl))

pub lines_of : (memory : List ℕ) (first count : ℕ) → lines (listing_text memory first count) ≡ bodies memory first count
unfolding listing_text bodies lines
lines_of memory first zero = refl
lines_of memory first (suc count) =
    line_off first (word_at memory first) (listing_text memory (first + 1) count)
    ∙ ap (λ (ls : List (List ℕ)). body first (word_at memory first) ∷ ls) (lines_of memory (first + 1) count)

-- what a line says: the digit writer is the reader's inverse
pub read_body : (address word : ℕ) → address < 65536 → word < 65536 → read_line (body address word) ≡ Entry address word
read_body address word a w =
    (entry_exactly (body address word) address word).1
    (record {
      first = word_text address;
      second = word_text word;
      spaces = 0;
      rest = [];
      writes_address = (refl, word_read_back address a, a);
      writes_word = (refl, word_read_back word w, w);
      ending = inl refl;
      whole = refl;
    })

-- every line says its word, and no other line does
pub said : (memory : List ℕ) (first count i : ℕ) → Words memory → first + count ≤ 65536 → i < count
    → read_line (get_or (bodies memory first count) i []) ≡ Entry (first + i) (word_at memory (first + i))
unfolding bodies
said memory first zero i words h l = absurd (omega arith)
said memory first (suc count) zero words h l =
    let here : first ≡ first + 0 = omega arith in
    read_body first (word_at memory first) (omega arith) (words first) ∙ ap (λ (a : ℕ). Entry a (word_at memory a)) here
said memory first (suc count) (suc i) words h l =
    let next : first + 1 + i ≡ first + suc i = omega arith in
    said memory (first + 1) count i words (omega (arith, h)) (omega (arith, l)) ∙ ap (λ (a : ℕ). Entry a (word_at memory a)) next

pub bodies_length : (memory : List ℕ) (first count : ℕ) → length (bodies memory first count) ≡ count
unfolding bodies
bodies_length memory first zero = refl
bodies_length memory first (suc count) = ap suc (bodies_length memory (first + 1) count)

-- addresses rise from the first on, below L: no line has a fault, and each has a word
no_fault : (L lowest start address word : ℕ) (later : Check) (line : Line) → line ≡ Entry address word → address < L → lowest ≤ address
    → first_of (fault_of L lowest line) start later ≡ later
no_fault L lowest start address word later line e h l = rw (e, lt-leb L address h, le-ltb address lowest l)

pub no_faults : (memory : List ℕ) (L lowest start first count : ℕ) → Words memory → L ≤ 65536 → first + count ≤ L → lowest ≤ first
    → first_fault L lowest start (bodies memory first count) ≡ sound
unfolding bodies first_fault
no_faults memory L lowest start first zero words s h l = refl
no_faults memory L lowest start first (suc count) words s h l =
    let read = read_body first (word_at memory first) (omega arith) (words first) in
    no_fault L lowest start first (word_at memory first) _ (read_line (body first (word_at memory first))) read (omega arith) l
    ∙ rw read (no_faults memory L (first + 1) _ (first + 1) count words s (omega arith) (omega arith))

pub all_words : (memory : List ℕ) (first count : ℕ) → Words memory → first + count ≤ 65536 → words_in (bodies memory first count) ≡ count
unfolding bodies words_in
all_words memory first zero words h = refl
all_words memory first (suc count) words h =
    let read = read_body first (word_at memory first) (omega arith) (words first) in
    rw read (let more = all_words memory (first + 1) count words (omega (arith, h)) in omega arith)

-- so all of it is stored
pub is_stored_lem : (memory : List ℕ) (first count : ℕ) → Words memory → length memory ≤ 65536 → first + count ≤ length memory
    → listing_answer (listing_text memory first count) (length memory) ≡ stored count
unfolding listing_answer check_of
is_stored_lem memory first count words s h =
    rw (lines_of memory first count, no_faults memory (length memory) 0 0 first count words s h (omega arith))
    (ap stored (all_words memory first count words (omega arith)))
