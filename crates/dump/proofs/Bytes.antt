-- The theorem `DumpBytes` of specs/Theorems.antt: line by line, and then byte by byte. Assumes nothing.
use mathlib.Core.Path.{◌≡◌, ap, ◌∙◌}
use mathlib.Core.List.{List, ◌++◌}
use Prim.Native.Nat.{ℕ, zero, suc, ◌+◌, ◌-◌, ◌*◌, ◌/◌, ◌≤◌, ◌<◌}
use native.Mathlib.Omega.{arith}
use lib.ListN.{length, get_or, drop, length-append, length-drop, get_or-append}
use lib.Dec.{lit≤}
use lib.Seq.{get_or-append-add, get_or-drop}
use Rattle.words.specs.Memory.{word_at}
use Rattle.hexadecimal.proofs.Written.{digit_written}
use Rattle.dump.specs.Dump.{entry_text, listing_text}
use Rattle.dump.specs.Theorems.{EntryAt, DumpBytes}
use Rattle.dump.proofs.Writes.{lines_length}
use Rattle.dump.proofs.Refusals.{is_taken}

-- byte j of line k
in_line : (memory : List ℕ) (first count k j : ℕ) → k < count → j < 10
    → get_or (listing_text memory first count) (10 * k + j) 0 ≡ get_or (entry_text (first + k) (word_at memory (first + k))) j 0
unfolding listing_text
in_line memory first zero k j h l = absurd (omega arith)
in_line memory first (suc count) zero j h l =
    let place : 10 * 0 + j ≡ j = omega arith in
    let here : first ≡ first + 0 = omega arith in
    ap (λ (i : ℕ). get_or (entry_text first (word_at memory first) ++ listing_text memory (first + 1) count) i 0) place
    ∙ get_or-append (entry_text first (word_at memory first)) (listing_text memory (first + 1) count) 0 j l
    ∙ ap (λ (a : ℕ). get_or (entry_text a (word_at memory a)) j 0) here
in_line memory first (suc count) (suc k) j h l =
    let place : 10 * suc k + j ≡ 10 + (10 * k + j) = omega arith in
    let next : first + 1 + k ≡ first + suc k = omega arith in
    ap (λ (i : ℕ). get_or (entry_text first (word_at memory first) ++ listing_text memory (first + 1) count) i 0) place
    ∙ get_or-append-add (entry_text first (word_at memory first)) (listing_text memory (first + 1) count) (10 * k + j) 0
    ∙ in_line memory (first + 1) count k j (omega (arith, h)) l
    ∙ ap (λ (a : ℕ). get_or (entry_text a (word_at memory a)) j 0) next

module _ (memory : List ℕ) (first count : ℕ) (text : List ℕ) where
  left : List ℕ
  left = listing_text memory first count ++ drop (10 * count) text

  -- of the text that is left
  byte : (k j : ℕ) → k < count → j < 10 → get_or left (10 * k + j) 0 ≡ get_or (entry_text (first + k) (word_at memory (first + k))) j 0
  unfolding left
  byte k j h l =
      get_or-append (listing_text memory first count) (drop (10 * count) text) 0 (10 * k + j) (omega (arith, lines_length memory first count))
      ∙ in_line memory first count k j h l

  line : (k : ℕ) → k < count → EntryAt left (10 * k) (first + k) (word_at memory (first + k))
  line k h =
      let a = first + k in
      let w = word_at memory (first + k) in
      let place : (i j : ℕ) → i ≡ 10 * k + j → j < 10 → get_or left i 0 ≡ get_or (entry_text a w) j 0 = λ i j e l. ap (λ (n : ℕ). get_or left n 0) e ∙ byte k j h l in (
        (
          place (10 * k) 0 (omega arith) (lit≤ tt) ∙ digit_written (a / 4096),
          byte k 1 h (lit≤ tt) ∙ digit_written (a / 256),
          byte k 2 h (lit≤ tt) ∙ digit_written (a / 16),
          byte k 3 h (lit≤ tt) ∙ digit_written a,
        ),
        byte k 4 h (lit≤ tt),
        (
          byte k 5 h (lit≤ tt) ∙ digit_written (w / 4096),
          place (10 * k + 5 + 1) 6 (omega arith) (lit≤ tt) ∙ digit_written (w / 256),
          place (10 * k + 5 + 2) 7 (omega arith) (lit≤ tt) ∙ digit_written (w / 16),
          place (10 * k + 5 + 3) 8 (omega arith) (lit≤ tt) ∙ digit_written w,
        ),
        byte k 9 h (lit≤ tt),
      )

  size : 10 * count ≤ length text → length left ≡ length text
  unfolding left
  size h =
      length-append (listing_text memory first count) (drop (10 * count) text)
      ∙ omega (arith, lines_length memory first count, length-drop (10 * count) text)

  behind : (i : ℕ) → 10 * count ≤ i → get_or left i 0 ≡ get_or text i 0
  unfolding left
  behind i h =
      let same : 10 * count + (i - 10 * count) ≡ i = omega arith in
      let place : i ≡ length (listing_text memory first count) + (i - 10 * count) = omega (arith, lines_length memory first count) in
      ap (λ (n : ℕ). get_or left n 0) place
      ∙ get_or-append-add (listing_text memory first count) (drop (10 * count) text) (i - 10 * count) 0
      ∙ get_or-drop (10 * count) text (i - 10 * count) 0
      ∙ ap (λ (n : ℕ). get_or text n 0) same

pub dump_bytes : DumpBytes
unfolding left
dump_bytes memory first count bytes text e =
    let t = is_taken memory first count text bytes e in
    rw t.leaves (size memory first count text t.room, line memory first count text, behind memory first count text)
