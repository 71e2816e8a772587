-- Laws of the lines of a trace, and the theorem of specs/Theorems.antt on the steps that they are of.
use mathlib.Core.Path.{◌≡◌, refl, sym, ap, subst, ◌∙◌}
use mathlib.Core.Bool.{cond}
use mathlib.Core.List.{List, [], ◌∷◌, ◌++◌, append_assoc}
use Prim.Native.Nat.{ℕ, zero, suc, ◌+◌, ◌*◌, ◌/◌, ◌%◌, ◌≤◌, ◌<◌}
use native.Mathlib.Omega.{arith}
use lib.Dec.{ltb}
use native.Mathlib.Numerals.{add-one}
use lib.ListN.{length, take, drop, get_or, replicate}
use lib.Seq.{drop-drop}
use Rattle.std.proofs.lemmas.List.{get_or-take}
use Rattle.words.specs.Memory.{word_at}
use Rattle.hexadecimal.specs.Digits.{word_text}
use Rattle.isa.specs.declared.Flags.{Flags}
use Rattle.r8_core.specs.Calls.{step}
use Rattle.text.specs.Text.{flags_text, line_text}
use Rattle.layout.specs.Layout.{flags_of}
use Rattle.layout.proofs.Back.{flags_back}
use Rattle.trace.specs.Trace.{Trace, cycles_of, rows_of, traced, finding_of, trace_gave}
use Rattle.std.specs.Prelude.{Result}
use Rattle.std.specs.Simd.{first_chunks}
use Rattle.r8_core.specs.declared.Ran.{Ran}
use Rattle.trace.specs.declared.TraceError.{TraceError}
use Rattle.output.specs.Page.{Page, page_at, put_on}
use Rattle.output.proofs.Stores.{put_both, put_within}
use Rattle.printed.specs.Printed.{row_text, lines_text, finding_text, printed_trace}
use Rattle.printed.specs.Theorems.{steps_text, LinesOfSteps}

-- a line has the last four digits of a word, and the last one of the cycles
word_same : (n : ℕ) → word_text (n % 65536) ≡ word_text n
word_same n =
    let digit : ℕ → ℕ = λ d. cond (ltb d 10) (48 + d) (55 + d) in
    let first : n % 65536 / 4096 % 16 ≡ n / 4096 % 16 = omega arith in
    let second : n % 65536 / 256 % 16 ≡ n / 256 % 16 = omega arith in
    let third : n % 65536 / 16 % 16 ≡ n / 16 % 16 = omega arith in
    let fourth : n % 65536 % 16 ≡ n % 16 = omega arith in
    λ j. digit (first j) ∷ digit (second j) ∷ digit (third j) ∷ digit (fourth j) ∷ []

line_same : (address word cycles : ℕ) (flags : Flags)
    → line_text (address % 65536) (word % 65536) (cycles % 10) flags ≡ line_text address word cycles flags
line_same address word cycles flags =
    let last : cycles % 10 % 10 ≡ cycles % 10 = omega arith in
    λ j. word_same address j ++ (32 ∷ word_same word j) ++ (32 ∷ (48 + last j) ∷ 32 ∷ flags_text flags) ++ (10 ∷ [])

-- that of a row
pub row_same : (row : List ℕ) {flags : Flags} → flags ≡ flags_of (get_or row 3 0)
    → line_text (get_or row 0 0 % 65536) (get_or row 1 0 % 65536) (get_or row 2 0 % 10) flags ≡ row_text row
row_same row {flags} e = line_same (get_or row 0 0) (get_or row 1 0) (get_or row 2 0) flags ∙ rw e refl

-- a row is the first four numbers
first_four : (rows : List ℕ) → row_text (take 4 rows) ≡ row_text rows
first_four [] = refl
first_four (a ∷ []) = refl
first_four (a ∷ b ∷ []) = refl
first_four (a ∷ b ∷ c ∷ []) = refl
first_four (a ∷ b ∷ c ∷ d ∷ rest) = refl

-- one line more
line_more : (n : ℕ) (rows : List ℕ) → lines_text (suc n) rows ≡ lines_text n rows ++ row_text (drop (4 * n) rows)
unfolding lines_text
line_more zero rows = refl
line_more (suc n) rows =
    let next : 4 + 4 * n ≡ 4 * suc n = omega arith in
    ap (λ (l : List ℕ). row_text rows ++ l) (line_more n (drop 4 rows))
    ∙ rw (drop-drop (4 * n) 4 rows, next) (sym (append_assoc (row_text rows) (lines_text n (drop 4 rows)) _))

-- the row of a chunk
chunk_at : (k i : ℕ) (rows : List ℕ) → i < k → get_or (first_chunks 4 k rows) i [] ≡ take 4 (drop (4 * i) rows)
chunk_at zero i rows few = absurd (omega arith)
chunk_at (suc k) zero rows few = refl
chunk_at (suc k) (suc i) rows few =
    let next : 4 + 4 * i ≡ 4 * suc i = omega arith in
    chunk_at k i (drop 4 rows) (omega arith) ∙ rw (drop-drop (4 * i) 4 rows, next) refl

-- so the line of a chunk is one line more
pub chunk_more : (page : Page) (k count i : ℕ) (rows : List ℕ) (chunks : List (List ℕ)) {text : List ℕ} {mid after : Page}
    → chunks ≡ first_chunks 4 k rows → i < k → i < count → mid ≡ put_on page (lines_text i rows)
    → text ≡ row_text (get_or (take count chunks) i []) → after ≡ put_on mid text → after ≡ put_on page (lines_text (i + 1) rows)
chunk_more page k count i rows chunks cut within few before said put =
    let here = get_or-take count chunks i [] few ∙ ap (λ (l : List (List ℕ)). get_or l i []) cut ∙ chunk_at k i rows within in
    let line = said ∙ ap (λ (l : List ℕ). row_text l) here ∙ first_four (drop (4 * i) rows) in
    rw (add-one i, line_more i rows, ← line) (put_both page (lines_text i rows) _ before put)

pub lines_of_steps : LinesOfSteps
unfolding lines_text rows_of steps_text
lines_of_steps zero core memory rest = refl
lines_of_steps (suc n) core memory rest =
    let stepped = step core memory in
    λ j. line_text core.pc (word_at memory core.pc) (cycles_of stepped.answer) (flags_back stepped.core.flags j)
    ++ lines_of_steps n stepped.core stepped.memory rest j

-- what is written where this is answered
pub put_found : (page : Page) (listing rows : List ℕ) {after : Page} {answer : Result Ran TraceError} (known : Result Ran TraceError)
    → after ≡ put_on page (finding_text (finding_of known) rows) → trace_gave answer rows ≡ traced listing (replicate 2000 0) → answer ≡ known
    → after ≡ put_on page (printed_trace listing)
unfolding printed_trace
put_found page listing rows known put e a =
    put
    ∙ sym (ap (λ (x : Result Ran TraceError). put_on page (finding_text (finding_of x) rows)) a)
    ∙ ap (λ (t : Trace). put_on page (finding_text t.finding t.rows)) e

-- no more bytes are answered than the page has
pub count_within : (page text : List ℕ) {after : List ℕ} {count : ℕ} → page_at after count ≡ put_on (page_at page 0) text → count ≤ length after
count_within page text e =
    subst (λ (p : Page). p.place ≤ length p.bytes) (sym e) (put_within (page_at page 0) text (omega arith))
