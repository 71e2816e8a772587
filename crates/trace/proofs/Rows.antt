-- Laws of rows: four numbers stored in their place, and one row more of a trace under way.
use mathlib.Core.Path.{◌≡◌, refl, sym, ap, ◌∙◌}
use mathlib.Core.List.{List, ◌++◌, append_assoc, append-nil}
use Prim.Native.Nat.{ℕ, suc, ◌+◌, ◌-◌, ◌*◌, ◌≤◌, ◌<◌}
use native.Mathlib.Omega.{arith}
use lib.ListN.{length, take, drop, length-append, take-append-drop}
use lib.Seq.{length-take-le, take_at, drop_at, drop-drop}
use Rattle.r8_core.specs.Calls.{Reply, step}
use Rattle.r8_core.specs.declared.Core.{Core}
use Rattle.trace.specs.Trace.{row_of, rows_of}

-- rows with one written over, from a place on
abbrev pub written : ℕ → List ℕ → List ℕ → List ℕ
written at row rows = take at rows ++ row ++ drop (at + 4) rows

-- what was put before a place stays there, and so does what stands after the row
module _ (at : ℕ) (row rows : List ℕ) (four : length row ≡ 4) (room : at + 4 ≤ length rows) where
  head_length : length (take at rows ++ row) ≡ at + 4
  head_length =
      length-append (take at rows) row
      ∙ ap (λ (n : ℕ). n + length row) (length-take-le at rows (omega arith))
      ∙ ap (λ (n : ℕ). at + n) four

  pub written_before : take (at + 4) (written at row rows) ≡ take at rows ++ row
  written_before = take_at (take at rows ++ row) (drop (at + 4) rows) (at + 4) head_length

  pub written_after : (n : ℕ) → drop (at + 4 + n) (written at row rows) ≡ drop (at + 4 + n) rows
  written_after n =
      sym (drop-drop n (at + 4) (written at row rows))
      ∙ ap (drop n) (drop_at (take at rows ++ row) (drop (at + 4) rows) (at + 4) head_length)
      ∙ drop-drop n (at + 4) rows

-- a trace under way: the rows put, those of the instructions left, and what stays
abbrev pub under : ℕ → ℕ → Core → List ℕ → List ℕ → List ℕ
under at left core memory rows = take at rows ++ rows_of left core memory ++ drop (at + 4 * left) rows

pub no_row_left : (at left : ℕ) (core : Core) (memory rows : List ℕ) → left ≡ 0 → under at left core memory rows ≡ rows
unfolding rows_of
no_row_left at left core memory rows e =
    let done : at + 4 * 0 ≡ at = omega arith in
    ap (λ (n : ℕ). under at n core memory rows) e
    ∙ (λ j. append-nil (take at rows) j ++ drop (done j) rows)
    ∙ take-append-drop at rows

-- one row more
more : (n at : ℕ) (core : Core) (memory rows : List ℕ) → at + 4 * suc n ≤ length rows
    → let stepped : Reply = step core memory in
    under at (suc n) core memory rows ≡ under (at + 4) n stepped.core stepped.memory (written at (row_of core memory stepped) rows)
unfolding rows_of
more n at core memory rows room =
    let stepped = step core memory in
    let row = row_of core memory stepped in
    let rest = rows_of n stepped.core stepped.memory in
    let place : at + 4 * suc n ≡ at + 4 + 4 * n = omega arith in
    let before = written_before at row rows refl (omega arith) in
    let after = written_after at row rows refl (omega arith) (4 * n) in
    ap (λ (k : ℕ). take at rows ++ (row ++ rest) ++ drop k rows) place
    ∙ ap (λ (l : List ℕ). l ++ drop (at + 4 + 4 * n) rows) (sym (append_assoc (take at rows) row rest))
    ∙ sym (λ j. before j ++ rest ++ after j)

-- and as the loop puts it
pub one_row : (count i : ℕ) (core next : Core) (memory words rows row : List ℕ) → i < count → 4 * count ≤ length rows
    → let stepped : Reply = step core memory in
    (row ≡ row_of core memory stepped) × (next ≡ stepped.core) × (words ≡ stepped.memory)
    → under (4 * i) (count - i) core memory rows
    ≡ under (4 * (i + 1)) (count - (i + 1)) next words (take (4 * i) rows ++ (row ++ drop (4 * (i + 1) - 4 * i) (drop (4 * i) rows)))
one_row count i core next memory words rows row some room e =
    let left : count - i ≡ suc (count - (i + 1)) = omega arith in
    let place : 4 * i + 4 ≡ 4 * (i + 1) = omega arith in
    let four : 4 * (i + 1) - 4 * i ≡ 4 = omega arith in
    let behind : drop (4 * (i + 1) - 4 * i) (drop (4 * i) rows) ≡ drop (4 * i + 4) rows =
    ap (λ (n : ℕ). drop n (drop (4 * i) rows)) four ∙ drop-drop 4 (4 * i) rows in
    let now : take (4 * i) rows ++ (row ++ drop (4 * (i + 1) - 4 * i) (drop (4 * i) rows)) ≡ written (4 * i) (row_of core memory (step core memory)) rows =
    (λ j. take (4 * i) rows ++ (e.0 j ++ behind j)) ∙ sym (append_assoc (take (4 * i) rows) _ (drop (4 * i + 4) rows)) in
    ap (λ (n : ℕ). under (4 * i) n core memory rows) left
    ∙ more (count - (i + 1)) (4 * i) core memory rows (omega arith)
    ∙ sym (λ j. under (sym place j) (count - (i + 1)) (e.1 j) (e.2 j) (now j))
