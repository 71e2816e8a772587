-- A listing checked, counted and stored line by line, as the iterator over its lines gives them. Assumes nothing.
use mathlib.Core.Path.{◌≡◌, refl, ap}
use mathlib.Core.Bool.{Bool, true, false, cond}
use mathlib.Core.List.{List, [], ◌∷◌}
use Prim.Native.Nat.{ℕ, ◌+◌, ◌≤◌}
use native.Mathlib.Omega.{arith}
use lib.Dec.{eqb, lit≤}
use lib.ListN.{length, length-set}
use Rattle.lines.specs.Lines.{line_feed, prepend, lines, read_line}
use Rattle.lines.specs.Walk.{read_lines}
use Rattle.lines.specs.declared.Line.{Line}
use Rattle.lines.specs.declared.Line.TheVariants.{Blank, Entry, IllFormed}
use Rattle.listing.specs.Answers.{fault_number}
use Rattle.listing.specs.declared.Fault.{Fault}
use Rattle.listing.specs.Listing.{lowest_after, fault_of, Check, sound, first_of, first_fault, words_of, words_in, store_line, store_lines}

-- 0 is no fault's number
pub numbered : (fault : Fault) → fault_number fault ≡ 0 → ⊥
numbered Fault.IllFormed e = omega (arith, e)
numbered Fault.NotAbove e = omega (arith, e)
numbered Fault.PastEnd e = omega (arith, e)

pub words_le : (x : Line) → words_of x ≤ 1
words_le Blank = lit≤ tt
words_le (Entry address word) = lit≤ tt
words_le IllFormed = lit≤ tt

-- the first fault of lines with the offsets of their starts
unfoldable pub faults : ℕ → ℕ → List (ℕ × Line) → Check
faults L lowest [] = sound
faults L lowest (x ∷ rest) = first_of (fault_of L lowest x.1) x.0 (faults L (lowest_after x.1 lowest) rest)

pub same_faults : (ls : List (List ℕ)) (L lowest start : ℕ) → first_fault L lowest start ls ≡ faults L lowest (read_lines start ls)
unfolding first_fault faults read_lines
same_faults [] L lowest start = refl
same_faults (line ∷ rest) L lowest start =
    ap (first_of (fault_of L lowest (read_line line)) start) (same_faults rest L (lowest_after (read_line line) lowest) (start + (length line + 1)))

-- how many words they have
unfoldable pub counts : List (ℕ × Line) → ℕ
counts [] = 0
counts (x ∷ rest) = words_of x.1 + counts rest

pub same_counts : (ls : List (List ℕ)) (start : ℕ) → words_in ls ≡ counts (read_lines start ls)
unfolding words_in counts read_lines
same_counts [] start = refl
same_counts (line ∷ rest) start = ap (λ (n : ℕ). words_of (read_line line) + n) (same_counts rest (start + (length line + 1)))

-- a line has a byte or an LF
pub counts_le : (s : List ℕ) → words_in (lines s) ≤ length s
unfolding lines words_in
counts_le [] = lit≤ tt
counts_le (b ∷ t) = by (eqb b line_feed) (lines t) (counts_le t) where
  by : (v : Bool) (ls : List (List ℕ)) → words_in ls ≤ length t → words_in (cond v ([] ∷ ls) (prepend b ls)) ≤ length (b ∷ t)
  by true ls h = omega (arith, words_le (read_line []), h)
  by false [] h = omega (arith, words_le (read_line (b ∷ [])), h)
  by false (line ∷ rest) h = omega (arith, words_le (read_line (b ∷ line)), h)

-- and the memory that storing them leaves
unfoldable pub stores : List (ℕ × Line) → List ℕ → List ℕ
stores [] memory = memory
stores (x ∷ rest) memory = stores rest (store_line x.1 memory)

pub same_stores : (ls : List (List ℕ)) (start : ℕ) (memory : List ℕ) → store_lines ls memory ≡ stores (read_lines start ls) memory
unfolding store_lines stores read_lines
same_stores [] start memory = refl
same_stores (line ∷ rest) start memory = same_stores rest (start + (length line + 1)) (store_line (read_line line) memory)

pub length_line : (x : Line) (memory : List ℕ) → length (store_line x memory) ≡ length memory
length_line Blank memory = refl
length_line (Entry address word) memory = length-set memory address _
length_line IllFormed memory = refl
