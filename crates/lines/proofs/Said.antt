-- The theorems `LinesApart` and `SaidExactly` of specs/Theorems.antt: a line is had back from what it says. Assumes nothing.
use mathlib.Core.Path.{◌≡◌, refl, sym, ap, ◌∙◌}
use mathlib.Core.List.{List}
use Prim.Native.Nat.{ℕ}
use native.Mathlib.Omega.{arith}
use lib.ListN.{replicate}
use Rattle.lines.specs.Lines.{space, read_line}
use Rattle.lines.specs.Answers.{Said, skipped, entry, refused, line_says}
use Rattle.lines.specs.Theorems.{EntryLine, LinesApart, SaidExactly}
use Rattle.lines.specs.declared.Line.{Line}
use Rattle.lines.specs.declared.Line.TheVariants.{Blank, Entry, IllFormed}
use Rattle.lines.proofs.Entries.{ill_formed_no_entry}
use Rattle.lines.proofs.Grammar.{entry_exactly, blank_exactly}

abbrev line_of : Said → Line
line_of skipped = Blank
line_of (entry address word) = Entry address word
line_of (refused number) = IllFormed

line_back : (x : Line) → line_of (line_says x) ≡ x
line_back Blank = refl
line_back (Entry address word) = refl
line_back IllFormed = refl

pub lines_apart : LinesApart
lines_apart x y e = sym (line_back x) ∙ ap line_of e ∙ line_back y

-- a line that is neither an entry nor blank
Neither : List ℕ → Type 0
Neither line = ((address word : ℕ) → EntryLine line address word → ⊥) × ((spaces : ℕ) → line ≡ replicate spaces space → ⊥)

ill_formed_no_blank : IllFormed ≡ Blank → ⊥
ill_formed_no_blank e = let z : ◌≡◌ {A = ℕ} 0 1 = cc in omega arith

neither : (line : List ℕ) → read_line line ≡ IllFormed → Neither line
unfolding Neither
neither line e = (
  λ a w r. ill_formed_no_entry a w (sym e ∙ (entry_exactly line a w).1 r),
  λ n s. ill_formed_no_blank (sym e ∙ (blank_exactly line).1 (n, s)),
)

ill_formed : (line : List ℕ) → Neither line → (x : Line) → read_line line ≡ x → x ≡ IllFormed
unfolding Neither
ill_formed line n Blank e = let s = (blank_exactly line).0 e in absurd (n.1 s.0 s.1)
ill_formed line n (Entry a w) e = absurd (n.0 a w ((entry_exactly line a w).0 e))
ill_formed line n IllFormed e = refl

pub said_exactly : SaidExactly
unfolding Neither
said_exactly line = (
  λ a w. (λ e. (entry_exactly line a w).0 (lines_apart _ (Entry a w) e), λ r. ap line_says ((entry_exactly line a w).1 r)),
  (λ e. (blank_exactly line).0 (lines_apart _ Blank e), λ s. ap line_says ((blank_exactly line).1 s)),
  (λ e. neither line (lines_apart _ IllFormed e), λ n. ap line_says (ill_formed line n (read_line line) refl)),
)
