-- What numbers, and lines that have an address and a word, say. Assumes nothing.
use mathlib.Core.Path.{◌≡◌, refl}
use mathlib.Core.Logic.{◌⊎◌, inl, inr}
use mathlib.Core.Bool.{Bool, true, false, cond, ◌&&◌, and-false}
use mathlib.Core.List.{List, []}
use Prim.Native.Nat.{ℕ, ◌+◌, ◌*◌, ◌≤◌, ◌<◌}
use native.Mathlib.Omega.{arith}
use borrow.Author.Tests.{ltb-true, eqb-true, lt-ltb, le-ltb, eq-eqb, ne_eqb}
use lib.Dec.{eqb, ltb}
use lib.ListN.{drop}
use Rattle.std.specs.Bool.{then_some}
use Rattle.std.specs.Option.{unwrap_or}
use Rattle.lines.specs.declared.Line.TheVariants.{Blank, Entry, IllFormed}
use Rattle.lines.specs.Lines.{space, after_spaces, is_empty, ends, byte_at, four_digits, number_at, entry_from, entry_of, read_line}

-- four values, of digits or not
pub a_number : (a b c d : ℕ) → a < 16 → b < 16 → c < 16 → d < 16 → four_digits a b c d ≡ a * 4096 + b * 256 + c * 16 + d
unfolding four_digits
a_number a b c d p q r s = rw (lt-ltb a 16 p, lt-ltb b 16 q, lt-ltb c 16 r, lt-ltb d 16 s)

-- an entry, well-formed or not
pub an_entry : (a between w : ℕ) (ended : Bool) → a < 65536 → between ≡ space → w < 65536 → ended ≡ true → entry_from a between w ended ≡ Entry a w
unfolding entry_from
an_entry a between w ended p q r e = rw (lt-ltb a 65536 p, eq-eqb between space q, lt-ltb w 65536 r, e)

pub no_entry : (a between w : ℕ) (ended : Bool)
    → (65536 ≤ a) ⊎ ((between ≡ space → ⊥) ⊎ ((65536 ≤ w) ⊎ (ended ≡ false))) → entry_from a between w ended ≡ IllFormed
unfolding entry_from
no_entry a between w ended (inl h) = rw (le-ltb a 65536 h)
no_entry a between w ended (inr (inl h)) = rw (ne_eqb between space h, and-false)
no_entry a between w ended (inr (inr (inl h))) = rw (le-ltb w 65536 h, and-false)
no_entry a between w ended (inr (inr (inr h))) = rw (h, and-false)

-- where the numbers are words with a space between them, the end decides
pub entry_ended : (a between w : ℕ) (ended : Bool) → a < 65536 → between ≡ space → w < 65536
    → unwrap_or (then_some ended (Entry a w)) IllFormed ≡ entry_from a between w ended
unfolding entry_from
entry_ended a between w true p q r = rw (lt-ltb a 65536 p, eq-eqb between space q, lt-ltb w 65536 r)
entry_ended a between w false p q r = rw (lt-ltb a 65536 p, eq-eqb between space q, lt-ltb w 65536 r)

pub blank_no_entry : {A : Type 0} (x y : ℕ) → Blank ≡ Entry x y → A
blank_no_entry x y e = let z : ◌≡◌ {A = ℕ} 0 1 = cc in absurd (omega arith)

pub ill_formed_no_entry : {A : Type 0} (x y : ℕ) → IllFormed ≡ Entry x y → A
ill_formed_no_entry x y e = let z : ◌≡◌ {A = ℕ} 0 1 = cc in absurd (omega arith)

pub same_entry : (a w x y : ℕ) → Entry a w ≡ Entry x y → (a ≡ x) × (w ≡ y)
same_entry a w x y e = (cc, cc)

-- what stands behind an entry
pub record Entered (a between w : ℕ) (ended : Bool) (x y : ℕ) : Type 0 where
  pub address : a ≡ x
  pub word : w ≡ y
  pub address_word : x < 65536
  pub word_word : y < 65536
  pub spaced : between ≡ space
  pub end : ended ≡ true

pub entered : (a between w : ℕ) (ended : Bool) (x y : ℕ) → entry_from a between w ended ≡ Entry x y → Entered a between w ended x y
unfolding entry_from
entered a between w ended x y = by (ltb a 65536) refl (eqb between space) refl (ltb w 65536) refl ended refl where
  by : (p : Bool) → ltb a 65536 ≡ p → (q : Bool) → eqb between space ≡ q → (r : Bool) → ltb w 65536 ≡ r → (e : Bool) → ended ≡ e
      → cond (p && q && r && e) (Entry a w) IllFormed ≡ Entry x y → Entered a between w ended x y
  by true p true q true r true e f =
      let s = same_entry a w x y f in
      record {
        address = s.0;
        word = s.1;
        address_word = omega (arith, ltb-true a 65536 p, s);
        word_word = omega (arith, ltb-true w 65536 r, s);
        spaced = eqb-true between space q;
        end = e;
      }
  by true p true q true r false e f = ill_formed_no_entry x y f
  by true p true q false r e f g = ill_formed_no_entry x y g
  by true p false q r e f g h = ill_formed_no_entry x y h
  by false p q r e f g h k = ill_formed_no_entry x y k

-- a line that says an entry is not blank, and is one
abbrev pub LineEntered : List ℕ → ℕ → ℕ → Type 0
LineEntered line = Entered (number_at line 0) (byte_at line 4) (number_at line 5) (ends (drop 9 line))

pub line_entered : (line : List ℕ) (x y : ℕ) → read_line line ≡ Entry x y → LineEntered line x y
unfolding read_line entry_of
line_entered line x y = by (is_empty (after_spaces line)) where
  by : (v : Bool) → cond v Blank (entry_of line) ≡ Entry x y → LineEntered line x y
  by true e = blank_no_entry x y e
  by false e = entered (number_at line 0) (byte_at line 4) (number_at line 5) (ends (drop 9 line)) x y e

-- both numbers are words
pub entry_words : (line : List ℕ) (x y : ℕ) → read_line line ≡ Entry x y → (x < 65536) × (y < 65536)
entry_words line x y e = let r = line_entered line x y e in (r.address_word, r.word_word)

-- past the last line nothing is said
pub no_line : (x y : ℕ) {A : Type 0} → read_line [] ≡ Entry x y → A
unfolding read_line after_spaces
no_line x y e = blank_no_entry x y e
