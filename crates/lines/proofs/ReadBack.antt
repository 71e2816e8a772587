-- The theorem `WordReadBack` of specs/Theorems.antt: each digit has its value back, and the four values are the word.
use mathlib.Core.Path.{◌≡◌, ap, ◌∙◌}
use Prim.Native.Nat.{ℕ, ◌+◌, ◌*◌, ◌/◌, ◌%◌, ◌<◌}
use native.Mathlib.Omega.{arith}
use borrow.Author.Tests.{lt-ltb}
use Rattle.hexadecimal.proofs.Theorems.{digit_read_back}
use Rattle.lines.specs.Lines.{four_digits, number_at}
use Rattle.lines.specs.Theorems.{WordReadBack}

four_back : (a b c d : ℕ) → a < 16 → b < 16 → c < 16 → d < 16 → four_digits a b c d ≡ a * 4096 + b * 256 + c * 16 + d
unfolding four_digits
four_back a b c d ha hb hc hd = rw (lt-ltb a 16 ha, lt-ltb b 16 hb, lt-ltb c 16 hc, lt-ltb d 16 hd)

-- by each digit in turn
joined : (w x y z a b c : ℕ) → w ≡ x * 16 + a → x ≡ y * 16 + b → y ≡ z * 16 + c → z * 4096 + c * 256 + b * 16 + a ≡ w
joined w x y z a b c ew ex ey = omega arith

pub word_read_back : WordReadBack
unfolding number_at
word_read_back w h =
    let first : w / 4096 % 16 ≡ w / 4096 = omega arith in
    let second : w / 256 ≡ w / 4096 * 16 + w / 256 % 16 = omega arith in
    let third : w / 16 ≡ w / 256 * 16 + w / 16 % 16 = omega arith in
    let last : w ≡ w / 16 * 16 + w % 16 = omega arith in
    (λ j. four_digits (digit_read_back (w / 4096) j) (digit_read_back (w / 256) j) (digit_read_back (w / 16) j) (digit_read_back w j))
    ∙ four_back (w / 4096 % 16) (w / 256 % 16) (w / 16 % 16) (w % 16) (omega arith) (omega arith) (omega arith) (omega arith)
    ∙ ap (λ (top : ℕ). top * 4096 + w / 256 % 16 * 256 + w / 16 % 16 * 16 + w % 16) first
    ∙ joined w (w / 16) (w / 256) (w / 4096) (w % 16) (w / 16 % 16) (w / 256 % 16) last third second
