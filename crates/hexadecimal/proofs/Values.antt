-- The value of a byte, range by range. Assumes nothing.
use mathlib.Core.Path.{◌≡◌}
use mathlib.Core.Logic.{◌⊎◌, inl, inr}
use mathlib.Core.Bool.{true, false, and-false}
use Prim.Native.Nat.{ℕ, ◌+◌, ◌-◌, ◌≤◌, ◌<◌}
use native.Mathlib.Omega.{arith}
use borrow.Author.Tests.{le-leb, lt-leb}
use Rattle.hexadecimal.specs.Digits.{within, digit_value}

abbrev pub Outside : ℕ → ℕ → ℕ → Type 0
Outside low high b = (b < low) ⊎ (high < b)

inside : (low high b : ℕ) → low ≤ b → b ≤ high → within low high b ≡ true
inside low high b l h = rw (le-leb low b l, le-leb b high h)

outside : (low high b : ℕ) → Outside low high b → within low high b ≡ false
outside low high b (inl h) = rw (lt-leb low b h)
outside low high b (inr h) = rw (lt-leb b high h, and-false)

pub decimal : (b : ℕ) → 0x30 ≤ b → b ≤ 0x39 → digit_value b ≡ b - 0x30
unfolding digit_value
decimal b l h = rw (inside 0x30 0x39 b l h)

pub capital : (b : ℕ) → 0x41 ≤ b → b ≤ 0x46 → digit_value b ≡ b - 0x41 + 10
unfolding digit_value
capital b l h = rw (outside 0x30 0x39 b (inr (omega arith)), inside 0x41 0x46 b l h)

pub small : (b : ℕ) → 0x61 ≤ b → b ≤ 0x66 → digit_value b ≡ b - 0x61 + 10
unfolding digit_value
small b l h = rw (outside 0x30 0x39 b (inr (omega arith)), outside 0x41 0x46 b (inr (omega arith)), inside 0x61 0x66 b l h)

pub no_digit : (b : ℕ) → Outside 0x30 0x39 b → Outside 0x41 0x46 b → Outside 0x61 0x66 b → digit_value b ≡ 16
unfolding digit_value
no_digit b d c s = rw (outside 0x30 0x39 b d, outside 0x41 0x46 b c, outside 0x61 0x66 b s)
