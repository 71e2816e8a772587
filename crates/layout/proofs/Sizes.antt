-- An answer has 23 numbers, whatever it is, and so has what a list left.
use mathlib.Core.Path.{◌≡◌, refl}
use Prim.Native.Nat.{ℕ}
use lib.ListN.{length}
use Rattle.r8_core.specs.Cores.{Visible}
use Rattle.r8_core.specs.Calls.{Answer, done, stored, ran, viewed, refused, refused_at}
use Rattle.layout.specs.Layout.{answer_size, answer_numbers, left_numbers}

pub numbers_size : (a : Answer) → length (answer_numbers a) ≡ answer_size
unfolding answer_numbers
numbers_size done = refl
numbers_size (stored count) = refl
numbers_size (ran cycles instructions end) = refl
numbers_size (viewed v due clock) = refl
numbers_size (refused number) = refl
numbers_size (refused_at number offset) = refl

pub left_size : (v : Visible) (spent clock : ℕ) → length (left_numbers v spent clock) ≡ answer_size
unfolding left_numbers
left_size v spent clock = refl
