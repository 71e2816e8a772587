-- Where a word stands in the table, and the word of each entry: one law for each of document 01's lines (o 0 to A, B, C, D, E, F).
-- Assumes nothing.
use mathlib.Core.Path.{◌≡◌}
use Prim.Native.Nat.{ℕ, ◌+◌, ◌-◌, ◌*◌, ◌≤◌, ◌<◌}
use native.Mathlib.Omega.{arith}
use lib.ListN.{get_or-eq_default}
use borrow.Author.Tests.{lt-ltb, le-ltb}
use Rattle.isa.specs.Fields.{field_o, field_b, bits11to10}
use Rattle.table.specs.Table.{table, place_of, kind_of, word_of}
use Rattle.isa.specs.declared.Kind.TheVariants.{Undefined}

module _ (w : ℕ) where
  pub place_O : field_o w < 11 → place_of w ≡ field_o w
  unfolding place_of
  place_O h = rw (lt-ltb _ _ h)

  pub place_B : field_o w ≡ 11 → field_b w < 11 → place_of w ≡ 11 + field_b w
  unfolding place_of
  place_B e h = rw (e, lt-ltb _ _ h)

  pub place_B_undefined : field_o w ≡ 11 → 11 ≤ field_b w → place_of w ≡ 40
  unfolding place_of
  place_B_undefined e h = rw (e, le-ltb _ _ h)

  pub place_C : field_o w ≡ 12 → field_b w < 12 → place_of w ≡ 22 + field_b w
  unfolding place_of
  place_C e h = rw (e, lt-ltb _ _ h)

  pub place_C_undefined : field_o w ≡ 12 → 12 ≤ field_b w → place_of w ≡ 40
  unfolding place_of
  place_C_undefined e h = rw (e, le-ltb _ _ h)

  pub place_D : field_o w ≡ 13 → place_of w ≡ 34
  unfolding place_of
  place_D e = rw e

  pub place_E : field_o w ≡ 14 → place_of w ≡ 35 + bits11to10 w
  unfolding place_of
  place_E e = rw e

  pub place_F : field_o w ≡ 15 → place_of w ≡ 39
  unfolding place_of
  place_F e = rw e

  pub kind_past : 40 ≤ place_of w → kind_of w ≡ Undefined
  unfolding kind_of table
  kind_past h = get_or-eq_default table Undefined h

module _ (n : ℕ) where
  pub word_O : n < 11 → word_of n ≡ n * 0x1000
  unfolding word_of
  word_O h = rw (lt-ltb n 11 h)

  pub word_B : 11 ≤ n → n < 22 → word_of n ≡ 0xB000 + (n - 11)
  unfolding word_of
  word_B l h = rw (le-ltb n 11 l, lt-ltb n 22 h)

  pub word_C : 22 ≤ n → n < 34 → word_of n ≡ 0xC000 + (n - 22)
  unfolding word_of
  word_C l h = rw (le-ltb n 11 (omega arith), le-ltb n 22 l, lt-ltb n 34 h)

  pub word_D : 34 ≤ n → n < 35 → word_of n ≡ 0xD000
  unfolding word_of
  word_D l h = rw (le-ltb n 11 (omega arith), le-ltb n 22 (omega arith), le-ltb n 34 l, lt-ltb n 35 h)

  pub word_E : 35 ≤ n → n < 39 → word_of n ≡ 0xE000 + (n - 35) * 0x400
  unfolding word_of
  word_E l h =
      rw (le-ltb n 11 (omega arith), le-ltb n 22 (omega arith), le-ltb n 34 (omega arith), le-ltb n 35 l, lt-ltb n 39 h)

  pub word_F : 39 ≤ n → word_of n ≡ 0xF000
  unfolding word_of
  word_F l =
      rw
      (le-ltb n 11 (omega arith), le-ltb n 22 (omega arith), le-ltb n 34 (omega arith), le-ltb n 35 (omega arith), le-ltb n 39 l)
