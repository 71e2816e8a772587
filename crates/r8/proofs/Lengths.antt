-- Numbers put onto the front of a slice. Assumes nothing.
use mathlib.Core.Path.{◌≡◌, ◌∙◌}
use mathlib.Core.List.{List}
use Prim.Native.Nat.{ℕ, ◌≤◌}
use native.Mathlib.Omega.{arith}
use lib.ListN.{length, length-append, length-drop}
use Rattle.layout.specs.Layout.{onto}

pub length_onto : (front slice : List ℕ) → length front ≤ length slice → length (onto front slice) ≡ length slice
length_onto front slice h = length-append front _ ∙ omega (arith, length-drop (length front) slice)
