-- The sixteen numbers of a bank are the bank. Assumes nothing.
use mathlib.Core.Path.{◌≡◌, sym, ap, ◌∙◌}
use mathlib.Core.List.{List, [], ◌∷◌}
use Prim.Native.Nat.{ℕ, zero, suc, ◌+◌}
use native.Mathlib.Omega.{arith}
use lib.ListN.{length, get_or, drop, drop_of_length-le}
use lib.Seq.{drop-cons}
use Rattle.layout.specs.Layout.{bank_numbers}

-- a list of sixteen, by its elements
abbrev from : List ℕ → ℕ → ℕ → List ℕ
from l i zero = []
from l i (suc n) = get_or l i 0 ∷ from l (suc i) n

from_drop : (l : List ℕ) (i n : ℕ) → length l ≡ i + n → from l i n ≡ drop i l
from_drop l i zero e = sym (drop_of_length-le l {i = i} (omega arith))
from_drop l i (suc n) e =
    ap (λ (r : List ℕ). get_or l i 0 ∷ r) (from_drop l (suc i) n (omega arith)) ∙ sym (drop-cons l i 0 (omega arith))

pub bank_back : (regs : List ℕ) → length regs ≡ 16 → bank_numbers regs ≡ regs
bank_back regs e = from_drop regs 0 16 e
