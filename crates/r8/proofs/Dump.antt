-- The theorem `DumpCodes` of specs/Theorems.antt: what is returned is the call's number, or 0. Assumes nothing.
use mathlib.Core.Path.{◌≡◌, refl, sym}
use mathlib.Core.Bool.{Bool, true, false, cond}
use mathlib.Core.List.{List, ◌++◌}
use Prim.Native.Nat.{ℕ, ◌*◌}
use borrow.Author.Tests.{eqb-true}
use lib.Dec.{eqb}
use lib.ListN.{length, drop}
use Rattle.dump.specs.Dump.{listing_text, dump_number, written, refused, refused_at, refusal, dumped}
use Rattle.dump.proofs.Refusals.{exact, none_exact}
use Rattle.r8.specs.Dump.{dump_code, dump_returned}
use Rattle.r8.specs.Theorems.{DumpCodes}

module _ (memory : List ℕ) (first count : ℕ) (text : List ℕ) where
  returned : (dump_returned (dumped memory first count text)).0 ≡ dump_number (length memory) first count (length text)
  unfolding dumped
  returned = by (dump_number (length memory) first count (length text)) (eqb (dump_number (length memory) first count (length text)) 0) refl
    where
      by_four : (n : ℕ) (four : Bool) → dump_code (cond four (refused_at n 0) (refused n)) ≡ n
      by_four n true = refl
      by_four n false = refl

      by : (n : ℕ) (zero : Bool) → eqb n 0 ≡ zero
          → (dump_returned
          (cond zero (record { answer = written (10 * count); text = listing_text memory first count ++ drop (10 * count) text })
          (record { answer = refusal n; text = text }))).0
          ≡ n
      by n true e = sym (eqb-true n 0 e)
      by n false e = by_four n (eqb n 4)

pub dump_codes : DumpCodes
dump_codes memory first count text = rw (returned memory first count text) (none_exact memory first count text, exact memory first count text, refl)
