-- The theorem `FaultsApart` of specs/Theorems.antt: a fault is read back from its number. Assumes nothing.
use mathlib.Core.Path.{◌≡◌, refl, sym, ap, ◌∙◌}
use mathlib.Core.Bool.{cond}
use Prim.Native.Nat.{ℕ}
use Rattle.std.specs.Prelude.{Result, Ok, Err}
use lib.Dec.{eqb}
use Rattle.listing.specs.Answers.{fault_number, store_answer}
use Rattle.listing.specs.Theorems.{FaultsApart}
use Rattle.listing.specs.declared.Fault.{Fault}
use Rattle.listing.specs.declared.Fault.TheVariants.{IllFormed, NotAbove, PastEnd}
use Rattle.listing.specs.declared.FaultAt.{FaultAt}

-- the fault of a number
abbrev fault_from : ℕ → Fault
fault_from n = cond (eqb n 2) IllFormed (cond (eqb n 3) NotAbove PastEnd)

-- a fault comes back from its number
fault_back : (fault : Fault) → fault_from (fault_number fault) ≡ fault
fault_back IllFormed = refl
fault_back NotAbove = refl
fault_back PastEnd = refl

fault_apart : (x y : Fault) → fault_number x ≡ fault_number y → x ≡ y
fault_apart x y e = sym (fault_back x) ∙ ap fault_from e ∙ fault_back y

at_apart : (x y : FaultAt) → fault_number x.fault ≡ fault_number y.fault → x.offset ≡ y.offset → x ≡ y
at_apart x y e o = rw (fault_apart x.fault y.fault e, o) refl

store_apart : (x y : Result ℕ FaultAt) → store_answer x ≡ store_answer y → x ≡ y
store_apart (Ok n) (Ok m) e = cc
store_apart (Ok n) (Err y) e = cc
store_apart (Err x) (Ok m) e = cc
store_apart (Err x) (Err y) e =
    let f : fault_number x.fault ≡ fault_number y.fault = cc in let o : x.offset ≡ y.offset = cc in ap Err (at_apart x y f o)

pub faults_apart : FaultsApart
faults_apart = (fault_apart, store_apart)
