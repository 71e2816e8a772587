-- The theorems `DumpApart` and `DumpRead` of specs/Theorems.antt: different cases are read as different ones,
-- and each as what it holds. Assumes nothing.
use mathlib.Core.Path.{◌≡◌, refl, ap}
use Rattle.std.specs.Prelude.{Ok, Err}
use Rattle.refusals.specs.declared.Refusal.{Refusal}
use Rattle.refusals.proofs.Apart.{numbers_apart}
use Rattle.listing.specs.Answers.{fault_number}
use Rattle.listing.proofs.Apart.{faults_apart}
use Rattle.r8_core.specs.declared.ListingError.TheVariants.{Refused, Faulty}
use Rattle.dump.specs.Theorems.{DumpApart, DumpRead}

pub dump_apart : DumpApart
dump_apart (Ok n) (Ok m) e = cc
dump_apart (Ok n) (Err (Refused y)) e = cc
dump_apart (Ok n) (Err (Faulty y)) e = cc
dump_apart (Err (Refused x)) (Ok m) e = cc
dump_apart (Err (Refused x)) (Err (Refused y)) e = ap (λ (w : Refusal). Err (Refused w)) (numbers_apart x y cc)
dump_apart (Err (Refused x)) (Err (Faulty y)) e = cc
dump_apart (Err (Faulty x)) (Ok m) e = cc
dump_apart (Err (Faulty x)) (Err (Refused y)) e = cc
dump_apart (Err (Faulty x)) (Err (Faulty y)) e =
    let number : fault_number x.fault ≡ fault_number y.fault = cc in
    let offset : x.offset ≡ y.offset = cc in
    let fault = faults_apart.0 x.fault y.fault number in
    λ j. Err (Faulty (record { fault = fault j; offset = offset j }))

pub dump_read : DumpRead
dump_read n why fault = (refl, refl, refl)
