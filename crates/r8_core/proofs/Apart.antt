-- The theorems `ReadApart` and `ReadExactly` of specs/TheoremsOfCalls.antt: different cases are read as different ones, and the parts of a case are
-- found in what it is read as. Assumes nothing.
use mathlib.Core.Path.{◌≡◌, refl, ap}
use Prim.Native.Nat.{ℕ, ◌≤◌}
use Rattle.std.specs.Prelude.{Result, Ok, Err}
use native.Mathlib.Omega.{arith}
use lib.Dec.{lit≤}
use Rattle.refusals.specs.Refusals.{refusal_number}
use Rattle.refusals.specs.declared.Refusal.{Refusal}
use Rattle.refusals.specs.declared.Refusal.TheVariants.{WrongLength, WrongCycle, Stopped, ClockFull, ShortText}
use Rattle.refusals.proofs.Apart.{numbers_apart}
use Rattle.listing.specs.Answers.{fault_number}
use Rattle.listing.specs.declared.Fault.{Fault}
use Rattle.listing.specs.declared.Fault.TheVariants.{IllFormed, NotAbove, PastEnd}
use Rattle.listing.proofs.Apart.{faults_apart}
use Rattle.r8_core.specs.Calls.{viewed}
use Rattle.r8_core.specs.Answers.{load_answer_of, run_answer_of, view_answer_of}
use Rattle.r8_core.specs.Cores.{Visible}
use Rattle.r8_core.specs.TheoremsOfCalls.{ReadApart, ReadExactly}
use Rattle.r8_core.specs.declared.Ran.{Ran}
use Rattle.r8_core.specs.declared.ListingError.{ListingError}
use Rattle.r8_core.specs.declared.ListingError.TheVariants.{Refused, Faulty}
use Rattle.r8_core.specs.declared.Snapshot.{Snapshot}

load_apart : (x y : Result ℕ ListingError) → load_answer_of x ≡ load_answer_of y → x ≡ y
load_apart (Ok n) (Ok m) e = cc
load_apart (Ok n) (Err (Refused y)) e = cc
load_apart (Ok n) (Err (Faulty y)) e = cc
load_apart (Err (Refused x)) (Ok m) e = cc
load_apart (Err (Refused x)) (Err (Refused y)) e = ap (λ (w : Refusal). Err (Refused w)) (numbers_apart x y cc)
load_apart (Err (Refused x)) (Err (Faulty y)) e = cc
load_apart (Err (Faulty x)) (Ok m) e = cc
load_apart (Err (Faulty x)) (Err (Refused y)) e = cc
load_apart (Err (Faulty x)) (Err (Faulty y)) e =
    let number : fault_number x.fault ≡ fault_number y.fault = cc in
    let offset : x.offset ≡ y.offset = cc in
    let fault = faults_apart.0 x.fault y.fault number in
    λ j. Err (Faulty (record { fault = fault j; offset = offset j }))

run_apart : (x y : Result Ran Refusal) → run_answer_of x ≡ run_answer_of y → x ≡ y
run_apart (Ok x) (Ok y) e =
    let cycles : x.cycles.0 ≡ y.cycles.0 = cc in
    let instructions : x.instructions.0 ≡ y.instructions.0 = cc in
    let letter : x.end ≡ y.end = cc in
    λ j. Ok (record { cycles = record { 0 = cycles j }; instructions = record { 0 = instructions j }; end = letter j })
run_apart (Ok x) (Err y) e = cc
run_apart (Err x) (Ok y) e = cc
run_apart (Err x) (Err y) e = ap Err (numbers_apart x y cc)

-- what a view showed, of the parts of its answer
abbrev snapshot_from : Visible → ℕ → ℕ → Snapshot
snapshot_from v due clock =
    record { regs = v.regs; pc = v.pc; sp = v.sp; flags = v.flags; stop = v.stop; due = due; clock = record { 0 = clock } }

shown_apart : (v w : Visible) (due next clock time : ℕ) → viewed v due clock ≡ viewed w next time → snapshot_from v due clock ≡ snapshot_from w next time
shown_apart v w due next clock time e = cc

view_apart : (x y : Result Snapshot Refusal) → view_answer_of x ≡ view_answer_of y → x ≡ y
view_apart (Ok s) (Ok t) e = ap Ok (shown_apart _ _ _ _ _ _ e)
view_apart (Ok s) (Err y) e = cc
view_apart (Err x) (Ok t) e = cc
view_apart (Err x) (Err y) e = ap Err (numbers_apart x y cc)

-- 2 to 4 are numbers of faults, and of no refusal
fault_range : (fault : Fault) → (2 ≤ fault_number fault) × (fault_number fault ≤ 4)
fault_range IllFormed = (lit≤ tt, lit≤ tt)
fault_range NotAbove = (lit≤ tt, lit≤ tt)
fault_range PastEnd = (lit≤ tt, lit≤ tt)

no_fault : (why : Refusal) (n : ℕ) → (2 ≤ n) × (n ≤ 4) → refusal_number why ≡ n → ⊥
no_fault WrongLength n (low, high) e = omega arith
no_fault WrongCycle n (low, high) e = omega arith
no_fault Stopped n (low, high) e = omega arith
no_fault ClockFull n (low, high) e = omega arith
no_fault ShortText n (low, high) e = omega arith

pub read_apart : ReadApart
read_apart = (load_apart, run_apart, view_apart, λ why fault e. no_fault why (fault_number fault) (fault_range fault) e)

pub read_exactly : ReadExactly
read_exactly core memory l r v n at ran_so =
    ((refl, refl), (refl, refl), (refl, refl), (refl, refl), refl, refl, refl, refl, refl, refl, refl, refl, refl, refl, refl)
