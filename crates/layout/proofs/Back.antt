-- Flags come back from their number. Assumes nothing.
use mathlib.Core.Path.{◌≡◌, ap}
use mathlib.Core.Bool.{Bool, true, false}
use Prim.Native.Nat.{ℕ, ◌/◌, ◌%◌}
use native.Mathlib.Omega.{arith}
use lib.Dec.{eqb}
use borrow.Author.Tests.{eq-eqb}
use Rattle.words.specs.Arithmetic.{bit}
use Rattle.isa.specs.declared.Flags.{Flags}
use Rattle.r8_core.proofs.Replies.{bit_small}
use Rattle.layout.specs.Layout.{flags_number, is_odd, flags_of}

odd_bit : (b : Bool) (n : ℕ) → n % 2 ≡ bit b → is_odd n ≡ b
odd_bit true n e = eq-eqb (n % 2) 1 e
odd_bit false n e = ap (λ (k : ℕ). eqb k 1) e

pub flags_back : (f : Flags) → flags_of (flags_number f) ≡ f
flags_back f =
    let hn = bit_small f.n in
    let hz = bit_small f.z in
    let hc = bit_small f.c in
    let hv = bit_small f.v in
    let n = odd_bit f.n (flags_number f / 8) (omega arith) in
    let z = odd_bit f.z (flags_number f / 4) (omega arith) in
    let carry = odd_bit f.c (flags_number f / 2) (omega arith) in
    let v = odd_bit f.v (flags_number f) (omega arith) in
    λ j. record { n = n j; z = z j; c = carry j; v = v j }
