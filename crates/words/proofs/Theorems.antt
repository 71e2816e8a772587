-- The theorems of specs/Theorems.antt, by the library's laws of the bitwise operations and of lists. Assumes nothing.
use Rattle.std.proofs.Common.{◌≡◌, ℕ, zero, suc, ◌+◌, ◌*◌, ◌/◌, ◌%◌, ◌^◌, ◌<◌, min, max, ap, ◌∙◌, arith, length-set, get_or-set_other, get_or-set_same}
use lib.Bits.{differ, bit_and, bit_or, bit_xor, and_shr, or_shr, xor_shr, and_step, or_step, xor_step}
use lib.ListN.{get_or-eq_default}
use lib.Seq.{set_out}
use Rattle.words.specs.Arithmetic.{conjunction, disjunction, exclusive}
use Rattle.words.specs.Theorems.{AndBits, OrBits, XorBits, MemoryExactly}

-- the last bit of what ends in a bit
last : (n x m : ℕ) → n ≡ x * 2 + m → m < 2 → n % 2 ≡ m
last n x m e h = omega arith

pub and_bits : AndBits
unfolding conjunction
and_bits i p q =
    let a = p / 2 ^ i in
    let b = q / 2 ^ i in
    ap (λ (n : ℕ). n % 2) (and_shr p q i) ∙ last (bit_and a b) (bit_and (a / 2) (b / 2)) (min (a % 2) (b % 2)) (and_step a b) (omega arith)

pub or_bits : OrBits
unfolding disjunction
or_bits i p q =
    let a = p / 2 ^ i in
    let b = q / 2 ^ i in
    ap (λ (n : ℕ). n % 2) (or_shr p q i) ∙ last (bit_or a b) (bit_or (a / 2) (b / 2)) (max (a % 2) (b % 2)) (or_step a b) (omega arith)

differ_bits : (x y : ℕ) → x < 2 → y < 2 → differ x y ≡ (x + y) % 2
differ_bits zero y g h = omega arith
differ_bits (suc zero) zero g h = omega arith
differ_bits (suc zero) (suc zero) g h = omega arith
differ_bits (suc zero) (suc (suc y)) g h = absurd (omega arith)
differ_bits (suc (suc x)) y g h = absurd (omega arith)

pub xor_bits : XorBits
unfolding exclusive
xor_bits i p q =
    let a = p / 2 ^ i in
    let b = q / 2 ^ i in
    let e = differ_bits (a % 2) (b % 2) (omega arith) (omega arith) in
    ap (λ (n : ℕ). n % 2) (xor_shr p q i)
    ∙ last (bit_xor a b) (bit_xor (a / 2) (b / 2)) (differ (a % 2) (b % 2)) (xor_step a b) (omega (arith, e)) ∙ e

pub memory_exactly : MemoryExactly
memory_exactly memory x v = (
  λ h. (get_or-eq_default memory 0 h, set_out memory x v h),
  λ h. get_or-set_same memory x v 0 h,
  λ y n. get_or-set_other memory x y v 0 n,
  length-set memory x v,
)
