-- Document 01, 'Instruction table', the paragraph on flags: what a result does to N, Z, C and V.
use Rattle.std.specs.Prelude.{ℕ, ◌+◌, Bool, true, false, not, leb, eqb}
use Rattle.words.specs.Arithmetic.{sum, difference}
use Rattle.isa.specs.declared.Flags.{Flags}
use Rattle.alu.specs.declared.Outcome.{Outcome}

-- bit 15 of a word
abbrev pub bit15 : ℕ → Bool
bit15 r = leb 32768 r

-- a result that sets no flag
abbrev pub silent : ℕ → Flags → Outcome
silent r flags = record { value = r; flags = flags }

-- a result that sets all four: 'N (result bit 15) and Z (result zero)', C and V as given
abbrev pub sets_all : ℕ → Bool → Bool → Outcome
sets_all r carry overflow = record { value = r; flags = record { n = bit15 r; z = eqb r 0; c = carry; v = overflow } }

-- one that sets N and Z, with C and V as they were
abbrev pub sets_nz : ℕ → Flags → Outcome
sets_nz r flags = sets_all r flags.c flags.v

-- from bits 15 of p, q and the result: 'V when the operands' bits 15 agree and the result's differs'
abbrev pub sum_overflows : Bool → Bool → Bool → Bool
sum_overflows true true r = not r
sum_overflows true false r = false
sum_overflows false true r = false
sum_overflows false false r = r

-- likewise for p minus q: 'V when their bits 15 differ and the result's differs from p's'
abbrev pub difference_overflows : Bool → Bool → Bool → Bool
difference_overflows true true r = false
difference_overflows true false r = not r
difference_overflows false true r = r
difference_overflows false false r = false

-- 'For a sum, C is set when the unreduced sum is 65,536 or more'
abbrev pub added : ℕ → ℕ → Outcome
added p q = sets_all (sum p q) (leb 65536 (p + q)) (sum_overflows (bit15 p) (bit15 q) (bit15 (sum p q)))

-- 'For p minus q, C is set when p >= q unsigned'
abbrev pub subtracted : ℕ → ℕ → Outcome
subtracted p q =
    sets_all (difference p q) (leb q p) (difference_overflows (bit15 p) (bit15 q) (bit15 (difference p q)))
