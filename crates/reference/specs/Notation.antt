-- How the pages write words, numbers and results: document 01's letters, and its paragraph on flags.
use Rattle.std.specs.Prelude.{◌≡◌, ◌⊎◌, Bool, cond, ◌||◌, ℕ, ◌+◌, ◌-◌, ◌*◌, ◌%◌, ◌≤◌, ltb, leb, eqb, ℤ, pos, neg_ℤ, ◌+ℤ◌, ◌-ℤ◌}
use Rattle.std.proofs.Math.IntN.{sub_ℕ}
use Rattle.std.specs.Int.Signed.{lt_z}
use Rattle.isa.specs.declared.Flags.{Flags}
use Rattle.alu.specs.declared.Outcome.{Outcome}

-- the word with the digits o, t, a, b
unfoldable pub word : ℕ → ℕ → ℕ → ℕ → ℕ
word o t a b = o * 0x1000 + t * 0x100 + a * 0x10 + b

-- 'B with b from B to F and C with b from C to F are undefined'
abbrev pub NoInstruction : ℕ → ℕ → Type 0
NoInstruction o b = ((o ≡ 0xB) × (0xB ≤ b)) ⊎ ((o ≡ 0xC) × (0xC ≤ b))

-- 'k = bits 7-0 without sign', of the digits a and b
abbrev pub k : ℕ → ℕ → ℕ
k a b = a * 0x10 + b

-- 'd10 and d12 are bits 9-0 and 11-0, sign extended', as words: of bits 9-8 and the digits a and b, and of the digits t, a and b
abbrev pub d10 : ℕ → ℕ → ℕ → ℕ
d10 u a b = let d : ℕ = u * 0x100 + a * 0x10 + b in cond (ltb d 0x200) d (d + 0xFC00)

abbrev pub d12 : ℕ → ℕ → ℕ → ℕ
d12 t a b = let d : ℕ = t * 0x100 + a * 0x10 + b in cond (ltb d 0x800) d (d + 0xF000)

-- and as signed numbers, as forms have them
abbrev pub s10 : ℕ → ℕ → ℕ → ℤ
s10 u a b = let d : ℕ = u * 0x100 + a * 0x10 + b in cond (ltb d 0x200) (pos d) (sub_ℕ d 0x400)

abbrev pub s12 : ℕ → ℕ → ℕ → ℤ
s12 t a b = let d : ℕ = t * 0x100 + a * 0x10 + b in cond (ltb d 0x800) (pos d) (sub_ℕ d 0x1000)

infix 40 ◌⊕◌
infix 40 ◌⊖◌
-- 'every sum and difference of words is taken modulo 65,536'
abbrev pub ◌⊕◌ : ℕ → ℕ → ℕ
p ⊕ q = (p + q) % 0x10000

abbrev pub ◌⊖◌ : ℕ → ℕ → ℕ
p ⊖ q = (p + (0x10000 - q)) % 0x10000

-- a word as a signed number; and is a number none of -32,768 to 32,767
abbrev pub signed : ℕ → ℤ
signed w = cond (ltb w 0x8000) (pos w) (sub_ℕ w 0x10000)

abbrev pub outside : ℤ → Bool
outside z = lt_z z (neg_ℤ (pos 32768)) || lt_z (pos 32767) z

-- a result r and the flags with it: N is bit 15 of r, Z that it is zero
abbrev pub all : ℕ → Bool → Bool → Outcome
all r carry overflow = record { value = r; flags = record { n = leb 0x8000 r; z = eqb r 0; c = carry; v = overflow } }

-- C of a sum is that it is 65,536 or more, C of a difference that q is at most p; V is that the signed result is out of range. (Document 01
-- has V by the bits 15; that this is the same is proved.)
abbrev pub added : ℕ → ℕ → Outcome
added p q = all (p ⊕ q) (leb 0x10000 (p + q)) (outside (signed p +ℤ signed q))

abbrev pub subtracted : ℕ → ℕ → Outcome
subtracted p q = all (p ⊖ q) (leb q p) (outside (signed p -ℤ signed q))

-- results that set N and Z alone, f being the flags as they were, and that set none
abbrev pub NZ : Flags → ℕ → Outcome
NZ f r = all r f.c f.v

abbrev pub plain : Flags → ℕ → Outcome
plain f r = record { value = r; flags = f }

infixl 20 ◌▹◌
-- one change after the other
abbrev pub ◌▹◌ : {A : Type 0} → A → (A → A) → A
x ▹ change = change x
