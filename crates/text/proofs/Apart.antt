-- The theorems of specs/Theorems.antt: an end is read back from its letter, and flags from their bits. Assumes nothing.
use mathlib.Core.Path.{◌≡◌, refl, sym, ap, ◌∙◌}
use mathlib.Core.Bool.{Bool, true, false, cond}
use mathlib.Core.List.{List}
use Prim.Native.Nat.{ℕ}
use lib.Dec.{eqb}
use lib.ListN.{get_or}
use Rattle.isa.specs.declared.Flags.{Flags}
use Rattle.r8_core.specs.declared.End.{End}
use Rattle.r8_core.specs.declared.End.TheVariants.{H, U, B, M}
use Rattle.text.specs.Text.{bit_text, flags_text, letter_text}
use Rattle.text.specs.Theorems.{LettersApart, FlagsApart}

-- the end of a letter
abbrev pub end_from : ℕ → End
end_from n = cond (eqb n 72) H (cond (eqb n 85) U (cond (eqb n 66) B M))

pub end_back : (end : End) → end_from (letter_text end) ≡ end
end_back H = refl
end_back U = refl
end_back B = refl
end_back M = refl

pub letters_apart : LettersApart
letters_apart x y e = sym (end_back x) ∙ ap end_from e ∙ end_back y

-- the flags of four bits
abbrev flag_from : List ℕ → ℕ → Bool
flag_from l i = eqb (get_or l i 0) 49

abbrev flags_from : List ℕ → Flags
flags_from l = record { n = flag_from l 0; z = flag_from l 1; c = flag_from l 2; v = flag_from l 3 }

bit_back : (b : Bool) → eqb (bit_text b) 49 ≡ b
bit_back true = refl
bit_back false = refl

flags_back : (f : Flags) → flags_from (flags_text f) ≡ f
flags_back f = λ j. record { n = bit_back f.n j; z = bit_back f.z j; c = bit_back f.c j; v = bit_back f.v j }

pub flags_apart : FlagsApart
flags_apart x y e = sym (flags_back x) ∙ ap flags_from e ∙ flags_back y
