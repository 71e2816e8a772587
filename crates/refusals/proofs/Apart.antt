-- The theorem `NumbersApart` of specs/Theorems.antt: a refusal is read back from its number. Assumes nothing.
use mathlib.Core.Path.{◌≡◌, refl, sym, ap, ◌∙◌}
use mathlib.Core.Bool.{cond}
use Prim.Native.Nat.{ℕ}
use lib.Dec.{eqb}
use Rattle.refusals.specs.Refusals.{refusal_number}
use Rattle.refusals.specs.Theorems.{NumbersApart}
use Rattle.refusals.specs.declared.Refusal.{Refusal}
use Rattle.refusals.specs.declared.Refusal.TheVariants.{WrongLength, WrongCycle, Stopped, ClockFull, ShortText}

-- the refusal of a number
abbrev refusal_from : ℕ → Refusal
refusal_from n =
    cond (eqb n 1) WrongLength (cond (eqb n 7) WrongCycle (cond (eqb n 8) Stopped (cond (eqb n 9) ClockFull ShortText)))

-- a refusal comes back from its number
refusal_back : (why : Refusal) → refusal_from (refusal_number why) ≡ why
refusal_back WrongLength = refl
refusal_back WrongCycle = refl
refusal_back Stopped = refl
refusal_back ClockFull = refl
refusal_back ShortText = refl

pub numbers_apart : NumbersApart
numbers_apart x y e = sym (refusal_back x) ∙ ap refusal_from e ∙ refusal_back y
