-- Document 01, 'Numbers from the input' and 'Numbers from the state': why a call is refused before it starts, by its number, and the first
-- number that applies.
use Rattle.std.specs.Prelude.{Bool, true, cond, List, [], ◌∷◌, ℕ, eqb, ltb}
use Rattle.refusals.specs.declared.Refusal.{Refusal}
use Rattle.refusals.specs.declared.Refusal.TheVariants.{WrongLength, WrongCycle, Stopped, ClockFull, ShortText}

-- '1: L is 0 or above 65,536 ..', '7: cycle due is not 1 .., or outside 1 to 4 ..', '8: stopped ..', '9: clock plus b .. exceeds
-- 4,294,967,295'; document 02, note 1: '10 when the lent text is shorter ..'
abbrev pub refusal_number : Refusal → ℕ
refusal_number WrongLength = 1
refusal_number WrongCycle = 7
refusal_number Stopped = 8
refusal_number ClockFull = 9
refusal_number ShortText = 10

-- '1: L is 0 or above 65,536'
abbrev pub wrong_length : ℕ → Bool
wrong_length L = cond (eqb L 0) true (ltb 65536 L)

-- a call's order is a list of numbers, each with whether it applies. The first number that applies; 0, which is no number, where none does
-- and the call is taken
unfoldable pub first_number : List (ℕ × Bool) → ℕ
first_number [] = 0
first_number (x ∷ rest) = cond x.1 x.0 (first_number rest)
