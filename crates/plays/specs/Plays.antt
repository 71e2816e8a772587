-- A list of calls played from a state on, each on the state that the one before left. A player says what a call answers and what it leaves;
-- calls, states and answers may be anything.
use Rattle.std.specs.Prelude.{List, [], ◌∷◌, ℕ}

unfoldable pub play : {C S A : Type 0} → (C → S → A × S) → List C → S → List A × S
play player [] s = ([], s)
play player (call ∷ rest) s =
    ((player call s).0 ∷ (play player rest (player call s).1).0, (play player rest (player call s).1).1)

-- something holds of each call of a list, on the state that it is played on
unfoldable pub Each : {C S A : Type 0} → (C → S → A × S) → (C → S → Type 0) → List C → S → Type 0
Each player Holds [] s = Unit
Each player Holds (call ∷ rest) s = Holds call s × Each player Holds rest (player call s).1

-- what a list of answers counts to, from n on, where one answer takes n to `count answer n`
unfoldable pub counted : {A : Type 0} → (A → ℕ → ℕ) → List A → ℕ → ℕ
counted count [] n = n
counted count (answer ∷ rest) n = counted count rest (count answer n)
