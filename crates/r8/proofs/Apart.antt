-- The theorems `CodesApart` and `ReplayApart` of specs/Theorems.antt: a code is read back from its number, and a replay's answer from its code
-- and place. Assumes nothing.
use mathlib.Core.Path.{◌≡◌, refl, sym, ap, ◌∙◌}
use mathlib.Core.Logic.{◌⊎◌, inl, inr}
use mathlib.Core.Bool.{cond}
use Prim.Native.Nat.{ℕ, ◌≤◌}
use lib.Dec.{eqb, lit≤}
use Rattle.std.specs.Prelude.{Result, Ok, Err}
use Rattle.replay.specs.declared.ReplayError.{ReplayError}
use Rattle.replay.specs.declared.ReplayError.TheVariants.{NoCall, NoStretch, NoRoom}
use Rattle.r8.specs.Codes.{Code, ok, undefined, no_room, no_core, no_call, no_stretch, too_long, code_number}
use Rattle.r8.specs.Replay.{replay_code, replay_place}
use Rattle.r8.specs.Theorems.{CodesApart, ReplayApart}

-- the code of a number
abbrev code_from : ℕ → Code
code_from n =
    let is : Code → Code → Code = λ x other. cond (eqb n (code_number x)) x other in
    is ok (is undefined (is no_room (is no_core (is no_call (is no_stretch too_long)))))

code_back : (x : Code) → code_from (code_number x) ≡ x
code_back ok = refl
code_back undefined = refl
code_back no_room = refl
code_back no_core = refl
code_back no_call = refl
code_back no_stretch = refl
code_back too_long = refl

own : (x : Code) → (x ≡ ok) ⊎ (x ≡ undefined) ⊎ (100 ≤ code_number x)
own ok = inl refl
own undefined = inr (inl refl)
own no_room = inr (inr (lit≤ tt))
own no_core = inr (inr (lit≤ tt))
own no_call = inr (inr (lit≤ tt))
own no_stretch = inr (inr (lit≤ tt))
own too_long = inr (inr (lit≤ tt))

pub codes_apart : CodesApart
codes_apart = (λ x y e. sym (code_back x) ∙ ap code_from e ∙ code_back y, own)

-- the answer of a code and a place
abbrev answer_from : Code → ℕ → Result ℕ ReplayError
answer_from ok i = Ok i
answer_from undefined i = Err NoRoom
answer_from no_room i = Err NoRoom
answer_from no_core i = Err NoRoom
answer_from no_call i = Err (NoCall i)
answer_from no_stretch i = Err (NoStretch i)
answer_from too_long i = Err NoRoom

answer_back : (x : Result ℕ ReplayError) → answer_from (replay_code x) (replay_place x) ≡ x
answer_back (Ok count) = refl
answer_back (Err (NoCall i)) = refl
answer_back (Err (NoStretch i)) = refl
answer_back (Err NoRoom) = refl

pub replay_apart : ReplayApart
replay_apart x y code place = sym (answer_back x) ∙ (λ j. answer_from (code j) (place j)) ∙ answer_back y
