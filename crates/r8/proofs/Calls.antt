-- What a call of a core given as numbers comes to, by its code. Assumes nothing.
use mathlib.Core.Path.{◌≡◌, refl, sym, ap, ◌∙◌}
use mathlib.Core.Bool.{Bool, true, false, cond}
use mathlib.Core.List.{List}
use Prim.Native.Nat.{ℕ, ◌≤◌}
use native.Mathlib.Omega.{arith}
use lib.Dec.{ltb}
use lib.ListN.{length}
use borrow.Author.Tests.{ltb-false}
use Rattle.r8_core.specs.Calls.{Reply}
use Rattle.r8_core.specs.declared.Core.{Core}
use Rattle.layout.specs.Layout.{answer_size}
use Rattle.r8.specs.Codes.{ok, no_room, no_core, code_number}
use Rattle.r8.specs.Numbers.{core_of, is_core}
use Rattle.r8.specs.Call.{Slices, code_of, after, made, returned, called}
use Rattle.r8.proofs.Numbers.{Fits, fits}

none : (core short : Bool) → code_number (cond core (cond short no_room ok) no_core) ≡ 0 → (core ≡ true) × (short ≡ false)
none true false e = (refl, refl)
none true true e = absurd (omega arith)
none false short e = absurd (omega arith)

-- with code 0 the numbers are a core's, and the answer has room
pub accepted : (registers state answer : List ℕ) (code : ℕ) → code ≡ code_number (code_of registers state answer) → code ≡ 0
    → (is_core registers state ≡ true) × (ltb (length answer) answer_size ≡ false)
unfolding code_of
accepted registers state answer code e z = none _ _ (sym e ∙ z)

pub taken : (registers state answer : List ℕ) (code : ℕ) → code ≡ code_number (code_of registers state answer) → code ≡ 0
    → Fits registers state × (answer_size ≤ length answer)
taken registers state answer code e z =
    let both = accepted registers state answer code e z in
    (fits registers state both.0, ltb-false _ _ both.1)

module _ (call : Core → List ℕ → Reply) (x : Slices) (code : ℕ) (e : code ≡ code_number (code_of x.registers x.state x.answer)) where
  pub answered : (core : Core) (reply : Reply) → code ≡ 0 → core ≡ core_of x.registers x.state → reply ≡ call core x.memory
      → (0, after reply x.answer) ≡ called call x
  unfolding called
  answered core reply z c r =
      ap (λ (y : Reply). (0, after y x.answer)) (r ∙ ap (λ (k : Core). call k x.memory) c)
      ∙ ap (λ (n : ℕ). returned n x (made call x)) (sym z ∙ e)
