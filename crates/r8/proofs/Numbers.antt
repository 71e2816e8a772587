-- What the tests of `is_core` say of its numbers, and the size of the numbers of flags and stop states. Assumes nothing.
use mathlib.Core.Path.{◌≡◌, refl, sym}
use mathlib.Core.Bool.{Bool, true, false, ◌&&◌, true≢false}
use mathlib.Core.List.{List}
use Prim.Native.Nat.{ℕ, ◌≤◌}
use native.Mathlib.Omega.{arith}
use lib.ListN.{length, get_or}
use borrow.Author.Tests.{eqb-true, leb-true}
use Rattle.isa.specs.declared.Flags.{Flags}
use Rattle.effects.specs.declared.Stop.{Stop}
use Rattle.effects.specs.declared.Stop.TheVariants.{Going, Halted, Undefined}
use Rattle.r8_core.proofs.Replies.{bit_small}
use Rattle.layout.specs.Layout.{flags_number, stop_number}
use Rattle.r8.specs.Numbers.{registers_size, state_size, is_core}

both : (p q : Bool) → p && q ≡ true → (p ≡ true) × (q ≡ true)
both true q e = (refl, e)
both false q e = absurd (true≢false (sym e))

pub record Fits (r s : List ℕ) : Type 0 where
  pub registers : length r ≡ registers_size
  pub state : length s ≡ state_size
  pub flags : get_or s 0 0 ≤ 15
  pub stop : get_or s 1 0 ≤ 2
  pub due : get_or s 2 0 ≤ 255

pub fits : (registers state : List ℕ) → is_core registers state ≡ true → Fits registers state
unfolding is_core
fits registers state e =
    let a = both _ _ e in
    let b = both _ _ a.1 in
    let c = both _ _ b.1 in
    let d = both _ _ c.1 in
    record {
      registers = eqb-true _ _ a.0;
      state = eqb-true _ _ b.0;
      flags = leb-true _ _ c.0;
      stop = leb-true _ _ d.0;
      due = leb-true _ _ d.1;
    }

pub flags_small : (f : Flags) → flags_number f ≤ 15
flags_small f = omega (arith, bit_small f.n, bit_small f.z, bit_small f.c, bit_small f.v)

pub stop_small : (s : Stop) → stop_number s ≤ 2
stop_small Going = omega arith
stop_small Halted = omega arith
stop_small Undefined = omega arith
