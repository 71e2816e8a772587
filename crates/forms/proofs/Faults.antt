-- What number 5 leaves of operands, and what form to word answers of them. Assumes nothing.
use mathlib.Core.Path.{◌≡◌, refl, sym}
use mathlib.Core.Logic.{◌↔◌}
use mathlib.Core.Bool.{Bool, true, false, ◌||◌, true≢false}
use Prim.Native.Nat.{ℕ, ◌≤◌}
use native.Mathlib.Omega.{arith}
use lib.IntN.{pos, negsuc}
use borrow.Author.Tests.{le-ltb, ltb-false}
use Rattle.words.specs.Arithmetic.{sum}
use Rattle.table.specs.Table.{word_of}
use Rattle.forms.specs.declared.Operands.{Operands}
use Rattle.forms.specs.Answers.{Answer, given, refused}
use Rattle.forms.specs.Operands.{outside, fault, placed}
use Rattle.forms.specs.Writing.{written_at}

-- no answer is both a refusal and given
pub never : {A : Type 0} {n : ℕ} {x : A} → refused n ≡ given x → ⊥
never e = let z : ◌≡◌ {A = ℕ} 0 1 = cc e in omega arith

pub both_false : (a b : Bool) → (a || b) ≡ false → (a ≡ false) × (b ≡ false)
both_false true b e = absurd (true≢false e)
both_false false b e = (refl, e)

-- operands in range
pub record Sound (o : Operands) : Type 0 where
  pub t : o.0 ≤ 15
  pub a : o.1 ≤ 15
  pub b : o.2 ≤ 15
  pub k : o.3 ≤ 255
  pub short : outside (negsuc 511) (pos 511) o.4 ≡ false
  pub long : outside (negsuc 2047) (pos 2047) o.5 ≡ false

pub sound : (o : Operands) → fault o ≡ false → Sound o
unfolding fault
sound o e =
    let e₁ = both_false _ _ e in
    let e₂ = both_false _ _ e₁.1 in
    let e₃ = both_false _ _ e₂.1 in
    let e₄ = both_false _ _ e₃.1 in
    let e₅ = both_false _ _ e₄.1 in
    record {
      t = ltb-false 15 o.0 e₁.0;
      a = ltb-false 15 o.1 e₂.0;
      b = ltb-false 15 o.2 e₃.0;
      k = ltb-false 255 o.3 e₄.0;
      short = e₅.0;
      long = e₅.1;
    }

pub no_fault : (o : Operands) → Sound o → fault o ≡ false
unfolding fault
no_fault o s =
    rw
    (le-ltb 15 o.0 s.t, le-ltb 15 o.1 s.a, le-ltb 15 o.2 s.b, le-ltb 255 o.3 s.k, s.short, s.long)

-- sound operands are written, and only they are
pub writes : (n : ℕ) (o : Operands) → Sound o → written_at n o ≡ given (sum (word_of n) (placed o))
unfolding written_at
writes n o s = rw (no_fault o s)

pub wrote : (n : ℕ) (o : Operands) (w : ℕ) → written_at n o ≡ given w → Sound o × (sum (word_of n) (placed o) ≡ w)
unfolding written_at
wrote n o w e = by (fault o) refl
  where
    by : (b : Bool) → fault o ≡ b → Sound o × (sum (word_of n) (placed o) ≡ w)
    by true f = let e' : refused 5 ≡ given w = rw f at e in absurd (never e')
    by false f = let e' : given (sum (word_of n) (placed o)) ≡ given w = rw f at e in (sound o f, cc e')

pub refuses : (n : ℕ) (x : Operands) (m : ℕ) (b : Bool) → fault x ≡ b → (written_at n x ≡ refused m) ↔ ((b ≡ true) × (m ≡ 5))
unfolding written_at
refuses n x m true f = (λ e. (refl, let e' : ◌≡◌ {A = Answer ℕ} (refused 5) (refused m) = rw f at e in cc e'), λ p. rw (f, p.1))
refuses n x m false f = (
  λ e. absurd (let e' : given (sum (word_of n) (placed x)) ≡ refused m = rw f at e in never (sym e')),
  λ p. absurd (true≢false (sym p.0)),
)
