-- The theorem `FormMeans` of specs/Theorems.antt: by cases on the kind of the word, and back on the form. Assumes nothing.
use mathlib.Core.Path.{◌≡◌, refl, sym, ap, subst, ◌∙◌}
use Prim.Native.Nat.{ℕ, ◌%◌}
use native.Mathlib.Omega.{arith}
use lib.IntN.{ℤ}
use Rattle.isa.specs.Fields.{d10, d12}
use Rattle.table.specs.Table.{kind_of}
use Rattle.isa.specs.declared.Kind.{Kind}
use Rattle.isa.specs.declared.Kind.TheVariants.{Undefined, Binary, Constant, Ld, St, Unary, Nop, Halt, Ldsp, Rts, Pop, Push, Jump, Call}
use Rattle.isa.specs.declared.Target.TheVariants.{Relative, Absolute, Displaced}
use Rattle.forms.specs.declared.Form.{Form}
use Rattle.forms.specs.Answers.{given}
use Rattle.forms.specs.Operands.{signed, operands_of}
use Rattle.forms.specs.Reading.{form_with, word_to_form}
use Rattle.forms.specs.Theorems.{with_sign, Means, FormMeans}
use Rattle.forms.proofs.Faults.{never}
use Rattle.forms.proofs.Displacement.{bits10, bits12}

module _ (w : ℕ) where
  -- the displacements as they are read
  short : signed (d10 w) ≡ with_sign 512 (w % 1024)
  short = bits10.signs (w % 1024) (omega arith)

  long : signed (d12 w) ≡ with_sign 2048 (w % 4096)
  long = bits12.signs (w % 4096) (omega arith)

  -- the form that is read is the one of the kind
  is : (f g : Form) → given g ≡ given f → Means g w → Means f w
  is f g e m = let p : g ≡ f = cc in subst (λ (x : Form). Means x w) p m

  means : (f : Form) (k : Kind) → kind_of w ≡ k → form_with k (operands_of w) ≡ given f → Means f w
  unfolding operands_of
  means f Undefined q e = absurd (never e)
  means f (Binary op) q e = is f _ e (q, refl, refl, refl)
  means f (Constant op) q e = is f _ e (q, refl, refl)
  means f Ld q e = is f _ e (q, refl, refl, refl)
  means f St q e = is f _ e (q, refl, refl, refl)
  means f (Unary op) q e = is f _ e (q, refl, refl)
  means f Nop q e = is f _ e q
  means f Halt q e = is f _ e q
  means f Ldsp q e = is f _ e (q, refl)
  means f Rts q e = is f _ e q
  means f Pop q e = is f _ e (q, refl)
  means f Push q e = is f _ e (q, refl)
  means f (Jump c Relative) q e = is f _ e (q, refl)
  means f (Jump c Absolute) q e = is f _ e (q, refl)
  means f (Jump c Displaced) q e = is f _ e (q, short)
  means f (Call Relative) q e = is f _ e (q, refl)
  means f (Call Absolute) q e = is f _ e (q, refl)
  means f (Call Displaced) q e = is f _ e (q, long)

  reads : (f : Form) → Means f w → word_to_form w ≡ given f
  unfolding word_to_form operands_of
  reads (Form.Binary op t a b) m = rw (m.0, m.1, m.2, m.3)
  reads (Form.Constant op t k) m = rw (m.0, m.1, m.2)
  reads (Form.Ld t a b) m = rw (m.0, m.1, m.2, m.3)
  reads (Form.St t a b) m = rw (m.0, m.1, m.2, m.3)
  reads (Form.Unary op t a) m = rw (m.0, m.1, m.2)
  reads Form.Nop m = rw m
  reads Form.Halt m = rw m
  reads (Form.Ldsp a) m = rw (m.0, m.1)
  reads Form.Rts m = rw m
  reads (Form.Pop t) m = rw (m.0, m.1)
  reads (Form.Push t) m = rw (m.0, m.1)
  reads (Form.JumpRelative c a) m = rw (m.0, m.1)
  reads (Form.JumpAbsolute c a) m = rw (m.0, m.1)
  reads (Form.CallRelative a) m = rw (m.0, m.1)
  reads (Form.CallAbsolute a) m = rw (m.0, m.1)
  reads (Form.JumpDisplaced c d) m = rw m.0 (ap (λ (x : ℤ). given (Form.JumpDisplaced c x)) (short ∙ sym m.1))
  reads (Form.CallDisplaced d) m = rw m.0 (ap (λ (x : ℤ). given (Form.CallDisplaced x)) (long ∙ sym m.1))

pub form_means : FormMeans
unfolding word_to_form
form_means w f = (means w f (kind_of w) refl, reads w f)
