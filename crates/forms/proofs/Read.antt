-- The theorem `FormsRead` of specs/Theorems.antt. Assumes nothing.
use mathlib.Core.Path.{refl}
use Rattle.forms.specs.Theorems.{FormsRead}

pub forms_read : FormsRead
forms_read = (λ form. refl, λ undefined. refl, λ word. refl, λ out_of_range. refl)
