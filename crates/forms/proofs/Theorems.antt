-- The theorems of specs/Theorems.antt. Assumes nothing.
use mathlib.Core.Path.{◌≡◌, refl, sym, ap, subst, ◌∙◌}
use mathlib.Core.Bool.{or-false}
use Prim.Native.Nat.{ℕ, ◌+◌, ◌-◌, ◌*◌, ◌%◌, ◌≤◌, ◌<◌}
use native.Mathlib.Omega.{arith}
use lib.Dec.{lit<, lit≤}
use lib.IntN.{ℤ, pos}
use mir.Syntax.{w16}
use mir.ValLaws.{of_z-to_z}
use Rattle.words.specs.Arithmetic.{sum}
use Rattle.isa.specs.Fields.{field_t, field_a, field_b, bits11to10, field_k, extended, d10, d12}
use Rattle.table.specs.Table.{place_of, kind_of, entry, word_of}
use Rattle.isa.specs.declared.Kind.{Kind}
use Rattle.isa.specs.declared.Kind.TheVariants.{Undefined, Binary, Constant, Ld, St, Unary, Nop, Halt, Ldsp, Rts, Pop, Push, Jump, Call}
use Rattle.isa.specs.declared.Condition.TheVariants.{Always, Negative, Zero, Carry, Overflow}
use Rattle.isa.specs.declared.Target.TheVariants.{Relative, Absolute, Displaced}
use Rattle.table.proofs.Lines.{Line, place_word_O, place_word_BC, place_word_DE, place_word_F, word_le, word_BC, word_DE}
use Rattle.table.proofs.Table.{word_O, word_F}
use Rattle.table.proofs.Entries.{kind_by_place, binary_on_O, constant_on_O, unary_on_B, jump_on, line_of}
use Rattle.forms.specs.declared.Form.{Form}
use Rattle.forms.specs.declared.Operands.{Operands}
use Rattle.forms.specs.Answers.{Answer, given, refused}
use Rattle.forms.specs.Operands.{signed, unsigned, operands_of, no_short, fault, placed}
use Rattle.forms.specs.Reading.{form_with, word_to_form}
use Rattle.forms.specs.Writing.{written_at, parts_of, form_to_word}
use Rattle.forms.specs.Theorems.{unused_by, unused, FormWordForm, WordFormWord, Unchanged, RefusedWord, out_of_range, RefusedForm}
use Rattle.forms.proofs.Faults.{never, Sound, writes, wrote, refuses}
use Rattle.forms.proofs.Displacement.{bits10, bits12}

-- an instruction with operands, as a word
abbrev written : Kind → Operands → Answer ℕ
written kind x = written_at (entry kind) x

-- a word that stands at a kind's entry is read by that kind
read_as : (k : Kind) (w : ℕ) → place_of w ≡ entry k → word_to_form w ≡ form_with k (operands_of w)
unfolding word_to_form
read_as k w e = ap (λ (x : Kind). form_with x (operands_of w)) (kind_by_place w k e)

-- form to word to form, by the operands of a form and the lines of the table
module _ (k : Kind) (o : Operands) (w : ℕ) (e : written k o ≡ given w) (l : placed o < 4096) where
  adds : w ≡ word_of (entry k) + placed o
  adds = omega (arith, (wrote (entry k) o w e).1, word_le (entry k))

  found : place_of (word_of (entry k) + placed o) ≡ entry k → word_to_form w ≡ form_with k (operands_of w)
  found m = read_as k w (ap place_of adds ∙ m)

module _ (k : Kind) (w : ℕ) where
  tab : (t a b : ℕ) → entry k < 11 → written k (t, a, b, 0, pos 0, pos 0) ≡ given w
      → (word_to_form w ≡ form_with k (operands_of w)) × (field_t w ≡ t) × (field_a w ≡ a) × (field_b w ≡ b)
  unfolding placed
  tab t a b h e =
      let o : Operands = (t, a, b, 0, pos 0, pos 0) in
      let s = (wrote (entry k) o w e).0 in
      let l : placed o < 4096 = omega (arith, s) in
      let v = adds k o w e l in
      let n = word_O (entry k) h in
      (found k o w e l (place_word_O (entry k) (placed o) h l), omega (arith, s, v, n), omega (arith, s, v, n), omega (arith, s, v, n))

  tk : (t c : ℕ) → entry k < 11 → written k (t, 0, 0, c, pos 0, pos 0) ≡ given w
      → (word_to_form w ≡ form_with k (operands_of w)) × (field_t w ≡ t) × (field_k w ≡ c)
  unfolding placed
  tk t c h e =
      let o : Operands = (t, 0, 0, c, pos 0, pos 0) in
      let s = (wrote (entry k) o w e).0 in
      let l : placed o < 4096 = omega (arith, s) in
      let v = adds k o w e l in
      let n = word_O (entry k) h in
      (found k o w e l (place_word_O (entry k) (placed o) h l), omega (arith, s, v, n), omega (arith, s, v, n))

  ta : (t a : ℕ) → (11 ≤ entry k) × (entry k < 34) → written k (t, a, 0, 0, pos 0, pos 0) ≡ given w
      → (word_to_form w ≡ form_with k (operands_of w)) × (field_t w ≡ t) × (field_a w ≡ a)
  unfolding placed
  ta t a h e =
      let o : Operands = (t, a, 0, 0, pos 0, pos 0) in
      let s = (wrote (entry k) o w e).0 in
      let l : placed o < 4096 = omega (arith, s) in
      let v = adds k o w e l in
      let n = word_BC (entry k) h.0 h.1 in
      (found k o w e l (place_word_BC (entry k) (placed o) h.0 h.1 l (omega arith)), omega (arith, s, v, n), omega (arith, s, v, n))

  short : (d : ℤ) → (34 ≤ entry k) × (entry k < 39) → written k (0, 0, 0, 0, d, pos 0) ≡ given w
      → (word_to_form w ≡ form_with k (operands_of w)) × (signed (d10 w) ≡ d)
  unfolding placed
  short d h e =
      let o : Operands = (0, 0, 0, 0, d, pos 0) in
      let s = (wrote (entry k) o w e).0 in
      let l : placed o < 4096 = omega arith in
      let v = adds k o w e l in
      let r : w % 1024 ≡ unsigned d % 1024 = omega (arith, v, word_DE (entry k) h.0 h.1) in (
        found k o w e l (place_word_DE (entry k) (placed o) h.0 h.1 (omega arith)),
        ap (λ (x : ℕ). signed (extended 512 x)) r ∙ bits10.back d (bits10.inside d s.short),
      )

  long : (d : ℤ) → entry k ≡ 39 → written k (0, 0, 0, 0, pos 0, d) ≡ given w
      → (word_to_form w ≡ form_with k (operands_of w)) × (signed (d12 w) ≡ d)
  unfolding placed
  long d h e =
      let o : Operands = (0, 0, 0, 0, pos 0, d) in
      let s = (wrote (entry k) o w e).0 in
      let l : placed o < 4096 = omega arith in
      let v = adds k o w e l in
      let r : w % 4096 ≡ unsigned d % 4096 = omega (arith, v, word_F (entry k) (omega arith)) in (
        found k o w e l (place_word_F (entry k) (placed o) h l),
        ap (λ (x : ℕ). signed (extended 2048 x)) r ∙ bits12.back d (bits12.inside d s.long),
      )

pub form_word_form : FormWordForm
unfolding form_to_word operands_of
form_word_form (Form.Binary op t a b) w e = let r = tab (Binary op) w t a b (binary_on_O op) e in r.0 ∙ rw (r.1, r.2, r.3)
form_word_form (Form.Constant op t k) w e = let r = tk (Constant op) w t k (constant_on_O op) e in r.0 ∙ rw (r.1, r.2)
form_word_form (Form.Ld t a b) w e = let r = tab Ld w t a b (lit< tt) e in r.0 ∙ rw (r.1, r.2, r.3)
form_word_form (Form.St t a b) w e = let r = tab St w t a b (lit< tt) e in r.0 ∙ rw (r.1, r.2, r.3)
form_word_form (Form.Unary op t a) w e = let r = ta (Unary op) w t a (unary_on_B op) e in r.0 ∙ rw (r.1, r.2)
form_word_form Form.Nop w e = (ta Nop w 0 0 (omega arith) e).0
form_word_form Form.Halt w e = (ta Halt w 0 0 (omega arith) e).0
form_word_form (Form.Ldsp a) w e = let r = ta Ldsp w 0 a (omega arith) e in r.0 ∙ rw r.2
form_word_form Form.Rts w e = (ta Rts w 0 0 (omega arith) e).0
form_word_form (Form.Pop t) w e = let r = ta Pop w t 0 (omega arith) e in r.0 ∙ rw r.1
form_word_form (Form.Push t) w e = let r = ta Push w t 0 (omega arith) e in r.0 ∙ rw r.1
form_word_form (Form.JumpRelative c a) w e = let r = ta (Jump c Relative) w 0 a (omega (arith, jump_on c Relative)) e in r.0 ∙ rw r.2
form_word_form (Form.JumpAbsolute c a) w e = let r = ta (Jump c Absolute) w 0 a (omega (arith, jump_on c Absolute)) e in r.0 ∙ rw r.2
form_word_form (Form.CallRelative a) w e = let r = ta (Call Relative) w 0 a (omega arith) e in r.0 ∙ rw r.2
form_word_form (Form.CallAbsolute a) w e = let r = ta (Call Absolute) w 0 a (omega arith) e in r.0 ∙ rw r.2
form_word_form (Form.JumpDisplaced c d) w e = let r = short (Jump c Displaced) w d (omega (arith, jump_on c Displaced)) e in r.0 ∙ ap (λ (x : ℤ). given (Form.JumpDisplaced c x)) r.1
form_word_form (Form.CallDisplaced d) w e = let r = long (Call Displaced) w d refl e in r.0 ∙ ap (λ (x : ℤ). given (Form.CallDisplaced x)) r.1

plain : (t a b c : ℕ) → (t ≤ 15) × (a ≤ 15) × (b ≤ 15) × (c ≤ 255) → Sound (t, a, b, c, pos 0, pos 0)
plain t a b c h = record { t = h.0; a = h.1; b = h.2; k = h.3; short = refl; long = refl }

-- the low bits of a displacement that was read are those of the word
low10 : (w : ℕ) → unsigned (signed (d10 w)) % 1024 ≡ w % 1024
low10 w =
    ap (λ (x : ℕ). x % 1024) (of_z-to_z w16 (d10 w) (record { fits = bits10.fits (w % 1024) (omega arith) }))
    ∙ bits10.low (w % 1024) (omega arith)

low12 : (w : ℕ) → unsigned (signed (d12 w)) % 4096 ≡ w % 4096
low12 w =
    ap (λ (x : ℕ). x % 4096) (of_z-to_z w16 (d12 w) (record { fits = bits12.fits (w % 4096) (omega arith) }))
    ∙ bits12.low (w % 4096) (omega arith)

less : (x y z w : ℕ) → w < 65536 → x + y + z ≡ w → sum x y ≡ w - z
less x y z w h e = omega arith

-- the three digits below o
digits : (w : ℕ) → w % 4096 ≡ field_t w * 256 + field_a w * 16 + field_b w
digits w = omega arith

bytes : (w : ℕ) → w % 4096 ≡ field_t w * 256 + field_k w
bytes w = omega arith

quarters : (w : ℕ) → w % 4096 ≡ bits11to10 w * 1024 + w % 1024
quarters w = omega arith

-- word to form to word, likewise: the operands that are read are sound, and the word of the entry with them is the word less
-- its unused fields
module _ (w : ℕ) (h : w < 65536) (f : Form) (e : word_to_form w ≡ given f) (k : Kind) (q : kind_of w ≡ k) (g : Form)
    (r : form_with k (operands_of w) ≡ given g) where
  Again : Type 0
  Again = (form_to_word f ≡ given (w - unused w)) × (unused w ≤ w)

  again : (o : Operands) → form_to_word g ≡ written k o → Sound o → word_of (entry k) + placed o + unused_by k w ≡ w → Again
  unfolding word_to_form unused Again
  again o x s v =
      let p : f ≡ g = cc (ap (λ (y : Kind). form_with y (operands_of w)) q) in
      let v' = less (word_of (entry k)) (placed o) (unused_by k w) w h v in (
        ap form_to_word p ∙ x ∙ writes (entry k) o s ∙ ap given (v' ∙ ap (λ (y : Kind). w - unused_by y w) (sym q)),
        subst (λ (y : Kind). unused_by y w ≤ w) (sym q) (omega (arith, v)),
      )

  on : Line w (entry k)
  on = line_of w h k q

  tab_again : form_to_word g ≡ written k (field_t w, field_a w, field_b w, 0, pos 0, pos 0) → entry k < 11 → unused_by k w ≡ 0 → Again
  unfolding placed
  tab_again x i u =
      again (field_t w, field_a w, field_b w, 0, pos 0, pos 0) x (plain (field_t w) (field_a w) (field_b w) 0 (omega arith))
      (omega (arith, on.0 i, digits w))

  tk_again : form_to_word g ≡ written k (field_t w, 0, 0, field_k w, pos 0, pos 0) → entry k < 11 → unused_by k w ≡ 0 → Again
  unfolding placed
  tk_again x i u =
      again (field_t w, 0, 0, field_k w, pos 0, pos 0) x (plain (field_t w) 0 0 (field_k w) (omega arith)) (omega (arith, on.0 i, bytes w))

  -- t and a are operands or, where they are unused, zero
  ta_again : (t a : ℕ) → form_to_word g ≡ written k (t, a, 0, 0, pos 0, pos 0) → (t ≤ 15) × (a ≤ 15) → (11 ≤ entry k) × (entry k < 34)
      → t * 256 + a * 16 + unused_by k w ≡ field_t w * 256 + field_a w * 16 → Again
  unfolding placed
  ta_again t a x s i u =
      again (t, a, 0, 0, pos 0, pos 0) x (plain t a 0 0 (omega arith)) (omega (arith, on.1 i.0 i.1, u, digits w))

  short_again : form_to_word g ≡ written k (0, 0, 0, 0, signed (d10 w), pos 0) → word_of (entry k) + w % 1024 + unused_by k w ≡ w → Again
  unfolding placed
  short_again x u =
      again (0, 0, 0, 0, signed (d10 w), pos 0) x
      (record { t = omega arith; a = omega arith; b = omega arith; k = omega arith; short = bits10.stays (w % 1024) (omega arith); long = refl })
      (omega (arith, low10 w, u))

  E_again : form_to_word g ≡ written k (0, 0, 0, 0, signed (d10 w), pos 0) → 35 ≤ entry k → entry k < 39 → unused_by k w ≡ 0 → Again
  E_again x i j u = short_again x (omega (arith, on.3 i j, u))

  long_again : form_to_word g ≡ written k (0, 0, 0, 0, pos 0, signed (d12 w)) → entry k ≡ 39 → unused_by k w ≡ 0 → Again
  unfolding placed
  long_again x i u =
      again (0, 0, 0, 0, pos 0, signed (d12 w)) x
      (record { t = omega arith; a = omega arith; b = omega arith; k = omega arith; short = refl; long = bits12.stays (w % 4096) (omega arith) })
      (omega (arith, low12 w, on.4 i))

read_again : (w : ℕ) → w < 65536 → (f : Form) → word_to_form w ≡ given f → (form_to_word f ≡ given (w - unused w)) × (unused w ≤ w)
unfolding word_to_form form_to_word operands_of Again
read_again w h f e = go (kind_of w) refl
  where
    go : (k : Kind) → kind_of w ≡ k → (form_to_word f ≡ given (w - unused w)) × (unused w ≤ w)
    go Undefined q = absurd (never (sym (ap (λ (y : Kind). form_with y (operands_of w)) q) ∙ e))
    go (Binary op) q = tab_again w h f e (Binary op) q _ refl refl (binary_on_O op) refl
    go (Constant op) q = tk_again w h f e (Constant op) q _ refl refl (constant_on_O op) refl
    go Ld q = tab_again w h f e Ld q _ refl refl (lit< tt) refl
    go St q = tab_again w h f e St q _ refl refl (lit< tt) refl
    go (Unary op) q = ta_again w h f e (Unary op) q _ refl (field_t w) (field_a w) refl (omega arith) (unary_on_B op) (omega arith)
    go Nop q = ta_again w h f e Nop q _ refl 0 0 refl (omega arith) (omega arith) (omega arith)
    go Halt q = ta_again w h f e Halt q _ refl 0 0 refl (omega arith) (omega arith) (omega arith)
    go Ldsp q = ta_again w h f e Ldsp q _ refl 0 (field_a w) refl (omega arith) (omega arith) (omega arith)
    go Rts q = ta_again w h f e Rts q _ refl 0 0 refl (omega arith) (omega arith) (omega arith)
    go Pop q = ta_again w h f e Pop q _ refl (field_t w) 0 refl (omega arith) (omega arith) (omega arith)
    go Push q = ta_again w h f e Push q _ refl (field_t w) 0 refl (omega arith) (omega arith) (omega arith)
    go (Jump c Relative) q =
        ta_again w h f e (Jump c Relative) q _ refl 0 (field_a w) refl (omega arith) (omega (arith, jump_on c Relative)) (omega arith)
    go (Jump c Absolute) q =
        ta_again w h f e (Jump c Absolute) q _ refl 0 (field_a w) refl (omega arith) (omega (arith, jump_on c Absolute)) (omega arith)
    go (Jump Always Displaced) q =
        short_again w h f e (Jump Always Displaced) q _ refl refl (omega (arith, (line_of w h (Jump Always Displaced) q).2 refl, quarters w))
    go (Jump Negative Displaced) q = E_again w h f e (Jump Negative Displaced) q _ refl refl (lit≤ tt) (lit< tt) refl
    go (Jump Zero Displaced) q = E_again w h f e (Jump Zero Displaced) q _ refl refl (lit≤ tt) (lit< tt) refl
    go (Jump Carry Displaced) q = E_again w h f e (Jump Carry Displaced) q _ refl refl (lit≤ tt) (lit< tt) refl
    go (Jump Overflow Displaced) q = E_again w h f e (Jump Overflow Displaced) q _ refl refl (lit≤ tt) (lit< tt) refl
    go (Call Relative) q = ta_again w h f e (Call Relative) q _ refl 0 (field_a w) refl (omega arith) (omega arith) (omega arith)
    go (Call Absolute) q = ta_again w h f e (Call Absolute) q _ refl 0 (field_a w) refl (omega arith) (omega arith) (omega arith)
    go (Call Displaced) q = long_again w h f e (Call Displaced) q _ refl refl refl refl

pub word_form_word : WordFormWord
word_form_word w h f e = (read_again w h f e).0

pub unchanged : Unchanged
unchanged w h f e =
    let r = read_again w h f e in
    (λ p. let z : w ≡ w - unused w = cc r.0 in omega (arith, r.1), λ u. r.0 ∙ ap given (omega arith))

only_undefined : (k : Kind) (o : Operands) (n : ℕ) → form_with k o ≡ refused n → (k ≡ Undefined) × (n ≡ 6)
only_undefined Undefined o n e = (refl, cc e)
only_undefined (Binary op) o n e = absurd (never (sym e))
only_undefined (Constant op) o n e = absurd (never (sym e))
only_undefined Ld o n e = absurd (never (sym e))
only_undefined St o n e = absurd (never (sym e))
only_undefined (Unary op) o n e = absurd (never (sym e))
only_undefined Nop o n e = absurd (never (sym e))
only_undefined Halt o n e = absurd (never (sym e))
only_undefined Ldsp o n e = absurd (never (sym e))
only_undefined Rts o n e = absurd (never (sym e))
only_undefined Pop o n e = absurd (never (sym e))
only_undefined Push o n e = absurd (never (sym e))
only_undefined (Jump c Relative) o n e = absurd (never (sym e))
only_undefined (Jump c Absolute) o n e = absurd (never (sym e))
only_undefined (Jump c Displaced) o n e = absurd (never (sym e))
only_undefined (Call Relative) o n e = absurd (never (sym e))
only_undefined (Call Absolute) o n e = absurd (never (sym e))
only_undefined (Call Displaced) o n e = absurd (never (sym e))

pub refused_word : RefusedWord
unfolding word_to_form
refused_word w n =
    (only_undefined (kind_of w) (operands_of w) n, λ p. ap (λ (y : Kind). form_with y (operands_of w)) p.0 ∙ ap refused (sym p.1))

-- the operands that a form lacks are in range
faults : (f : Form) → fault (parts_of f).1 ≡ out_of_range f
unfolding fault
faults (Form.Binary op t a b) = simp or-false
faults (Form.Constant op t k) = simp or-false
faults (Form.Ld t a b) = simp or-false
faults (Form.St t a b) = simp or-false
faults (Form.Unary op t a) = simp or-false
faults Form.Nop = refl
faults Form.Halt = refl
faults (Form.Ldsp a) = simp or-false
faults Form.Rts = refl
faults (Form.Pop t) = simp or-false
faults (Form.Push t) = simp or-false
faults (Form.JumpRelative c a) = simp or-false
faults (Form.JumpAbsolute c a) = simp or-false
faults (Form.CallRelative a) = simp or-false
faults (Form.CallAbsolute a) = simp or-false
faults (Form.JumpDisplaced c d) = or-false (no_short d)
faults (Form.CallDisplaced d) = refl

pub refused_form : RefusedForm
unfolding form_to_word
refused_form f n = refuses (parts_of f).0 (parts_of f).1 n (out_of_range f) (faults f)
