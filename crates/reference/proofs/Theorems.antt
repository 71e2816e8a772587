-- The theorems of specs/Theorems.antt. A word less its unused fields has the same form, so the same kind and the fields that are used.
use mathlib.Core.Path.{◌≡◌, refl, sym, ap, ◌∙◌}
use mathlib.Core.Bool.{Bool, true, false}
use mathlib.Core.List.{List}
use Prim.Native.Nat.{ℕ, ◌-◌, ◌*◌, ◌%◌, ◌<◌}
use native.Mathlib.Omega.{arith}
use lib.ListN.{set}
use lib.Seq.{set-get_or}
use Rattle.words.specs.Arithmetic.{sum}
use Rattle.isa.specs.Fields.{field_t, field_a, field_b, bits11to10, d10, extended}
use Rattle.isa.specs.Control.{taken}
use Rattle.isa.specs.Cost.{cost_of}
use Rattle.isa.specs.declared.Condition.TheVariants.{Always, Negative, Zero, Carry, Overflow}
use Rattle.isa.specs.declared.Kind.{Kind}
use Rattle.isa.specs.declared.Kind.TheVariants.{Undefined, Binary, Constant, Ld, St, Unary, Nop, Halt, Ldsp, Rts, Pop, Push, Jump, Call}
use Rattle.isa.specs.declared.Target.TheVariants.{Relative, Absolute, Displaced}
use Rattle.table.specs.Table.{kind_of}
use Rattle.forms.specs.declared.Form.{Form}
use Rattle.forms.specs.Theorems.{with_sign, unused_by, unused, Means}
use Rattle.forms.proofs.Theorems.{form_word_form, word_form_word}
use Rattle.forms.proofs.Means.{form_means}
use Rattle.effects.specs.Effect.{untouched, applied}
use Rattle.effects.specs.Table.{jumped, executed}
use Rattle.effects.specs.declared.Effect.{Effect}
use Rattle.r8_core.specs.Cores.{Visible, visible, register}
use Rattle.r8_core.specs.Instruction.{past, after, memory_after, takes}
use Rattle.r8_core.specs.Calls.{reset}
use Rattle.reference.specs.Theorems.{does, FreshExactly, UnusedIgnored}

pub fresh_exactly : FreshExactly
unfolding reset
fresh_exactly = (refl, λ c M. refl)

module _ (M : List ℕ) (v : Visible) where
  abbrev R : ℕ → ℕ
  R i = register v.regs i

  -- an effect shown, with Rt the register t
  abbrev shown : ℕ → Effect → ℕ → Visible × List ℕ × ℕ
  shown t x n = (visible (set v.regs t x.rt) x.pc x.sp x.flags x.stop, applied x.store M, n)

  abbrev before : ℕ → Effect
  before t = untouched (R t) (past v).pc v.sp v.flags v.stop

  abbrev on : Kind → ℕ → ℕ → ℕ → ℕ → Visible × List ℕ × ℕ
  on k w t a b = shown t (executed k w (R a) (R b) M (before t)) (cost_of k v.flags)

  of_kind : (w : ℕ) (k : Kind) → kind_of w ≡ k → does w M v ≡ on k w (field_t w) (field_a w) (field_b w)
  of_kind w k q = ap (λ (x : Kind). on x w (field_t w) (field_a w) (field_b w)) q

  -- Rt is as it was, whichever it is
  abbrev keeping : ℕ → Effect → ℕ → Visible × List ℕ × ℕ
  keeping t x n = (visible (set v.regs t (R t)) x.pc x.sp x.flags x.stop, applied x.store M, n)

  kept : (t u : ℕ) (x : Effect) (n : ℕ) → keeping t x n ≡ keeping u x n
  kept t u x n =
      ap (λ (regs : List ℕ). (visible regs x.pc x.sp x.flags x.stop, applied x.store M, n))
      (set-get_or v.regs t 0 ∙ sym (set-get_or v.regs u 0))

  -- a jump, by whether its condition holds
  leaps : (t u : ℕ) (g : Bool) (x n : ℕ) → shown t (jumped g x (before t)) n ≡ shown u (jumped g x (before u)) n
  leaps t u true x n = kept t u (jumped true x (before t)) n
  leaps t u false x n = kept t u (before t) n

  module _ (w : ℕ) (h : w < 65536) where
    abbrev z : ℕ
    z = w - unused w

    Same : Type 0
    Same = does w M v ≡ does z M v

    all_used : (k : Kind) → kind_of w ≡ k → unused_by k w ≡ 0 → Same
    unfolding unused Same
    all_used k q e = ap (λ (x : ℕ). does x M v) (omega (arith, ap (λ (x : Kind). unused_by x w) q, e))

    -- z has the same form
    form_kept : (f : Form) → Means f w → Means f z
    form_kept f m = (form_means z f).0 (form_word_form f z (word_form_word w h f ((form_means w f).1 m)))

    -- both by their kind, with the register fields that it uses
    both : (k : Kind) → kind_of w ≡ k → kind_of z ≡ k
        → on k w (field_t w) (field_a w) (field_b w) ≡ on k z (field_t z) (field_a z) (field_b z) → Same
    unfolding Same
    both k q r e = of_kind w k q ∙ e ∙ sym (of_kind z k r)

    by_t : (k : Kind) → kind_of w ≡ k → (kind_of z ≡ k) × (field_t w ≡ field_t z)
        → (on k w (field_t w) (field_a w) (field_b w) ≡ on k z (field_t w) (field_a z) (field_b z)) → Same
    by_t k q m e = both k q m.0 (e ∙ ap (λ (t : ℕ). on k z t (field_a z) (field_b z)) m.1)

    by_a : (k : Kind) → kind_of w ≡ k → (kind_of z ≡ k) × (field_a w ≡ field_a z)
        → (on k w (field_t w) (field_a w) (field_b w) ≡ on k z (field_t z) (field_a w) (field_b z)) → Same
    by_a k q m e = both k q m.0 (e ∙ ap (λ (a : ℕ). on k z (field_t z) a (field_b z)) m.1)

    displaced : kind_of w ≡ Jump Always Displaced → Same
    unfolding unused
    displaced q =
        let u : unused w ≡ bits11to10 w * 1024 = ap (λ (x : Kind). unused_by x w) q in
        let low : w % 1024 ≡ z % 1024 = omega (arith, u) in
        both (Jump Always Displaced) q (form_kept (Form.JumpDisplaced Always (with_sign 512 (w % 1024))) (q, refl)).0
        (leaps (field_t w) (field_t z) true (sum (past v).pc (d10 w)) (cost_of (Jump Always Displaced) v.flags)
        ∙ ap (λ (x : ℕ). shown (field_t z) (jumped true (sum (past v).pc (extended 512 x)) (before (field_t z))) (cost_of (Jump Always Displaced) v.flags)) low)

    by : (k : Kind) → kind_of w ≡ k → Same
    by Undefined q = all_used Undefined q refl
    by (Binary op) q = all_used (Binary op) q refl
    by (Constant op) q = all_used (Constant op) q refl
    by Ld q = all_used Ld q refl
    by St q = all_used St q refl
    by (Unary op) q = all_used (Unary op) q refl
    by Nop q = both Nop q (form_kept Form.Nop q) (kept (field_t w) (field_t z) (executed Nop w 0 0 M (before 0)) (cost_of Nop v.flags))
    by Halt q = both Halt q (form_kept Form.Halt q) (kept (field_t w) (field_t z) (executed Halt w 0 0 M (before 0)) (cost_of Halt v.flags))
    by Rts q = both Rts q (form_kept Form.Rts q) (kept (field_t w) (field_t z) (executed Rts w 0 0 M (before 0)) (cost_of Rts v.flags))
    by Ldsp q =
        by_a Ldsp q (form_kept (Form.Ldsp (field_a w)) (q, refl))
        (kept (field_t w) (field_t z) (executed Ldsp w (R (field_a w)) 0 M (before 0)) (cost_of Ldsp v.flags))
    by Pop q = by_t Pop q (form_kept (Form.Pop (field_t w)) (q, refl)) refl
    by Push q = by_t Push q (form_kept (Form.Push (field_t w)) (q, refl)) refl
    by (Jump c Relative) q =
        by_a (Jump c Relative) q (form_kept (Form.JumpRelative c (field_a w)) (q, refl))
        (leaps (field_t w) (field_t z) (taken c v.flags) (sum (past v).pc (R (field_a w))) (cost_of (Jump c Relative) v.flags))
    by (Jump c Absolute) q =
        by_a (Jump c Absolute) q (form_kept (Form.JumpAbsolute c (field_a w)) (q, refl))
        (leaps (field_t w) (field_t z) (taken c v.flags) (R (field_a w)) (cost_of (Jump c Absolute) v.flags))
    by (Jump Always Displaced) q = displaced q
    by (Jump Negative Displaced) q = all_used (Jump Negative Displaced) q refl
    by (Jump Zero Displaced) q = all_used (Jump Zero Displaced) q refl
    by (Jump Carry Displaced) q = all_used (Jump Carry Displaced) q refl
    by (Jump Overflow Displaced) q = all_used (Jump Overflow Displaced) q refl
    by (Call Relative) q =
        by_a (Call Relative) q (form_kept (Form.CallRelative (field_a w)) (q, refl))
        (kept (field_t w) (field_t z) (executed (Call Relative) w (R (field_a w)) 0 M (before 0)) (cost_of (Call Relative) v.flags))
    by (Call Absolute) q =
        by_a (Call Absolute) q (form_kept (Form.CallAbsolute (field_a w)) (q, refl))
        (kept (field_t w) (field_t z) (executed (Call Absolute) w (R (field_a w)) 0 M (before 0)) (cost_of (Call Absolute) v.flags))
    by (Call Displaced) q = all_used (Call Displaced) q refl

pub unused_ignored : UnusedIgnored
unfolding Same after memory_after takes
unused_ignored M v = (λ w h. by M v w h (kind_of w) refl, refl)
