use Rattle.std.proofs.Common.{◌≡◌, ℕ, suc, ◌+◌, ◌-◌, length, false, cond, ltb, sym, ap, ◌∙◌, arith}
use Rattle.r8_core.specs.WholeInstructions.{seen, has_room, instructions_on}
use Rattle.r8_core.specs.declared.Working.{Working}
use Rattle.r8_core.proofs.Cycles.{cost_range}
use Rattle.r8_core.proofs.WholeInstructions.{bank_length, under, past_one, one_asked, next_one, not_asked}
use Rattle.r8_core.proofs.Core.instructions.Goals as goal

pub loop-regs-preserved : goal.loop-regs-preserved
loop-regs-preserved c =
    let a = c.args in
    let l = c.loop-regs in
    let i = l.invariant in
    let goes = one_asked l.state l.more (sym c.may_go_on.ensures ∙ c.loop-regs-test.true) in
    let asked = goes.2 in
    let cost = cost_range l.memory (seen l.state l.regs) in
    let done = c.instruct-state.ensures in
    let left = ap (λ (s : Working). s.left.0) done.0 in
    let same : a.b - (a.b - l.state.left.0) ≡ l.state.left.0 = omega (arith, i.within) in
    let more : l.more ≡ suc (l.more - 1) = omega (arith, asked) in
    let counted : a.most - (l.more - 1) ≡ a.most - l.more + 1 = omega (arith, i.some, asked) in
    let next =
    past_one a.self c.requires.0 l.state c.instruct-state.result l.regs _ l.memory _ a.b _ _
    done.0 done.1 done.2 (omega (arith, goes.1, cost.1)) i.within counted in
    record {
      rest =
          i.rest
          ∙ ap (λ (n : ℕ). instructions_on n a.b (under a.self l.state l.regs l.memory a.b (a.most - l.more))) more
          ∙ next_one _ a.b _ _ (ap (has_room l.state.stop) same ∙ goes.0) next;
      some = omega (arith, i.some);
      bank = ap length done.1 ∙ bank_length l.memory l.regs l.state ∙ i.bank;
      within = omega (arith, left, i.within);
    }

pub returns : goal.returns
returns c =
    let a = c.args in
    let l = c.loop-regs in
    let i = l.invariant in
    let s = l.state in
    let same : a.b - (a.b - s.left.0) ≡ s.left.0 = omega (arith, i.within) in
    let core = c.joined.ensures in
    let n = l.more in
    let p = under a.self s l.regs l.memory a.b (a.most - n) in
    let test = sym c.may_go_on.ensures ∙ c.loop-regs-test.false in
    let over = not_asked n a.b p (ap (λ (left : ℕ). cond (has_room s.stop left) (ltb 0 n) false) same ∙ test) in
    (λ j. record { core = core j; memory = l.memory; used = a.b - s.left.0; finished = a.most - n })
    ∙ sym (i.rest ∙ over)
