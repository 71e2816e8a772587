-- The theorems `EveryListMade` of specs/Theorem.antt, `ContractsKept` and `NothingAsked` of specs/Contracts.antt.
use mathlib.Core.Path.{◌≡◌, sym, ap, subst}
use mathlib.Core.List.{List, map}
use Rattle.r8_core.specs.Calls.{Answer}
use Rattle.plays.specs.Plays.{play}
use Rattle.plays.proofs.Plays.{each_then, plays_same}
use Rattle.machine.specs.Machine.{fresh_machine}
use Rattle.machine.specs.Theorem.{Call, reset, load, run, step, view, State, fresh_state, handed, on_core, on_machine, Agree, Given, Made, handed_back, as_made, Kept, EveryListMade}
use Rattle.machine.specs.Contracts.{ContractsKept, NothingAsked}
use Rattle.machine.proofs.Theorem.{every_list}

-- where the equation holds, the call does what its definition says
as_defined : (call : Call) (given : Given call) (s : State) → Kept call given s.core s.memory
    → handed_back call given s.memory ≡ on_core call s
as_defined reset given s e = ap handed e
as_defined (load text) given s e = ap handed e
as_defined (run b) given s e = ap handed e
as_defined step given s e = ap handed e
as_defined view given s e = ap handed e

pub every_list_made : EveryListMade
every_list_made memory calls kept =
    let s = fresh_state memory in
    let same = plays_same Made Call State Answer as_made on_core (λ m. m.call) calls s
    (each_then as_made (λ m s. Kept m.call m.given s.core s.memory) _ (λ m s. as_defined m.call m.given s) calls s kept) in
    subst (λ (p : List Answer × State). Agree p (play on_machine (map (λ m. m.call) calls) (fresh_machine memory))) (sym same)
    (every_list memory (map (λ m. m.call) calls))

pub contracts_kept : ContractsKept
contracts_kept c next text M M' b l r v κ κ' =
    (λ e. e, λ e j. e j M.now, λ e. e, λ e. e, λ e. e, λ e j. e.0 j M.now)

pub nothing_asked : NothingAsked
nothing_asked c text M b κ κ' = (tt, tt, tt, tt, tt, tt)
