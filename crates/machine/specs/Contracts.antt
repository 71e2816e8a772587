-- The premise of `EveryListMade` and the contracts of the calls: two statements, proved in proofs/Made.antt. They name what the prover makes of
-- the functions of `r8_core` for proofs, so they stand apart from what contracts of other crates cite.
use Rattle.std.specs.Prelude.{◌≡◌, List, ℕ, Result}
use Rattle.r8_core.specs.declared.Answered.{Answered}
use Rattle.r8_core.specs.declared.ListingError.{ListingError}
use Rattle.r8_core.specs.declared.Ran.{Ran}
use Rattle.refusals.specs.declared.Refusal.{Refusal}
use Rattle.r8_core.specs.declared.Snapshot.{Snapshot}
use Rattle.std.specs.Borrow.{Bor, MutBor}
use Rattle.r8_core.specs.Cores.{fresh_core}
use Rattle.r8_core.specs.declared.Core.{Core}
use Rattle.r8_core.proofs.fresh.Reads as contract-of-fresh
use Rattle.r8_core.proofs.Core.reset.Reads as contract-of-reset
use Rattle.r8_core.proofs.Core.load.Reads as contract-of-load
use Rattle.r8_core.proofs.Core.run.Reads as contract-of-run
use Rattle.r8_core.proofs.Core.step.Reads as contract-of-step
use Rattle.r8_core.proofs.Core.view.Reads as contract-of-view
use Rattle.machine.specs.Theorem.{reset, load, run, step, view, Kept}

-- The contracts as they stand at the functions of `r8_core` give these equations, of every core, lent memory and argument; and `r8_core::fresh` gives
-- a fresh core (proved as `contracts_kept`). `Learnt` is what the `ensures` of a function come to, for its callers; it takes the lifetimes
-- of the references (κ), the arguments, the result, and the arguments again, at exit, when the lent memory M has become M'
abbrev pub ContractsKept : Type 0
ContractsKept =
    (c next : Core) (text : Bor (List ℕ)) (M M' : MutBor (List ℕ)) (b : ℕ)
    (l : Answered (Result ℕ ListingError)) (r : Answered (Result Ran Refusal)) (v : Answered (Result Snapshot Refusal)) (κ κ' : List ℕ)
    → (contract-of-fresh.Learnt tt tt next tt → next ≡ fresh_core)
    × (contract-of-reset.Learnt tt (c, tt) next (c, tt) → Kept reset next c M.now)
    × (contract-of-load.Learnt (κ, (κ', tt)) (c, (text, (M, tt))) l (c, (text, (M', tt))) → Kept (load text.now) (l, M'.now) c M.now)
    × (contract-of-run.Learnt (κ, tt) (c, (b, (M, tt))) r (c, (b, (M', tt))) → Kept (run b) (r, M'.now) c M.now)
    × (contract-of-step.Learnt (κ, tt) (c, (M, tt)) r (c, (M', tt)) → Kept step (r, M'.now) c M.now)
    × (contract-of-view.Learnt tt (c, tt) v (c, tt) → Kept view v c M.now)

-- and they ask nothing of their callers: `Asked` is what the `requires` come to (proved as `nothing_asked`)
abbrev pub NothingAsked : Type 0
NothingAsked =
    (c : Core) (text : Bor (List ℕ)) (M : MutBor (List ℕ)) (b : ℕ) (κ κ' : List ℕ)
    → contract-of-fresh.Asked tt tt
    × contract-of-reset.Asked tt (c, tt)
    × contract-of-load.Asked (κ, (κ', tt)) (c, (text, (M, tt)))
    × contract-of-run.Asked (κ, tt) (c, (b, (M, tt)))
    × contract-of-step.Asked (κ, tt) (c, (M, tt))
    × contract-of-view.Asked tt (c, tt)
