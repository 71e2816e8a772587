-- By what the trace found.
use Rattle.std.proofs.Common.{◌≡◌, ℕ, refl, ap, ◌∙◌, rules, replicate, arith}
use Rattle.std.proofs.lemmas.List.{length-replicate}
use Rattle.std.specs.Prelude.{Result, Err}
use Rattle.listing.specs.Answers.{fault_number}
use Rattle.listing.specs.declared.FaultAt.{FaultAt}
use Rattle.r8_core.specs.declared.Ran.{Ran}
use Rattle.trace.specs.declared.TraceError.{TraceError}
use Rattle.output.specs.Page.{page_at, put_on}
use Rattle.trace.proofs.Findings.{room_held}
use Rattle.printed.specs.Printed.{refused_text}
use Rattle.printed.proofs.Lines.{put_found}
use Rattle.printed.proofs.put_trace.Goals as goal

-- an answer that is this error
error : {answer : Result Ran TraceError} {why known : TraceError} → answer ≡ Err why → why ≡ known → answer ≡ Err known
error a e = a ∙ ap (λ (x : TraceError). Err x) e

pub put_ran-requires : goal.put_ran-requires
put_ran-requires c =
    let traced = c.trace in
    omega (arith, room_held _ (replicate 2000 0) _ traced.result _ traced.ensures c.in-Ok.is, length-replicate {A = ℕ} 2000 0)

pub returns-in-Ok : goal.returns-in-Ok
returns-in-Ok c = (search rules, put_found _ _ _ _ c.put_ran.ensures.1 c.trace.ensures c.in-Ok.is)

pub returns-in-Err-Faulty : goal.returns-in-Err-Faulty
returns-in-Err-Faulty c =
    let same = ap (λ (at : FaultAt). put_on (page_at c.args.page.now.bytes.now c.args.page.now.at) (refused_text (fault_number at.fault) at.offset)) c.in-Err-Faulty.at-is in
    (search rules, put_found _ _ _ _ (c.put_fault.ensures.1 ∙ same) c.trace.ensures (error c.in-Err-Faulty.is c.in-Err-Faulty.field-0-is))

pub returns-in-Err-TooLong : goal.returns-in-Err-TooLong
returns-in-Err-TooLong c = (search rules, put_found _ _ _ _ c.put.ensures.1 c.trace.ensures (error c.in-Err-TooLong.is c.in-Err-TooLong.field-0-is))

pub returns-in-Err-NoRoom : goal.returns-in-Err-NoRoom
unfolding put_on
returns-in-Err-NoRoom c = (refl, put_found _ _ _ _ refl c.trace.ensures (error c.in-Err-NoRoom.is c.in-Err-NoRoom.field-0-is))
