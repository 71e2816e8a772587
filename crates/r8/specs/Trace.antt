-- r8_trace: what it returns, and what is then in the slices.
use Rattle.std.specs.Prelude.{cond, List, ℕ, ltb, length}
use Rattle.layout.specs.Layout.{answer_size, answer_numbers, onto_if_room}
use Rattle.trace.specs.Trace.{Finding, answered, too_long, no_room, Trace, traced}
use Rattle.r8.specs.Codes.{Code, code_number}

pub record TraceReturned : Type 0 where
  pub code : ℕ
  pub rows : List ℕ
  pub answer : List ℕ

abbrev pub trace_returned : ℕ → List ℕ → List ℕ → TraceReturned
trace_returned code rows answer = record { code = code; rows = rows; answer = answer }

-- the run's answer, or the refused load's; or that the listing is too long, or the rows too short
abbrev pub found_returned : Finding → List ℕ → ℕ × List ℕ
found_returned (answered a) answer = (code_number Code.ok, onto_if_room (answer_numbers a) answer)
found_returned too_long answer = (code_number Code.too_long, answer)
found_returned no_room answer = (code_number Code.no_room, answer)

abbrev pub after_trace : Trace → List ℕ → TraceReturned
after_trace x answer = trace_returned (found_returned x.finding answer).0 x.rows (found_returned x.finding answer).1

-- first the length of the listing, then that of the answer, then what the trace finds
unfoldable pub traced_returned : List ℕ → List ℕ → List ℕ → TraceReturned
traced_returned listing rows answer =
    cond (ltb 65536 (length listing)) (trace_returned (code_number Code.too_long) rows answer)
    (cond (ltb (length answer) answer_size) (trace_returned (code_number Code.no_room) rows answer) (after_trace (traced listing rows) answer))
