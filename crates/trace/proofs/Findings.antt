-- Laws of findings: a fresh core on 16,384 words is never refused with 1, 7, 8 or 9, and what the run's answer makes of the rows.
use mathlib.Core.Path.{◌≡◌, refl, sym, ap, ◌∙◌}
use mathlib.Core.Bool.{Bool, true, false}
use mathlib.Core.List.{List, ◌++◌}
use Prim.Native.Nat.{ℕ, ◌+◌, ◌-◌, ◌*◌, ◌/◌, ◌≤◌, ◌<◌}
use Rattle.std.specs.Prelude.{Result, Ok, Err}
use Rattle.r8_core.specs.declared.Answered.{Answered}
use native.Mathlib.Omega.{arith}
use borrow.Author.Tests.{lt-ltb, le-ltb, ltb-true, ltb-false}
use lib.Dec.{ltb}
use lib.ListN.{length, drop, replicate, length-replicate}
use Rattle.lines.specs.Lines.{lines}
use Rattle.listing.specs.Answers as lines-answer
use Rattle.listing.specs.Answers.{fault_number}
use Rattle.listing.specs.Listing.{Check, sound, faulty, memory_of, check_of, store_lines, listing_answer, listing_memory}
use Rattle.listing.proofs.Stores.{length_lines}
use Rattle.r8_core.specs.Cores.{fresh_core}
use Rattle.refusals.specs.Refusals.{refusal_number, wrong_length, first_number}
use Rattle.r8_core.specs.Numbers.{load_number, run_number}
use Rattle.r8_core.specs.Spent.{due_one}
use Rattle.r8_core.specs.Progress.{starting, cycles_on}
use Rattle.r8_core.specs.Calls.{Answer, ran, refused, refused_at, Reply, load_answer, load, loaded_reply, ran_reply, run}
use Rattle.r8_core.specs.Answers.{load_answer_of, load_gave, run_answer_of, run_gave}
use Rattle.r8_core.specs.declared.Core.{Core}
use Rattle.r8_core.specs.declared.ListingError.{ListingError}
use Rattle.r8_core.specs.declared.ListingError.TheVariants.{Refused, Faulty}
use Rattle.refusals.specs.declared.Refusal.{Refusal}
use Rattle.r8_core.specs.declared.Ran.{Ran}
use Rattle.r8_core.proofs.Taken.{reply_own}
use Rattle.refusals.proofs.First.{passed, none_left}
use Rattle.r8_core.proofs.Replies.{run_starts}
use Rattle.trace.specs.Trace.{instructions_of, Finding, Trace, answered, too_long, no_room, rows_of, trace_of, traced_on, after_load, traced, finding_of, trace_gave}
use Rattle.trace.specs.TraceParts.{error_of}
use Rattle.trace.specs.declared.TraceError.{TraceError}

-- a run of a fresh core on 16,384 words is taken
pub fresh_run : (t : ℕ) (memory : List ℕ) → length memory ≡ 16384 → t ≤ 1000
    → run t fresh_core memory ≡ ran_reply (cycles_on t (starting fresh_core memory))
unfolding run_number
fresh_run t memory size few =
    let all : t - 0 ≡ t = omega arith in
    let clock = le-ltb 4294967295 (0 + t) (omega arith) in
    run_starts t fresh_core memory
    (passed 1 _ _ (ap wrong_length size) ∙ passed 8 _ _ refl ∙ passed 7 _ _ refl ∙ passed 9 _ _ clock ∙ none_left)
    ∙ ap (λ (n : ℕ). ran_reply (cycles_on n (starting fresh_core memory))) all

-- by what the run gave of a core that was made fresh
module _ (memory rows : List ℕ) (reply : Answered (Result Ran Refusal)) (core : Core) (after : List ℕ) (e : run_gave reply after ≡ run 1000 core memory)
    (fresh : core ≡ fresh_core) where
  answer : run_answer_of reply.answer ≡ (run 1000 fresh_core memory).answer
  answer = ap (λ (x : Reply). x.answer) e ∙ ap (λ (x : Core). (run 1000 x memory).answer) fresh

  pub run_not_refused : (why : Refusal) → length memory ≡ 16384 → reply.answer ≡ Err why → ⊥
  run_not_refused why size a =
      let own = ap (λ (x : Reply). x.answer) (fresh_run 1000 memory size (omega arith)) in
      let refused = ap run_answer_of a in
      let said = answer in
      let z : ◌≡◌ {A = ℕ} 0 1 = cc in
      omega arith

  abbrev by_run : Result Ran Refusal → Trace
  by_run answer = trace_of (run_answer_of answer) memory rows

  ran_trace : (r : Ran) → reply.answer ≡ Ok r → trace_of (ran r.cycles.0 r.instructions.0 r.end) memory rows ≡ traced_on memory rows
  unfolding traced_on
  ran_trace r a = sym (ap by_run a) ∙ ap (λ (x : Answer). trace_of x memory rows) answer

  pub room_lacks : (r : Ran) → reply.answer ≡ Ok r → length rows / 4 < r.instructions.0
      → record { finding = no_room; rows = rows } ≡ traced_on memory rows
  room_lacks r a h = sym (rw (lt-ltb (length rows) (4 * r.instructions.0) (omega arith))) ∙ ran_trace r a

  pub rows_put : (r : Ran) → reply.answer ≡ Ok r → (next : List ℕ) → r.instructions.0 ≤ length rows / 4
      → next ≡ rows_of r.instructions.0 core memory ++ drop (4 * r.instructions.0) rows
      → record { finding = answered (ran r.cycles.0 r.instructions.0 r.end); rows = next } ≡ traced_on memory rows
  rows_put r a next h put =
      let n = r.instructions.0 in
      let whole = put ∙ ap (λ (x : Core). rows_of n x memory ++ drop (4 * n) rows) fresh in
      (λ j. record { finding = answered (ran r.cycles.0 n r.end); rows = whole j })
      ∙ sym (rw (le-ltb (length rows) (4 * n) (omega arith)))
      ∙ ran_trace r a

-- a load of a fresh core comes to its lines, which are refused with an offset or not at all
load_taken : (listing : List ℕ)
    → load listing fresh_core (replicate 16384 0) ≡ loaded_reply listing fresh_core (replicate 16384 0)
unfolding load load_number first_number
load_taken listing =
    reply_own _ fresh_core (replicate 16384 0) (loaded_reply listing fresh_core (replicate 16384 0))
    (ap (λ (L : ℕ). load_number L (due_one fresh_core)) (length-replicate {A = ℕ} 16384 0))

length_loaded : (listing memory : List ℕ) → length (listing_memory listing memory) ≡ length memory
unfolding listing_memory
length_loaded listing memory = by (check_of listing (length memory))
  where
    by : (check : Check) → length (memory_of check (store_lines (lines listing) memory) memory) ≡ length memory
    by sound = length_lines (lines listing) memory
    by (faulty number start) = refl

never : (n : ℕ) (answer : lines-answer.Answer) → load_answer answer ≡ refused n → ⊥
never n (lines-answer.stored count) e = let z : ◌≡◌ {A = ℕ} 0 1 = cc in omega arith
never n (lines-answer.refused number offset) e = let z : ◌≡◌ {A = ℕ} 0 1 = cc in omega arith

-- a listing that is too long
pub long_trace : (listing rows : List ℕ) → 65536 < length listing → record { finding = too_long; rows = rows } ≡ traced listing rows
unfolding traced
long_trace listing rows h = rw (lt-ltb 65536 (length listing) h)

-- and one that is not, by what its load gave
module _ (listing rows : List ℕ) (h : length listing ≤ 65536) (reply : Answered (Result ℕ ListingError)) (core : Core) (memory : List ℕ)
    (e : load_gave reply memory ≡ load listing core (replicate 16384 0)) (fresh : core ≡ fresh_core) where
  loaded : load_gave reply memory ≡ load listing fresh_core (replicate 16384 0)
  loaded = e ∙ ap (λ (x : Core). load listing x (replicate 16384 0)) fresh

  by_load : after_load (load_gave reply memory) rows ≡ traced listing rows
  unfolding traced
  by_load = ap (λ (x : Reply). after_load x rows) loaded ∙ rw (le-ltb 65536 (length listing) h)

  abbrev by_answer : Result ℕ ListingError → Trace
  by_answer answer = after_load (record { answer = load_answer_of answer; core = reply.core; memory = memory }) rows

  pub stored_trace : (count : ℕ) → reply.answer ≡ Ok count → traced_on memory rows ≡ traced listing rows
  stored_trace count a = sym (ap by_answer a) ∙ by_load

  load_not_refused : (why : Refusal) → reply.answer ≡ Err (Refused why) → ⊥
  load_not_refused why a =
      let own = ap (λ (x : Reply). x.answer) (load_taken listing) in
      let said = ap (λ (x : Reply). x.answer) loaded in
      never (refusal_number why) (listing_answer listing (length (replicate {A = ℕ} 16384 0))) (sym own ∙ sym said ∙ ap load_answer_of a)

  pub ended_trace : (why : ListingError) → reply.answer ≡ Err why → trace_gave (Err (error_of why)) rows ≡ traced listing rows
  ended_trace (Faulty at) a = sym (ap by_answer a) ∙ by_load
  ended_trace (Refused why) a = absurd (load_not_refused why a)

-- a finding is one of these: too long, a fault of the lines, or what a run on the loaded memory finds, without room or with
module _ (P : Finding → Type 0) (listing rows : List ℕ) (long : P too_long)
    (at_line : (number offset : ℕ) → length listing ≤ 65536
    → listing_answer listing (length (replicate {A = ℕ} 16384 0)) ≡ lines-answer.refused number offset → P (answered (refused_at number offset)))
    (without : (memory : List ℕ) → length memory ≡ 16384 → length rows < 4 * instructions_of (run 1000 fresh_core memory).answer → P no_room)
    (within : (memory : List ℕ) → length memory ≡ 16384 → 4 * instructions_of (run 1000 fresh_core memory).answer ≤ length rows
    → P (answered (run 1000 fresh_core memory).answer)) where
  by_room : (memory : List ℕ) (lacks : Bool) → ltb (length rows) (4 * instructions_of (run 1000 fresh_core memory).answer) ≡ lacks
      → length memory ≡ 16384 → P (traced_on memory rows).finding
  unfolding traced_on
  by_room memory true h size = rw h (without memory size (ltb-true _ _ h))
  by_room memory false h size = rw h (within memory size (ltb-false _ _ h))

  by_lines : (answer : lines-answer.Answer) (memory : List ℕ) → length listing ≤ 65536
      → listing_answer listing (length (replicate {A = ℕ} 16384 0)) ≡ answer → length memory ≡ 16384
      → P (after_load (record { answer = load_answer answer; core = fresh_core; memory = memory }) rows).finding
  by_lines (lines-answer.stored count) memory short e size = by_room memory _ refl size
  by_lines (lines-answer.refused number offset) memory short e size = at_line number offset short e

  by_length : (b : Bool) → ltb 65536 (length listing) ≡ b → P (traced listing rows).finding
  unfolding traced
  by_length true h = rw h long
  by_length false h =
      rw (h, load_taken listing) (by_lines (listing_answer listing (length (replicate {A = ℕ} 16384 0)))
      (listing_memory listing (replicate 16384 0)) (ltb-false 65536 (length listing) h) refl (length_loaded listing (replicate 16384 0) ∙ length-replicate {A = ℕ} 16384 0))

  pub by_cases : P (traced listing rows).finding
  by_cases = by_length (ltb 65536 (length listing)) refl

-- where totals are answered there was room for the rows
pub room_held : (listing rows next : List ℕ) (answer : Result Ran TraceError) (r : Ran)
    → trace_gave answer next ≡ traced listing rows → answer ≡ Ok r → 4 * r.instructions.0 ≤ length rows
room_held listing rows next answer r e a =
    by_cases (λ f. f ≡ answered (ran r.cycles.0 r.instructions.0 r.end) → 4 * r.instructions.0 ≤ length rows) listing rows
    (λ f. absurd (let z : ◌≡◌ {A = ℕ} 0 1 = cc in omega arith))
    (λ number offset short said f. absurd (let z : ◌≡◌ {A = ℕ} 0 1 = cc in omega arith))
    (λ memory size h f. absurd (let z : ◌≡◌ {A = ℕ} 0 1 = cc in omega arith))
    (λ memory size h f. let same : (run 1000 fresh_core memory).answer ≡ ran r.cycles.0 r.instructions.0 r.end = cc in
    omega (arith, h, ap instructions_of same))
    (sym (ap (λ (t : Trace). t.finding) e) ∙ ap finding_of a)
