-- The theorems of specs/Theorems.antt: a finding's text is short, since its numbers are low and its rows few.
use mathlib.Core.Path.{◌≡◌, refl, sym, ap, subst}
use mathlib.Core.Logic.{⊎_elim}
use mathlib.Core.List.{List}
use Prim.Native.Nat.{ℕ, zero, suc, ◌*◌, ◌≤◌, ◌<◌}
use native.Mathlib.Nat.{zero-add}
use native.Mathlib.Omega.{arith}
use lib.Dec.{lit<, lit≤}
use lib.ListN.{length, drop, replicate, length-append, length-replicate}
use Rattle.lines.proofs.Theorems.{lines_start}
use Rattle.listing.specs.Answers.{refused}
use Rattle.listing.specs.Listing.{listing_answer}
use Rattle.listing.proofs.Numbers.{numbers}
use Rattle.listing.proofs.Theorems.{refused_exactly}
use Rattle.r8_core.specs.Cores.{fresh_core}
use Rattle.r8_core.specs.Spent.{due_one}
use Rattle.r8_core.specs.Progress.{starting, cycles_on}
use Rattle.r8_core.specs.Calls.{Answer, ran, Reply, end_of, run}
use Rattle.r8_core.specs.declared.End.{End}
use Rattle.r8_core.proofs.Endings.{budget}
use Rattle.text.proofs.Digits.{decimal_at_most}
use Rattle.trace.specs.Trace.{instructions_of, no_room, traced}
use Rattle.trace.proofs.Findings.{by_cases, fresh_run}
use Rattle.trace.proofs.Theorems.{room_always}
use Rattle.output.proofs.Stores.{put_whole}
use Rattle.printed.specs.Printed.{lines_text, refused_text, answer_text, finding_text, printed_trace}
use Rattle.printed.specs.Theorems.{TextFits, PageHolds}

-- some text, of so many bytes at most
abbrev Held : List ℕ → Type 0
Held text = (0 < length text) × (length text ≤ 16384)

lines_length : (n : ℕ) (rows : List ℕ) → length (lines_text n rows) ≡ 17 * n
unfolding lines_text
lines_length zero rows = refl
lines_length (suc n) rows = omega (arith, lines_length n (drop 4 rows))

totals_held : (used finished : ℕ) (end : End) (rows : List ℕ) → used ≤ 1000 → 4 * finished ≤ 2000
    → Held (answer_text (ran used finished end) rows)
totals_held used finished end rows low few =
    let cycles = decimal_at_most used 3 (omega arith) in
    let instructions = decimal_at_most finished 2 (omega arith) in
    simp length-append (omega arith, omega (arith, lines_length finished rows))

refusal_held : (number offset : ℕ) → number < 10 → offset < 65536 → Held (refused_text number offset)
refusal_held number offset low few =
    let one = decimal_at_most number 0 (omega arith) in
    let five = decimal_at_most offset 4 (omega arith) in
    simp length-append (omega arith, omega arith)

-- the number and the offset of a refused line
module _ (listing : List ℕ) (L number offset : ℕ) (e : listing_answer listing L ≡ refused number offset) where
  number_low : number < 10
  number_low =
      let faulty = (refused_exactly listing L number offset).0 e in
      let i = faulty.0 in
      let which = (numbers listing L i).3 in
      let same = faulty.2 in
      ⊎_elim (λ h. omega (arith, h, same)) (⊎_elim (λ h. omega (arith, h, same)) (⊎_elim (λ h. omega (arith, h, same)) (λ h. omega (arith, h, same)))) which

  offset_low : offset < length listing
  offset_low =
      let faulty = (refused_exactly listing L number offset).0 e in
      omega (arith, (lines_start listing faulty.0 faulty.1).0, faulty.4)

run_held : (memory : List ℕ) → length memory ≡ 16384 → 4 * instructions_of (run 1000 fresh_core memory).answer ≤ 2000
    → (rows : List ℕ) → Held (answer_text (run 1000 fresh_core memory).answer rows)
run_held memory size few rows =
    let p = cycles_on 1000 (starting fresh_core memory) in
    let own = ap (λ (r : Reply). r.answer) (fresh_run 1000 memory size (lit≤ tt)) in
    subst (λ (a : Answer). Held (answer_text a rows)) (sym own)
    (totals_held p.used p.finished (end_of p.core.stop (due_one p.core)) rows (omega (arith, (budget 1000 (starting fresh_core memory)).0)) (omega (arith, few, ap instructions_of own)))

pub text_fits : TextFits
unfolding printed_trace
text_fits listing =
    let two = length-replicate {A = ℕ} 2000 0 in
    by_cases (λ f. (f ≡ no_room → ⊥) → (rows : List ℕ) → Held (finding_text f rows)) listing (replicate 2000 0)
    (λ room rows. (lit< tt, lit≤ tt))
    (λ number offset short e room rows.
    refusal_held number offset (number_low listing _ number offset e) (omega (arith, short, offset_low listing _ number offset e)))
    (λ memory size h room. absurd (room refl))
    (λ memory size h room rows. run_held memory size (omega (arith, h, two)) rows)
    (room_always listing (replicate 2000 0) (omega (arith, two)))
    (traced listing (replicate 2000 0)).rows

pub page_holds : PageHolds
page_holds listing page room =
    let whole = put_whole page (printed_trace listing) 0 (omega (arith, room, (text_fits listing).1)) in
    rw (zero-add (length (printed_trace listing))) at whole
