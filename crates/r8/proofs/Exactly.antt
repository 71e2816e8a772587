-- The theorems `CallCodes`, `FormCodes` and `TraceCodes` of specs/Theorems.antt: by the tests of the definitions. Assumes nothing.
use mathlib.Core.Path.{◌≡◌, refl, sym, ap, ◌∙◌}
use mathlib.Core.Logic.{◌↔◌, ◌⊎◌, inl, inr, ⊎_elim}
use mathlib.Core.Bool.{Bool, true, false, cond, true≢false}
use mathlib.Core.List.{List}
use Prim.Native.Nat.{ℕ, ◌*◌, ◌≤◌, ◌<◌}
use native.Mathlib.Omega.{arith}
use lib.Dec.{ltb}
use lib.ListN.{length, replicate}
use borrow.Author.Tests.{ltb-true, ltb-false, lt-ltb}
use Rattle.isa.specs.declared.Kind.{Kind}
use Rattle.table.specs.Table.{kind_of}
use Rattle.forms.specs.Answers.{Answer, given, refused}
use Rattle.forms.specs.Reading.{word_to_form}
use Rattle.forms.specs.declared.Form.{Form}
use Rattle.forms.proofs.Theorems.{refused_word}
use Rattle.r8_core.specs.Cores.{fresh_core}
use Rattle.r8_core.specs.Calls.{load, run}
use Rattle.layout.specs.Layout.{answer_size}
use Rattle.trace.specs.Trace.{Finding, answered, too_long, no_room, Trace, instructions_of, is_stored, traced_on, after_load, traced}
use Rattle.r8.specs.Codes.{Code, code_number}
use Rattle.r8.specs.Numbers.{is_core}
use Rattle.r8.specs.Call.{code_of}
use Rattle.r8.specs.Form.{form_size, formed_from, formed}
use Rattle.r8.specs.Trace.{found_returned, trace_returned, after_trace, traced_returned}
use Rattle.r8.specs.Theorems.{CallCodes, FormCodes, TraceCodes}
use Rattle.r8.proofs.Held.{either}

by_tests : (core short : Bool) → let code : ℕ = code_number (cond core (cond short Code.no_room Code.ok) Code.no_core) in
    ((code ≡ code_number Code.no_core) ↔ (core ≡ false)) × ((code ≡ code_number Code.no_room) ↔ ((core ≡ true) × (short ≡ true)))
by_tests true true = ((λ e. absurd (omega arith), λ e. absurd (true≢false e)), (λ e. (refl, refl), λ e. refl))
by_tests true false = ((λ e. absurd (omega arith), λ e. absurd (true≢false e)), (λ e. absurd (omega arith), λ e. absurd (true≢false (sym e.1))))
by_tests false short = ((λ e. refl, λ e. refl), (λ e. absurd (omega arith), λ e. absurd (true≢false (sym e.0))))

pub call_codes : CallCodes
unfolding code_of
call_codes registers state answer =
    let told = by_tests (is_core registers state) (ltb (length answer) answer_size) in (
      told.0,
      (λ e. let both = told.1.0 e in (both.0, ltb-true _ _ both.1), λ h. told.1.1 (h.0, lt-ltb _ _ h.1)),
    )

-- where the slice has room
by_answer : (word : ℕ) (slice : List ℕ) (answer : Answer Form) → word_to_form word ≡ answer
    → ((formed_from answer slice).0 ≡ code_number Code.no_room → ⊥) × (((formed_from answer slice).0 ≡ code_number Code.undefined) ↔ (kind_of word ≡ Kind.Undefined))
by_answer word slice (given form) e =
    let six : kind_of word ≡ Kind.Undefined → (formed_from (given form) slice).0 ≡ 6 =
    λ k. ap (λ (x : Answer Form). (formed_from x slice).0) (sym e ∙ (refused_word word 6).1 (k, refl)) in
    (λ h. absurd (omega arith), (λ h. absurd (omega arith), six))
by_answer word slice (refused number) e =
    let is = (refused_word word number).0 e in
    (λ h. absurd (omega (arith, is.1)), (λ h. is.0, λ k. is.1))

pub form_codes : FormCodes
unfolding formed
form_codes word slice = by (ltb (length slice) form_size) refl
  where
    by : (short : Bool) → ltb (length slice) form_size ≡ short
        → let code : ℕ = (cond short (code_number Code.no_room, slice) (formed_from (word_to_form word) slice)).0 in
        ((code ≡ code_number Code.no_room) ↔ (length slice < form_size)) × ((code ≡ code_number Code.undefined) ↔ ((form_size ≤ length slice) × (kind_of word ≡ Kind.Undefined)))
    by true e =
        let less : length slice < form_size = ltb-true _ _ e in
        ((λ h. less, λ h. refl), (λ h. absurd (omega arith), λ h. absurd (omega (arith, less, h.0))))
    by false e =
        let room : form_size ≤ length slice = ltb-false _ _ e in
        let told = by_answer word slice (word_to_form word) refl in
        ((λ h. absurd (told.0 h), λ h. absurd (omega (arith, room))), (λ h. (room, told.1.0 h), λ h. told.1.1 h.1))

by_finding : (found : Finding) (answer : List ℕ) → ((found_returned found answer).0 ≡ code_number Code.no_room) ↔ (found ≡ no_room)
by_finding (answered a) answer = (λ e. absurd (omega arith), λ e. ap (λ (x : Finding). (found_returned x answer).0) e)
by_finding too_long answer = (λ e. absurd (omega arith), λ e. ap (λ (x : Finding). (found_returned x answer).0) e)
by_finding no_room answer = (λ e. refl, λ e. refl)

abbrev code_found : List ℕ → Trace → ℕ
code_found answer x = (found_returned x.finding answer).0

-- a listing that is not too long is not found to be
not_long : (listing rows answer : List ℕ) (long : Bool) → long ≡ false
    → code_found answer
    (cond long (record { finding = too_long; rows = rows }) (after_load (load listing fresh_core (replicate 16384 0)) rows))
    ≡ code_number Code.too_long
    → ⊥
unfolding traced_on
not_long listing rows answer true e = absurd (true≢false e)
not_long listing rows answer false e =
    let loaded = load listing fresh_core (replicate 16384 0) in
    let another : Trace → Type 0 = λ x. code_found answer x ≡ code_number Code.too_long → ⊥ in
    either another (is_stored loaded.answer)
    (λ s. either another (ltb (length rows) (4 * instructions_of (run 1000 fresh_core loaded.memory).answer))
    (λ r h. absurd (omega arith)) (λ h. absurd (omega arith)))
    (λ h. absurd (omega arith))

pub trace_codes : TraceCodes
unfolding traced_returned traced
trace_codes listing rows answer = by (ltb 65536 (length listing)) (ltb (length answer) answer_size) refl refl
  where
    by : (long short : Bool) → ltb 65536 (length listing) ≡ long → ltb (length answer) answer_size ≡ short
        → let code : ℕ = (cond long (trace_returned (code_number Code.too_long) rows answer) (cond short (trace_returned (code_number Code.no_room) rows answer) (after_trace (traced listing rows) answer))).code in
        ((code ≡ code_number Code.too_long) ↔ (65536 < length listing))
        × ((code ≡ code_number Code.no_room) ↔ ((length listing ≤ 65536) × ((length answer < answer_size) ⊎ ((traced listing rows).finding ≡ no_room))))
    by true short l s =
        let more : 65536 < length listing = ltb-true _ _ l in
        ((λ h. more, λ h. refl), (λ h. absurd (omega arith), λ h. absurd (omega (arith, more, h.0))))
    by false true l s =
        let most : length listing ≤ 65536 = ltb-false _ _ l in
        ((λ h. absurd (omega arith), λ h. absurd (omega (arith, most))), (λ h. (most, inl (ltb-true _ _ s)), λ h. refl))
    by false false l s =
        let most : length listing ≤ 65536 = ltb-false _ _ l in
        let found = by_finding (traced listing rows).finding answer in
        let room : answer_size ≤ length answer = ltb-false _ _ s in
        let from = ⊎_elim (λ (h : length answer < answer_size). absurd (omega (arith, room))) found.1 in
        ((λ h. absurd (not_long listing rows answer _ l h), λ h. absurd (omega (arith, most))), (λ h. (most, inr (found.0 h)), λ h. from h.1))
