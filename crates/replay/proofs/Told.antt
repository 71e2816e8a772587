-- The theorems `CoreTold` and `CallTold` of specs/Theorems.antt: what is written lies in three parts; a single call is read as one, or is none.
use mathlib.Core.Path.{◌≡◌, refl, sym, ap, ◌∙◌}
use mathlib.Core.List.{List, [], ◌∷◌, ◌++◌, append_assoc}
use Prim.Native.Nat.{ℕ, ◌*◌}
use native.Mathlib.Omega.{arith}
use lib.ListN.{length, take, drop, length-append}
use lib.Seq.{take_at, drop_at}
use Rattle.std.specs.declared.result.Result.{Result}
use Rattle.std.specs.declared.result.Result.TheVariants.{Ok, Err}
use Rattle.r8_core.specs.Cores.{visible_of}
use Rattle.r8_core.specs.Spent.{spent_of}
use Rattle.r8_core.specs.Calls.{Answer}
use Rattle.r8_core.specs.declared.Core.{Core}
use Rattle.layout.specs.Layout.{answer_numbers}
use Rattle.layout.proofs.Sizes.{left_size}
use Rattle.plays.specs.Plays.{play}
use Rattle.machine.specs.Theorem.{fresh_state, on_core}
use Rattle.replay.specs.Replay.{read_call, call_of, listed, read_then, read_from, call_played, numbers_then, places_for, Replayed}
use Rattle.replay.specs.ReplayParts.{core_left, core_numbers}
use Rattle.replay.specs.Theorems.{CoreTold, Tells, CallTold}
use Rattle.replay.specs.declared.ListedCall.{ListedCall}
use Rattle.replay.specs.declared.CallFault.{CallFault}
use Rattle.replay.specs.declared.CallFault.TheVariants.{NoCall, NoStretch}
use Rattle.replay.proofs.Plays.{numbers_length}
use Rattle.replay.proofs.Replayed.{is_played, by_the_core}

-- the numbers of answers, then more
numbers_then_lem : (answers : List Answer) (last : List ℕ) → numbers_then answers last ≡ numbers_then answers [] ++ last
unfolding numbers_then
numbers_then_lem [] last = refl
numbers_then_lem (a ∷ rest) last =
    ap (λ (l : List ℕ). answer_numbers a ++ l) (numbers_then_lem rest last)
    ∙ sym (append_assoc (answer_numbers a) (numbers_then rest []) last)

pub core_told : CoreTold
core_told calls memory answers h =
    let told = is_played calls memory answers h ∙ by_the_core calls memory answers in
    let played = play on_core calls (fresh_state memory) in
    let said = numbers_then played.0 [] in
    let core = played.1.core in
    let left = core_left core in
    let last = left_size (visible_of core) (spent_of core) core.clock.0 in
    let rest = drop (length (core_numbers played)) answers in
    let whole : length (core_numbers played) ≡ places_for calls = numbers_length calls (fresh_state memory) in
    let parts : core_numbers played ≡ said ++ left = numbers_then_lem played.0 left in
    let size : length said ≡ 23 * length calls =
    omega (arith, whole, ap length parts, length-append said left, last) in
    let written = ap (λ (x : Replayed). x.answers) told ∙ ap (λ (l : List ℕ). l ++ rest) parts ∙ append_assoc said left rest in
    let behind = ap (drop (23 * length calls)) written ∙ drop_at said (left ++ rest) (23 * length calls) size in (
      ap (λ (x : Replayed). x.answer) told,
      ap (λ (x : Replayed). x.memory) told,
      ap (take (23 * length calls)) written ∙ take_at said (left ++ rest) (23 * length calls) size,
      ap (take 23) behind ∙ take_at left rest 23 (last),
      ap (drop 23) behind ∙ drop_at left rest 23 (last) ∙ ap (λ (n : ℕ). drop n answers) whole,
    )

-- by what the three numbers are read as
module _ (core : Core) (memory : List ℕ) where
  tells : (text : List ℕ) (r : Result ListedCall CallFault) → Tells core memory (call_played text r core memory) (read_then text 0 r (listed []))
  tells text (Ok call) = (
    λ c e. let same : call_of text call ≡ c = cc in rw (← same) (refl, refl),
    λ e. let z : ◌≡◌ {A = ℕ} 0 1 = cc in absurd (omega arith),
    λ e. let z : ◌≡◌ {A = ℕ} 0 1 = cc in absurd (omega arith),
  )
  tells text (Err NoCall) = (
    λ c e. let z : ◌≡◌ {A = ℕ} 0 1 = cc in absurd (omega arith),
    λ e. (refl, refl),
    λ e. let z : ◌≡◌ {A = ℕ} 0 1 = cc in absurd (omega arith),
  )
  tells text (Err NoStretch) = (
    λ c e. let z : ◌≡◌ {A = ℕ} 0 1 = cc in absurd (omega arith),
    λ e. let z : ◌≡◌ {A = ℕ} 0 1 = cc in absurd (omega arith),
    λ e. (refl, refl),
  )

pub call_told : CallTold
unfolding read_from
call_told text kind first second core memory = tells core memory text (read_call kind first second (length text))
