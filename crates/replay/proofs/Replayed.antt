-- What a replay gives by its verdict: the core's play where it is played, which is the machine's by the theorem; else nothing changed.
use mathlib.Core.Path.{◌≡◌, refl, sym, ap, ◌∙◌}
use mathlib.Core.Bool.{Bool, true, false, cond}
use mathlib.Core.List.{List}
use Prim.Native.Nat.{ℕ, ◌+◌, ◌≤◌}
use native.Mathlib.Omega.{arith}
use borrow.Author.Tests.{eqb-true, leb-true, le-leb}
use lib.Dec.{eqb, leb}
use lib.ListN.{length, replicate}
use Rattle.std.specs.declared.result.Result.{Result}
use Rattle.std.specs.declared.result.Result.TheVariants.{Ok, Err}
use Rattle.r8_core.specs.Cores.{Visible, visible, visible_of}
use Rattle.r8_core.specs.Calls.{Answer}
use Rattle.layout.specs.Layout.{flags_of, seen_numbers, left_numbers, onto}
use Rattle.layout.proofs.Onto.{fitting}
use Rattle.plays.specs.Plays.{play}
use Rattle.machine.specs.Machine.{Machine, cycles_of}
use Rattle.machine.specs.Theorem.{Call, State, fresh_state, on_core, Agree}
use Rattle.replay.specs.Replay.{Reading, listed, no_call, no_stretch, numbers_then, machine_left, machine_replay, places_for, replayed, replay_gave}
use Rattle.replay.specs.ReplayParts.{verdict_of, Playable, after_play, core_left, core_numbers, core_played}
use Rattle.replay.specs.declared.ReplayError.{ReplayError}
use Rattle.replay.specs.declared.ReplayError.TheVariants as error
use Rattle.replay.proofs.Plays.{numbers_length}
use Rattle.machine.proofs.Theorem.{every_list}

-- a verdict that the calls are played
pub playable_when : (r : Reading) (room n : ℕ) → verdict_of r room ≡ Ok n → Playable r room
playable_when (listed calls) room n e = by (leb (places_for calls) room) refl
  where
    by : (b : Bool) → leb (places_for calls) room ≡ b → places_for calls ≤ room
    by true t = leb-true _ _ t
    by false t =
        let f : Err error.NoRoom ≡ Ok n = ap (λ (b : Bool). cond b (Ok (length calls)) (Err error.NoRoom)) (sym t) ∙ e in
        let z : ◌≡◌ {A = ℕ} 0 1 = cc in
        absurd (omega arith)
playable_when (no_call i) room n e = let z : ◌≡◌ {A = ℕ} 0 1 = cc in absurd (omega arith)
playable_when (no_stretch i) room n e = let z : ◌≡◌ {A = ℕ} 0 1 = cc in absurd (omega arith)

-- what a core is left as, where it agrees with the machine
left_same : (c : List Answer × State) (m : List Answer × Machine) → Agree c m → core_left c.1.core ≡ machine_left m.1
unfolding left_numbers
left_same c m g =
    let spent = g.states.spent in
    let total = g.states.total in
    (λ j. left_numbers (visible_of c.1.core) (spent j) (total j)) ∙ by (eqb m.1.spent 0) refl
  where
    by : (none : Bool) → eqb m.1.spent 0 ≡ none
        → left_numbers (visible_of c.1.core) m.1.spent (cycles_of m.1.log + m.1.spent) ≡ machine_left m.1
    by true h =
        ap (λ (v : Visible). left_numbers v m.1.spent (cycles_of m.1.log + m.1.spent)) (g.states.visible (eqb-true m.1.spent 0 h))
    by false h =
        let stop = g.states.stop in
        rw h (λ j. seen_numbers 6 (visible (replicate 16 0) 0 0 (flags_of 0) (stop j)) m.1.spent (cycles_of m.1.log + m.1.spent))

-- what is played on the machine is what is played on the core
pub by_the_core : (calls : List Call) (memory answers : List ℕ)
    → let played : List Answer × State = play on_core calls (fresh_state memory) in
    machine_replay calls memory answers ≡ replay_gave (Ok (length calls)) played.1.memory (onto (core_numbers played) answers)
by_the_core calls memory answers =
    let agree = every_list memory calls in
    let after = sym agree.states.memory in
    let said = sym agree.answers in
    let left = sym (left_same _ _ agree) in
    λ j. replay_gave (Ok (length calls)) (after j) (onto (numbers_then (said j) (left j)) answers)

-- a list with places enough is played
pub is_played : (calls : List Call) (memory answers : List ℕ) → places_for calls ≤ length answers
    → replayed (listed calls) memory answers ≡ machine_replay calls memory answers
is_played calls memory answers h =
    ap (λ (b : Bool). cond b (machine_replay calls memory answers) (replay_gave (Err error.NoRoom) memory answers)) (le-leb _ _ h)

-- what a list that can be played gives, by the core's play
by_core : (r : Reading) (memory answers : List ℕ) → Playable r (length answers)
    → replayed r memory answers
    ≡ replay_gave (verdict_of r (length answers)) (core_played r memory answers).memory (core_played r memory answers).answers
by_core (listed calls) memory answers h =
    let room = sym (le-leb _ _ h) in
    let played = play on_core calls (fresh_state memory) in
    let size : length (core_numbers played) ≡ places_for calls = numbers_length calls (fresh_state memory) in
    let fits = sym (fitting (core_numbers played) answers (omega arith)) in
    is_played calls memory answers h
    ∙ by_the_core calls memory answers
    ∙ (λ j. replay_gave (cond (room j) (Ok (length calls)) (Err error.NoRoom)) played.1.memory (fits j))
by_core (no_call i) memory answers h = absurd h
by_core (no_stretch i) memory answers h = absurd h

-- and one that cannot
unchanged : (r : Reading) (memory answers : List ℕ) (why : ReplayError) → verdict_of r (length answers) ≡ Err why
    → replay_gave (Err why) memory answers ≡ replayed r memory answers
unchanged (listed calls) memory answers why e = by (leb (places_for calls) (length answers)) refl
  where
    by : (b : Bool) → leb (places_for calls) (length answers) ≡ b → replay_gave (Err why) memory answers ≡ replayed (listed calls) memory answers
    by true t =
        let f : Ok (length calls) ≡ Err why = ap (λ (b : Bool). cond b (Ok (length calls)) (Err error.NoRoom)) (sym t) ∙ e in
        let z : ◌≡◌ {A = ℕ} 0 1 = cc in
        absurd (omega arith)
    by false t =
        let same : Err error.NoRoom ≡ Err why = ap (λ (b : Bool). cond b (Ok (length calls)) (Err error.NoRoom)) (sym t) ∙ e in
        ap (λ (a : Result ℕ ReplayError). replay_gave a memory answers) (sym same)
        ∙ ap (λ (b : Bool). cond b (machine_replay calls memory answers) (replay_gave (Err error.NoRoom) memory answers)) (sym t)
unchanged (no_call i) memory answers why e = ap (λ (a : Result ℕ ReplayError). replay_gave a memory answers) (sym e)
unchanged (no_stretch i) memory answers why e = ap (λ (a : Result ℕ ReplayError). replay_gave a memory answers) (sym e)

-- what a replay gives back that found this verdict
module _ (r : Reading) (memory answers : List ℕ) (found : Result ℕ ReplayError) (e : found ≡ verdict_of r (length answers)) where
  pub as_played : (n : ℕ) (memory' answers' : List ℕ) → found ≡ Ok n → core_played r memory answers ≡ after_play memory' answers'
      → replay_gave (Ok n) memory' answers' ≡ replayed r memory answers
  as_played n memory' answers' p left =
      (λ j. replay_gave ((sym p ∙ e) j) (sym left j).memory (sym left j).answers)
      ∙ sym (by_core r memory answers (playable_when r (length answers) n (sym e ∙ p)))
