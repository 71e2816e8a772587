-- Theorems of specs/Theorems.antt: by one induction over the lines. Assumes nothing.
use mathlib.Core.Path.{◌≡◌, refl, subst}
use mathlib.Core.Logic.{inl, inr}
use mathlib.Core.Bool.{Bool, true, false, cond, ◌&&◌}
use mathlib.Core.List.{List, [], ◌∷◌}
use Prim.Native.Nat.{ℕ, suc, ◌+◌, ◌*◌, ◌≤◌}
use native.Mathlib.Omega.{arith}
use borrow.Author.Tests.{ltb-true}
use lib.Dec.{eqb, ltb, lit≤}
use lib.ListN.{length, drop}
use Rattle.std.specs.Prelude.{Option, Some, None}
use Rattle.lines.specs.Lines.{line_feed, space, prepend, lines, ends, byte_at, number_at}
use Rattle.lines.specs.Theorems.{start_after}
use Rattle.script.specs.Commands.{reset_word, load_word, end_word, step_word, view_word, run_word, listing_word, begins, says, decimal_of, run_of, listing_of, listing_at, with_numbers, command_of}
use Rattle.script.specs.Script.{meaning_of, place_after, Call, call, Script, calls, unreadable, called, followed, at_end, script_from, script_of}
use Rattle.script.specs.Theorems.{FewCalls, IsCall, AllCalls, EachIsCall}
use Rattle.script.specs.declared.Command.{Command}
use Rattle.script.specs.declared.Command.TheVariants.{Blank, Reset, Load, End, Run, Step, View, Listing, Unknown}
use Rattle.script.specs.declared.Place.{Place}
use Rattle.script.specs.declared.Place.TheVariants.{Outside, Inside}
use Rattle.script.proofs.Words.{begins_length}
use Rattle.script.proofs.Decimals.{Small, decimal_small}
use Rattle.script.proofs.Writes.{not_calls}

-- how many bytes a command has at least, as far as is asked here
abbrev pub needed : Command → ℕ
needed Blank = 0
needed Reset = 4
needed Load = 4
needed End = 0
needed (Run b) = 4
needed Step = 4
needed View = 4
needed (Listing first count) = 4
needed Unknown = 0

-- a budget and a count have 32 bits, an address 16
abbrev pub Bounded : Command → Type 0
Bounded Blank = Unit
Bounded Reset = Unit
Bounded Load = Unit
Bounded End = Unit
Bounded (Run b) = b ≤ 4294967295
Bounded Step = Unit
Bounded View = Unit
Bounded (Listing first count) = (first ≤ 65535) × (count ≤ 4294967295)
Bounded Unknown = Unit

-- a command that a line of n bytes can say
pub record Fair (k : Command) (n : ℕ) : Type 0 where
  pub long : needed k ≤ n
  pub small : Bounded k

none : (n : ℕ) → Fair Unknown n
none n = record { long = omega arith; small = tt }

when : (b : Bool) {x y : Command} {n : ℕ} → (b ≡ true → Fair x n) → Fair y n → Fair (cond b x y) n
when true f g = f refl
when false f g = g

run_fair : (d : Option ℕ) {n : ℕ} → Small d → 4 ≤ n → Fair (run_of d) n
run_fair (Some v) s h = record { long = h; small = s }
run_fair None {n} s h = none n

says_length : (word line : List ℕ) → says word line ≡ true → length word ≤ length line
unfolding says
says_length word line = by (begins word line) refl where
  by : (b : Bool) → begins word line ≡ b → b && ends (drop (length word) line) ≡ true → length word ≤ length line
  by true e t = begins_length word line e
  by false e t = let z : ◌≡◌ {A = ℕ} 0 1 = cc in absurd (omega arith)

listing_fair : (first between : ℕ) (d : Option ℕ) {n : ℕ} → Small d → 4 ≤ n → Fair (listing_of first between d) n
listing_fair first between None {n} s h = none n
listing_fair first between (Some count) {n} s h = by (ltb first 65536) refl (eqb between space) where
  by : (p : Bool) → ltb first 65536 ≡ p → (q : Bool) → Fair (cond (p && q) (Listing first count) Unknown) n
  by true e true = record { long = h; small = (omega (arith, ltb-true first 65536 e), s) }
  by true e false = none n
  by false e q = none n

numbers_fair : (line : List ℕ) → Fair (with_numbers line) (length line)
unfolding with_numbers listing_at
numbers_fair line =
    when (begins run_word line) (λ e. run_fair (decimal_of (drop 4 line)) (decimal_small (drop 4 line)) (begins_length run_word line e))
    (when (begins listing_word line)
    (λ e. listing_fair (number_at (drop 8 line) 0) (byte_at (drop 8 line) 4) (decimal_of (drop 5 (drop 8 line))) (decimal_small (drop 5 (drop 8 line))) (omega (arith, begins_length listing_word line e)))
    (none (length line)))

pub command_fair : (line : List ℕ) → Fair (command_of line) (length line)
unfolding command_of
command_fair line =
    when (ends line) (λ e. record { long = omega arith; small = tt })
    (when (says reset_word line) (λ e. record { long = omega (arith, says_length reset_word line e); small = tt })
    (when (says load_word line) (λ e. record { long = says_length load_word line e; small = tt })
    (when (says end_word line) (λ e. record { long = omega arith; small = tt })
    (when (says step_word line) (λ e. record { long = says_length step_word line e; small = tt })
    (when (says view_word line) (λ e. record { long = says_length view_word line e; small = tt }) (numbers_fair line))))))

-- a load that is open starts before the place reached, and its own line has paid for its call
abbrev pub Before : Place → ℕ → Type 0
Before Outside start = Unit
Before (Inside number from) start = from ≤ start

abbrev paid : Place → ℕ
paid Outside = 0
paid (Inside number from) = 5

-- calls of lines with so many bytes
record Good (size bytes : ℕ) (cs : List Call) : Type 0 where
  few : 5 * length cs ≤ bytes
  each : AllCalls size cs

module _ (size : ℕ) where
  -- one of the five calls
  plain : (kind : ℕ) {first second : ℕ} → kind ≤ 4 → (kind ≡ 1 → (first ≤ second) × (second ≤ size)) → (kind ≡ 2 → first ≤ 4294967295)
      → IsCall size (call kind first second)
  plain kind h stretch budget = (inl h, stretch, budget, λ z. absurd (omega arith))

  at_end_lem : (place : Place) (cs : List Call) → at_end place ≡ calls cs → Good size (paid place) cs
  unfolding AllCalls
  at_end_lem Outside cs e = let none : [] ≡ cs = cc in subst (Good size 0) none (record { few = lit≤ tt; each = tt })
  at_end_lem (Inside number from) cs e = absurd (not_calls e)

  no_more : {cs : List Call} {t bytes : ℕ} → Good size t cs → t ≤ bytes → Good size bytes cs
  no_more g h = record { few = omega (arith, g.few, h); each = g.each }

  one_more : (c : Call) (x : Script) {cs : List Call} {t bytes : ℕ} → called c x ≡ calls cs → IsCall size c
      → ((more : List Call) → x ≡ calls more → Good size t more) → t + 5 ≤ bytes → Good size bytes cs
  unfolding AllCalls
  one_more c (calls more) {cs} {t} {bytes} e i g h =
      let split : c ∷ more ≡ cs = cc in
      let r = g more refl in
      subst (Good size bytes) split (record { few = omega (arith, r.few, h); each = (i, r.each) })
  one_more c (unreadable number) e i g h = absurd (not_calls e)

  -- one line of n bytes, with what holds of the lines behind it
  module _ (number start n t : ℕ) (after : Place → Script) (h : start ≤ size)
      (g : (p : Place) (cs : List Call) → after p ≡ calls cs → Before p (start + n + 1) → Good size (t + paid p) cs) where
    line_of : (k : Command) → Fair k n → (place : Place) → Before place start → (cs : List Call)
        → followed (meaning_of place k start) number (after (place_after place k number (start + n + 1))) ≡ calls cs
        → Good size (n + 1 + t + paid place) cs
    line_of Blank f Outside o cs e = no_more (g Outside cs e tt) (omega arith)
    line_of Reset f Outside o cs e =
        one_more (call 0 0 0) (after Outside) e (plain 0 (lit≤ tt) (λ z. absurd (omega (arith, z))) (λ z. absurd (omega (arith, z)))) (λ more q. g Outside more q tt) (omega (arith, f.long))
    line_of Load f Outside o cs e = no_more (g (Inside number (start + n + 1)) cs e (omega arith)) (omega (arith, f.long))
    line_of End f Outside o cs e = absurd (not_calls e)
    line_of (Run v) f Outside o cs e =
        one_more (call 2 v 0) (after Outside) e (plain 2 (lit≤ tt) (λ z. absurd (omega (arith, z))) (λ z. f.small)) (λ more q. g Outside more q tt) (omega (arith, f.long))
    line_of Step f Outside o cs e =
        one_more (call 3 0 0) (after Outside) e (plain 3 (lit≤ tt) (λ z. absurd (omega (arith, z))) (λ z. absurd (omega (arith, z)))) (λ more q. g Outside more q tt) (omega (arith, f.long))
    line_of View f Outside o cs e =
        one_more (call 4 0 0) (after Outside) e (plain 4 (lit≤ tt) (λ z. absurd (omega (arith, z))) (λ z. absurd (omega (arith, z)))) (λ more q. g Outside more q tt) (omega (arith, f.long))
    line_of (Listing first count) f Outside o cs e =
        one_more (call 100 first count) (after Outside) e (inr refl, λ z. absurd (omega (arith, z)), λ z. absurd (omega (arith, z)), λ z. f.small) (λ more q. g Outside more q tt) (omega (arith, f.long))
    line_of Unknown f Outside o cs e = absurd (not_calls e)
    line_of Blank f (Inside m from) o cs e = no_more (g (Inside m from) cs e (omega arith)) (omega arith)
    line_of Reset f (Inside m from) o cs e = no_more (g (Inside m from) cs e (omega arith)) (omega arith)
    line_of Load f (Inside m from) o cs e = no_more (g (Inside m from) cs e (omega arith)) (omega arith)
    line_of End f (Inside m from) o cs e =
        one_more (call 1 from start) (after Outside) e (plain 1 (lit≤ tt) (λ z. (o, h)) (λ z. absurd (omega (arith, z)))) (λ more q. g Outside more q tt) (omega arith)
    line_of (Run v) f (Inside m from) o cs e = no_more (g (Inside m from) cs e (omega arith)) (omega arith)
    line_of Step f (Inside m from) o cs e = no_more (g (Inside m from) cs e (omega arith)) (omega arith)
    line_of View f (Inside m from) o cs e = no_more (g (Inside m from) cs e (omega arith)) (omega arith)
    line_of (Listing first count) f (Inside m from) o cs e = no_more (g (Inside m from) cs e (omega arith)) (omega arith)
    line_of Unknown f (Inside m from) o cs e = no_more (g (Inside m from) cs e (omega arith)) (omega arith)

  all_lines : (ls : List (List ℕ)) (place : Place) (number start : ℕ) → start + start_after ls ≤ size + 1 → Before place start
      → (cs : List Call) → script_from place number start ls ≡ calls cs → Good size (start_after ls + paid place) cs
  unfolding script_from start_after
  all_lines [] place number start h o cs e = no_more (at_end_lem place cs e) (omega arith)
  all_lines (line ∷ rest) place number start h o cs e =
      let next = start + length line + 1 in
      line_of number start (length line) (start_after rest) (λ p. script_from p (number + 1) next rest) (omega arith)
      (λ p more q r. all_lines rest p (number + 1) next (omega arith) r more q) (command_of line) (command_fair line) place o cs e

-- the lines of a text have its bytes, and an LF more at most
pub lines_bytes : (t : List ℕ) → start_after (lines t) ≤ length t + 1
unfolding lines start_after
lines_bytes [] = lit≤ tt
lines_bytes (b ∷ t) = by (eqb b line_feed) (lines t) (lines_bytes t) where
  by : (v : Bool) (ls : List (List ℕ)) → start_after ls ≤ length t + 1 → start_after (cond v ([] ∷ ls) (prepend b ls)) ≤ suc (length t) + 1
  by true ls h = omega arith
  by false [] h = omega arith
  by false (line ∷ ls) h = omega arith

good : (text : List ℕ) (cs : List Call) → script_of text ≡ calls cs → Good (length text) (start_after (lines text) + 0) cs
unfolding script_of
good text cs e = all_lines (length text) (lines text) Outside 1 0 (omega (arith, lines_bytes text)) tt cs e

pub few_calls : FewCalls
few_calls text cs e = omega (arith, (good text cs e).few, lines_bytes text)

pub each_is_call : EachIsCall
each_is_call text cs e = (good text cs e).each
