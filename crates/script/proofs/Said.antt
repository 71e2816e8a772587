-- Theorems of specs/Said.antt: the end of a line, then its decimals, then its words. Assumes nothing.
use mathlib.Core.Path.{◌≡◌, refl, ap, subst, ◌∙◌}
use mathlib.Core.Logic.{inl, inr}
use mathlib.Core.Bool.{Bool, true, false, cond, ◌&&◌}
use mathlib.Core.List.{List, [], ◌∷◌, ◌++◌}
use Prim.Native.Nat.{ℕ, zero, suc, ◌+◌, ◌-◌, ◌*◌, ◌≤◌}
use native.Mathlib.Omega.{arith}
use borrow.Author.Tests.{leb-true, le-leb, ltb-true, lt-ltb, eqb-true}
use lib.Dec.{eqb, leb, ltb}
use lib.ListN.{length, drop, replicate}
use Rattle.std.specs.Prelude.{Option, Some, None}
use Rattle.lines.specs.Lines.{space, after_spaces, ends, byte_at, number_at}
use Rattle.lines.specs.Theorems.{Writes}
use Rattle.lines.proofs.Grammar.{spaces_of, spaces_passed, Ending, to_ending, from_ending}
use Rattle.script.specs.Commands.{reset_word, load_word, end_word, step_word, view_word, run_word, listing_word, begins, says, is_digit, value_of, decimal_from, decimal_of, run_of, listing_of, listing_at, with_numbers, command_of}
use Rattle.script.specs.Script.{is_load, is_end}
use Rattle.script.specs.Said.{AllDigits, written, EndLine, DecimalLast, RunLine, ListingLine, RunExactly, ListingExactly, WordLine, WordsExactly, LoadExactly}
use Rattle.script.specs.declared.Command.{Command}
use Rattle.script.specs.declared.Command.TheVariants.{Blank, Reset, Load, End, Run, Step, View, Listing, Unknown}
use Rattle.script.proofs.Decimals.{digit_range, no_digit}

-- the end of a line
to_end : (t : List ℕ) → ends t ≡ true → EndLine t
to_end t e = let s = spaces_of t in (s.0, after_spaces t, to_ending (after_spaces t) e, s.1)

from_end : (k : ℕ) (rest : List ℕ) → Ending rest → ends (replicate k 32 ++ rest) ≡ true
from_end k rest e = rw (spaces_passed k rest) (from_ending rest e)

end_there : (t : List ℕ) → EndLine t → ends t ≡ true
end_there t (k, rest, ending, whole) = rw whole (from_end k rest ending)

-- a number that is read has 32 bits, and the line ends behind it
value_read : (n v : ℕ) (ended : Bool) → value_of n ended ≡ Some v → (n ≡ v) × (v ≤ 4294967295) × (ended ≡ true)
unfolding value_of
value_read n v ended = by (leb n 4294967295) refl ended where
  by : (p : Bool) → leb n 4294967295 ≡ p → (q : Bool) → cond (p && q) (Some n) None ≡ Some v
      → (n ≡ v) × (v ≤ 4294967295) × (q ≡ true)
  by true p true e = let s : n ≡ v = cc in (s, omega (arith, leb-true n 4294967295 p, s), refl)
  by true p false e = let z : ◌≡◌ {A = ℕ} 0 1 = cc in absurd (omega arith)
  by false p q e = let z : ◌≡◌ {A = ℕ} 0 1 = cc in absurd (omega arith)

value_there : (n : ℕ) → n ≤ 4294967295 → value_of n true ≡ Some n
unfolding value_of
value_there n h = rw (le-leb n 4294967295 h)

-- digits or none, behind those whose value is n, and the end of the line
record Rest (n : ℕ) (t : List ℕ) (v : ℕ) : Type 0 where
  digits : List ℕ
  end : List ℕ
  all : AllDigits digits
  value : written n digits ≡ v
  small : v ≤ 4294967295
  ending : EndLine end
  whole : t ≡ digits ++ end

over : (n v : ℕ) (t : List ℕ) → value_of n (ends t) ≡ Some v → Rest n t v
unfolding AllDigits written
over n v t e =
    let r = value_read n v (ends t) e in
    record { digits = []; end = t; all = tt; value = r.0; small = r.1; ending = to_end t r.2; whole = refl }

one_more : (n b v : ℕ) (t : List ℕ) → is_digit b ≡ true → Rest (n * 10 + (b - 48)) t v → Rest n (b ∷ t) v
unfolding AllDigits written
one_more n b v t d r =
    let h = digit_range b d in
    record {
      digits = b ∷ r.digits;
      end = r.end;
      all = (h.0, h.1, r.all);
      value = r.value;
      small = r.small;
      ending = r.ending;
      whole = ap (λ (l : List ℕ). b ∷ l) r.whole;
    }

digits_read : (n v : ℕ) (t : List ℕ) → decimal_from n t ≡ Some v → Rest n t v
unfolding decimal_from after_spaces
digits_read n v [] e = over n v [] e
digits_read n v (b ∷ t) e = by (is_digit b) refl e (digits_read (n * 10 + (b - 48)) v t) where
  by : (d : Bool) → is_digit b ≡ d → cond d (decimal_from (n * 10 + (b - 48)) t) (value_of n (ends (b ∷ t))) ≡ Some v
      → (decimal_from (n * 10 + (b - 48)) t ≡ Some v → Rest (n * 10 + (b - 48)) t v) → Rest n (b ∷ t) v
  by true d e ih = one_more n b v t d (ih e)
  by false d e ih = over n v (b ∷ t) e

decimal_read : (t : List ℕ) (v : ℕ) → decimal_of t ≡ Some v → DecimalLast t v
unfolding decimal_of decimal_from one_more
decimal_read [] v e = let q = no_digit [] refl in let z : ◌≡◌ {A = ℕ} 0 1 = cc in absurd (omega arith)
decimal_read (b ∷ t) v e = by (is_digit b) refl e where
  by : (d : Bool) → is_digit b ≡ d → cond d (decimal_from 0 (b ∷ t)) None ≡ Some v → DecimalLast (b ∷ t) v
  by true d e =
      let r = one_more 0 b v t d (digits_read (0 * 10 + (b - 48)) v t (rw d at e)) in
      record {
        digits = r.digits;
        end = r.end;
        some = omega arith;
        all = r.all;
        value = r.value;
        small = r.small;
        ending = r.ending;
        whole = r.whole;
      }
  by false d e = let z : ◌≡◌ {A = ℕ} 0 1 = cc in absurd (omega arith)

-- and back: no digit ends a line
no_more : (n k : ℕ) (rest : List ℕ) → Ending rest
    → decimal_from n (replicate k 32 ++ rest) ≡ value_of n (ends (replicate k 32 ++ rest))
unfolding decimal_from is_digit after_spaces
no_more n zero rest (inl e) = rw e
no_more n zero rest (inr e) = rw e.1
no_more n (suc k) rest e = refl

a_digit : (b : ℕ) → 48 ≤ b → b ≤ 57 → is_digit b ≡ true
unfolding is_digit
a_digit b h k = rw (le-leb 48 b h, le-leb b 57 k)

digits_there : (n v : ℕ) (digits end : List ℕ) → AllDigits digits → written n digits ≡ v → v ≤ 4294967295 → EndLine end
    → decimal_from n (digits ++ end) ≡ Some v
unfolding AllDigits written decimal_from
digits_there n v [] end all e h (k, rest, ending, whole) =
    rw (whole, no_more n k rest ending, from_end k rest ending, e) (value_there v h)
digits_there n v (b ∷ digits) end (l, m, all) e h t =
    rw (a_digit b l m) (digits_there (n * 10 + (b - 48)) v digits end all e h t)

decimal_there : (v : ℕ) (digits end : List ℕ) → 1 ≤ length digits → AllDigits digits → written 0 digits ≡ v → v ≤ 4294967295
    → EndLine end → decimal_of (digits ++ end) ≡ Some v
unfolding AllDigits decimal_of
decimal_there v [] end some all e h t = absurd (omega arith)
decimal_there v (b ∷ digits) end some all e h t =
    rw (a_digit b all.0 all.1) (digits_there 0 v (b ∷ digits) end all e h t)

decimal_back : (t : List ℕ) (v : ℕ) → DecimalLast t v → decimal_of t ≡ Some v
decimal_back t v r = rw r.whole (decimal_there v r.digits r.end r.some r.all r.value r.small r.ending)

-- a line that begins with a word is the word and the rest
begins_whole : (word line : List ℕ) → begins word line ≡ true → line ≡ word ++ drop (length word) line
unfolding begins
begins_whole [] line e = refl
begins_whole (w ∷ word) [] e = let z : ◌≡◌ {A = ℕ} 0 1 = cc in absurd (omega arith)
begins_whole (w ∷ word) (b ∷ line) e = by (eqb b w) refl e (begins_whole word line) where
  by : (v : Bool) → eqb b w ≡ v → cond v (begins word line) false ≡ true
      → (begins word line ≡ true → line ≡ word ++ drop (length word) line) → b ∷ line ≡ w ∷ (word ++ drop (length word) line)
  by true v e ih = ap (λ (x : ℕ). x ∷ line) (eqb-true b w v) ∙ ap (λ (l : List ℕ). w ∷ l) (ih e)
  by false v e ih = let z : ◌≡◌ {A = ℕ} 0 1 = cc in absurd (omega arith)

-- the four digits of an address, up to a byte that is a space
address_of_lem : (t : List ℕ) → byte_at t 4 ≡ 32
    → (address : List ℕ) × (length address ≡ 4) × (number_at address 0 ≡ number_at t 0) × (t ≡ address ++ (32 ∷ drop 5 t))
unfolding number_at
address_of_lem [] s = absurd (omega (arith, s))
address_of_lem (a ∷ []) s = absurd (omega (arith, s))
address_of_lem (a ∷ b ∷ []) s = absurd (omega (arith, s))
address_of_lem (a ∷ b ∷ c ∷ []) s = absurd (omega (arith, s))
address_of_lem (a ∷ b ∷ c ∷ d ∷ []) s = absurd (omega (arith, s))
address_of_lem (a ∷ b ∷ c ∷ d ∷ e ∷ t) s = (a ∷ b ∷ c ∷ d ∷ [], refl, refl, ap (λ (x : ℕ). a ∷ b ∷ c ∷ d ∷ x ∷ t) s)

-- how a line is written that says a command
abbrev Told : List ℕ → Command → Type 0
Told line Blank = EndLine line
Told line Reset = WordLine (114 ∷ 101 ∷ 115 ∷ 101 ∷ 116 ∷ []) line
Told line Load = WordLine (108 ∷ 111 ∷ 97 ∷ 100 ∷ []) line
Told line End = WordLine (101 ∷ 110 ∷ 100 ∷ []) line
Told line (Run b) = RunLine line b
Told line Step = WordLine (115 ∷ 116 ∷ 101 ∷ 112 ∷ []) line
Told line View = WordLine (118 ∷ 105 ∷ 101 ∷ 119 ∷ []) line
Told line (Listing first count) = ListingLine line first count
Told line Unknown = Unit

run_told : (line text : List ℕ) (d : Option ℕ) → decimal_of text ≡ d → line ≡ run_word ++ text → Told line (run_of d)
run_told line text (Some v) e w = record { text = text; number = decimal_read text v e; whole = w }
run_told line text None e w = tt

listing_told : (line t : List ℕ) (d : Option ℕ) → decimal_of (drop 5 t) ≡ d → line ≡ listing_word ++ t
    → Told line (listing_of (number_at t 0) (byte_at t 4) d)
listing_told line t None e w = tt
listing_told line t (Some count) e w = by (ltb (number_at t 0) 65536) refl (eqb (byte_at t 4) space) refl where
  by : (p : Bool) → ltb (number_at t 0) 65536 ≡ p → (q : Bool) → eqb (byte_at t 4) space ≡ q
      → Told line (cond (p && q) (Listing (number_at t 0) count) Unknown)
  by true p true q =
      let a = address_of_lem t (eqb-true (byte_at t 4) space q) in
      record {
        address = a.0;
        text = drop 5 t;
        writes = (a.1, a.2, ltb-true (number_at t 0) 65536 p);
        number = decimal_read (drop 5 t) count e;
        whole = w ∙ ap (λ (l : List ℕ). listing_word ++ l) a.3;
      }
  by true p false q = tt
  by false p q r = tt

numbers_told : (line : List ℕ) → Told line (with_numbers line)
unfolding with_numbers listing_at
numbers_told line = by (begins run_word line) refl (begins listing_word line) refl where
  by : (p : Bool) → begins run_word line ≡ p → (q : Bool) → begins listing_word line ≡ q
      → Told line (cond p (run_of (decimal_of (drop 4 line))) (cond q (listing_at (drop 8 line)) Unknown))
  by true p q r = run_told line (drop 4 line) (decimal_of (drop 4 line)) refl (begins_whole run_word line p)
  by false p true q = listing_told line (drop 8 line) (decimal_of (drop 5 (drop 8 line))) refl (begins_whole listing_word line q)
  by false p false q = tt

word_told : (word line : List ℕ) → says word line ≡ true → WordLine word line
unfolding says
word_told word line = by (begins word line) refl where
  by : (p : Bool) → begins word line ≡ p → p && ends (drop (length word) line) ≡ true → WordLine word line
  by true p e = (drop (length word) line, to_end (drop (length word) line) e, begins_whole word line p)
  by false p e = let z : ◌≡◌ {A = ℕ} 0 1 = cc in absurd (omega arith)

when : (line : List ℕ) (c : Bool) (x y : Command) → (c ≡ true → Told line x) → Told line y → Told line (cond c x y)
when line true x y f t = f refl
when line false x y f t = t

told : (line : List ℕ) → Told line (command_of line)
unfolding command_of
told line =
    when line (ends line) Blank _ (to_end line)
    (when line (says reset_word line) Reset _ (word_told reset_word line)
    (when line (says load_word line) Load _ (word_told load_word line)
    (when line (says end_word line) End _ (word_told end_word line)
    (when line (says step_word line) Step _ (word_told step_word line)
    (when line (says view_word line) View _ (word_told view_word line) (numbers_told line))))))

reads : (line : List ℕ) (k : Command) → command_of line ≡ k → Told line k
reads line k e = subst (Told line) e (told line)

-- and back: the bytes of a word decide
listing_there : (address text : List ℕ) (first count : ℕ) → Writes address first → decimal_of text ≡ Some count
    → listing_at (address ++ (32 ∷ text)) ≡ Listing first count
unfolding listing_at number_at
listing_there [] text first count w e = absurd (omega (arith, w.0))
listing_there (a ∷ []) text first count w e = absurd (omega (arith, w.0))
listing_there (a ∷ b ∷ []) text first count w e = absurd (omega (arith, w.0))
listing_there (a ∷ b ∷ c ∷ []) text first count w e = absurd (omega (arith, w.0))
listing_there (a ∷ b ∷ c ∷ d ∷ []) text first count w e = rw (e, w.1, lt-ltb first 65536 w.2)
listing_there (a ∷ b ∷ c ∷ d ∷ x ∷ more) text first count w e = absurd (omega (arith, w.0))

pub run_exactly : RunExactly
unfolding command_of with_numbers says begins after_spaces
run_exactly line b = (
  reads line (Run b),
  λ r. rw (r.whole, decimal_back r.text b r.number),
)

pub listing_exactly : ListingExactly
unfolding command_of with_numbers says begins after_spaces
listing_exactly line first count = (
  reads line (Listing first count),
  λ r. rw r.whole (listing_there r.address r.text first count r.writes (decimal_back r.text count r.number)),
)

pub words_exactly : WordsExactly
unfolding command_of says begins after_spaces
words_exactly line = (
  (reads line Blank, λ t. rw (end_there line t)),
  (reads line Reset, λ w. rw (w.2, end_there w.0 w.1)),
  (reads line Load, λ w. rw (w.2, end_there w.0 w.1)),
  (reads line End, λ w. rw (w.2, end_there w.0 w.1)),
  (reads line Step, λ w. rw (w.2, end_there w.0 w.1)),
  (reads line View, λ w. rw (w.2, end_there w.0 w.1)),
)

pub load_exactly : LoadExactly
load_exactly command = ((opens command, λ e. rw e), (closes command, λ e. rw e)) where
  opens : (k : Command) → is_load k ≡ true → k ≡ Load
  opens Load e = refl
  opens Blank e = cc
  opens Reset e = cc
  opens End e = cc
  opens (Run b) e = cc
  opens Step e = cc
  opens View e = cc
  opens (Listing first count) e = cc
  opens Unknown e = cc

  closes : (k : Command) → is_end k ≡ true → k ≡ End
  closes End e = refl
  closes Blank e = cc
  closes Reset e = cc
  closes Load e = cc
  closes (Run b) e = cc
  closes Step e = cc
  closes View e = cc
  closes (Listing first count) e = cc
  closes Unknown e = cc
