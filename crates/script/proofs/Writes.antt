-- The calls of a script written one after the other; and what reading a script gives, by its verdict. Assumes nothing.
use mathlib.Core.Path.{◌≡◌, refl, sym, ap, subst, ◌∙◌}
use mathlib.Core.List.{List, [], ◌∷◌, ◌++◌}
use Prim.Native.Nat.{ℕ, ◌+◌, ◌*◌, ◌≤◌}
use native.Mathlib.Omega.{arith}
use lib.ListN.{length, drop}
use lib.Seq.{sets, sets-eq, length-sets}
use Rattle.script.specs.Script.{Call, call, Script, calls, unreadable, followed, at_end, script_of, numbers_of}
use Rattle.script.specs.ScriptParts.{script_at, calls_in, put, Fits, calls_written}
use Rattle.script.specs.declared.Place.{Place}
use Rattle.script.specs.declared.Place.TheVariants.{Outside, Inside}
use Rattle.script.specs.declared.LineStart.{LineStart}
use Rattle.script.specs.declared.Meaning.{Meaning}
use Rattle.script.specs.declared.Meaning.TheVariants as meaning

pub not_calls : {number : ℕ} {cs : List Call} → unreadable number ≡ calls cs → ⊥
not_calls e = let z : ◌≡◌ {A = ℕ} 0 1 = cc in omega arith

pub numbers_length : (cs : List Call) → length (numbers_of cs) ≡ 3 * length cs
unfolding numbers_of
numbers_length [] = refl
numbers_length (call kind first second ∷ rest) = let more = numbers_length rest in omega arith

-- the calls of a script are its numbers stored from the first place on
all_stored : (cs : List Call) (old : List ℕ) → 3 * length cs ≤ length old → numbers_of cs ++ drop (3 * length cs) old ≡ sets old 0 (numbers_of cs)
all_stored cs old h =
    let size = numbers_length cs in
    let start : 0 + length (numbers_of cs) ≡ 3 * length cs = omega arith in
    sym (sets-eq (numbers_of cs) old 0 (omega arith) ∙ ap (λ (n : ℕ). numbers_of cs ++ drop n old) start)

-- writing under way: the calls left, stored from the place reached, give what all give
pub record Reached (text old : List ℕ) (start : LineStart) (to : ℕ) (list : List ℕ) : Type 0 where
  pub left : List Call
  pub reads : script_at text start ≡ calls left
  pub room : to + 3 * length left ≤ length list
  pub same : length list ≡ length old
  pub gives : calls_written (script_of text) old ≡ sets list to (numbers_of left)

abbrev first_start : LineStart
first_start = record { at = 0; number = 1; place = Outside }

pub starts : (text old : List ℕ) → Fits (script_of text) (length old) → Reached text old first_start 0 old
unfolding script_of
starts text old = by (script_of text) refl where
  by : (x : Script) → script_of text ≡ x → Fits x (length old) → Reached text old first_start 0 old
  by (calls cs) e h =
      record { left = cs; reads = e; room = omega arith; same = refl; gives = ap (λ (x : Script). calls_written x old) e ∙ all_stored cs old h }
  by (unreadable number) e h = absurd h

module _ {text old : List ℕ} {start : LineStart} {to : ℕ} {list : List ℕ} (r : Reached text old start to list) where
  -- a line more
  pub goes_on_lem : (m : Meaning) (number : ℕ) {next : LineStart} → script_at text start ≡ followed m number (script_at text next)
      → (to + 3 * calls_in m ≤ length list) × Reached text old next (to + 3 * calls_in m) (put m to list)
  unfolding numbers_of
  goes_on_lem m number {next} e = by m (script_at text next) refl (sym e ∙ r.reads) where
    by : (m : Meaning) (rest : Script) → script_at text next ≡ rest → followed m number rest ≡ calls r.left
        → (to + 3 * calls_in m ≤ length list) × Reached text old next (to + 3 * calls_in m) (put m to list)
    by meaning.Nothing rest q p = (
      omega (arith, r.room),
      record {
        left = r.left;
        reads = q ∙ p;
        room = omega (arith, r.room);
        same = r.same;
        gives = r.gives ∙ ap (λ (n : ℕ). sets list n (numbers_of r.left)) (omega arith);
      },
    )
    by (meaning.Call kind first second) (calls more) q p =
        let split : r.left ≡ call kind first second ∷ more = cc in
        let room : to + 3 * length (call kind first second ∷ more) ≤ length list = subst (λ (cs : List Call). to + 3 * length cs ≤ length list) split r.room in
        let size = length-sets list to (kind ∷ first ∷ second ∷ []) in (
          omega (arith, room),
          record {
            left = more;
            reads = q;
            room = omega (arith, room, size);
            same = size ∙ r.same;
            gives =
                r.gives
                ∙ ap (λ (cs : List Call). sets list to (numbers_of cs)) split
                ∙ ap (λ (n : ℕ). sets (sets list to (kind ∷ first ∷ second ∷ [])) n (numbers_of more)) (omega arith);
          },
        )
    by (meaning.Call kind first second) (unreadable k) q p = absurd (not_calls p)
    by meaning.Unreadable rest q p = absurd (not_calls p)

  pub ended : script_at text start ≡ at_end start.place → list ≡ calls_written (script_of text) old
  unfolding numbers_of
  ended e = by start.place (sym e ∙ r.reads) where
    by : (p : Place) → at_end p ≡ calls r.left → list ≡ calls_written (script_of text) old
    by Outside q = let none : r.left ≡ [] = cc in sym (r.gives ∙ ap (λ (cs : List Call). sets list to (numbers_of cs)) none)
    by (Inside n from) q = absurd (not_calls q)
