-- What holds of every script that can be read: two statements, proved in proofs/Theorems.antt.
use Rattle.std.specs.Prelude.{◌≡◌, ◌⊎◌, List, [], ◌∷◌, ℕ, ◌+◌, ◌*◌, ◌≤◌, length}
use Rattle.script.specs.Script.{Call, call, calls, script_of}

-- a call takes four bytes or more, and an LF before the next (proved as `few_calls`)
abbrev pub FewCalls : Type 0
FewCalls = (text : List ℕ) (cs : List Call) → script_of text ≡ calls cs → 5 * length cs ≤ length text + 1

-- the numbers of one of the five calls, as `replay::replay` reads them: the stretch of a load lies in the text, a budget has 32 bits; or
-- those of a listing: an address has 16 bits, a count 32
abbrev pub IsCall : ℕ → Call → Type 0
IsCall size (call kind first second) =
    ((kind ≤ 4) ⊎ (kind ≡ 100)) × (kind ≡ 1 → (first ≤ second) × (second ≤ size)) × (kind ≡ 2 → first ≤ 4294967295)
    × (kind ≡ 100 → (first ≤ 65535) × (second ≤ 4294967295))

unfoldable pub AllCalls : ℕ → List Call → Type 0
AllCalls size [] = Unit
AllCalls size (c ∷ rest) = IsCall size c × AllCalls size rest

-- what is read as a call is one (proved as `each_is_call`)
abbrev pub EachIsCall : Type 0
EachIsCall = (text : List ℕ) (cs : List Call) → script_of text ≡ calls cs → AllCalls (length text) cs
