-- What a play is, and that what holds of each call holds of every list: five statements, proved in proofs/Plays.antt.
use Rattle.std.specs.Prelude.{◌≡◌, ◌↔◌, List, [], ◌∷◌, ◌++◌, map, ℕ}
use Rattle.plays.specs.Plays.{play, Each, counted}

-- no call changes nothing; one does what its player says; and of two lists, one behind the other, the second is played on what the first
-- left, with its answers behind (proved as `play_exactly`)
abbrev pub PlayExactly : Type 1
PlayExactly =
    (C S A : Type 0) (f : C → S → A × S) (first second : List C) (call : C) (s : S)
    → (play f [] s ≡ ([], s))
    × (play f (call ∷ []) s ≡ ((f call s).0 ∷ [], (f call s).1))
    × ((play f (first ++ second) s).0 ≡ (play f first s).0 ++ (play f second (play f first s).1).0)
    × ((play f (first ++ second) s).1 ≡ (play f second (play f first s).1).1)

-- `Each` says what it says of each call, on what the calls before it left, and no more (proved as `each_exactly`)
abbrev pub EachExactly : Type 1
EachExactly =
    (C S A : Type 0) (f : C → S → A × S) (Holds : C → S → Type 0) (calls : List C) (s : S)
    → Each f Holds calls s
    ↔ ((before : List C) (call : C) (rest : List C) → calls ≡ before ++ (call ∷ rest) → Holds call (play f before s).1)

-- two players of the same calls: where each call answers alike and keeps their states related, every list does (proved as `plays_agree`)
abbrev pub PlaysAgree : Type 1
PlaysAgree =
    (C S T A : Type 0) (f : C → S → A × S) (g : C → T → A × T) (Related : S → T → Type 0)
    → ((call : C) (s : S) (t : T) → Related s t → ((f call s).0 ≡ (g call t).0) × Related (f call s).1 (g call t).1)
    → (calls : List C) (s : S) (t : T) → Related s t
    → ((play f calls s).0 ≡ (play g calls t).0) × Related (play f calls s).1 (play g calls t).1

-- where each call does, on the state that it is played on, what `other call` does with the player g, the two lists do the same (proved as
-- `plays_same`)
abbrev pub PlaysSame : Type 1
PlaysSame =
    (C D S A : Type 0) (f : C → S → A × S) (g : D → S → A × S) (other : C → D) (calls : List C) (s : S)
    → Each f (λ call s. f call s ≡ g (other call) s) calls s → play f calls s ≡ play g (map other calls) s

-- where each answer, counted on from the state's size, gives the size of the next state, the answers of every list do (proved as
-- `plays_counted`)
abbrev pub PlaysCounted : Type 1
PlaysCounted =
    (C S A : Type 0) (f : C → S → A × S) (count : A → ℕ → ℕ) (size : S → ℕ)
    → ((call : C) (s : S) → count (f call s).0 (size s) ≡ size (f call s).1)
    → (calls : List C) (s : S) → counted count (play f calls s).0 (size s) ≡ size (play f calls s).1
