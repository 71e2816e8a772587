-- What holds of every listing and memory, and that different answers are read differently: ten statements, proved in proofs/Theorems.antt,
-- proofs/Numbers.antt and proofs/Apart.antt.
use Rattle.std.specs.Prelude.{◌≡◌, ◌↔◌, ◌⊎◌, List, [], ◌∷◌, ℕ, ◌≤◌, ◌<◌, length, take, Result}
use Rattle.words.specs.Memory.{word_at}
use Rattle.lines.specs.Lines.{lines, read_line}
use Rattle.lines.specs.Theorems.{line_at, start_at}
use Rattle.lines.specs.declared.Line.TheVariants.{Entry, IllFormed}
use Rattle.listing.specs.Answers.{stored, refused, fault_number, store_answer}
use Rattle.listing.specs.Listing.{lowest_after, fault_of, words_in, listing_answer, listing_memory}
use Rattle.listing.specs.declared.Fault.{Fault}
use Rattle.listing.specs.declared.FaultAt.{FaultAt}

-- the lowest address that the line after some lines may say
unfoldable pub lowest_of : List (List ℕ) → ℕ → ℕ
lowest_of [] lowest = lowest
lowest_of (line ∷ rest) lowest = lowest_of rest (lowest_after (read_line line) lowest)

-- the number of line i's fault, 0 where it has none
abbrev pub fault_at : List ℕ → ℕ → ℕ → ℕ
fault_at listing L i = fault_of L (lowest_of (take i (lines listing)) 0) (read_line (line_at listing i))

-- line i says that a word goes to an address
abbrev pub Says : List ℕ → ℕ → ℕ → ℕ → Type 0
Says listing i address word = read_line (line_at listing i) ≡ Entry address word

-- 'the one before' line i: the address b of the last line before it that says one
abbrev pub Before : List ℕ → ℕ → ℕ → Type 0
Before listing i b =
    (j : ℕ) × (w : ℕ) × (j < i) × Says listing j b w × ((k a v : ℕ) → j < k → k < i → Says listing k a v → ⊥)

-- '2: line ill-formed. 3: address not above the one before. 4: address at or past L', 4 before 3; 0 is no fault, and there is no
-- other number (proved as `numbers`)
abbrev pub Numbers : Type 0
Numbers =
    (listing : List ℕ) (L i : ℕ)
    → ((fault_at listing L i ≡ 2) ↔ (read_line (line_at listing i) ≡ IllFormed))
    × ((fault_at listing L i ≡ 4) ↔ ((a : ℕ) × (w : ℕ) × Says listing i a w × (L ≤ a)))
    × ((fault_at listing L i ≡ 3) ↔ ((a : ℕ) × (w : ℕ) × (b : ℕ) × Says listing i a w × (a < L) × Before listing i b × (a ≤ b)))
    × ((fault_at listing L i ≡ 0) ⊎ (fault_at listing L i ≡ 2) ⊎ (fault_at listing L i ≡ 3) ⊎ (fault_at listing L i ≡ 4))

-- a listing is refused exactly where some line is faulty, with the number and the start of the first such line (proved as
-- `refused_exactly`)
abbrev pub RefusedExactly : Type 0
RefusedExactly =
    (listing : List ℕ) (L number start : ℕ)
    → (listing_answer listing L ≡ refused number start)
    ↔ ((i : ℕ) × (i < length (lines listing)) × (fault_at listing L i ≡ number) × (number ≡ 0 → ⊥) × (start_at listing i ≡ start)
    × ((j : ℕ) → j < i → fault_at listing L j ≡ 0))

-- and then 'changes nothing' (proved as `refused_unchanged`)
abbrev pub RefusedUnchanged : Type 0
RefusedUnchanged =
    (listing memory : List ℕ) (number start : ℕ)
    → listing_answer listing (length memory) ≡ refused number start
    → listing_memory listing memory ≡ memory

-- it is stored exactly where no line is faulty, and the answer is the number of its words (proved as `stored_exactly`)
abbrev pub StoredExactly : Type 0
StoredExactly =
    (listing : List ℕ) (L count : ℕ)
    → (listing_answer listing L ≡ stored count)
    ↔ (((i : ℕ) → i < length (lines listing) → fault_at listing L i ≡ 0) × (count ≡ words_in (lines listing)))

-- counted one by one: the words are at that many places among the lines, in order, and no other line has one (proved as
-- `count_exactly`)
abbrev pub CountExactly : Type 0
CountExactly =
    (listing : List ℕ) (L count : ℕ) → listing_answer listing L ≡ stored count
    → (place : ℕ → ℕ)
    × ((j k : ℕ) → j < k → k < count → place j < place k)
    × ((k : ℕ) → k < count → (a : ℕ) × (w : ℕ) × Says listing (place k) a w)
    × ((i a w : ℕ) → Says listing i a w → (k : ℕ) × (k < count) × (place k ≡ i))

-- which is at most the length of the memory, and at most 65,536 (proved as `stored_at_most`)
abbrev pub StoredAtMost : Type 0
StoredAtMost = (listing : List ℕ) (L count : ℕ) → listing_answer listing L ≡ stored count → (count ≤ L) × (count ≤ 65536)

-- of a listing that is stored, 'addresses strictly rise' and lie below L (proved as `rising`)
abbrev pub Rising : Type 0
Rising =
    (listing : List ℕ) (L count : ℕ) → listing_answer listing L ≡ stored count
    → ((i a w : ℕ) → Says listing i a w → a < L)
    × ((i j a b w v : ℕ) → i < j → Says listing i a w → Says listing j b v → a < b)

-- the words stored are those of its lines, and 'other words stay' (proved as `words_stored`)
abbrev pub WordsStored : Type 0
WordsStored =
    (listing memory : List ℕ) (count : ℕ) → listing_answer listing (length memory) ≡ stored count
    → (length (listing_memory listing memory) ≡ length memory)
    × ((i a w : ℕ) → Says listing i a w → word_at (listing_memory listing memory) a ≡ w)
    × ((x : ℕ) → ((i w : ℕ) → Says listing i x w → ⊥) → word_at (listing_memory listing memory) x ≡ word_at memory x)

-- a second store of the same listing changes nothing, and answers the same (proved as `stored_twice`)
abbrev pub StoredTwice : Type 0
StoredTwice =
    (listing memory : List ℕ)
    → (listing_memory listing (listing_memory listing memory) ≡ listing_memory listing memory)
    × (listing_answer listing (length (listing_memory listing memory)) ≡ listing_answer listing (length memory))

-- 'this paper's number and values for each of its cases': each fault has its own number, and different answers of a store are read
-- differently (proved as `faults_apart`)
abbrev pub FaultsApart : Type 0
FaultsApart =
    ((x y : Fault) → fault_number x ≡ fault_number y → x ≡ y)
    × ((x y : Result ℕ FaultAt) → store_answer x ≡ store_answer y → x ≡ y)
