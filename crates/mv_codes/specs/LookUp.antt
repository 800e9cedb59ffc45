-- Look-up tables of a list of codes: entries at the first bits that name the row of the list whose code begins them. A
-- short table has an entry for each eight bits; a long one for the words of `width` bits from `first` on.
use Rattle.std.specs.Prelude.{ℕ, zero, suc, ◌≡◌, ◌+◌, ◌-◌, ◌*◌, ◌/◌, ◌^◌, ◌<◌, ◌==◌, nat_le, nat_lt, Bool, true, false, ◌&&◌, ◌||◌, not, if◌then◌else◌, List, [], ◌∷◌, length, get_or, ◌⊎◌, slice_index}
use Rattle.std.specs.List.{list_all}
use Rattle.mv_bits.specs.Bits.{front}
use Rattle.mv_codes.specs.declared.code.Code.{Code}
use Rattle.mv_codes.specs.Tables.{Begins, NoneBegins}

-- the entry where no code begins the bits
abbrev pub no_row : ℕ
no_row = 255

-- the entry of a long table for these sixteen bits
unfoldable pub long_entry : ℕ → ℕ → List ℕ → ℕ → ℕ
long_entry width first long bits =
    let word = bits / 2 ^ (16 - width) in
    if nat_le first word && nat_lt (word - first) (length long)
    then slice_index long (word - first)
    else no_row

-- the entry of both tables: of the long one where the short one has none
unfoldable pub entry : List ℕ → ℕ → ℕ → List ℕ → ℕ → ℕ
entry short width first long bits =
    let row = slice_index short (bits / 256) in
    if row == no_row then long_entry width first long bits else row

-- THE LAW: whatever the bits, the entry at the first sixteen is the row of a code that begins them, or there is none and
-- no code of the list begins them.
abbrev pub LooksUp : {M : Type 0} → List (Code M) → List ℕ → ℕ → ℕ → List ℕ → Type 0
LooksUp {M} codes short width first long = (bits : List Bool) →
    ((c : Code M)
    × (entry short width first long (front 16 bits) < length codes)
    × (get_or codes (entry short width first long (front 16 bits)) c ≡ c)
    × Begins c bits)
    ⊎ ((entry short width first long (front 16 bits) ≡ no_row) × NoneBegins codes bits)

-- The test of tables that gives the law. The code has at most so many bits and begins the word of so many bits.
abbrev pub leads : {M : Type 0} → ℕ → ℕ → Code M → Bool
leads width word c = nat_le c.size width && (word / 2 ^ (width - c.size) == c.value)

-- the code in this row of the list begins the word
abbrev pub row_leads : {M : Type 0} → ℕ → ℕ → List (Code M) → ℕ → Bool
row_leads width word [] row = false
row_leads width word (c ∷ cs) zero = leads width word c
row_leads width word (c ∷ cs) (suc row) = row_leads width word cs row

-- the entry of a word is right: the row whose code begins it, or none where no code of at most so many bits does
abbrev pub is_row : {M : Type 0} → ℕ → List (Code M) → ℕ → ℕ → Bool
is_row width codes word row =
    row_leads width word codes row
    || ((row == no_row) && list_all (λ c. not (leads width word c)) codes)

-- the entries of the words from this one on are right
unfoldable pub are_rows : {M : Type 0} → ℕ → List (Code M) → ℕ → List ℕ → Bool
are_rows width codes word [] = true
are_rows width codes word (row ∷ rows) =
    is_row width codes word row && are_rows width codes (suc word) rows

-- the words that begin with the code are among so many from `first` on
abbrev pub has_words : {M : Type 0} → ℕ → ℕ → ℕ → Code M → Bool
has_words width first count c =
    nat_le c.size width && (nat_le first (c.value * 2 ^ (width - c.size))
    && nat_le (c.value * 2 ^ (width - c.size) + 2 ^ (width - c.size)) (first + count))

-- the tables find all codes: all entries of both are right, and each code that is too long for the short table has its
-- words in the long one
unfoldable pub find_all : {M : Type 0} → List (Code M) → List ℕ → ℕ → ℕ → List ℕ → Bool
find_all codes short width first long =
    nat_le width 16 && (are_rows 8 codes 0 short && (are_rows width codes first long
    && list_all (λ c. nat_le c.size 8 || has_words width first (length long) c) codes))
