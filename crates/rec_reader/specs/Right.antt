-- Records that a picture can be coded by.
use Rattle.std.specs.Prelude.{◌≡◌, ℕ, List, Some}
use Rattle.mv_heads.specs.declared.sequence_header.CodedSize.{CodedSize}
use Rattle.rec_legal.specs.FoundRecord.{FoundRecord}
use Rattle.rec_legal.specs.Conditions.{IsSaid}
use Rattle.rec_legal.specs.Found.{found}

-- some slots and some sheet say this record, by which a picture of this size can be coded
abbrev pub IsRight : CodedSize → FoundRecord → Type 0
IsRight size r = (slots : List ℕ) × (sheet : List ℕ) × IsSaid size slots sheet r

-- LAW: each record that is found is such a one.
abbrev pub FoundIsRight : Type 0
FoundIsRight =
    (size : CodedSize) (frame : List ℕ) (r : FoundRecord)
    → found size frame ≡ Some r → IsRight size r
