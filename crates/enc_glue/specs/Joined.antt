-- What may stand in front of units, between them and behind them: a sequence part, zero bytes, an end code.
use Rattle.std.specs.Prelude.{◌≡◌, ◌≤◌, ℕ, ◌+◌, ◌==◌, true, List, [], ◌∷◌, ◌++◌, length, reverse, Option, None, Ok, ⊤}
use Rattle.std.specs.List.{concat, list_all}
use Rattle.mv_bits.specs.Elements.{cut}
use Rattle.mv_bits.specs.StartCodes.{are_prefix}
use Rattle.mv_bits.specs.Zeros.{zero_bytes}
use Rattle.mv_terms.specs.declared.head.Context.{Context}
use Rattle.mv_terms.specs.UnitLists.{UnitLists, part_limit}
use Rattle.mv_heads.specs.declared.picture.InForce.{InForce}
use Rattle.mv_heads.specs.declared.picture.PictureHead.{PictureHead}
use Rattle.mv_heads.specs.HeadElements.{context_of, picture_of}
use Rattle.mv_heads.specs.WrittenLaws.{IsPrefixWithout}
use Rattle.mv_units.specs.declared.next.Before.{Before}
use Rattle.mv_units.specs.declared.next.Before.TheVariants as before
use Rattle.mv_units.specs.Shape.{IsUnit, IsUnitPrefix, IsUnitHead}
use Rattle.mv_units.specs.Units.{units_in}
use Rattle.mv_units.specs.Written.{end_bytes, unit_bytes}

-- a unit with these bytes in front of its prefix
abbrev pub behind_glue : List ℕ → UnitLists → UnitLists
behind_glue glue u = record u { prefix = glue ++ u.prefix }

-- a unit with so many zero bytes more behind its slices
abbrev pub with_zeros : ℕ → UnitLists → UnitLists
with_zeros n u = record u { zeros = u.zeros + n }

-- a unit with an end code behind it, and so many zero bytes behind that, or with none
abbrev pub with_end : Option ℕ → UnitLists → UnitLists
with_end end u = record u { end = end }

-- what stands before the next unit, behind units, the latest first
abbrev pub before_next : List UnitLists → Before
before_next [] = before.Stream
before_next (u ∷ units) = before.Unit

-- Units that are written one behind the other, the latest first. There is no end code yet.
unfoldable pub AreOpen : List UnitLists → Type 0
AreOpen [] = ⊤
AreOpen (u ∷ units) = IsUnit (before_next units) u × (u.end ≡ None) × AreOpen units

-- their bytes
unfoldable pub written : List UnitLists → List ℕ
written [] = []
written (u ∷ units) = written units ++ unit_bytes u

-- ---- the parts of a unit

-- LAWS: a sequence part in front of a prefix that has none is a prefix, and takes the zero bytes in front of that;
abbrev pub GluedIsPrefix : Type 0
GluedIsPrefix = (begin : Before) (context : Context) (part prefix : List ℕ) →
    context_of (cut part) ≡ Ok context → IsPrefixWithout prefix →
    length part + length prefix ≤ part_limit → IsUnitPrefix begin (part ++ prefix)

-- a prefix goes on behind the zero bytes in front of it, which belong to the unit before;
abbrev pub ZerosAreInFront : Type 0
ZerosAreInFront = (prefix : List ℕ) → list_all (λ b. b == 0) (cut prefix).front ≡ true →
    are_prefix (cut prefix).elements ≡ true → length prefix ≤ part_limit →
    let own = concat (cut prefix).elements in
    (prefix ≡ zero_bytes (length (cut prefix).front) ++ own) × IsUnitPrefix before.Unit own

-- what reads as a head is one;
abbrev pub HeadIsHead : Type 0
HeadIsHead = (context : Context) (in_force : InForce) (picture : PictureHead) (head : List ℕ) →
    picture_of context in_force (cut head) ≡ Ok picture → length head ≤ part_limit →
    IsUnitHead head

-- ---- units

-- LAWS: the bytes of a unit behind a glue are those of the glue, and then its own;
abbrev pub GlueIsInFront : Type 0
GlueIsInFront = (part : List ℕ) (u : UnitLists) →
    unit_bytes (behind_glue part u) ≡ part ++ unit_bytes u

-- zero bytes behind a unit without an end code are its own, those too that stand in front of the next prefix;
abbrev pub UnitWithZeros : Type 0
UnitWithZeros = (begin : Before) (n : ℕ) (u : UnitLists) → IsUnit begin u → u.end ≡ None →
    IsUnit begin (with_zeros n u) × (unit_bytes (with_zeros n u) ≡ unit_bytes u ++ zero_bytes n)

-- and what was written unit by unit, with an end code behind it or none, is cut into these units.
abbrev pub WrittenIsCut : Type 0
WrittenIsCut = (room : ℕ) (end : Option ℕ) (u : UnitLists) (units : List UnitLists) →
    AreOpen (u ∷ units) → length (written (u ∷ units) ++ end_bytes end) ≤ room →
    units_in room (written (u ∷ units) ++ end_bytes end)
    ≡ record { units = reverse (with_end end u ∷ units); refusal = None }
