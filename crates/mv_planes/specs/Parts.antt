-- Parts of a picture: eight by eight samples of a plane, read and written as a block of 64, row after row.
use Rattle.std.specs.Prelude.{◌≡◌, ℕ, ◌+◌, ◌*◌, ◌<◌, List, slice_index}
use Rattle.mv_planes.specs.declared.picture.Plane.{Plane}
use Rattle.mv_planes.specs.declared.part.Part.{Part}
use Rattle.mv_planes.specs.Planes.{Planes, sample_of, IsInside, SamePlace, SameSize}

-- where its columns and rows lie in the plane
abbrev pub column : Part → ℕ → ℕ
column part col = part.x + col

abbrev pub line : Part → ℕ → ℕ
line part row = part.y + row * part.step

-- all its samples lie in the plane
abbrev pub PartInside : Planes → Part → Type 0
PartInside f part = (row col : ℕ) → row < 8 → col < 8
    → IsInside f part.plane (column part col) (line part row)

-- its samples are those of a block
abbrev pub HasBlock : Planes → Part → List ℕ → Type 0
HasBlock f part block = (row col : ℕ) → row < 8 → col < 8
    → sample_of f part.plane (column part col) (line part row) ≡ slice_index block (8 * row + col)

-- a place is that of none of its samples
abbrev pub IsOutside : Part → Plane → ℕ → ℕ → Type 0
IsOutside part p x y = (row col : ℕ) → row < 8 → col < 8
    → SamePlace part.plane p (column part col) (line part row) x y → ⊥

-- picture g is picture f with the samples of a block in the part
pub record WritesBlock (f g : Planes) (part : Part) (block : List ℕ) : Type 0 where
  pub size : SameSize f g
  pub written : HasBlock g part block
  pub others : (p : Plane) (x y : ℕ) → IsInside f p x y → IsOutside part p x y
      → sample_of g p x y ≡ sample_of f p x y
