-- Parts of a picture as rows in its list of samples.
use Rattle.std.proofs.Common.{◌≡◌, ◌≢◌, ◌∙◌, ◌≤◌, ◌⊎◌, inl, inr, ℕ, ◌+◌, ◌*◌, ◌<◌, List, length, set, arith, refl, sym, ap, get_or-set_same, get_or-set_other, length-set}
use Rattle.std.specs.Prelude.{slice_index}
use Rattle.std.proofs.lemmas.Nat.{same_from_place}
use Rattle.std.proofs.lemmas.Bool.{cases_eq}
use Rattle.std.proofs.Math.Nat.{mul-le-mul_right}
use Rattle.mv_planes.specs.declared.part.Part.{Part}
use Rattle.mv_planes.specs.Planes.{Planes, width_of, place_of}
use Rattle.mv_planes.specs.Parts.{column, line, PartInside, HasBlock, WritesBlock}
use Rattle.mv_planes.specs.Steps.{HasRows}
use Rattle.mv_planes.proofs.Places.{place_in_part, same_place}

pub rows_none : (s : List ℕ) (at stride : ℕ) (block : List ℕ) → HasRows s s at stride block 0
rows_none s at stride block = record { size = refl; written = λ row col r c lt. absurd (omega (arith, lt)); others = λ i apart. refl }

-- a row ends before the last one does
row_inside : (at stride row col long : ℕ) → row < 8 → col < 8 → at + 7 * stride + 7 < long → at + row * stride + col < long
row_inside at stride row col long r c inside =
    let least : row * stride ≤ 7 * stride = mul-le-mul_right stride (omega (arith, r)) in
    omega (arith, least, c, inside)

-- two places of a block are one only if they are one in the block
own_place : (at stride r c row col : ℕ) → 8 ≤ stride → c < 8 → col < 8 → at + r * stride + c ≡ at + row * stride + col → (r ≡ row) × (c ≡ col)
own_place at stride r c row col apart hc hcol e = same_from_place r c row col stride (omega (arith, apart, hc)) (omega (arith, apart, hcol)) (omega (arith, e))

-- one sample more
pub rows_more : (old s : List ℕ) (at stride : ℕ) (block : List ℕ) (row col v : ℕ) → 8 ≤ stride → row < 8 → col < 8 → at + 7 * stride + 7 < length old
    → v ≡ slice_index block (8 * row + col) → HasRows old s at stride block (8 * row + col) → HasRows old (set s (at + row * stride + col) v) at stride block (8 * row + (col + 1))
rows_more old s at stride block row col v apart hr hc inside is before = record {
  size = length-set s (at + row * stride + col) v ∙ before.size;
  written = λ r c lr lc lt. by r c lr lc lt (cases_eq (8 * r + c) (8 * row + col));
  others = λ i none. get_or-set_other s (at + row * stride + col) i v 0 (none row col hr hc) ∙ before.others i none;
}
  where
    long : at + row * stride + col < length s
    long = row_inside at stride row col (length s) hr hc (rw before.size inside)

    by : (r c : ℕ) → r < 8 → c < 8 → 8 * r + c < 8 * row + (col + 1) → (8 * r + c ≡ 8 * row + col) ⊎ (8 * r + c ≢ 8 * row + col)
        → slice_index (set s (at + row * stride + col) v) (at + r * stride + c) ≡ slice_index block (8 * r + c)
    by r c lr lc lt (inl e) =
        let same_row : r ≡ row = omega (arith, e, hc, lc) in
        let same_column : c ≡ col = omega (arith, e, hc, lc) in
        rw (same_row, same_column) (get_or-set_same s (at + row * stride + col) v 0 long ∙ is)
    by r c lr lc lt (inr ne) =
        let other : at + r * stride + c ≢ at + row * stride + col = λ e. ne (let o = own_place at stride r c row col apart lc hc e in omega (arith, o.0, o.1)) in
        get_or-set_other s (at + row * stride + col) (at + r * stride + c) v 0 other ∙ before.written r c lr lc (omega (arith, lt, ne))

-- the place of a sample of a part
part_place : (f : Planes) (part : Part) (at stride row col : ℕ) → at ≡ place_of f part.plane part.x part.y → stride ≡ part.step * width_of f part.plane
    → place_of f part.plane (column part col) (line part row) ≡ at + row * stride + col
part_place f part at stride row col a s = rw (a, s) (place_in_part f part.plane part.x part.y part.step row col)

-- the rows of a part lie apart
pub rows_apart : (f : Planes) (part : Part) (stride : ℕ) → 0 < part.step → PartInside f part → stride ≡ part.step * width_of f part.plane → 8 ≤ stride
rows_apart f part stride some inside s =
    let wide : part.x + 7 < width_of f part.plane = (inside 0 7 (omega arith) (omega arith)).0 in
    let least : 1 * width_of f part.plane ≤ part.step * width_of f part.plane = mul-le-mul_right (width_of f part.plane) some in
    omega (arith, wide, least, s)

-- the rows that are read are the block of the part
pub block_is_read : (f : Planes) (part : Part) (at stride : ℕ) (samples block : List ℕ) → samples ≡ f.samples → at ≡ place_of f part.plane part.x part.y → stride ≡ part.step * width_of f part.plane
    → ((row col : ℕ) → row < 8 → col < 8 → slice_index block (8 * row + col) ≡ slice_index samples (at + row * stride + col)) → HasBlock f part block
block_is_read f part at stride samples block same a s h row col r c =
    ap (λ (i : ℕ). slice_index f.samples i) (part_place f part at stride row col a s)
    ∙ ap (λ (l : List ℕ). slice_index l (at + row * stride + col)) (sym same)
    ∙ sym (h row col r c)

-- the rows that are written are the block of the part
pub block_is_written : (f : Planes) (part : Part) (at stride : ℕ) (s block : List ℕ) → PartInside f part → at ≡ place_of f part.plane part.x part.y → stride ≡ part.step * width_of f part.plane
    → HasRows f.samples s at stride block 64 → WritesBlock f (record f { samples = s }) part block
block_is_written f part at stride s block inside a e rows = record {
  size = record { wide = refl; high = refl; count = rows.size };
  written = λ row col r c. ap (λ (i : ℕ). slice_index s i) (part_place f part at stride row col a e) ∙ rows.written row col r c (omega arith);
  others = λ p x y here outside. rows.others (place_of f p x y) (λ row col r c same.
      outside row col r c (same_place f part.plane p (column part col) (line part row) x y (inside row col r c) here (part_place f part at stride row col a e ∙ sym same)));
}
