-- A block in raster order, from its levels in the order of a scan (H.262, 7.3).
use Rattle.std.specs.Prelude.{ℕ, Bool, List, ℤ, map}
use Rattle.mv_terms.specs.Scans.{scan}

-- QF: a block in raster order, from its levels QFS in the order of the scan
abbrev pub in_raster : Bool → (ℕ → ℤ) → List ℤ
in_raster alternate level = map level (scan alternate)
