-- What the steps say of heads and of decisions in memory: nobody needs to believe it.
use Rattle.std.specs.Prelude.{◌≡◌, ◌≤◌, Bool, false, List, [], ◌∷◌, slice_index_or, FitsSigned}
use Rattle.std.specs.Int.{w16}
use Rattle.mv_terms.specs.declared.head.Head.{Head}
use Rattle.mv_terms.specs.declared.macroblock.Vector.{Vector}
use Rattle.mv_terms.specs.Decisions.{still}
use Rattle.mv_vectors.specs.Vectors.{f_code}

-- the f_codes have at most four bits, used or not
pub record HasFewBits (head : Head) : Type 0 where
  pub forward_x : f_code head 0 0 ≤ 15
  pub forward_y : f_code head 0 1 ≤ 15
  pub backward_x : f_code head 1 0 ≤ 15
  pub backward_y : f_code head 1 1 ≤ 15

-- two of them, with components of 16 bits
abbrev pub AreTwoSelects : List Bool → Type 0
AreTwoSelects xs = xs ≡ slice_index_or xs 0 false ∷ slice_index_or xs 1 false ∷ []

pub record HasSmallComponents (v : Vector) : Type 0 where
  pub x : FitsSigned w16 v.x
  pub y : FitsSigned w16 v.y

pub record AreTwoVectors (vs : List Vector) : Type 0 where
  pub two : vs ≡ slice_index_or vs 0 still ∷ slice_index_or vs 1 still ∷ []
  pub first : HasSmallComponents (slice_index_or vs 0 still)
  pub second : HasSmallComponents (slice_index_or vs 1 still)
