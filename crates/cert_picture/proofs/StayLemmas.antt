-- The levels of the macroblocks of a decoded picture.
use Rattle.std.proofs.Common.{◌≡◌, ◌∙◌, ℕ, zero, suc, ◌+◌, ◌*◌, ◌/◌, ◌%◌, ◌<◌, ◌^◌, Bool, true, false, List, [], ◌∷◌, length, get_or, ℤ, pos, ◌+ℤ◌, ◌≤ℤ◌, ◌<ℤ◌, refl, sym, ap, ap₂, subst, arith, All}
use Rattle.std.specs.Prelude.{◌↔◌, IsTrue}
use Rattle.std.proofs.lemmas.List.{get_or_default}
use Rattle.std.proofs.lemmas.List.Elements.{All-get_or}
use Rattle.std.proofs.lemmas.List.FromFn.{get_or-map-range_with_len}
use Rattle.std.proofs.lemmas.Nat.{mul-add-lt, div-mul-add, mod-mul-add}
use Rattle.mv_terms.specs.Block.{item, entry}
use Rattle.mv_terms.specs.CodedPicture.{CodedPicture, decision_at, levels_at}
use Rattle.mv_terms.specs.Decisions.{block, no_decision, no_blocks}
use Rattle.mv_terms.specs.Ranges.{IsLevel}
use Rattle.mv_terms.specs.declared.head.Head.{Head}
use Rattle.mv_terms.specs.declared.macroblock.Decision.{Decision}
use Rattle.mv_terms.specs.declared.macroblock.MacroLevels.{MacroLevels}
use Rattle.mv_planes.specs.declared.picture.Plane.{Plane}
use Rattle.mv_planes.specs.Planes.{Planes, sample_of, IsInside}
use Rattle.mv_planes.specs.declared.part.Part.{Part}
use Rattle.mv_planes.specs.Parts.{column, line}
use Rattle.mv_planes.specs.Layout.{plane_of, part_at, block_of, row_in_block, column_in_block, IsBlockOf, Owned}
use Rattle.mv_planes.specs.References.{References, references_lent}
use Rattle.mv_planes.specs.declared.coded.Coded.{Coded}
use Rattle.mv_planes.proofs.LayoutLaws.{owned, part_inside, plane_at, has_plane}
use Rattle.mv_macro.specs.Past.{dc_level}
use Rattle.mv_macro.specs.Legal.{HasCodedLevels, AreLegalLevels}
use Rattle.mv_predict.specs.Prediction.{predicted_at}
use Rattle.mv_predict.specs.Blocks.{HoldsPrediction}
use Rattle.mv_transform.specs.Transform.{forward_at}
use Rattle.mv_quant.specs.declared.Kind.{Kind}
use Rattle.mv_quant.specs.Macroblocks.{kind_of}
use Rattle.mv_quant.specs.Nearest.{nearest_level}
use Rattle.mv_recon.specs.Pictures.{residual_at, residual_of, clipped, picture_from, prediction_from}
use Rattle.mv_recon.proofs.PictureLemmas.{pictures_have_their_samples}
use Rattle.mv_recon.proofs.PredictionLemmas.{intra_is_zero}
use Rattle.mv_vectors.specs.Predictable.{CanBeReconstructed}
use Rattle.cert_requant.specs.Requantised.{block_part, difference_at, nearest_block, requantised_block, requantised_macroblock, requantised, requantised_at}
use Rattle.cert_requant.proofs.MadeLemmas.{in_block, macroblock_is, by_place, picture_is}
use Rattle.cert_requant.proofs.SampleLemmas.{predicted_sample}
use Rattle.cert_picture.specs.Certifying.{coded_lent}
use Rattle.cert_picture.specs.Steps.{sample_in, block_samples, predicted_in, IsDecodedFrom, IsFound, StaysFound, WasDecoded, HasByteReferences, MacroblockStays}
use Rattle.cert_picture.proofs.NearestLemmas.{found_like, from_like}

-- ---- the samples of a decoded picture

residual_here : (coded : CodedPicture) (p : Plane) (x y k b r c : ℕ) → Owned coded.head.mb_wide (decision_at coded k).field_dct p x y k b r c → residual_of coded p x y ≡ residual_at (kind_of coded.head (decision_at coded k)) (levels_at coded k b) r c
unfolding residual_of
residual_here coded p x y k b r c o =
    ap (λ (n : ℕ). residual_at (kind_of coded.head (decision_at coded n)) (levels_at coded n (block_of (decision_at coded n).field_dct p x y)) (row_in_block (decision_at coded n).field_dct p y) (column_in_block x)) o.macroblock
    ∙ ap (λ (n : ℕ). residual_at (kind_of coded.head (decision_at coded k)) (levels_at coded k n) (row_in_block (decision_at coded k).field_dct p y) (column_in_block x)) o.block
    ∙ ap (λ (n : ℕ). residual_at (kind_of coded.head (decision_at coded k)) (levels_at coded k b) n (column_in_block x)) o.row
    ∙ ap (residual_at (kind_of coded.head (decision_at coded k)) (levels_at coded k b) r) o.column

module _ (refs : References) (coded : CodedPicture) (f : Planes) (decoded : f ≡ picture_from refs coded) where
  pub has_width : f.mb_wide ≡ coded.head.mb_wide
  has_width = ap (λ (g : Planes). g.mb_wide) decoded ∙ (pictures_have_their_samples (prediction_from refs coded) coded).wide

  pub has_height : f.mb_high ≡ coded.head.mb_high
  has_height = ap (λ (g : Planes). g.mb_high) decoded ∙ (pictures_have_their_samples (prediction_from refs coded) coded).high

  module _ (p : Plane) (mb_x mb_y b : ℕ) (is : IsBlockOf p b) (across : mb_x < coded.head.mb_wide) (down : mb_y < coded.head.mb_high) where
    abbrev k : ℕ
    k = mb_y * coded.head.mb_wide + mb_x

    abbrev d : Decision
    d = decision_at coded k

    abbrev part : Part
    part = part_at d.field_dct p mb_x mb_y b

    plane_is : part.plane ≡ p
    plane_is = plane_at d.field_dct p mb_x mb_y b

    here : (y x : ℕ) → y < 8 → x < 8 → sample_of f p (column part x) (line part y) ≡ clipped (predicted_at coded.head d refs p (column part x) (line part y) +ℤ residual_at (kind_of coded.head d) (levels_at coded k b) y x)
    here y x hy hx =
        let o = owned coded.head.mb_wide d.field_dct p mb_x mb_y b y x is hy hx in
        let has = pictures_have_their_samples (prediction_from refs coded) coded in
        let g : Planes = picture_from refs coded in
        let inside : IsInside g part.plane (column part x) (line part y) = part_inside g d.field_dct p mb_x mb_y b is (rw has.wide across) (rw has.high down) y x hy hx in
        ap (λ (h : Planes). sample_of h p (column part x) (line part y)) decoded
        ∙ has.samples p (column part x) (line part y) (subst (λ (q : Plane). IsInside g q (column part x) (line part y)) plane_is inside)
        ∙ ap₂ (λ (a z : ℤ). clipped (a +ℤ z))
        (ap (λ (n : ℕ). predicted_at coded.head (decision_at coded n) refs p (column part x) (line part y)) o.macroblock)
        (residual_here coded p (column part x) (line part y) k b y x o)

    pub part_decoded : (y x : ℕ) → y < 8 → x < 8 → sample_in f part y x ≡ clipped (predicted_in coded.head d refs part y x +ℤ residual_at (kind_of coded.head d) (levels_at coded k b) y x)
    part_decoded y x hy hx = subst (λ (q : Plane). sample_of f q (column part x) (line part y) ≡ clipped (predicted_at coded.head d refs q (column part x) (line part y) +ℤ residual_at (kind_of coded.head d) (levels_at coded k b) y x)) (sym plane_is) (here y x hy hx)

-- ---- levels in their ranges

legal_at : (head : Head) (decisions : List Decision) (levels : List MacroLevels) → AreLegalLevels head decisions levels → (k : ℕ) → k < length decisions → HasCodedLevels head (get_or decisions k no_decision).intra (get_or levels k no_blocks)
unfolding AreLegalLevels
legal_at head [] levels h k lt = absurd (omega (arith, lt))
legal_at head (d ∷ decisions) [] h k lt = absurd h
legal_at head (d ∷ decisions) (l ∷ levels) h zero lt = h.0
legal_at head (d ∷ decisions) (l ∷ levels) h (suc k) lt = legal_at head decisions levels h.1 k (omega (arith, lt))

abbrev IsDcOf : ℕ → ℤ → Type 0
IsDcOf precision level = (pos 0 ≤ℤ level) × (level <ℤ pos (2 ^ (8 + precision)))

module _ (head : Head) (intra : Bool) (levels : MacroLevels) (coded : HasCodedLevels head intra levels) (b : ℕ) (h : b < 6) where
  block_in : b < length levels.blocks
  block_in = let six = coded.six in omega (arith, six, h)

  pub block_long : length (block levels b) ≡ 64
  block_long = All-get_or (λ (l : List ℤ). length l ≡ 64) levels.blocks b [] block_in coded.whole

  pub block_legal : (k : ℕ) → k < 64 → IsLevel (item (block levels b) k)
  block_legal k lt = All-get_or IsLevel (block levels b) k (pos 0) (let long = block_long in omega (arith, long, lt)) (All-get_or (λ (l : List ℤ). All IsLevel l) levels.blocks b [] block_in coded.each)

  pub block_dc : intra ≡ true → IsDcOf head.dc_precision (item (block levels b) 0)
  block_dc i = All-get_or (λ (l : List ℤ). IsDcOf head.dc_precision (dc_level l)) levels.blocks b [] block_in (coded.dc i)

-- ---- a macroblock

module _ (head : Head) (d : Decision) (source : Planes) (refs : References) (mb_x mb_y : ℕ) (levels : MacroLevels) (six : length levels.blocks ≡ 6) (whole : (b : ℕ) → b < 6 → length (block levels b) ≡ 64) where
  abbrev AllFound : Type 0
  AllFound = (b : ℕ) → b < 6 → IsFound (kind_of head d) (block levels b) (predicted_in head d refs (block_part d mb_x mb_y b)) (block_samples source d.field_dct mb_x mb_y b)

  pub found_levels : AllFound → requantised_macroblock head d source refs mb_x mb_y ≡ levels
  found_levels found = sym (macroblock_is head d source refs mb_x mb_y 6 levels.blocks (omega arith) (record {
    long = six;
    made = λ b h. in_block (kind_of head d) (difference_at head d source refs (block_part d mb_x mb_y b)) (block levels b) (whole b h) (λ v u p q. sym (found b h v u p q));
  }))

nearest_at : (kind : Kind) (f : ℕ → ℕ → ℤ) (v u : ℕ) → v < 8 → u < 8 → entry (nearest_block kind f) v u ≡ nearest_level kind v u (forward_at f v u)
unfolding nearest_block
nearest_at kind f v u hv hu =
    let row : (8 * v + u) / 8 ≡ v = omega arith in
    let col : (8 * v + u) % 8 ≡ u = omega arith in
    get_or-map-range_with_len (λ k. nearest_level kind (k / 8) (k % 8) (forward_at f (k / 8) (k % 8))) 0 64 (8 * v + u) (8 * v + u) (pos 0) (omega arith) (omega arith)
    ∙ ap₂ (λ (a b : ℕ). nearest_level kind a b (forward_at f a b)) row col

block_at : (head : Head) (d : Decision) (source : Planes) (refs : References) (mb_x mb_y b : ℕ) → b < 6 → block (requantised_macroblock head d source refs mb_x mb_y) b ≡ requantised_block head d source refs mb_x mb_y b
unfolding requantised_macroblock
block_at head d source refs mb_x mb_y b h = get_or-map-range_with_len (requantised_block head d source refs mb_x mb_y) 0 6 b b [] h (omega arith)

levels_found : (head : Head) (d : Decision) (source : Planes) (refs : References) (mb_x mb_y : ℕ) (levels : MacroLevels) → requantised_macroblock head d source refs mb_x mb_y ≡ levels
    → (b : ℕ) → b < 6 → IsFound (kind_of head d) (block levels b) (predicted_in head d refs (block_part d mb_x mb_y b)) (block_samples source d.field_dct mb_x mb_y b)
levels_found head d source refs mb_x mb_y levels same b h v u hv hu =
    sym (nearest_at (kind_of head d) (difference_at head d source refs (block_part d mb_x mb_y b)) v u hv hu)
    ∙ ap (λ (l : List ℤ). entry l v u) (sym (block_at head d source refs mb_x mb_y b h) ∙ ap (λ (m : MacroLevels). block m b) same)

-- ---- a macroblock of the picture

module _ (coded : Coded) (was : WasDecoded coded) (bytes : HasByteReferences coded) (mb_x mb_y : ℕ) (across : mb_x < coded.head.now.mb_wide) (down : mb_y < coded.head.now.mb_high) where
  abbrev head : Head
  head = coded.head.now

  abbrev refs : References
  refs = references_lent coded.refs

  abbrev place : ℕ
  place = mb_y * head.mb_wide + mb_x

  abbrev decision : Decision
  decision = decision_at (coded_lent coded) place

  abbrev levels : MacroLevels
  levels = get_or coded.levels.now place no_blocks

  place_in : place < head.mb_wide * head.mb_high
  place_in = mul-add-lt mb_y head.mb_wide mb_x head.mb_high down across

  pub in_decisions : place < length coded.decisions.now
  in_decisions = let size = was.macroblocks.decisions in let lt = place_in in omega (arith, size, lt)

  pub in_levels : place < length coded.levels.now
  in_levels = let size = was.macroblocks.levels in let lt = place_in in omega (arith, size, lt)

  legal : HasCodedLevels head decision.intra levels
  legal = legal_at head coded.decisions.now coded.levels.now was.levels place in_decisions

  abbrev part_of : ℕ → Part
  part_of b = block_part decision mb_x mb_y b

  decoded_from : (b : ℕ) → b < 6 → IsDecodedFrom (kind_of head decision) (block levels b) (predicted_in head decision refs (part_of b)) (block_samples coded.picture.now decision.field_dct mb_x mb_y b)
  decoded_from b h = record {
    decoded = part_decoded refs (coded_lent coded) coded.picture.now was.decoded (plane_of b) mb_x mb_y b (has_plane b h) across down;
    predicted = λ y x p q. predicted_sample head decision refs (part_of b).plane (column (part_of b) x) (line (part_of b) y) bytes.forward bytes.backward;
    intra = λ i y x p q. intra_is_zero head decision refs (part_of b).plane (column (part_of b) x) (line (part_of b) y) i;
    long = block_long head decision.intra levels legal b h;
    legal = block_legal head decision.intra levels legal b h;
    dc = block_dc head decision.intra levels legal b h;
  }

  abbrev samples_at : ℕ → ℕ → ℕ → ℕ
  samples_at b = block_samples coded.picture.now decision.field_dct mb_x mb_y b

  abbrev Found : Type 0
  Found = (b : ℕ) → b < 6 → IsFound (kind_of head decision) (block levels b) (predicted_in head decision refs (part_of b)) (block_samples coded.picture.now decision.field_dct mb_x mb_y b)

  stays_from : Found → MacroblockStays coded place
  stays_from found = by_place head coded.decisions.now coded.picture.now refs mb_x mb_y across ∙ found_levels head decision coded.picture.now refs mb_x mb_y levels legal.six (block_long head decision.intra levels legal) found

  found_from : MacroblockStays coded place → Found
  found_from same = levels_found head decision coded.picture.now refs mb_x mb_y levels (sym (by_place head coded.decisions.now coded.picture.now refs mb_x mb_y across) ∙ same)

  pub reconstructed : CanBeReconstructed head mb_x mb_y decision
  reconstructed =
      let row : place / head.mb_wide ≡ mb_y = div-mul-add mb_y head.mb_wide mb_x across in
      let col : place % head.mb_wide ≡ mb_x = mod-mul-add mb_y head.mb_wide mb_x across in
      subst (λ (x : ℕ). CanBeReconstructed head x mb_y decision) col
      (subst (λ (y : ℕ). CanBeReconstructed head (place % head.mb_wide) y decision) row (was.decisions.each place in_decisions))

  -- the same for what code has at hand, which finds the macroblock by its number
  module _ (row wide column : ℕ) (row_is : row ≡ mb_y) (wide_is : wide ≡ head.mb_wide) (column_is : column ≡ mb_x) where
    pub decision_is : (nothing : Decision) → get_or coded.decisions.now (row * wide + column) nothing ≡ decision
    decision_is nothing = rw (row_is, wide_is, column_is) (get_or_default coded.decisions.now place nothing no_decision in_decisions)

    pub levels_are : (nothing : MacroLevels) → get_or coded.levels.now (row * wide + column) nothing ≡ levels
    levels_are nothing = rw (row_is, wide_is, column_is) (get_or_default coded.levels.now place nothing no_blocks in_levels)

  module _ (d : Decision) (l : MacroLevels) (kind : Kind) (x y : ℕ) (d_is : d ≡ decision) (l_is : l ≡ levels) (kind_is : kind ≡ kind_of head d) (x_is : x ≡ mb_x) (y_is : y ≡ mb_y) where
    pub surely : ((b : ℕ) → b < 6 → StaysFound kind (block l b) (block_samples coded.picture.now d.field_dct x y b)) → MacroblockStays coded place
    surely = rw (kind_is, d_is, l_is, x_is, y_is) (λ stays. stays_from (λ b h. stays b h (predicted_in head decision refs (part_of b)) (decoded_from b h)))

    module _ (predicted : List (List ℤ)) (holds : (p : Plane) (b : ℕ) → IsBlockOf p b → HoldsPrediction head d refs mb_x mb_y p b (get_or predicted b [])) where
      held : (b : ℕ) → b < 6 → (v u : ℕ) → v < 8 → u < 8 → predicted_in head decision refs (part_of b) v u ≡ entry (get_or predicted b []) v u
      held b h v u hv hu = sym (
          subst (λ (t : Decision). entry (get_or predicted b []) v u ≡ predicted_at head t refs (plane_of b) (column (block_part t mb_x mb_y b) u) (line (block_part t mb_x mb_y b) v)) d_is (holds (plane_of b) b (has_plane b h) v u hv hu)
          ∙ ap (λ (q : Plane). predicted_at head decision refs q (column (part_of b) u) (line (part_of b) v)) (sym (plane_at decision.field_dct (plane_of b) mb_x mb_y b)))

      pub from_predicted : (b : ℕ) → b < 6 → IsDecodedFrom kind (block l b) (entry (get_or predicted b [])) (block_samples coded.picture.now d.field_dct x y b)
      from_predicted = rw (kind_is, d_is, l_is, x_is, y_is) (λ b h.
          from_like (kind_of head decision) (block levels b) (predicted_in head decision refs (part_of b)) (entry (get_or predicted b [])) (samples_at b) (samples_at b) (held b h) (λ y x p q. refl) (decoded_from b h))

      pub exactly : (result : Bool) → IsTrue result ↔ ((b : ℕ) → b < 6 → IsFound kind (block l b) (entry (get_or predicted b [])) (block_samples coded.picture.now d.field_dct x y b)) → IsTrue result ↔ MacroblockStays coded place
      exactly result = rw (kind_is, d_is, l_is, x_is, y_is) (λ says. (
        (λ t. stays_from (λ b h. found_like (kind_of head decision) (block levels b) (entry (get_or predicted b [])) (predicted_in head decision refs (part_of b)) (samples_at b) (samples_at b) (λ v u p q. sym (held b h v u p q)) (λ y x p q. refl) (says.0 t b h))),
        (λ same. says.1 (λ b h. found_like (kind_of head decision) (block levels b) (predicted_in head decision refs (part_of b)) (entry (get_or predicted b [])) (samples_at b) (samples_at b) (held b h) (λ y x p q. refl) (found_from same b h))),
      ))

-- ---- the picture

module _ (coded : Coded) (was : WasDecoded coded) where
  abbrev nearest : List MacroLevels
  nearest = requantised coded.head.now coded.decisions.now coded.picture.now (references_lent coded.refs)

  macroblock_at : (k : ℕ) → k < coded.head.now.mb_wide * coded.head.now.mb_high → get_or nearest k no_blocks ≡ requantised_at coded.head.now coded.decisions.now coded.picture.now (references_lent coded.refs) k
  unfolding requantised
  macroblock_at k h = get_or-map-range_with_len (requantised_at coded.head.now coded.decisions.now coded.picture.now (references_lent coded.refs)) 0 (coded.head.now.mb_wide * coded.head.now.mb_high) k k no_blocks h (omega arith)

  stays_at : nearest ≡ coded.levels.now → (k : ℕ) → k < coded.head.now.mb_wide * coded.head.now.mb_high → MacroblockStays coded k
  stays_at same k h = sym (macroblock_at k h) ∙ ap (λ (l : List MacroLevels). get_or l k no_blocks) same

  -- a macroblock that doesn't stay
  pub one_differs : (mb_x mb_y : ℕ) (result : Bool) → mb_x < coded.head.now.mb_wide → mb_y < coded.head.now.mb_high → result ≡ false → IsTrue result ↔ MacroblockStays coded (mb_y * coded.head.now.mb_wide + mb_x) → IsTrue false ↔ (nearest ≡ coded.levels.now)
  one_differs mb_x mb_y result across down fails says = (
    (λ t. absurd (let no : false ≡ true = t in cc)),
    (λ same. let holds = says.1 (stays_at same (mb_y * coded.head.now.mb_wide + mb_x) (mul-add-lt mb_y coded.head.now.mb_wide mb_x coded.head.now.mb_high down across)) in absurd (let no : false ≡ true = sym fails ∙ holds in cc)),
  )

  -- all do
  pub all_stay : (n : ℕ) → n ≡ coded.head.now.mb_wide * coded.head.now.mb_high → ((k : ℕ) → k < n → MacroblockStays coded k) → IsTrue true ↔ (nearest ≡ coded.levels.now)
  all_stay n e stay = (
    (λ t. sym (picture_is coded.head.now coded.decisions.now coded.picture.now (references_lent coded.refs) no_blocks coded.levels.now n e (record { long = was.macroblocks.levels; made = λ k h. sym (stay k h) }))),
    (λ same. refl),
  )
