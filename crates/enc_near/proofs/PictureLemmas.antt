-- Blocks and pictures of intra macroblocks.
use Rattle.std.proofs.Common.{◌≡◌, ◌∙◌, ℕ, zero, suc, ◌+◌, ◌*◌, ◌/◌, ◌%◌, ◌<◌, ◌≤◌, Bool, true, false, List, [], ℤ, pos, ◌+ℤ◌, refl, ap, sym, subst, arith, get_or}
use Rattle.std.proofs.lemmas.Int.{ints}
use Rattle.std.proofs.lemmas.Nat.{mul-add-lt}
use Rattle.std.proofs.lemmas.List.FromFn.{get_or-map-range_with_len}
use Rattle.mv_terms.specs.declared.head.Head.{Head}
use Rattle.mv_terms.specs.declared.macroblock.Decision.{Decision}
use Rattle.mv_terms.specs.declared.macroblock.MacroLevels.{MacroLevels}
use Rattle.mv_terms.specs.Decisions.{no_blocks, block}
use Rattle.mv_terms.specs.CodedPicture.{CodedPicture, decision_at, levels_at}
use Rattle.mv_planes.specs.declared.picture.Plane.{Plane}
use Rattle.mv_planes.specs.declared.picture.Plane.TheVariants.{Y, Cb, Cr}
use Rattle.mv_planes.specs.Planes.{Planes, mb_size, sample_of, IsInside}
use Rattle.mv_planes.specs.declared.part.Part.{Part}
use Rattle.mv_planes.specs.Parts.{column, line}
use Rattle.mv_planes.specs.Layout.{macroblock_of, IsBlockOf, plane_of, part_at, Owned}
use Rattle.mv_planes.specs.References.{References}
use Rattle.mv_planes.proofs.LayoutLaws.{owned, part_inside, plane_at, has_plane}
use Rattle.mv_predict.specs.Prediction.{predicted_at}
use Rattle.mv_quant.specs.declared.Kind.{Kind}
use Rattle.mv_quant.specs.Macroblocks.{kind_of}
use Rattle.mv_recon.specs.Pictures.{residual_at, residual_of, sample_at, clipped, picture_from, prediction_from}
use Rattle.mv_recon.proofs.PictureLemmas.{pictures_have_their_samples}
use Rattle.cert_requant.specs.Requantised.{requantised_block, requantised_macroblock, requantised, requantised_at, decision_of}
use Rattle.cert_requant.proofs.MadeLemmas.{by_place}
use Rattle.cert_requant.proofs.SampleLemmas.{predicted_sample}
use Rattle.cert_requant.specs.Steps.{HasBytes}
use Rattle.enc_near.specs.Blocks.{IsFine, IsPrediction, AreClose, AreBytes, apart, greatest_error, nearest_to, rebuilt}
use Rattle.enc_near.specs.Pictures.{samples_in, coded_from, IsSourceFor, decision_in, IntraPartIsNear, PartIsNear, IsUniform, UniformIsNear}
use Rattle.enc_near.proofs.BlockLemmas.{nearest_block_is_near, close_same, both_same}

-- ---- the levels of a macroblock

macroblock_at : (head : Head) (decisions : List Decision) (source : Planes) (refs : References) (k : ℕ) → k < head.mb_wide * head.mb_high
    → get_or (requantised head decisions source refs) k no_blocks ≡ requantised_at head decisions source refs k
unfolding requantised
macroblock_at head decisions source refs k h = get_or-map-range_with_len (requantised_at head decisions source refs) 0 (head.mb_wide * head.mb_high) k k no_blocks h (omega arith)

block_at : (head : Head) (d : Decision) (source : Planes) (refs : References) (mb_x mb_y b : ℕ) → b < 6 → block (requantised_macroblock head d source refs mb_x mb_y) b ≡ requantised_block head d source refs mb_x mb_y b
unfolding requantised_macroblock
block_at head d source refs mb_x mb_y b h = get_or-map-range_with_len (requantised_block head d source refs mb_x mb_y) 0 6 b b [] h (omega arith)

levels_are : (head : Head) (decisions : List Decision) (source : Planes) (refs : References) (mb_x mb_y b : ℕ) → mb_x < head.mb_wide → mb_y < head.mb_high → b < 6
    → levels_at (coded_from head decisions source refs) (mb_y * head.mb_wide + mb_x) b ≡ requantised_block head (decision_in head decisions mb_x mb_y) source refs mb_x mb_y b
levels_are head decisions source refs mb_x mb_y b hx hy hb =
    ap (λ (m : MacroLevels). block m b) (macroblock_at head decisions source refs (mb_y * head.mb_wide + mb_x) (mul-add-lt mb_y head.mb_wide mb_x head.mb_high hy hx) ∙ by_place head decisions source refs mb_x mb_y hx)
    ∙ block_at head (decision_in head decisions mb_x mb_y) source refs mb_x mb_y b hb

intra_is_unpredicted : (head : Head) (d : Decision) (refs : References) (p : Plane) (x y : ℕ) → d.intra ≡ true → predicted_at head d refs p x y ≡ pos 0
unfolding predicted_at
intra_is_unpredicted head d refs p x y h = rw h refl

-- what a part is predicted from
abbrev prediction_in : Head → Decision → References → Part → ℕ → ℕ → ℤ
prediction_in head d refs part row col = predicted_at head d refs part.plane (column part col) (line part row)

-- ---- a sample of the picture

residual_is : (coded : CodedPicture) (p : Plane) (x y k b row col : ℕ) → Owned coded.head.mb_wide (decision_at coded k).field_dct p x y k b row col
    → residual_of coded p x y ≡ residual_at (kind_of coded.head (decision_at coded k)) (levels_at coded k b) row col
unfolding residual_of
residual_is coded p x y k b row col o =
    rw o.macroblock (rw (o.block, o.row, o.column) refl)

sample_is : (head : Head) (decisions : List Decision) (source : Planes) (refs : References) (p : Plane) (x y mb_x mb_y b row col : ℕ)
    → mb_x < head.mb_wide → mb_y < head.mb_high → b < 6
    → Owned head.mb_wide (decision_in head decisions mb_x mb_y).field_dct p x y (mb_y * head.mb_wide + mb_x) b row col
    → sample_at (prediction_from refs (coded_from head decisions source refs)) (coded_from head decisions source refs) p x y
    ≡ clipped (predicted_at head (decision_in head decisions mb_x mb_y) refs p x y +ℤ residual_at (kind_of head (decision_in head decisions mb_x mb_y)) (requantised_block head (decision_in head decisions mb_x mb_y) source refs mb_x mb_y b) row col)
sample_is head decisions source refs p x y mb_x mb_y b row col hx hy hb o =
    let coded : CodedPicture = coded_from head decisions source refs in
    let d : Decision = decision_in head decisions mb_x mb_y in
    let k : ℕ = mb_y * head.mb_wide + mb_x in
    let same : predicted_at head (decision_of decisions (macroblock_of head.mb_wide p x y)) refs p x y ≡ predicted_at head d refs p x y = ap (λ (k : ℕ). predicted_at head (decision_of decisions k) refs p x y) o.macroblock in
    let rest : residual_of coded p x y ≡ residual_at (kind_of head d) (requantised_block head d source refs mb_x mb_y b) row col =
    residual_is coded p x y k b row col o
    ∙ ap (λ (l : List ℤ). residual_at (kind_of head d) l row col) (levels_are head decisions source refs mb_x mb_y b hx hy hb) in
    ap (λ (z : ℤ). clipped (z +ℤ residual_of coded p x y)) same
    ∙ ap (λ (z : ℤ). clipped (predicted_at head d refs p x y +ℤ z)) rest

-- ---- a part

-- the part of a block, by its plane
part_near : (head : Head) (decisions : List Decision) (source : Planes) (refs : References) (p : Plane) (mb_x mb_y b : ℕ)
    → IsSourceFor head source → mb_x < head.mb_wide → mb_y < head.mb_high → b < 6 → head.dc_precision ≤ 3
    → IsPrediction (kind_of head (decision_in head decisions mb_x mb_y)) (prediction_in head (decision_in head decisions mb_x mb_y) refs (part_at (decision_in head decisions mb_x mb_y).field_dct p mb_x mb_y b))
    → IsFine (kind_of head (decision_in head decisions mb_x mb_y)) → plane_of b ≡ p → IsBlockOf p b
    → AreClose (kind_of head (decision_in head decisions mb_x mb_y)) (samples_in source (part_at (decision_in head decisions mb_x mb_y).field_dct p mb_x mb_y b))
    (samples_in (picture_from refs (coded_from head decisions source refs)) (part_at (decision_in head decisions mb_x mb_y).field_dct p mb_x mb_y b))
part_near head decisions source refs p mb_x mb_y b of hx hy hb precision predicted fine plane own =
    let d : Decision = decision_in head decisions mb_x mb_y in
    let part : Part = part_at d.field_dct p mb_x mb_y b in
    let coded : CodedPicture = coded_from head decisions source refs in
    let has = pictures_have_their_samples (prediction_from refs coded) coded in
    let kind : Kind = kind_of head d in
    let s : ℕ → ℕ → ℕ = samples_in source part in
    let bytes : AreBytes s = λ row col hr hc. of.bytes part.plane (column part col) (line part row) (part_inside source d.field_dct p mb_x mb_y b own (rw of.wide hx) (rw of.high hy) row col hr hc) in
    close_same kind s (rebuilt kind (prediction_in head d refs part) s) (samples_in (picture_from refs coded) part)
    (λ row col hr hc.
    has.samples part.plane (column part col) (line part row) (part_inside (picture_from refs coded) d.field_dct p mb_x mb_y b own (rw has.wide hx) (rw has.high hy) row col hr hc)
    ∙ (ap (λ (q : Plane). sample_at (prediction_from refs coded) coded q (column part col) (line part row)) (plane_at d.field_dct p mb_x mb_y b)
    ∙ (sample_is head decisions source refs p (column part col) (line part row) mb_x mb_y b row col hx hy hb (owned head.mb_wide d.field_dct p mb_x mb_y b row col own hr hc)
    ∙ (ap (λ (q : Plane). clipped (predicted_at head d refs q (column part col) (line part row) +ℤ residual_at kind (requantised_block head d source refs mb_x mb_y b) row col)) (sym (plane_at d.field_dct p mb_x mb_y b))
    ∙ ap (λ (q : Plane). clipped (prediction_in head d refs part row col +ℤ residual_at kind (nearest_to kind (prediction_in head d refs (part_at d.field_dct q mb_x mb_y b)) (samples_in source (part_at d.field_dct q mb_x mb_y b))) row col)) plane))))
    (nearest_block_is_near kind (prediction_in head d refs part) s precision fine predicted bytes)

-- what intra macroblocks are predicted from, and other ones
intra_prediction : (head : Head) (d : Decision) (refs : References) (part : Part) → d.intra ≡ true → IsPrediction (kind_of head d) (prediction_in head d refs part)
intra_prediction head d refs part intra = record {
  bytes = λ row col p q. let e = intra_is_unpredicted head d refs part.plane (column part col) (line part row) intra in rw e (omega (arith, ints), omega (arith, ints));
  none = λ i row col p q. intra_is_unpredicted head d refs part.plane (column part col) (line part row) intra;
}

byte_prediction : (head : Head) (d : Decision) (refs : References) (part : Part) → HasBytes refs.forward → HasBytes refs.backward → IsPrediction (kind_of head d) (prediction_in head d refs part)
byte_prediction head d refs part forward backward = record {
  bytes = λ row col p q. predicted_sample head d refs part.plane (column part col) (line part row) forward backward;
  none = λ i row col p q. intra_is_unpredicted head d refs part.plane (column part col) (line part row) i;
}

pub intra_part_is_near : IntraPartIsNear
intra_part_is_near head decisions source refs mb_x mb_y b of hx hy hb precision intra fine =
    let d : Decision = decision_in head decisions mb_x mb_y in
    part_near head decisions source refs (plane_of b) mb_x mb_y b of hx hy hb precision (intra_prediction head d refs (part_at d.field_dct (plane_of b) mb_x mb_y b) intra) fine refl (has_plane b hb)

pub part_is_near : PartIsNear
part_is_near head decisions source refs mb_x mb_y b of hx hy hb precision forward backward fine =
    let d : Decision = decision_in head decisions mb_x mb_y in
    part_near head decisions source refs (plane_of b) mb_x mb_y b of hx hy hb precision (byte_prediction head d refs (part_at d.field_dct (plane_of b) mb_x mb_y b) forward backward) fine refl (has_plane b hb)

-- ---- one kind

-- where block (i, j) of a plane stands
record IsBlockAt (p : Plane) (i j wide high : ℕ) : Type 0 where
  pub mb_x : ℕ
  pub mb_y : ℕ
  pub b : ℕ
  pub across : mb_x < wide
  pub down : mb_y < high
  pub six : b < 6
  pub plane : plane_of b ≡ p
  pub own : IsBlockOf p b
  pub column : (col : ℕ) → column (part_at false p mb_x mb_y b) col ≡ 8 * i + col
  pub row : (row : ℕ) → line (part_at false p mb_x mb_y b) row ≡ 8 * j + row

block_place : (p : Plane) (i j wide high : ℕ) → 8 * i < mb_size p * wide → 8 * j < mb_size p * high → IsBlockAt p i j wide high
block_place Y i j wide high h k = record {
  mb_x = i / 2;
  mb_y = j / 2;
  b = 2 * (j % 2) + i % 2;
  across = omega arith;
  down = omega arith;
  six = omega arith;
  plane = luma (2 * (j % 2) + i % 2) (omega arith);
  own = omega arith;
  column = λ col. omega arith;
  row = λ row. omega arith;
}
  where
    luma : (b : ℕ) → b < 4 → plane_of b ≡ Y
    luma zero h = refl
    luma (suc zero) h = refl
    luma (suc (suc zero)) h = refl
    luma (suc (suc (suc zero))) h = refl
    luma (suc (suc (suc (suc b)))) h = absurd (omega arith)
block_place Cb i j wide high h k = record { mb_x = i; mb_y = j; b = 4; across = omega arith; down = omega arith; six = omega arith; plane = refl; own = refl; column = λ col. refl; row = λ row. omega arith }
block_place Cr i j wide high h k = record { mb_x = i; mb_y = j; b = 5; across = omega arith; down = omega arith; six = omega arith; plane = refl; own = refl; column = λ col. refl; row = λ row. omega arith }

there : (h : Plane → ℕ → ℕ → ℕ) (p q : Plane) (x u y w : ℕ) → p ≡ q → x ≡ u → y ≡ w → h p x y ≡ h q u w
there h p q x u y w a b c = cc

-- of one kind, block (i, j) of a plane
block_near : (kind : Kind) (head : Head) (decisions : List Decision) (source : Planes) (refs : References) → IsSourceFor head source → head.dc_precision ≤ 3 → IsUniform kind head decisions → IsFine kind
    → (p : Plane) (i j : ℕ) → IsInside source p (8 * i) (8 * j)
    → AreClose kind (λ row col. sample_of source p (8 * i + col) (8 * j + row)) (λ row col. sample_of (picture_from refs (coded_from head decisions source refs)) p (8 * i + col) (8 * j + row))
block_near kind head decisions source refs of precision uniform fine p i j inside =
    let at = block_place p i j head.mb_wide head.mb_high (rw (← of.wide) inside.0) (rw (← of.high) inside.1) in
    let k : ℕ = at.mb_y * head.mb_wide + at.mb_x in
    let d : Decision = decision_of decisions k in
    let u = uniform k (mul-add-lt at.mb_y head.mb_wide at.mb_x head.mb_high at.down at.across) in
    let near = part_near head decisions source refs p at.mb_x at.mb_y at.b of at.across at.down at.six precision (intra_prediction head d refs (part_at d.field_dct p at.mb_x at.mb_y at.b) u.0) (subst IsFine (sym u.2) fine) at.plane at.own in
    moved (picture_from refs (coded_from head decisions source refs)) source p at.mb_x at.mb_y at.b i j (kind_of head d) kind d.field_dct u.2 u.1 at.column at.row near
  where
    moved : (f g : Planes) (p : Plane) (mb_x mb_y b i j : ℕ) (a kind : Kind) (field : Bool) → a ≡ kind → field ≡ false
        → ((col : ℕ) → column (part_at false p mb_x mb_y b) col ≡ 8 * i + col) → ((row : ℕ) → line (part_at false p mb_x mb_y b) row ≡ 8 * j + row)
        → AreClose a (samples_in g (part_at field p mb_x mb_y b)) (samples_in f (part_at field p mb_x mb_y b))
        → AreClose kind (λ row col. sample_of g p (8 * i + col) (8 * j + row)) (λ row col. sample_of f p (8 * i + col) (8 * j + row))
    moved f g p mb_x mb_y b i j a kind field same lines columns rows w =
        let part : Part = part_at false p mb_x mb_y b in
        let w' : AreClose kind (samples_in g part) (samples_in f part) =
        subst (λ (kind : Kind). AreClose kind (samples_in g part) (samples_in f part)) same
        (subst (λ (field : Bool). AreClose a (samples_in g (part_at field p mb_x mb_y b)) (samples_in f (part_at field p mb_x mb_y b))) lines w) in
        both_same kind (samples_in g part) (λ row col. sample_of g p (8 * i + col) (8 * j + row)) (samples_in f part) (λ row col. sample_of f p (8 * i + col) (8 * j + row))
        (λ row col hr hc. sym (there (sample_of g) part.plane p (column part col) (8 * i + col) (line part row) (8 * j + row) (plane_at false p mb_x mb_y b) (columns col) (rows row)))
        (λ row col hr hc. sym (there (sample_of f) part.plane p (column part col) (8 * i + col) (line part row) (8 * j + row) (plane_at false p mb_x mb_y b) (columns col) (rows row))) w'

in_block : (size n m x : ℕ) → x < size * n → size ≡ 8 * m → 8 * (x / 8) < size * n
in_block size n m x h e = omega (arith, h)

corner_inside : (f : Planes) (p : Plane) (x y : ℕ) → IsInside f p x y → IsInside f p (8 * (x / 8)) (8 * (y / 8))
corner_inside f p x y h = (omega (arith, h.0), omega (arith, h.1))

pub uniform_is_near : UniformIsNear
uniform_is_near kind head decisions source refs of precision uniform fine = record {
  each = λ p x y inside.
      let near = block_near kind head decisions source refs of precision uniform fine p (x / 8) (y / 8) (corner_inside source p x y inside) in
      at_place (picture_from refs (coded_from head decisions source refs)) source p x y kind (near.each (y % 8) (x % 8) (omega arith) (omega arith));
  blocks = λ p i j inside. (block_near kind head decisions source refs of precision uniform fine p i j inside).all;
}
  where
    at_place : (f g : Planes) (p : Plane) (x y : ℕ) (kind : Kind) → apart (sample_of f p (8 * (x / 8) + x % 8) (8 * (y / 8) + y % 8)) (sample_of g p (8 * (x / 8) + x % 8) (8 * (y / 8) + y % 8)) ≤ greatest_error kind (y % 8) (x % 8)
        → apart (sample_of f p x y) (sample_of g p x y) ≤ greatest_error kind (y % 8) (x % 8)
    at_place f g p x y kind h =
        let a : 8 * (x / 8) + x % 8 ≡ x = omega arith in
        let b : 8 * (y / 8) + y % 8 ≡ y = omega arith in
        subst (λ (u : ℕ). apart (sample_of f p u y) (sample_of g p u y) ≤ greatest_error kind (y % 8) (x % 8)) a
        (subst (λ (w : ℕ). apart (sample_of f p (8 * (x / 8) + x % 8) w) (sample_of g p (8 * (x / 8) + x % 8) w) ≤ greatest_error kind (y % 8) (x % 8)) b h)
