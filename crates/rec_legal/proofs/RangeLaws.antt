-- Headers that read have each field in its legal range.
use Rattle.std.proofs.Common.{◌≡◌, ℕ, ◌+◌, ◌^◌, ◌<◌, ◌≤◌, ◌∙◌, Bool, true, false, cond, ◌&&◌, ◌||◌, leb, eqb, List, [], ◌∷◌, drop, Result, Ok, Err, Option, None, refl, sym, ap, subst, arith}
use Rattle.std.specs.Prelude.{IsTrue}
use Rattle.std.specs.List.{All}
use Rattle.std.proofs.lemmas.Bool.{false≢true}
use Rattle.std.proofs.lemmas.List.Elements.{All-nil, All-cons}
use Rattle.mv_terms.specs.declared.status.Why.{Why}
use Rattle.mv_terms.specs.declared.status.Why.TheVariants.{BadHead, Unsupported}
use Rattle.mv_terms.specs.Unsupported as unsupported
use Rattle.mv_terms.specs.declared.head.PicType.{PicType}
use Rattle.mv_terms.specs.declared.head.Context.{Context}
use Rattle.mv_terms.specs.declared.head.Head.{Head}
use Rattle.mv_terms.specs.Ranges.{IsContext, IsHead, IsUsed, HasNoZero, HasLegalFCodes, macroblock_columns, macroblock_rows}
use Rattle.mv_bits.specs.Bits.{front}
use Rattle.mv_bits.specs.Elements.{Cut}
use Rattle.mv_bits.specs.Reader.{Reader, ◌>>=◌, ◌>>◌, done, check, end, test, whole, value_of, go_on, with_bits}
use Rattle.mv_bits.proofs.BitLaws.{front_lt}
use Rattle.mv_heads.specs.declared.sequence_header.SequenceHeader.{SequenceHeader}
use Rattle.mv_heads.specs.declared.sequence_header.CodedSize.{CodedSize}
use Rattle.mv_heads.specs.declared.picture_header.PictureHeader.{PictureHeader}
use Rattle.mv_heads.specs.declared.picture_coding.PictureCoding.{PictureCoding}
use Rattle.mv_heads.specs.declared.picture.InForce.{InForce}
use Rattle.mv_heads.specs.declared.picture.PictureHead.{PictureHead}
use Rattle.mv_heads.specs.Legal.{IsSequenceHeader, IsPictureCoding}
use Rattle.mv_heads.specs.Headers.{sequence_header, sequence_extension, picture_header, picture_coding_extension, are_f_codes, behind_extra, frame_structure, picture_type, vector_field_bits}
use Rattle.mv_heads.specs.SentMatrices.{has_no_zero, matrix}
use Rattle.mv_terms.specs.Matrices.{default_matrices}
use Rattle.mv_terms.specs.Structures.{IsOfFrame}
use Rattle.mv_heads.specs.HeadElements.{bits, context_of, sequence, extended_sequence, further_of_sequence, head_of, head_from, extends, is_extension_of, quant_matrix_extension_id, picture_coding_extension_id, picture_spatial_scalable_extension_id, picture_temporal_scalable_extension_id, picture_of, picture, extended_picture, further_of_picture, further_picture_extension, sequence_matrices}
use Rattle.mv_heads.proofs.FirstSizeLaws.{bind_ok, ok_is}
use Rattle.rec_legal.proofs.OptionLemmas.{both_true}
use Rattle.rec_legal.proofs.DecideLemmas.{le_decides, lt_decides}
use Rattle.rec_legal.proofs.ConditionLaws.{where_ok, head_size}

-- ---- the steps of a reader that succeeds

check_ok : {A : Type 0} (b : Bool) (why : Why) (bits : List Bool) (k : Unit {0} → List Bool → Result (A × List Bool) Why) (c : A) → value_of (go_on (with_bits bits (test b why)) k) ≡ Ok c → (b ≡ true) × (value_of (k tt bits) ≡ Ok c)
unfolding test
check_ok true why bits k c is = (refl, is)
check_ok false why bits k c is = absurd cc

need_ok : {A B : Type 0} (m : Result B Why) (bits : List Bool) (k : B → List Bool → Result (A × List Bool) Why) (c : A) → value_of (go_on (with_bits bits m) k) ≡ Ok c → (x : B) × (m ≡ Ok x) × (value_of (k x bits) ≡ Ok c)
need_ok (Ok x) bits k c is = (x, refl, is)
need_ok (Err why) bits k c is = absurd cc

read_ok : {A B : Type 0} (m : Result (B × List Bool) Why) (k : B → List Bool → Result (A × List Bool) Why) (c : A) → value_of (go_on m k) ≡ Ok c → (x : B) × (rest : List Bool) × (m ≡ Ok (x, rest)) × (value_of (k x rest) ≡ Ok c)
read_ok (Ok x) k c is = (x.0, x.1, refl, is)
read_ok (Err why) k c is = absurd cc

-- ---- matrices

no_zero : (xs : List ℕ) → has_no_zero xs ≡ true → All (λ w. 0 < w) xs
no_zero [] e = All-nil (λ w. 0 < w)
no_zero (x ∷ xs) e = let b = both_true _ _ e in All-cons (λ w. 0 < w) x xs ((lt_decides 0 x).0 b.0) (no_zero xs b.1)

-- ---- a sequence

-- what a sequence header reads behind its matrices, and behind the first of them
abbrev behind_both : (width height rate_code marker : ℕ) (intra non_intra : List ℕ) → Reader Why SequenceHeader
behind_both width height rate_code marker intra non_intra = do
  check (leb 1 rate_code && leb rate_code 8) BadHead
  check (eqb marker 1) BadHead
  check (has_no_zero intra && has_no_zero non_intra) BadHead
  end BadHead
  done (record { width = width; height = height; rate_code = rate_code; matrices = record { intra = intra; non_intra = non_intra } })

abbrev behind_intra : (width height rate_code marker : ℕ) (intra : List ℕ) → Reader Why SequenceHeader
behind_intra width height rate_code marker intra = do
  non_intra ← matrix default_matrices.non_intra
  behind_both width height rate_code marker intra non_intra

header_range : (bits : List Bool) (h : SequenceHeader) → whole sequence_header bits ≡ Ok h → IsSequenceHeader h
unfolding sequence_header
header_range bits h e =
    let height : List Bool = drop 12 bits in
    let rate : List Bool = drop 4 (drop 12 height) in
    let mark : List Bool = drop 18 (drop 4 rate) in
    let load : List Bool = drop 1 (drop 10 (drop 1 mark)) in
    let a = read_ok (matrix default_matrices.intra load) (behind_intra (front 12 bits) (front 12 height) (front 4 rate) (front 1 mark)) h e in
    let b = read_ok (matrix default_matrices.non_intra a.1) (behind_both (front 12 bits) (front 12 height) (front 4 rate) (front 1 mark) a.0) h a.3 in
    let c = check_ok (leb 1 (front 4 rate) && leb (front 4 rate) 8) _ _ _ h b.3 in
    let d = check_ok _ _ _ _ h c.1 in
    let f = check_ok (has_no_zero a.0 && has_no_zero b.0) _ _ _ h d.1 in
    let g = check_ok _ _ _ _ h f.1 in
    let same = ok_is {W = Why} _ h g.1 in
    let code = both_true _ _ c.0 in
    let zeros = both_true _ _ f.0 in
    subst IsSequenceHeader same (record {
      some_code = (le_decides 1 (front 4 rate)).0 code.0;
      code = (le_decides (front 4 rate) 8).0 code.1;
      matrices = (no_zero a.0 zeros.0, no_zero b.0 zeros.1);
    })

extension_range : (first : Option CodedSize) (header : SequenceHeader) (bits : List Bool) (c : Context) → IsSequenceHeader header → whole (sequence_extension first header) bits ≡ Ok c → IsContext c
unfolding sequence_extension
extension_range first header bits c is e =
    let m = check_ok _ _ _ _ c e in
    let f = check_ok _ _ _ _ c m.1 in
    let s = check_ok _ _ _ _ c f.1 in
    let some = check_ok _ _ _ _ c s.1 in
    let most = check_ok _ _ _ _ c some.1 in
    let k = check_ok _ _ _ _ c most.1 in
    let same = ok_is {W = Why} _ c k.1 in
    let some_both = both_true _ _ some.0 in
    let most_both = both_true _ _ most.0 in
    let n = front_lt 2 in
    let d = front_lt 5 in
    subst IsContext same (record {
      size = record {
        some_width = (lt_decides 0 _).0 some_both.0;
        width = (le_decides _ 1920).0 most_both.0;
        some_height = (lt_decides 0 _).0 some_both.1;
        height = (le_decides _ 1152).0 most_both.1;
        wide = refl;
        high = refl;
      };
      rate = record {
        some_code = is.some_code;
        code = is.code;
        n = small 2 3 _ refl;
        d = small 5 31 _ refl;
      };
      matrices = is.matrices;
    })
  where
    small : (n most : ℕ) (bits : List Bool) → most + 1 ≡ 2 ^ n → front n bits ≤ most
    small n most bits e = let l = front_lt n bits in omega (arith, e, l)

extended_range : (first : Option CodedSize) (header : SequenceHeader) (elements : List (List ℕ)) (c : Context) → IsSequenceHeader header → extended_sequence first header elements ≡ Ok c → IsContext c
unfolding extended_sequence
extended_range first header [] c is e = absurd cc
extended_range first header (element ∷ others) c is e =
    let a = where_ok _ _ _ c e in
    let b = bind_ok (whole (sequence_extension first header) (bits element)) _ c a in
    let d = bind_ok (further_of_sequence others) _ c b.2 in
    subst IsContext (ok_is {W = Why} b.0 c d.2) (extension_range first header (bits element) b.0 is b.1)

sequence_range : (first : Option CodedSize) (elements : List (List ℕ)) (c : Context) → sequence first elements ≡ Ok c → IsContext c
unfolding sequence
sequence_range first [] c e = absurd cc
sequence_range first (element ∷ others) c e =
    let b = bind_ok (whole sequence_header (bits element)) _ c e in
    extended_range first b.0 others c (header_range (bits element) b.0 b.1) b.2

pub context_range : (d : Cut) (c : Context) → context_of d ≡ Ok c → IsContext c
unfolding context_of
context_range d c e = sequence_range None d.elements c (where_ok _ _ _ c e)

-- ---- a picture

front_small : (n most : ℕ) (bits : List Bool) → most + 1 ≡ 2 ^ n → front n bits ≤ most
front_small n most bits e = let l = front_lt n bits in omega (arith, e, l)

-- what a picture header reads behind its type
abbrev behind_type : ℕ → PicType → Reader Why PictureHeader
behind_type temporal type = do
  end BadHead
  done (record { pic = type; temporal = temporal })

picture_range : (bits : List Bool) (h : PictureHeader) → whole picture_header bits ≡ Ok h → h.temporal < 1024
unfolding picture_header
picture_range bits h e =
    let type : ℕ = front 3 (drop 10 bits) in
    let behind : List Bool = behind_extra 0 (drop (vector_field_bits type) (drop 16 (drop 3 (drop 10 bits)))) in
    let p = need_ok (picture_type type) behind (behind_type (front 10 bits)) h e in
    let z = check_ok _ _ _ _ h p.2 in
    let same : record { pic = p.0; temporal = front 10 bits } ≡ h = ok_is {W = Why} _ h z.1 in
    let l = front_lt 10 bits in
    subst (λ (x : PictureHeader). x.temporal < 1024) same l

two_all : (P : ℕ → Type 0) (a b : ℕ) → P a → P b → All P (a ∷ b ∷ [])
two_all P a b p q = All-cons P a (b ∷ []) p (All-cons P b [] q (All-nil P))

used_codes : (used : Bool) (a b : ℕ) → are_f_codes used a b ≡ true → IsTrue used → All IsUsed (a ∷ b ∷ [])
unfolding are_f_codes
used_codes true a b e u =
    let c = both_true _ _ e in
    let d = both_true _ _ c.0 in
    let f = both_true _ _ c.1 in
    two_all IsUsed a b ((le_decides 1 a).0 d.0, (le_decides a 9).0 d.1) ((le_decides 1 b).0 f.0, (le_decides b 9).0 f.1)
used_codes false a b e u = absurd (false≢true u)

coding_range : (pic : PicType) (bits : List Bool) (c : PictureCoding) → whole (picture_coding_extension pic) bits ≡ Ok c → IsPictureCoding pic c
unfolding picture_coding_extension
coding_range pic bits c e =
    let f = check_ok _ _ _ _ c e in
    let b = check_ok _ _ _ _ c f.1 in
    let codes : List Bool = drop 4 (drop 4 (drop 4 (drop 4 (drop 4 bits)))) in
    let s = need_ok {B = Unit {0}} (frame_structure (front 2 (drop 2 codes))) _ _ c b.1 in
    let z = check_ok _ _ _ _ c s.2 in
    let same = ok_is {W = Why} _ c z.1 in
    subst (IsPictureCoding pic) same (record {
      forward_bits = two_all (λ n. n ≤ 15) _ _ (front_small 4 15 _ refl) (front_small 4 15 _ refl);
      backward_bits = two_all (λ n. n ≤ 15) _ _ (front_small 4 15 _ refl) (front_small 4 15 _ refl);
      forward = used_codes _ _ _ f.0;
      backward = used_codes _ _ _ b.0;
      precision = front_small 2 3 _ refl;
    })

-- without a quant matrix extension the matrices stay
last_ok : {A : Type 0} (p : Bool) (why : Why) (n : Result A Why) (y : A) → cond p (Err why) n ≡ Ok y → n ≡ Ok y
last_ok true why n y e = absurd cc
last_ok false why n y e = e

behind_not : {A : Type 0} (p : Bool) (m n : Result A Why) (y : A) → p ≡ false → cond p m n ≡ Ok y → n ≡ Ok y
behind_not true m n y f e = absurd (false≢true (sym f))
behind_not false m n y f e = e

neither : (p q : Bool) → (p || q) ≡ false → (p ≡ false) × (q ≡ false)
neither false q e = (refl, e)
neither true q e = absurd (false≢true (sym e))

one_kept : (before : InForce) (element : List ℕ) (current : InForce) → is_extension_of quant_matrix_extension_id element ≡ false → further_picture_extension before element ≡ Ok current → before ≡ current
unfolding further_picture_extension
one_kept before element current none e =
    let spatial : Bool = is_extension_of picture_spatial_scalable_extension_id element in
    let temporal : Bool = is_extension_of picture_temporal_scalable_extension_id element in
    let a = behind_not (is_extension_of quant_matrix_extension_id element) _ _ current none e in
    let b = last_ok (is_extension_of picture_coding_extension_id element) BadHead _ current a in
    ok_is {W = Why} before current (last_ok (spatial || temporal) (Unsupported unsupported.scalable_extension) _ current b)

kept_matrices : (before : InForce) (elements : List (List ℕ)) (current : InForce) → extends elements ≡ false → further_of_picture before elements ≡ Ok current → before ≡ current
unfolding further_of_picture
kept_matrices before [] current none e = ok_is {W = Why} before current e
kept_matrices before (element ∷ others) current none e =
    let b = bind_ok (further_picture_extension before element) (λ (x : InForce). further_of_picture x others) current e in
    let n = neither (is_extension_of quant_matrix_extension_id element) (extends others) none in
    one_kept before element b.0 n.0 b.1 ∙ kept_matrices b.0 others current n.1 b.2

-- what in force was, and the ranges
HasRanges : Context → PictureHead → Type 0
HasRanges c p = (p.head.temporal < 1024) × HasLegalFCodes p.head × (p.head.dc_precision ≤ 3) × (p.head.matrices ≡ c.matrices) × IsOfFrame p.head

extended_picture_range : (c : Context) (header : PictureHeader) (elements : List (List ℕ)) (p : PictureHead) → header.temporal < 1024 → extends elements ≡ false → extended_picture c (sequence_matrices c) header elements ≡ Ok p → HasRanges c p
unfolding extended_picture HasRanges
extended_picture_range c header [] p t none e = absurd cc
extended_picture_range c header (element ∷ others) p t none e =
    let a = where_ok _ _ _ p e in
    let b = bind_ok (whole (picture_coding_extension header.pic) (bits element)) _ p a in
    let d = bind_ok (further_of_picture (sequence_matrices c) others) _ p b.2 in
    let same = ok_is {W = Why} (record { head = head_from c d.0 header b.0; in_force = d.0 }) p d.2 in
    let r = coding_range header.pic (bits element) b.0 b.1 in
    let kept = kept_matrices (sequence_matrices c) others d.0 (neither (is_extension_of quant_matrix_extension_id element) (extends others) none).1 d.1 in
    subst (λ (x : PictureHead). (x.head.temporal < 1024) × HasLegalFCodes x.head × (x.head.dc_precision ≤ 3) × (x.head.matrices ≡ c.matrices) × IsOfFrame x.head) same
    (t, record { forward_bits = r.forward_bits; backward_bits = r.backward_bits; forward = r.forward; backward = r.backward }, r.precision, sym (ap (λ (x : InForce). x.matrices) kept), record { structure = refl; not_second = refl })

picture_head_range : (c : Context) (elements : List (List ℕ)) (p : PictureHead) → extends elements ≡ false → picture c (sequence_matrices c) elements ≡ Ok p → HasRanges c p
unfolding picture
picture_head_range c [] p none e = absurd cc
picture_head_range c (element ∷ others) p none e =
    let b = bind_ok (whole picture_header (bits element)) _ p e in
    extended_picture_range c b.0 others p (picture_range (bits element) b.0 b.1) (neither (is_extension_of quant_matrix_extension_id element) (extends others) none).1 b.2

-- ---- sizes

wide_range : (w : ℕ) → 0 < w → w ≤ 1920 → (0 < macroblock_columns w) × (macroblock_columns w ≤ 120)
wide_range w a b = (omega arith, omega arith)

high_range : (p : Bool) (h : ℕ) → 0 < h → h ≤ 1152 → (0 < macroblock_rows p h) × (macroblock_rows p h ≤ 72)
high_range true h a b = (omega arith, omega arith)
high_range false h a b = (omega arith, omega arith)

pub head_range : (c : Context) (d : Cut) (h : Head) → IsContext c → extends d.elements ≡ false → head_of c d ≡ Ok h → IsHead h
unfolding head_of picture_of HasRanges
head_range c d h is none e =
    let size = head_size c d h e in
    let b = bind_ok (picture_of c (sequence_matrices c) d) (λ p. Ok p.head) h e in
    let same = ok_is {W = Why} b.0.head h b.2 in
    let r = picture_head_range c d.elements b.0 none (where_ok _ _ _ b.0 b.1) in
    let w = wide_range c.width is.size.some_width is.size.width in
    let hi = high_range c.progressive c.height is.size.some_height is.size.height in
    let ww : h.mb_wide ≡ macroblock_columns c.width = size.0 ∙ is.size.wide in
    let hh : h.mb_high ≡ macroblock_rows c.progressive c.height = size.1 ∙ is.size.high in
    record {
      temporal = subst (λ (x : Head). x.temporal < 1024) same r.0;
      frame = subst IsOfFrame same r.4;
      f_code = subst HasLegalFCodes same r.1;
      precision = subst (λ (x : Head). x.dc_precision ≤ 3) same r.2;
      size = record {
        some_wide = subst (λ (n : ℕ). 0 < n) (sym ww) w.0;
        wide = subst (λ (n : ℕ). n ≤ 120) (sym ww) w.1;
        some_high = subst (λ (n : ℕ). 0 < n) (sym hh) hi.0;
        high = subst (λ (n : ℕ). n ≤ 72) (sym hh) hi.1;
      };
      matrices = subst HasNoZero (sym r.3 ∙ ap (λ (x : Head). x.matrices) same) is.matrices;
    }
