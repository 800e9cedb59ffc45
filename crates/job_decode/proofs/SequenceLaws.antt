-- The bytes of the sequence part in force, as far as they are kept.
use Rattle.std.proofs.Common.{◌≡◌, ℕ, ◌+◌, ◌*◌, Bool, true, false, List, ◌++◌, length, take, drop, Option, None, Some, refl, sym, ap, ◌∙◌, arith}
use Rattle.std.specs.Prelude.{◌&&◌, not, nat_le, if◌then◌else◌, unwrap_or}
use Rattle.std.proofs.lemmas.List.{take_at, take_all, length-take}
use Rattle.std.proofs.lemmas.Bool.{leb-true, leb-false, lt-leb}
use Rattle.mv_terms.specs.CodedPicture.{frame_macroblocks}
use Rattle.mv_planes.specs.Planes.{Planes}
use Rattle.cert_picture.specs.Records.{FrameParts, frame_by, frame_samples, frame_seal, is_recordable, longest_part, most_zeros, zeros_behind_end}
use Rattle.job_decode.specs.Steps.{kept_front}

-- what was copied into a store of so many bytes
pub copied : (n m count : ℕ) (part items to bytes : List ℕ) (found : Option (List ℕ)) → n ≡ 65536 → m ≡ 65536 → length to ≡ m → take count to ≡ take m part → Some part ≡ found
    → take count (take n (to ++ drop (length to) items)) ≡ kept_front (unwrap_or found bytes)
copied n m count part items to bytes found full as_full long front is =
    ap (take count) (take_at to (drop (length to) items) n (long ∙ (as_full ∙ sym full)))
    ∙ (front ∙ (ap (λ (k : ℕ). take k part) as_full ∙ ap (λ (o : Option (List ℕ)). kept_front (unwrap_or o bytes)) is))

pub none_found : (kept bytes : List ℕ) (found : Option (List ℕ)) → None ≡ found → kept ≡ kept_front bytes → kept ≡ kept_front (unwrap_or found bytes)
none_found kept bytes found is h = h ∙ ap (λ (o : Option (List ℕ)). kept_front (unwrap_or o bytes)) is

-- ---- a record of what is kept is the record of all

not_third : (a b c d e f g : Bool) → b ≡ false → (a && b && c && d && e && f && g) ≡ false
not_third true b c d e f g is = rw is refl
not_third false b c d e f g is = refl

-- frames that carry the same
pub record AreSame (p q : FrameParts) : Type 0 where
  pub seal : frame_seal p ≡ frame_seal q
  pub samples : frame_samples p ≡ frame_samples q

abbrev with_kept : FrameParts → FrameParts
with_kept p = record p { context = kept_front p.context }

no_seal_where_not : (b : Bool) (seal : List ℕ) → b ≡ false → (if b then Some seal else None) ≡ None
no_seal_where_not true seal is = absurd cc
no_seal_where_not false seal is = refl

none_sealed : (p : FrameParts) → is_recordable p ≡ false → frame_seal p ≡ None
unfolding frame_seal
none_sealed p is = no_seal_where_not (is_recordable p) _ is

without_records : (p q : FrameParts) → is_recordable p ≡ false → is_recordable q ≡ false → p.decoded ≡ q.decoded → AreSame p q
without_records p q a b same =
    let none = none_sealed p a in
    let also = none_sealed q b in
    record {
      seal = none ∙ sym also;
      samples = ap (λ (s : Option (List ℕ)). frame_by p s) none ∙ (ap (λ (d : Planes). frame_by (record p { decoded = d }) None) same ∙ ap (λ (s : Option (List ℕ)). frame_by q s) (sym also));
    }

too_long : (p : FrameParts) → nat_le (length p.context) longest_part ≡ false → is_recordable p ≡ false
too_long p long =
    not_third (not p.extended) (nat_le (length p.context) longest_part) (nat_le (length p.lists.prefix) longest_part) (nat_le (length p.lists.head) longest_part) (nat_le p.lists.zeros most_zeros)
    (nat_le (zeros_behind_end p.lists) most_zeros) (nat_le (118 + length p.context + length p.lists.prefix + length p.lists.head) (12 * frame_macroblocks p.picture.head)) long

still_long : (bytes : List ℕ) → nat_le (length bytes) longest_part ≡ false → nat_le (length (kept_front bytes)) longest_part ≡ false
still_long bytes long =
    let many = leb-false (length bytes) 65535 long in
    lt-leb (length (kept_front bytes)) 65535 (omega (arith, many, length-take 65536 bytes))

kept_by : (p : FrameParts) (b : Bool) → nat_le (length p.context) longest_part ≡ b → AreSame (with_kept p) p
kept_by p true short =
    let all : kept_front p.context ≡ p.context = let few = leb-true (length p.context) 65535 short in take_all 65536 p.context (omega (arith, few)) in
    let same : with_kept p ≡ p = ap (λ (c : List ℕ). record p { context = c }) all in
    record { seal = ap frame_seal same; samples = ap (λ (x : FrameParts). frame_samples x) same }
kept_by p false long =
    without_records (with_kept p) p (too_long (with_kept p) (still_long p.context long)) (too_long p long) refl

pub kept_record : (p : FrameParts) → AreSame (with_kept p) p
kept_record p = kept_by p (nat_le (length p.context) longest_part) refl
