-- What is read in front of whatever follows, part by part.
use Rattle.std.proofs.Common.{◌≡◌, ℕ, ◌^◌, ◌<◌, Bool, true, false, eqb, List, [], ◌∷◌, ◌++◌, refl, ap, sym, ◌∙◌, subst, inl, Result, Ok, append_assoc, mod-eq_of_lt}
use Rattle.std.specs.List.{list_all}
use Rattle.mv_terms.specs.declared.status.Why.{Why}
use Rattle.mv_bits.specs.Bits.{front, digits}
use Rattle.mv_bits.specs.Readings.{◌>>=◌, Gives, Field, Flag, Demands, When}
use Rattle.mv_bits.specs.ReadBack.{sent}
use Rattle.mv_bits.proofs.BitLaws.{front-digits, drop-digits}
use Rattle.mv_codes.specs.declared.code.Code.{Code}
use Rattle.mv_codes.specs.Tables.{CodeOf, is_sized}
use Rattle.mv_codes.specs.Spelled.{has_code, code_or}
use Rattle.mv_codes.proofs.TableLaws.{Spells-written}
use Rattle.mv_codes.proofs.SpelledLaws.{code_spells}

-- these bits are read as this value, whatever follows
pub record Reads {A : Type 0} (reading : List Bool → Result (A × List Bool) Why → Type 0) (value : A) (bits : List Bool) : Type 0 where
  pub read : (rest : List Bool) → reading (bits ++ rest) (Ok (value, rest))

same_value : {A : Type 0} (v w : A) (rest : List Bool) → v ≡ w → ◌≡◌ {A = Result (A × List Bool) Why} (Ok (v, rest)) (Ok (w, rest))
same_value {A} v w rest e = let ok : A → Result (A × List Bool) Why = λ x. Ok (x, rest) in ap ok e

pub reads_gives : {A : Type 0} (v w : A) → v ≡ w → Reads {A = A} (Gives v) w []
reads_gives v w e = record { read = λ rest. same_value w v rest (sym e) }

module _ {A B : Type 0} (first : List Bool → Result (A × List Bool) Why → Type 0) (then : A → List Bool → Result (B × List Bool) Why → Type 0) (v : A) (w : B) where
  pub reads_then : (xs ys : List Bool) → Reads first v xs → Reads (then v) w ys → Reads (first >>= then) w (xs ++ ys)
  reads_then xs ys a b = record {
    read = λ rest. subst (λ (z : List Bool). (first >>= then) z (Ok (w, rest))) (sym (append_assoc xs ys rest)) (inl (v, ys ++ rest, a.read (ys ++ rest), b.read rest));
  }

  pub reads_last : (xs : List Bool) → Reads first v xs → Reads (then v) w [] → Reads (first >>= then) w xs
  reads_last xs a b = record { read = λ rest. inl (v, rest, a.read rest, b.read rest) }

  pub reads_second : (ys : List Bool) → Reads first v [] → Reads (then v) w ys → Reads (first >>= then) w ys
  reads_second ys a b = record { read = λ rest. inl (v, ys ++ rest, a.read (ys ++ rest), b.read rest) }

pub reads_field : (n v : ℕ) → v < 2 ^ n → Reads (Field n) v (digits n v)
reads_field n v h = record { read = λ rest. (sym (front-digits n v rest ∙ mod-eq_of_lt h), sym (drop-digits n v rest)) }

flag_front : (b : Bool) (rest : List Bool) → b ≡ eqb (front 1 (b ∷ rest)) 1
unfolding front
flag_front true rest = refl
flag_front false rest = refl

pub reads_flag : (b : Bool) → Reads Flag b (b ∷ [])
reads_flag b = record { read = λ rest. (flag_front b rest, refl) }

pub reads_demand : (Holds : Type 0) (why : Why) → Holds → Reads (Demands Holds why) tt []
reads_demand Holds why h = record { read = λ rest. (h, refl) }

pub reads_when : {A : Type 0} (is : Bool) (default : A) (reading : List Bool → Result (A × List Bool) Why → Type 0) (v : A) (bits : List Bool)
    → (is ≡ true → Reads reading v bits) → (is ≡ false → v ≡ default) → Reads (When is default reading) v (sent is bits)
reads_when true default reading v bits a b = record { read = λ rest. (a refl).read rest }
reads_when false default reading v bits a b = record { read = λ rest. same_value v default rest (b refl) }

pub reads_code : {M : Type 0} (same : M → M → Bool) (table : List (Code M)) (why : Why) → ((v m : M) → same v m ≡ true → m ≡ v) → list_all is_sized table ≡ true
    → (otherwise : List Bool) (v : M) → has_code (same v) table ≡ true → Reads (CodeOf table why) v (code_or otherwise (same v) table)
reads_code same table why one sized otherwise v has = record { read = λ rest. Spells-written table v (code_or otherwise (same v) table) rest sized (code_spells (same v) otherwise table v (one v) has) }
