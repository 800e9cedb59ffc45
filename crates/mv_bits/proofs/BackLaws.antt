-- What reads back, part by part.
use Rattle.std.proofs.Common.{◌≡◌, ℕ, ◌^◌, ◌<◌, Bool, true, false, eqb, List, [], ◌∷◌, ◌++◌, refl, ap, sym, ◌∙◌, subst, arith, inl, Result, Ok, append_assoc}
use Rattle.mv_bits.specs.Bits.{front, digits, worth, trim}
use Rattle.mv_bits.specs.Readings.{◌>>=◌, Gives, Field, Flag, Demands, When}
use Rattle.mv_bits.specs.ReadBack.{ReadsBack, sent}
use Rattle.mv_bits.proofs.TrimLaws.{front-trim, drop-trim, front-trim-digits, drop-trim-digits}

flag_worth : (b : Bool) (f : ℕ) → f ≡ worth b → b ≡ eqb f 1
flag_worth true f e = rw e refl
flag_worth false f e = rw e refl

front_flag : (b : Bool) (rest : List Bool) → front 1 (b ∷ rest) ≡ worth b
unfolding front
front_flag b rest = omega arith

module _ {W : Type 0} where
  same_value : {A : Type 0} (v w : A) (rest : List Bool) → v ≡ w → ◌≡◌ {A = Result (A × List Bool) W} (Ok (v, rest)) (Ok (w, rest))
  same_value {A} v w rest e = let ok : A → Result (A × List Bool) W = λ x. Ok (x, rest) in ap ok e

  pub back_gives : {A : Type 0} (v w : A) → v ≡ w → ReadsBack W {A = A} (Gives v) w []
  back_gives v w e = record { back = λ rest. same_value w v (trim rest) (sym e) }

  -- one element and another behind it
  module _ {A B : Type 0} (first : List Bool → Result (A × List Bool) W → Type 0) (then : A → List Bool → Result (B × List Bool) W → Type 0) (v : A) (w : B) where
    pub back_then : (xs ys : List Bool) → ReadsBack W first v xs → ReadsBack W (then v) w ys → ReadsBack W (first >>= then) w (xs ++ ys)
    back_then xs ys a b = record {
      back = λ rest. subst (λ (z : List Bool). (first >>= then) (trim z) (Ok (w, trim rest))) (sym (append_assoc xs ys rest)) (inl (v, trim (ys ++ rest), a.back (ys ++ rest), b.back rest));
    }

    -- where nothing is read behind the first
    pub back_last : (xs : List Bool) → ReadsBack W first v xs → ReadsBack W (then v) w [] → ReadsBack W (first >>= then) w xs
    back_last xs a b = record { back = λ rest. inl (v, trim rest, a.back rest, b.back rest) }

    -- where nothing is read of the first
    pub back_second : (ys : List Bool) → ReadsBack W first v [] → ReadsBack W (then v) w ys → ReadsBack W (first >>= then) w ys
    back_second ys a b = record { back = λ rest. inl (v, trim (ys ++ rest), a.back (ys ++ rest), b.back rest) }

  pub back_field : (n v : ℕ) → v < 2 ^ n → ReadsBack W (Field n) v (digits n v)
  back_field n v h = record { back = λ rest. (sym (front-trim-digits n v rest h), sym (drop-trim-digits n v rest)) }

  pub back_flag : (b : Bool) → ReadsBack W Flag b (b ∷ [])
  back_flag b = record { back = λ rest. (flag_worth b _ (front-trim 1 (b ∷ rest) ∙ front_flag b rest), sym (drop-trim 1 (b ∷ rest))) }

  pub back_demand : (Holds : Type 0) (why : W) → Holds → ReadsBack W (Demands Holds why) tt []
  back_demand Holds why h = record { back = λ rest. (h, refl) }

  pub back_when : {A : Type 0} (is : Bool) (default : A) (reading : List Bool → Result (A × List Bool) W → Type 0) (v : A) (bits : List Bool)
      → (is ≡ true → ReadsBack W reading v bits) → (is ≡ false → v ≡ default) → ReadsBack W (When is default reading) v (sent is bits)
  back_when true default reading v bits a b = record { back = λ rest. (a refl).back rest }
  back_when false default reading v bits a b = record { back = λ rest. same_value v default (trim rest) (b refl) }
