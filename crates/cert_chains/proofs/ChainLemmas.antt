-- An intact frame has a chain.
use Rattle.std.proofs.Common.{◌≡◌, ◌≢◌, ℕ, zero, suc, Bool, true, false, cond, not, ◌||◌, List, [], ◌∷◌, slice_get, Option, Some, None, refl, sym, ap, ap₂, ◌∙◌}
use Rattle.std.specs.Option.{option_map_or}
use Rattle.std.proofs.lemmas.Bool.{and_from, or_left, or_right}
use Rattle.mv_terms.specs.declared.head.PicType.{PicType}
use Rattle.mv_terms.specs.declared.head.PicType.TheVariants.{I, P, B}
use Rattle.mv_terms.specs.PicTypes.{is_anchor}
use Rattle.plan_window.specs.declared.summary.Summary.{Summary}
use Rattle.plan_window.specs.Links.{is_anchor_record}
use Rattle.plan_window.specs.Plan.{anchors_before}
use Rattle.rec_legal.specs.FoundRecord.{FoundRecord}
use Rattle.rec_legal.specs.Conditions.{has_flag, uses_forward_flag}
use Rattle.cert_found.specs.RecordLaw.{RecordIsFound}
use Rattle.enc_guided.specs.Recoded.{Recoding}
use Rattle.enc_guided.specs.FileSteps.{recoding_by_records, summaries_in}
use Rattle.cert_chains.specs.Planned.{anchor_in, group_anchor}
use Rattle.cert_chains.specs.Intact.{StreamPicture, type_in_stream, IsAccepted, uses_forward_in_stream, Intact, HasForward, HasBackward}
use Rattle.cert_chains.specs.Intact.Intact.{intact}
use Rattle.cert_chains.specs.Intact.HasForward.{unused, forward_kept, forward_missing}
use Rattle.cert_chains.specs.Intact.HasBackward.{not_b, backward_kept}
use Rattle.cert_chains.specs.Chains.{says_certified, is_chain_of, has_forward_chain, has_chain}
use Rattle.cert_chains.specs.Laws.{IntactHasChain}
use Rattle.cert_chains.proofs.FoundLemmas.{IsByRecords, summary_there}
use Rattle.cert_chains.proofs.StreamLemmas.{forward_accepted, backward_accepted}
use Rattle.cert_chains.proofs.LinkLemmas.{flags_say, guided_by}

-- ---- the anchors before the nearest one are those behind it

rest_is : (anchor : ℕ → Bool) (i a : ℕ) (rest : List ℕ) → anchors_before anchor i ≡ a ∷ rest → rest ≡ anchors_before anchor a
rest_is anchor zero a rest e = absurd cc
rest_is anchor (suc i) a rest e = go (anchor i) e (rest_is anchor i a rest)
  where
    go : (b : Bool) → cond b (i ∷ anchors_before anchor i) (anchors_before anchor i) ≡ a ∷ rest → (anchors_before anchor i ≡ a ∷ rest → rest ≡ anchors_before anchor a) → rest ≡ anchors_before anchor a
    go true f more = let same : i ≡ a = cc in let list : anchors_before anchor i ≡ rest = cc in sym list ∙ ap (anchors_before anchor) same
    go false f more = more f

first_is : (xs : List ℕ) (x : ℕ) → slice_get xs 0 ≡ Some x → (rest : List ℕ) × (xs ≡ x ∷ rest)
first_is [] x e = absurd cc
first_is (y ∷ ys) x e = (ys, let same : y ≡ x = cc in ap (λ (z : ℕ). z ∷ ys) same)

none_is : (xs : List ℕ) → slice_get xs 0 ≡ None → xs ≡ []
none_is [] e = refl
none_is (x ∷ xs) e = absurd cc

anchors_from : (anchor : ℕ → Bool) (i a : ℕ) → slice_get (anchors_before anchor i) 0 ≡ Some a → anchors_before anchor i ≡ a ∷ anchors_before anchor a
anchors_from anchor i a e = let f = first_is (anchors_before anchor i) a e in f.1 ∙ ap (λ (l : List ℕ). a ∷ l) (rest_is anchor i a f.0 f.1)

-- ---- a frame with an anchor record is an anchor

pub anchor_by_record : (r : Recoding) (frames : List (List ℕ)) (i : ℕ) (s : Summary) → slice_get (summaries_in r frames) i ≡ Some s → is_anchor_record s ≡ true → anchor_in r frames i ≡ true
anchor_by_record r frames i s there is = or_left _ _ (ap (λ (o : Option Summary). option_map_or is_anchor_record o false) there ∙ is)

not_b_anchor : (t : PicType) → t ≢ B → is_anchor t ≡ true
not_b_anchor I other = refl
not_b_anchor P other = refl
not_b_anchor B other = absurd (other refl)

-- ---- chains

module _ (law : RecordIsFound) (r : Recoding) (frames : List (List ℕ)) (by : IsByRecords r) where
  mutual
    forward_chain : (i : ℕ) (p : StreamPicture) → IsAccepted p → Intact r frames i p → has_forward_chain r frames i ≡ true
    forward_chain i p are (intact held is fwd bwd) =
        let guided = guided_by law r frames by i p are held is fwd bwd in
        and_from _ _ (ap (λ (o : Option FoundRecord). option_map_or says_certified o false) guided ∙ (flags_say p).certified ∙ is)
        (ap (λ (o : Option FoundRecord). not (option_map_or (λ (found : FoundRecord). has_flag found.sheet uses_forward_flag) o false) || is_chain_of r frames (anchors_before (anchor_in r frames) i)) guided
        ∙ ap (λ (b : Bool). not b || is_chain_of r frames (anchors_before (anchor_in r frames) i)) (flags_say p).uses
        ∙ chain_before i p are fwd)

    chain_before : (i : ℕ) (p : StreamPicture) → IsAccepted p → HasForward r frames i p
        → (not (uses_forward_in_stream p) || is_chain_of r frames (anchors_before (anchor_in r frames) i)) ≡ true
    chain_before i p are (unused e) = or_left _ _ (ap not e)
    chain_before i p are (forward_kept {a = a} {f = f} near of is) =
        or_right _ _ (ap (is_chain_of r frames) (anchors_from (anchor_in r frames) i a near) ∙ forward_chain a f (forward_accepted p f are of) is)
    chain_before i p are (forward_missing near of) = or_right _ _ (ap (is_chain_of r frames) (none_is (anchors_before (anchor_in r frames) i) near))

  group_chain : (i : ℕ) (p : StreamPicture) → IsAccepted p → HasBackward r frames i p → (type_in_stream p ≢ B → anchor_in r frames i ≡ true)
      → cond (anchor_in r frames i) true (option_map_or (has_forward_chain r frames) (group_anchor r frames i) false) ≡ true
  group_chain i p are (not_b other) at = ap (λ (c : Bool). cond c true (option_map_or (has_forward_chain r frames) (group_anchor r frames i) false)) (at other)
  group_chain i p are (backward_kept {a = a} {b = q} plain near of is) at =
      ap₂ (λ (c : Bool) (o : Option ℕ). cond c true (option_map_or (has_forward_chain r frames) o false)) plain near ∙ forward_chain a q (backward_accepted p q are of) is

  pub chain_of : (i : ℕ) (p : StreamPicture) → IsAccepted p → Intact r frames i p → has_chain r frames i ≡ true
  chain_of i p are (intact held is fwd bwd) =
      and_from _ _ (forward_chain i p are (intact held is fwd bwd))
      (group_chain i p are bwd (λ other. anchor_by_record r frames i _ (summary_there law r frames i p by are held is) (not_b_anchor (type_in_stream p) other)))

pub intact_has_chain : RecordIsFound → IntactHasChain
intact_has_chain law scale header frames i p is are whole =
    chain_of law (recoding_by_records scale header) frames (record { header = is; finds = λ frame. refl }) i p are whole
