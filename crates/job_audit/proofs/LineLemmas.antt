-- The line of a frame with a chain.
use Rattle.std.proofs.Common.{◌≡◌, ◌⊎◌, ℕ, zero, suc, ◌<◌, ◌≤◌, Bool, true, false, ◌&&◌, List, [], ◌++◌, codes, decimal, length, option_map, Option, Some, None, refl, sym, ap, ◌∙◌, inl, inr, true≢false, append_assoc, append-nil, arith}
use Rattle.std.proofs.lemmas.Bool.{cases_lt}
use Rattle.std.proofs.lemmas.Option.{slice_get_past}
use Rattle.std.specs.Option.{option_and_then, option_map_or}
use Rattle.plan_window.specs.declared.summary.Mode.{Mode}
use Rattle.plan_window.specs.declared.summary.Mode.TheVariants as mode
use Rattle.plan_window.specs.Plan.{ahead, mode_at}
use Rattle.rec_legal.specs.FoundRecord.{FoundRecord}
use Rattle.enc_guided.specs.Recoded.{Recoding, guide_by}
use Rattle.enc_guided.specs.FileSteps.{summaries_in}
use Rattle.cert_chains.specs.Planned.{found_at}
use Rattle.cert_chains.specs.Chains.{has_chain, is_flagged, says_certified}
use Rattle.job_audit.specs.declared.line.Line.{Line}
use Rattle.job_audit.specs.Audit.{SaysChain, audit_line, certified_word, first_lines, line_text, said_by, type_word}

-- ---- chains

both_left : (a b : Bool) → (a && b) ≡ true → a ≡ true
both_left true b e = refl
both_left false b e = e

-- a frame with a chain is coded by a record that says certified
chain_flag : (r : Recoding) (frames : List (List ℕ)) (i : ℕ) → has_chain r frames i ≡ true → is_flagged r frames i ≡ true
chain_flag r frames i e = both_left _ _ (both_left _ _ e)

-- what such a frame has: its place, its mode and its record
record Flagged (r : Recoding) (frames : List (List ℕ)) (i : ℕ) : Type 0 where
  within : i < length frames
  is_guided : mode_at ahead (summaries_in r frames) i ≡ mode.Guided
  here : FoundRecord
  found : found_at r frames i ≡ Some here
  certified : says_certified here ≡ true

flagged : (r : Recoding) (frames : List (List ℕ)) (i : ℕ) → is_flagged r frames i ≡ true → Flagged r frames i
flagged r frames i e = by (mode_at ahead (summaries_in r frames) i) (found_at r frames i) refl refl e
  where
    place : (f : FoundRecord) → found_at r frames i ≡ Some f → i < length frames
    place f is = go (cases_lt i (length frames))
      where
        go : (i < length frames) ⊎ (length frames ≤ i) → i < length frames
        go (inl h) = h
        go (inr h) = let none : found_at r frames i ≡ None = ap (option_and_then r.find) (slice_get_past frames i h) in absurd cc

    by : (m : Mode) (o : Option FoundRecord) → mode_at ahead (summaries_in r frames) i ≡ m → found_at r frames i ≡ o → option_map_or says_certified (guide_by m o) false ≡ true → Flagged r frames i
    by mode.Guided (Some f) m o h = record { within = place f o; is_guided = m; here = f; found = o; certified = h }
    by mode.Guided None m o h = absurd (true≢false (sym h))
    by mode.Fresh o' m o h = absurd (true≢false (sym h))

-- the words of its line
chain_text : (r : Recoding) (frames : List (List ℕ)) (i : ℕ) → has_chain r frames i ≡ true → (f : Flagged r frames i) →
    line_text (audit_line r frames i) ≡ decimal i ++ (codes " " ++ (type_word f.here.sheet.pic ++ codes " guided certified chain\n"))
chain_text r frames i e f =
    let line : Option FoundRecord → Mode → Bool → Line = λ found m chain. record { frame = i; found = option_map said_by found; mode = m; has_chain = chain } in
    ap (λ (o : Option FoundRecord). line_text (line o (mode_at ahead (summaries_in r frames) i) (has_chain r frames i))) f.found
    ∙ ap (λ (m : Mode). line_text (line (Some f.here) m (has_chain r frames i))) f.is_guided
    ∙ ap (λ (b : Bool). line_text (line (Some f.here) mode.Guided b)) e
    ∙ ap (λ (b : Bool). decimal i ++ (codes " " ++ (type_word f.here.sheet.pic ++ (codes " guided " ++ (certified_word b ++ codes " chain\n"))))) f.certified

-- ---- lines

-- the line of a frame stands behind those of the frames before it
line_stands : (r : Recoding) (frames : List (List ℕ)) (i n : ℕ) → i < n → (behind : List ℕ) × (first_lines r frames n ≡ first_lines r frames i ++ (line_text (audit_line r frames i) ++ behind))
line_stands r frames i zero lt = absurd (omega arith)
line_stands r frames i (suc n) lt = go (cases_lt i n) (line_stands r frames i n)
  where
    text : List ℕ
    text = line_text (audit_line r frames i)

    go : (i < n) ⊎ (n ≤ i) → (i < n → (behind : List ℕ) × (first_lines r frames n ≡ first_lines r frames i ++ (line_text (audit_line r frames i) ++ behind)))
        → (behind : List ℕ) × (first_lines r frames n ++ line_text (audit_line r frames n) ≡ first_lines r frames i ++ (line_text (audit_line r frames i) ++ behind))
    go (inl h) more =
        let (behind, e) = more h in
        let last = line_text (audit_line r frames n) in
        (behind ++ last, ap (λ (x : List ℕ). x ++ last) e ∙ append_assoc (first_lines r frames i) (text ++ behind) last ∙ ap (λ (x : List ℕ). first_lines r frames i ++ x) (append_assoc text behind last))
    go (inr h) more =
        let same : n ≡ i = omega arith in
        ([], ap (λ (j : ℕ). first_lines r frames j ++ line_text (audit_line r frames j)) same ∙ ap (λ (x : List ℕ). first_lines r frames i ++ x) (sym (append-nil text)))

pub says_chain : (r : Recoding) (frames : List (List ℕ)) (i : ℕ) → has_chain r frames i ≡ true → SaysChain r frames i
says_chain r frames i e =
    let f = flagged r frames i (chain_flag r frames i e) in
    let (behind, stands) = line_stands r frames i (length frames) f.within in
    let word = type_word f.here.sheet.pic in
    record {
      pic = f.here.sheet.pic;
      behind = behind;
      text = stands ∙ ap (λ (x : List ℕ). first_lines r frames i ++ (x ++ behind)) (chain_text r frames i e f)
          ∙ ap (λ (x : List ℕ). first_lines r frames i ++ x) (append_assoc (decimal i) (codes " " ++ (word ++ codes " guided certified chain\n")) behind
          ∙ ap (λ (x : List ℕ). decimal i ++ (codes " " ++ x)) (append_assoc word (codes " guided certified chain\n") behind));
    }
