-- The bytes of a stream as they come.
use Rattle.std.proofs.Common.{◌≡◌, ◌≤◌, ◌<◌, ℕ, ◌+◌, ◌-◌, Bool, true, false, List, [], ◌++◌, length, take, drop, Option, None, Some, inl, inr, refl, sym, ap, ◌∙◌, subst, append_assoc, append-nil, arith}
use Rattle.std.specs.Prelude.{if◌then◌else◌}
use Rattle.std.proofs.lemmas.Bool.{cases_lt, lt-leb}
use Rattle.std.proofs.lemmas.List.{length-append, take-append-le, take-append-drop, length-take, length-drop, drop-take, drop-drop}
use Rattle.std.specs.Io.KnownBytes.{Consumes, IsAtEnd, Keeps}
use Rattle.mv_ends.specs.Moves.{Inputs, input_of, Opens}
use Rattle.mv_ends.proofs.Known.{Consumes-trans, opened}
use Rattle.mv_terms.specs.UnitLists.{UnitLists}
use Rattle.mv_units.specs.declared.cutter.Cut.TheVariants as cuts
use Rattle.mv_units.specs.Units.{Units, Fed, units_left, units_of, nothing_fed, next_of, cut_at, cut_of, found_of, taken, behind_ready, StandsFor, Settles, open_stream, units_within, OpenStreamsShowMore}
use Rattle.mv_units.specs.declared.walk.Next.{Next}
use Rattle.mv_units.specs.declared.walk.Next.TheVariants.{More, Ready, Refused}
use Rattle.mv_units.proofs.CuttingLaws.{settled, ready_found, open_streams_show_more}
use Rattle.mv_units.proofs.NextLaws.{ready_fits}
use Rattle.mv_units.proofs.UnitTakes.{ready_takes}
use Rattle.job_decode.specs.declared.piece.Piece.{Piece}
use Rattle.job_decode.specs.Stream.{piece_limit}
use Rattle.job_decode.specs.Steps.{IsFed, Fits, unfed, left_to_do}

-- what is left of an input
pub all_bytes : (input bytes : List ℕ) (rest : Option (List ℕ)) → Consumes (Some input) rest bytes → (left : List ℕ) × (rest ≡ Some left) × (input ≡ bytes ++ left)
all_bytes input bytes None h = absurd h
all_bytes input bytes (Some left) h = (left, refl, h)

consumes_keeps : (a b c : Option (List ℕ)) (x : List ℕ) → Consumes a b x → Keeps b c → Consumes a c x
consumes_keeps None b c x h k = tt
consumes_keeps (Some p) None c x h k = absurd h
consumes_keeps (Some p) (Some q) None x h k = absurd k
consumes_keeps (Some p) (Some q) (Some r) x h k = h ∙ ap (λ (s : List ℕ). x ++ s) (sym k)

never_closed : (fed : Fed) (A : Type 0) → fed.closed ≡ false → fed.closed ≡ true → A
never_closed fed A live e = absurd (let no : true ≡ false = sym e ∙ live in cc)

pub fed_starts : (named : Option Inputs) (name : List ℕ) (rest : Option (List ℕ)) (fed : Fed) → fed ≡ nothing_fed → StandsFor fed [] [] → Opens named name rest → IsFed named name rest fed [] []
fed_starts named name rest fed nothing stands opens = record {
  past = [];
  stands = stands;
  at_end = never_closed fed (IsAtEnd rest) (ap (λ (f : Fed). f.closed) nothing);
  told = λ inputs told. record {
    taken = opened named inputs name rest told opens;
    ended = never_closed fed _ (ap (λ (f : Fed). f.closed) nothing);
    near = λ n more. omega arith;
  };
}

-- bytes of the piece are fed
pub feeds : (named : Option Inputs) (name : List ℕ) (rest : Option (List ℕ)) (fed next : Fed) (unfed later : List ℕ) (n : ℕ) (let_go : List UnitLists) → fed.closed ≡ false
    → next ≡ record fed { bytes = fed.bytes ++ take n unfed }
    → ((bytes : List ℕ) (units : List UnitLists) → StandsFor fed bytes units → StandsFor next (bytes ++ take n unfed) units)
    → later ≡ drop n unfed → IsFed named name rest fed unfed let_go → IsFed named name rest next later let_go
feeds named name rest fed next unfed later n let_go live is stands later_is so =
    let open' : next.closed ≡ false = ap (λ (f : Fed). f.closed) is ∙ live in
    let parts : so.past ++ unfed ≡ (so.past ++ take n unfed) ++ later =
    ap (λ (s : List ℕ). so.past ++ s) (sym (take-append-drop n unfed)) ∙ (sym (append_assoc so.past (take n unfed) (drop n unfed)) ∙ ap (λ (s : List ℕ). (so.past ++ take n unfed) ++ s) (sym later_is)) in
    record {
      past = so.past ++ take n unfed;
      stands = stands so.past let_go so.stands;
      at_end = never_closed next (IsAtEnd rest) open';
      told = λ inputs told.
          let t = so.told inputs told in
          record {
            taken = subst (λ (s : List ℕ). Consumes (Some (input_of inputs name)) rest s) parts t.taken;
            ended = never_closed next _ open';
            near = λ k more. subst (λ (s : List ℕ). length s < k + piece_limit) parts (t.near k more);
          };
    }

few_more : (few all others : List UnitLists) → all ≡ few ++ others → length few ≤ length all
few_more few all others is = omega (arith, ap (λ (us : List UnitLists). length us) is, length-append few others)

-- Where a cutter waits for bytes, no more units are shown by fewer bytes than were let go.
shown_before : OpenStreamsShowMore → (past : List ℕ) (n : ℕ) (let_go : List UnitLists) → units_left (open_stream past) ≡ record { units = let_go; refusal = None }
    → length (units_left (open_stream (take n past))).units ≤ length let_go
shown_before law past n let_go is =
    let more = law (take n past) false (drop n past) in
    let whole : units_left (open_stream (take n past ++ drop n past)) ≡ record { units = let_go; refusal = None } = ap (λ (s : List ℕ). units_left (open_stream s)) (take-append-drop n past) ∙ is in
    few_more (units_left (open_stream (take n past))).units let_go more.units.0 (sym (ap (λ (us : Units). us.units) whole) ∙ more.units.1)

within_open : (bytes : List ℕ) (n : ℕ) → n < length bytes → units_within bytes n ≡ length (units_left (open_stream (take n bytes))).units
within_open bytes n lt = ap (λ (b : Bool). if b then length (units_of bytes).units else length (units_left (open_stream (take n bytes))).units) (lt-leb (length bytes) n lt)

near_reads : OpenStreamsShowMore → (input past piece left : List ℕ) (let_go : List UnitLists) → units_left (open_stream past) ≡ record { units = let_go; refusal = None }
    → input ≡ (past ++ piece) ++ left → length piece ≤ piece_limit → (n : ℕ) → length let_go < units_within input n → length (past ++ piece) < n + piece_limit
near_reads law input past piece left let_go waits is most n more =
    let len : length input ≡ length (past ++ piece) + length left = ap (λ (s : List ℕ). length s) is ∙ length-append (past ++ piece) left in
    elim (cases_lt n (length input)) [
      | inl inside ↦ elim (cases_lt (length past) n) [
        | inl beyond ↦ omega (arith, beyond, most, length-append past piece)
        | inr short ↦ absurd (
            let front : take n input ≡ take n past = ap (λ (s : List ℕ). take n s) (is ∙ append_assoc past piece left) ∙ take-append-le n past (piece ++ left) short in
            let few = shown_before law past n let_go waits in
            let here : units_within input n ≡ length (units_left (open_stream (take n past))).units =
            within_open input n inside ∙ ap (λ (s : List ℕ). length (units_left (open_stream s)).units) front in
            omega (arith, more, few, here))
      ]
      | inr all ↦ omega (arith, all, len)
    ]

-- a piece is read
pub reads : OpenStreamsShowMore → (named : Option Inputs) (name : List ℕ) (rest now : Option (List ℕ)) (fed : Fed) (unfed piece : List ℕ) (let_go : List UnitLists) → fed.closed ≡ false → Settles fed cuts.More
    → unfed ≡ [] → Consumes rest now piece → length piece ≤ piece_limit → IsFed named name rest fed unfed let_go → IsFed named name now fed piece let_go
reads law named name rest now fed unfed piece let_go live settles empty consumed most so = record {
  past = so.past;
  stands = so.stands;
  at_end = never_closed fed (IsAtEnd now) live;
  told = λ inputs told.
      let t = so.told inputs told in
      let before : Consumes (Some (input_of inputs name)) rest so.past = subst (λ (s : List ℕ). Consumes (Some (input_of inputs name)) rest s) (ap (λ (s : List ℕ). so.past ++ s) empty ∙ append-nil so.past) t.taken in
      let taken = Consumes-trans (Some (input_of inputs name)) rest now so.past piece before consumed in
      let all = all_bytes (input_of inputs name) (so.past ++ piece) now taken in
      record {
        taken = taken;
        ended = never_closed fed _ live;
        near = near_reads law (input_of inputs name) so.past piece all.0 let_go (settles so.past let_go so.stands) all.2 most;
      };
}

-- the end is told
pub closes : (named : Option Inputs) (name : List ℕ) (rest : Option (List ℕ)) (fed next : Fed) (unfed : List ℕ) (let_go : List UnitLists) → unfed ≡ [] → IsAtEnd rest
    → ((bytes : List ℕ) (units : List UnitLists) → StandsFor fed bytes units → StandsFor next bytes units)
    → IsFed named name rest fed unfed let_go → IsFed named name rest next unfed let_go
closes named name rest fed next unfed let_go empty end stands so = record {
  past = so.past;
  stands = stands so.past let_go so.stands;
  at_end = λ e. end;
  told = λ inputs told.
      let t = so.told inputs told in
      record { taken = t.taken; ended = λ e. (empty, end); near = t.near };
}

-- reading failed
pub fails : (named : Option Inputs) (name : List ℕ) (rest now : Option (List ℕ)) (fed : Fed) (unfed : List ℕ) (let_go : List UnitLists) → Keeps rest now
    → fed.closed ≡ false → IsFed named name rest fed unfed let_go → IsFed named name now fed unfed let_go
fails named name rest now fed unfed let_go keeps live so = record {
  past = so.past;
  stands = so.stands;
  at_end = never_closed fed (IsAtEnd now) live;
  told = λ inputs told.
      let t = so.told inputs told in
      record {
        taken = consumes_keeps (Some (input_of inputs name)) rest now (so.past ++ unfed) t.taken keeps;
        ended = never_closed fed _ live;
        near = t.near;
      };
}

-- ---- where the cutter waits for bytes

pub open_state : (fed : Fed) → cut_of fed ≡ cuts.More → (fed.closed ≡ false) × (next_of fed ≡ More)
open_state fed is = open_by fed.closed (next_of fed) is where
  open_by : (closed : Bool) (next : Next) → cut_at closed next ≡ cuts.More → (closed ≡ false) × (next ≡ More)
  open_by true More h = absurd cc
  open_by false More h = (refl, refl)
  open_by closed (Ready f) h = absurd cc
  open_by closed (Refused why) h = absurd cc

-- what is not fed yet, behind n bytes more
pub unfed_next : (bytes : List ℕ) (at end n : ℕ) → at + n ≤ end → take (end - (at + n)) (drop (at + n) bytes) ≡ drop n (take (end - at) (drop at bytes))
unfed_next bytes at end n le =
    let parts : end - at ≡ n + (end - (at + n)) = omega (arith, le) in
    rw (parts, drop-take, drop-drop) refl

pub none_unfed : (bytes : List ℕ) (at end : ℕ) → end ≤ at → take (end - at) (drop at bytes) ≡ []
none_unfed bytes at end le = let none : end - at ≡ 0 = omega (arith, le) in rw none refl

pub unfed_length : (bytes : List ℕ) (at end : ℕ) → at ≤ end → end ≤ length bytes → length (take (end - at) (drop at bytes)) ≡ end - at
unfed_length bytes at end le inside = omega (arith, le, inside, length-take (end - at) (drop at bytes), length-drop at bytes)

-- ---- a piece as it is fed and read

pub fed_on : (fed next : Fed) (piece later : Piece) (bytes : List ℕ) (n : ℕ) → bytes ≡ unfed piece → Fits piece fed → cut_of fed ≡ cuts.More → n ≤ length bytes
    → next ≡ record fed { bytes = fed.bytes ++ take n bytes }
    → ((past : List ℕ) (units : List UnitLists) → StandsFor fed past units → StandsFor next (past ++ take n bytes) units)
    → later.bytes ≡ piece.bytes → later.at ≡ piece.at + n → later.end ≡ piece.end
    → (named : Option Inputs) (name : List ℕ) (rest : Option (List ℕ)) (let_go : List UnitLists) → IsFed named name rest fed (unfed piece) let_go → IsFed named name rest next (unfed later) let_go
fed_on fed next piece later bytes n is fits more le next_is stands same_bytes at_is end_is named name rest let_go so =
    let within = fits.within in
    let inside = fits.inside in
    let len : length bytes ≡ piece.end - piece.at = ap (λ (s : List ℕ). length s) is ∙ unfed_length piece.bytes.items piece.at piece.end within inside in
    let later_is : unfed later ≡ drop n bytes =
    ap (λ b. take (later.end - later.at) (drop later.at b.items)) same_bytes
    ∙ (ap (λ (k : ℕ). take (later.end - k) (drop k piece.bytes.items)) at_is
    ∙ (ap (λ (k : ℕ). take (k - (piece.at + n)) (drop (piece.at + n) piece.bytes.items)) end_is
    ∙ (unfed_next piece.bytes.items piece.at piece.end n (omega (arith, le, len, within))
    ∙ ap (λ (s : List ℕ). drop n s) (sym is)))) in
    feeds named name rest fed next bytes (unfed later) n let_go (open_state fed more).0 next_is stands later_is (subst (λ (s : List ℕ). IsFed named name rest fed s let_go) (sym is) so)

settles_more : (fed : Fed) → cut_of fed ≡ cuts.More → Settles fed cuts.More
settles_more fed more = subst (λ c. Settles fed c) more (settled fed)

-- the next piece is read
pub read_on : (fed : Fed) (piece later : Piece) (bytes : List ℕ) (n : ℕ) (rest now : Option (List ℕ)) → Fits piece fed → cut_of fed ≡ cuts.More → piece.end ≤ piece.at → Consumes rest now (take n bytes) → length bytes ≡ piece_limit
    → later.bytes.items ≡ bytes → later.at ≡ 0 → later.end ≡ n
    → (named : Option Inputs) (name : List ℕ) (let_go : List UnitLists) → IsFed named name rest fed (unfed piece) let_go → IsFed named name now fed (unfed later) let_go
read_on fed piece later bytes n rest now fits more all consumed most bytes_are at_is end_is named name let_go so =
    let later_is : unfed later ≡ take n bytes =
    ap (λ (k : ℕ). take (later.end - k) (drop k later.bytes.items)) at_is
    ∙ (ap (λ (k : ℕ). take (k - 0) (drop 0 later.bytes.items)) end_is
    ∙ (ap (λ (k : ℕ). take k (drop 0 later.bytes.items)) (omega arith)
    ∙ ap (λ (s : List ℕ). take n s) bytes_are)) in
    subst (λ (s : List ℕ). IsFed named name now fed s let_go) (sym later_is)
    (reads open_streams_show_more named name rest now fed (unfed piece) (take n bytes) let_go (open_state fed more).0 (settles_more fed more) (none_unfed piece.bytes.items piece.at piece.end all) consumed
    (omega (arith, most, length-take n bytes)) so)

-- the end is told
pub end_on : (fed next : Fed) (piece later : Piece) (bytes : List ℕ) (rest now : Option (List ℕ)) → Fits piece fed → cut_of fed ≡ cuts.More → piece.end ≤ piece.at → Consumes rest now (take 0 bytes) → IsAtEnd now
    → ((past : List ℕ) (units : List UnitLists) → StandsFor fed past units → StandsFor next past units)
    → later.at ≡ 0 → later.end ≡ 0
    → (named : Option Inputs) (name : List ℕ) (let_go : List UnitLists) → IsFed named name rest fed (unfed piece) let_go → IsFed named name now next (unfed later) let_go
end_on fed next piece later bytes rest now fits more all consumed end stands at_is end_is named name let_go so =
    let later_is : unfed later ≡ [] = none_unfed later.bytes.items later.at later.end (omega (arith, at_is, end_is)) in
    subst (λ (s : List ℕ). IsFed named name now next s let_go) (sym later_is)
    (closes named name now fed next [] let_go refl end stands
    (reads open_streams_show_more named name rest now fed (unfed piece) [] let_go (open_state fed more).0 (settles_more fed more) (none_unfed piece.bytes.items piece.at piece.end all) consumed (omega arith) so))

-- reading failed
pub fails_on : (fed : Fed) (piece later : Piece) (rest now : Option (List ℕ)) → cut_of fed ≡ cuts.More → piece.end ≤ piece.at → Keeps rest now → later.at ≡ piece.at → later.end ≡ piece.end
    → (named : Option Inputs) (name : List ℕ) (let_go : List UnitLists) → IsFed named name rest fed (unfed piece) let_go → IsFed named name now fed (unfed later) let_go
fails_on fed piece later rest now more all keeps at_is end_is named name let_go so =
    let empty = none_unfed piece.bytes.items piece.at piece.end all in
    let later_is : unfed later ≡ [] = none_unfed later.bytes.items later.at later.end (omega (arith, all, at_is, end_is)) in
    subst (λ (s : List ℕ). IsFed named name now fed s let_go) (sym later_is)
    (fails named name rest now fed [] let_go keeps (open_state fed more).0 (subst (λ (s : List ℕ). IsFed named name rest fed s let_go) empty so))

-- ---- behind a unit

pub next_fits : (fed next : Fed) (piece : Piece) → cut_of fed ≡ cuts.Ready → next ≡ behind_ready fed → Fits piece fed → Fits piece next
next_fits fed next piece ready is fits =
    let f = found_of (next_of fed) in
    let fit = ready_fits fed f (ready_found fed ready) in
    let bytes = fit.bytes in
    let least = fit.room in
    let room = fits.room in
    let shorter : length next.bytes ≡ length (drop (taken f) fed.bytes) = ap (λ (x : Fed). length x.bytes) is in
    let less : next.room ≡ fed.room - taken f = ap (λ (x : Fed). x.room) is in
    record {
      within = fits.within;
      inside = fits.inside;
      full = fits.full;
      room = omega (arith, room, bytes, least, shorter, less, length-drop (taken f) fed.bytes);
    }

pub next_counted : (fed next : Fed) (count : ℕ) → cut_of fed ≡ cuts.Ready → next ≡ behind_ready fed → count + fed.room ≤ 17592186044416 → (count + 1) + next.room ≤ 17592186044416
next_counted fed next count ready is counted =
    let f = found_of (next_of fed) in
    let found = ready_found fed ready in
    let least = (ready_fits fed f found).room in
    let some = ready_takes fed f found in
    let less : next.room ≡ fed.room - taken f = ap (λ (x : Fed). x.room) is in
    omega (arith, counted, least, some, less)

pub next_less : (fed next : Fed) (piece : Piece) → cut_of fed ≡ cuts.Ready → next ≡ behind_ready fed → left_to_do piece next < left_to_do piece fed
next_less fed next piece ready is =
    let f = found_of (next_of fed) in
    let found = ready_found fed ready in
    let fit = ready_fits fed f found in
    let bytes = fit.bytes in
    let least = fit.room in
    let some = ready_takes fed f found in
    let shorter : length next.bytes ≡ length (drop (taken f) fed.bytes) = ap (λ (x : Fed). length x.bytes) is in
    let less : next.room ≡ fed.room - taken f = ap (λ (x : Fed). x.room) is in
    let same_end : ◌≡◌ {A = ℕ} (if next.closed then 0 else 1) (if fed.closed then 0 else 1) = ap (λ (x : Fed). if x.closed then 0 else 1) is in
    omega (arith, bytes, least, some, shorter, less, same_end, length-drop (taken f) fed.bytes)
