-- Parts of an output.
use Rattle.std.proofs.Common.{◌≡◌, ℕ, ◌+◌, ◌≤◌, List, [], length, refl, sym, ap, subst, append-nil, arith, Option, None, Some}
use Rattle.std.proofs.lemmas.List.{length-append}
use Rattle.std.specs.Io.KnownBytes.{Appends, Keeps}
use Rattle.mv_ends.specs.Causes.{FailedWrite, Fills}
use Rattle.mv_ends.specs.Moves.{AppendsPart, AppendsFront}
use Rattle.mv_ends.specs.Told.{SinkTold}
use Rattle.mv_ends.proofs.Known.{Keeps-Appends}

-- all of some bytes is a part of them, and so are a front and nothing
pub all_of : (old new : Option (List ℕ)) (bytes : List ℕ) → Appends old new bytes → AppendsPart old new bytes
all_of old new bytes h = record { front = bytes; back = []; parts = sym (append-nil bytes); grown = h }

pub front_of : (old new : Option (List ℕ)) (bytes : List ℕ) → AppendsFront old new bytes → AppendsPart old new bytes
front_of old new bytes h = record { front = h.front; back = h.back; parts = h.parts; grown = h.grown }

pub none_of : (old new : Option (List ℕ)) (bytes : List ℕ) → Keeps old new → AppendsPart old new bytes
none_of old new bytes h = record { front = []; back = bytes; parts = refl; grown = Keeps-Appends old new h }

-- a write that leaves bytes over doesn't fail where there is room for all
has_no_room : (old : List ℕ) (new : Option (List ℕ)) (bytes : List ℕ) (room : ℕ) → length old + length bytes ≤ room → AppendsFront (Some old) new bytes → Fills room (Some old) new → ⊥
has_no_room old None bytes room fits h full = absurd h.grown
has_no_room old (Some new) bytes room fits h full =
    omega (arith, fits, full, h.some_left, ap length h.parts, ap length h.grown, length-append h.front h.back, length-append old h.front)

pub fails_without_room : (a b : SinkTold) (old bytes : List ℕ) → a.written ≡ Some old → length old + length bytes ≤ a.room → AppendsFront a.written b.written bytes → FailedWrite a b → ⊥
fails_without_room a b old bytes told fits front failed =
    has_no_room old b.written bytes a.room fits (subst (λ (w : Option (List ℕ)). AppendsFront w b.written bytes) told front)
    (subst (λ (w : Option (List ℕ)). Fills a.room w b.written) told failed.full)
