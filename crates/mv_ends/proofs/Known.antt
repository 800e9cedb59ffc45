-- Known bytes over several calls.
use Rattle.std.proofs.Common.{◌≡◌, ℕ, ◌+◌, ◌-◌, ◌≤◌, ◌<◌, List, [], ◌++◌, length, take, drop, refl, sym, ◌∙◌, ap, subst, append_assoc, append-nil, arith, Option, None, Some, Result, Ok, Err, ⊎_elim}
use Rattle.std.proofs.Math.Seq.{take-add}
use Rattle.std.proofs.lemmas.List.{take_all, length-drop, length-append}
use Rattle.std.proofs.lemmas.Bool.{cases_lt}
use Rattle.mv_ends.specs.Causes.{Fills, FailedWrite}
use Rattle.mv_ends.specs.Kept.{KeepsShelf, KeepsSink}
use Rattle.mv_ends.specs.Moves.{Inputs, Opens, input_of}
use Rattle.mv_ends.specs.Told.{ShelfTold, SinkTold}
use Rattle.std.specs.Result.{OnErr}
use Rattle.std.specs.Io.KnownBytes.{Appends, Keeps, Consumes, IsAtEnd}

pub Appends-trans : (a b c : Option (List ℕ)) (x y : List ℕ) → Appends a b x → Appends b c y → Appends a c (x ++ y)
Appends-trans None b c x y h k = tt
Appends-trans (Some p) None c x y h k = absurd h
Appends-trans (Some p) (Some q) None x y h k = absurd k
Appends-trans (Some p) (Some q) (Some r) x y h k = k ∙ ap (λ s. s ++ y) h ∙ append_assoc p x y

pub Keeps_after : (a b c : Option (List ℕ)) (x : List ℕ) → Appends a b x → Keeps b c → Appends a c x
Keeps_after None b c x h k = tt
Keeps_after (Some p) None c x h k = absurd h
Keeps_after (Some p) (Some q) None x h k = absurd k
Keeps_after (Some p) (Some q) (Some r) x h k = k ∙ h

-- what a slice up to the end is
pub rest_of : (xs : List ℕ) (i : ℕ) → take (length xs - i) (drop i xs) ≡ drop i xs
rest_of xs i = take_all _ _ (omega (arith, length-drop i xs))

-- a piece more of the bytes
pub Appends_next : (a b c : Option (List ℕ)) (bytes : List ℕ) (i n : ℕ) → Appends a b (take i bytes) → Appends b c (take n (take (length bytes - i) (drop i bytes))) → Appends a c (take (i + n) bytes)
Appends_next a b c bytes i n h k =
    let same : take i bytes ++ take n (take (length bytes - i) (drop i bytes)) ≡ take (i + n) bytes = rw (rest_of bytes i, take-add i n bytes) refl in
    subst (Appends a c) same (Appends-trans a b c (take i bytes) _ h k)

pub on_err : {T E P : Type 0} (r : Result T E) → P → OnErr r P
on_err (Ok x) p = tt
on_err (Err e) p = p

pub Consumes-trans : (a b c : Option (List ℕ)) (x y : List ℕ) → Consumes a b x → Consumes b c y → Consumes a c (x ++ y)
Consumes-trans None b c x y h k = tt
Consumes-trans (Some p) None c x y h k = absurd h
Consumes-trans (Some p) (Some q) None x y h k = absurd k
Consumes-trans (Some p) (Some q) (Some r) x y h k = h ∙ ap (λ s. x ++ s) k ∙ sym (append_assoc x y r)

-- what a select opened is what reads take
pub opened : (named : Option Inputs) (inputs : Inputs) (name : List ℕ) (rest : Option (List ℕ)) → named ≡ Some inputs → Opens named name rest → Consumes (Some (input_of inputs name)) rest []
opened named inputs name None e h = rw e at h
opened named inputs name (Some bytes) e h = sym (rw e at h)

-- all was read
pub at_end : (bytes items : List ℕ) (rest : Option (List ℕ)) → Consumes (Some bytes) rest items → IsAtEnd rest → items ≡ bytes
at_end bytes items None h e = absurd h
at_end bytes items (Some left) h e = sym (h ∙ ap (λ s. items ++ s) e ∙ append-nil items)

-- no less was there than what was read
pub no_less : (bytes items : List ℕ) (rest : Option (List ℕ)) → Consumes (Some bytes) rest items → length items ≤ length bytes
no_less bytes items None h = absurd h
no_less bytes items (Some left) h = omega (arith, ap length h, length-append items left)

-- known bytes that stay grow by nothing
pub Keeps-Appends : (a b : Option (List ℕ)) → Keeps a b → Appends a b []
Keeps-Appends None b h = tt
Keeps-Appends (Some p) None h = absurd h
Keeps-Appends (Some p) (Some q) h = h ∙ sym (append-nil p)

-- a sink that was filled stays so
pub Fills-append : (room : ℕ) (a b c : Option (List ℕ)) (x : List ℕ) → Fills room a b → Appends b c x → Fills room a c
Fills-append room None b c x h k = tt
Fills-append room (Some p) None c x h k = absurd h
Fills-append room (Some p) (Some q) None x h k = absurd k
Fills-append room (Some p) (Some q) (Some r) x h k = omega (arith, h, ap length k, length-append q x)

-- a sink that is filled by a call is so whatever came before
pub append-Fills : (room : ℕ) (a b c : Option (List ℕ)) (x : List ℕ) → Appends a b x → Fills room b c → Fills room a c
append-Fills room None b c x h k = tt
append-Fills room (Some p) None c x h k = absurd h
append-Fills room (Some p) (Some q) None x h k = absurd k
append-Fills room (Some p) (Some q) (Some r) x h k = k

-- what two calls keep of a sink
pub keeps_sink_trans : (a b c : SinkTold) (x y : List ℕ) → KeepsSink a b → KeepsSink b c → Appends a.written b.written x → Appends b.written c.written y → KeepsSink a c
keeps_sink_trans a b c x y first then grown more =
    let early : a.faults ≤ b.faults = first.later in
    let late : b.faults ≤ c.faults = then.later in
    record {
      same_room = then.same_room ∙ first.same_room;
      later = omega (arith, early, late);
      moved = λ rose.
          ⊎_elim
          (λ (soon : a.faults < b.faults). Fills-append a.room a.written b.written c.written y (first.moved soon) more)
          (λ (none : b.faults ≤ a.faults). append-Fills a.room a.written b.written c.written x grown
          (subst (λ (room : ℕ). Fills room b.written c.written) first.same_room (then.moved (omega (arith, none, rose)))))
          (cases_lt a.faults b.faults);
    }

-- a call that does nothing keeps all of a sink
pub keeps_sink_refl : (a : SinkTold) → KeepsSink a a
keeps_sink_refl a = record { same_room = refl; later = omega arith; moved = λ rose. absurd (omega (arith, rose)) }

-- what a call keeps of a shelf that does nothing, and what two calls keep
pub keeps_shelf_refl : (a : ShelfTold) → KeepsShelf a a
keeps_shelf_refl a = record { inputs = refl; opens = λ name. omega arith; reads = λ name. omega arith }

pub keeps_shelf_trans : (a b c : ShelfTold) → KeepsShelf a b → KeepsShelf b c → KeepsShelf a c
keeps_shelf_trans a b c first then = record {
  inputs = then.inputs ∙ first.inputs;
  opens = λ name. omega (arith, first.opens name, then.opens name);
  reads = λ name. omega (arith, first.reads name, then.reads name);
}

-- a failure behind a call that went well
pub failed_later : (a b c : SinkTold) (x : List ℕ) → KeepsSink a b → FailedWrite b c → Appends a.written b.written x → FailedWrite a c
failed_later a b c x first then grown =
    let early : a.faults ≤ b.faults = first.later in
    record {
      rose = omega (arith, early, then.rose);
      full = append-Fills a.room a.written b.written c.written x grown (subst (λ (room : ℕ). Fills room b.written c.written) first.same_room then.full);
    }
