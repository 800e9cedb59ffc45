use Rattle.std.proofs.Common.{rules, ◌≡◌, ℕ, ◌%◌, ◌<◌, Bool, true, List, [], ◌∷◌, suc, length, map, get_or, slice_set, All, Vec, Result, IfOk, refl, sym, ap, ◌∙◌, subst, arith}
use Rattle.std.proofs.lemmas.List.{map-set, get_or-map, with_items_is}
use Rattle.std.specs.Vec.{with_items}
use Rattle.std.proofs.lemmas.List.Elements.{All-set}
use Rattle.y4m_frames.specs.declared.halt.Halt.{Halt}
use Rattle.y4m_frames.specs.Frames.{frame_len}
use Rattle.y4m_frames.specs.Reading.{Hands}
use Rattle.job_coding.proofs.slots.Slots.read.Goals as goal

as_many : {Z : Type 0} (xs : List (Vec ℕ Z)) → length (map (λ v. v.items) xs) ≡ length xs
as_many [] = refl
as_many (x ∷ xs) = ap suc (as_many xs)

pub next-requires : goal.next-requires
next-requires g c =
    let k = c.args.number % 17 in
    let view : c.args.self.now ≡ map (λ v. v.items) c.self.inside.frames.items = sym c.self.view_is in
    let many : length c.self.inside.frames.items ≡ 17 = sym (as_many c.self.inside.frames.items) ∙ ap length (sym view) ∙ c.requires.count in
    let lt : k < length c.self.inside.frames.items = omega (arith, many) in
    let at = get_or-map (λ v. v.items) c.self.inside.frames.items k c.index_mut.result.now [] lt in
    ap length c.deref_mut.ensures.value ∙ ap (λ v. length v.items) c.index_mut.ensures.value ∙ ap length (sym at) ∙ ap (λ xs. length (get_or xs k [])) (sym view)
    ∙ c.requires.sizes k [] (omega (arith, c.requires.count))

pub returns-clause-fills : goal.returns-clause-fills
returns-clause-fills g c =
    let k = c.args.number % 17 in
    let view : map (λ v. v.items) c.self.inside.frames.items ≡ c.args.self.now = c.self.view_is in
    let w = with_items c.index_mut.result.now c.next.new.frame in
    let len : length c.next.new.frame ≡ c.index_mut.result.now.len = search rules in
    let is : w.items ≡ c.next.new.frame = with_items_is c.index_mut.result.now c.next.new.frame len in
    record {
      frame = c.next.new.frame;
      slots_are = map-set (λ v. v.items) c.self.inside.frames.items k w ∙ ap (λ xs. slice_set xs k w.items) view ∙ ap (slice_set c.args.self.now k) is;
      right = λ ok.
          let h = subst (λ (r : Result Bool Halt). IfOk r (λ some. some ≡ true → Hands c.args.reader.now c.next.new.self (g.S.Shelf.told c.args.shelf.now).rest (g.S.Shelf.told c.next.new.shelf).rest c.next.new.frame)) ok c.next.ensures.hands in
          let hands = h refl in record { all = hands.is.all; range = hands.is.range };
      answers = c.next.ensures.behind;
    }

pub returns-clause-sizes : goal.returns-clause-sizes
returns-clause-sizes g c =
    let k = c.args.number % 17 in
    let view : map (λ v. v.items) c.self.inside.frames.items ≡ c.args.self.now = c.self.view_is in
    let w = with_items c.index_mut.result.now c.next.new.frame in
    let len : length c.next.new.frame ≡ c.index_mut.result.now.len = search rules in
    let is : w.items ≡ c.next.new.frame = with_items_is c.index_mut.result.now c.next.new.frame len in
    let all : slice_set c.args.self.now k c.next.new.frame ≡ map (λ v. v.items) (slice_set c.self.inside.frames.items k w) =
    sym (map-set (λ v. v.items) c.self.inside.frames.items k w ∙ ap (λ xs. slice_set xs k w.items) view ∙ ap (slice_set c.args.self.now k) is) in
    let size : frame_len c.next.new.self.header ≡ frame_len c.args.reader.now.header = ap frame_len c.next.ensures.header.0 in
    let many : length c.self.inside.frames.items ≡ 17 = sym (as_many c.self.inside.frames.items) ∙ ap length view ∙ c.requires.count in
    let at = get_or-map (λ v. v.items) c.self.inside.frames.items k c.index_mut.result.now [] (omega (arith, many)) in
    let was : length c.deref_mut.result.now ≡ frame_len c.args.reader.now.header =
    ap length c.deref_mut.ensures.value ∙ ap (λ v. length v.items) c.index_mut.ensures.value ∙ ap length (sym at) ∙ ap (λ xs. length (get_or xs k [])) view
    ∙ c.requires.sizes k [] (omega (arith, c.requires.count)) in
    let fits : length c.next.new.frame ≡ frame_len c.args.reader.now.header = len ∙ sym c.deref_mut.ensures.len ∙ was in
    subst (λ n. All (λ frame. length frame ≡ n) (map (λ v. v.items) (slice_set c.self.inside.frames.items k w))) (sym size)
    (subst (All (λ frame. length frame ≡ frame_len c.args.reader.now.header)) all (All-set (λ frame. length frame ≡ frame_len c.args.reader.now.header) c.args.self.now k c.next.new.frame fits c.requires.sizes))
