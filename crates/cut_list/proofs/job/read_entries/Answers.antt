use Rattle.std.proofs.Common.{◌≡◌, ◌∙◌, ◌-◌, ℕ, List, refl, sym, ap, subst, arith, length, take}
use Rattle.std.proofs.lemmas.List.{length-take-le, with_items_is}
use Rattle.std.specs.Io.KnownBytes.{Consumes}
use Rattle.cut_list.specs.List.{entries_of}
use Rattle.cut_list.proofs.JobLemmas.{list_read}
use Rattle.cut_list.proofs.job.read_entries.Goals as goal

pub returns-in-Ok-read_list-clause-listed : goal.returns-in-Ok-read_list-clause-listed
returns-in-Ok-read_list-clause-listed g c = λ inputs told.
    let to = c.read_all.new.to in
    let r = c.in-Ok-read_all.ensures in
    let n = c.in-Ok-read_all.count in
    let len : length to ≡ 1048577 = c.read_all.auto.to ∙ ap length c.deref_mut.ensures.value ∙ c.in-Ok-list_store.ensures in
    let items : c.deref.result.now ≡ to = c.deref.ensures.value ∙ with_items_is c.in-Ok-list_store.store to (omega (arith, len, c.in-Ok-list_store.ensures)) in
    let count : length (take n to) ≡ n = length-take-le n to (omega (arith, r.within)) in
    let whole : n - 0 ≡ n = omega arith in
    let read : Consumes (g.S.Shelf.told c.select.new.self).rest (g.S.Shelf.told c.read_all.new.shelf).rest (take n to) = subst (λ k. Consumes (g.S.Shelf.told c.select.new.self).rest (g.S.Shelf.told c.read_all.new.shelf).rest (take k to)) whole r.read in
    sym (list_read (g.S.Shelf.told c.args.shelf.now).named inputs c.args.list.now (g.S.Shelf.told c.select.new.self).rest (g.S.Shelf.told c.read_all.new.shelf).rest (take n to) told c.in-Ok.ensures.opened read
    (omega (arith, count, r.within, len)) (λ l. r.end (omega (arith, count, l, c.in-Ok-list_store.ensures, ap length c.deref_mut.ensures.value))))
    ∙ ap (λ (xs : List ℕ). entries_of (take n xs)) (sym items) ∙ c.in-Ok-read_list.ensures.entries

pub returns-in-Err-BadLine-clause-refused : goal.returns-in-Err-BadLine-clause-refused
returns-in-Err-BadLine-clause-refused g c = (
  refl,
  λ inputs told.
      let to = c.read_all.new.to in
      let r = c.in-Ok-read_all.ensures in
      let n = c.in-Ok-read_all.count in
      let len : length to ≡ 1048577 = c.read_all.auto.to ∙ ap length c.deref_mut.ensures.value ∙ c.in-Ok-list_store.ensures in
      let items : c.deref.result.now ≡ to = c.deref.ensures.value ∙ with_items_is c.in-Ok-list_store.store to (omega (arith, len, c.in-Ok-list_store.ensures)) in
      let count : length (take n to) ≡ n = length-take-le n to (omega (arith, r.within)) in
      let whole : n - 0 ≡ n = omega arith in
      let read : Consumes (g.S.Shelf.told c.select.new.self).rest (g.S.Shelf.told c.read_all.new.shelf).rest (take n to) = subst (λ k. Consumes (g.S.Shelf.told c.select.new.self).rest (g.S.Shelf.told c.read_all.new.shelf).rest (take k to)) whole r.read in
      sym (list_read (g.S.Shelf.told c.args.shelf.now).named inputs c.args.list.now (g.S.Shelf.told c.select.new.self).rest (g.S.Shelf.told c.read_all.new.shelf).rest (take n to) told c.in-Ok.ensures.opened read
      (omega (arith, count, r.within, len)) (λ l. r.end (omega (arith, count, l, c.in-Ok-list_store.ensures, ap length c.deref_mut.ensures.value))))
      ∙ ap (λ (xs : List ℕ). entries_of (take n xs)) (sym items) ∙ (rw c.in-Err-BadLine.field-0-is at c.in-Err-BadLine.ensures.entries),
)
