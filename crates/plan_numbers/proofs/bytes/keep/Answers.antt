use Rattle.std.proofs.Common.{◌≡◌, ℕ, ◌≤◌, ◌∙◌, List, length, take, sym, ap, arith}
use Rattle.std.proofs.lemmas.List.{take_all, take_more}
use Rattle.plan_numbers.specs.Stands.{context_limit}
use Rattle.plan_numbers.proofs.bytes.keep.Goals as goal

pub bytes-init : goal.bytes-init
bytes-init c =
    let room = c.args.room.now in
    c.clear.ensures context_limit room.bytes (c.requires.room.size, sym (take_all context_limit room.bytes c.requires.room.short))

pub bytes-preserved : goal.bytes-preserved
bytes-preserved c =
    let put = c.put_byte.ensures context_limit (take c.bytes.i c.args.bytes.now) c.bytes.invariant in
    (put.0, put.1 ∙ ap (λ (xs : List ℕ). take context_limit xs) (sym (take_more c.args.bytes.now c.bytes.i 0 c.bytes-test.true)))

-- all bytes are kept
all_kept : (bytes kept : List ℕ) (i : ℕ) → length bytes ≤ i → length bytes ≤ context_limit → kept ≡ take context_limit (take i bytes) → kept ≡ bytes
all_kept bytes kept i all short e = e ∙ (ap (λ (xs : List ℕ). take context_limit xs) (take_all i bytes all) ∙ take_all context_limit bytes short)

pub returns-clause-room : goal.returns-clause-room
returns-clause-room c =
    let e = all_kept c.args.bytes.now c.bytes.room.bytes c.bytes.i c.bytes-test.false c.requires.short c.bytes.invariant.1 in
    let l = ap (λ (xs : List ℕ). length xs) e in
    let s = c.requires.short in
    record { size = c.bytes.invariant.0; short = omega (arith, l, s) }

pub returns-clause-kept : goal.returns-clause-kept
returns-clause-kept c = all_kept c.args.bytes.now c.bytes.room.bytes c.bytes.i c.bytes-test.false c.requires.short c.bytes.invariant.1
