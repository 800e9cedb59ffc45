-- How the picture that a store lends comes back.
use Rattle.std.specs.Borrow.{Lends, MutBor, Fml}
use Rattle.mv_planes.specs.Planes.{Planes}
use Rattle.mv_planes.specs.contracts.picture.Picture.{the_row as picture_row}
use Rattle.mv_store.specs.declared.store.RefStore.{RefStore}
use Rattle.mv_store.specs.contracts.store.RefStore.{the_row}

-- the store ends with what is left in the picture that is decoded next
abbrev pub LendsCurrent : MutBor RefStore → MutBor Planes → Fml
LendsCurrent s r = Lends the_row picture_row s r (λ f. record s.now { current = f })
