-- `mixed` meets its contract. The loop's invariant: what is left, mixed with the number reached, gives the same.
use Prim.Native.Nat.{◌<◌}
use mathlib.Core.Path.{◌≡◌}
use lib.ListN.{drop}
use Rattle.book_places.specs.Keys.{mixed}
use Rattle.book_keys.proofs.mixed.Given as goal

abbrev pub invariant-loop-octet : goal.invariant-loop-octet
invariant-loop-octet l = (l.m < 65536) × (mixed l.h l.s ≡ mixed l.m (drop l.octet-index l.s))
