-- Names whose length one octet tells have the entries of the rule.
use Prim.Native.Nat.{ℕ, ◌<◌}
use mathlib.Core.Path.{◌≡◌, refl}
use mathlib.Core.List.{List, map}
use lib.ListN.{length}
use borrow.Author.Tests.{lt-ltb}
use Rattle.spec_octets.specs.Lists.{flatten, All, all_nil, all_cons}
use Rattle.spec_rule.specs.IssuerLists.{entry, entries}
use Rattle.list_entry.specs.Entries.{entry_of, entries_of}

pub entry_short : (n : List ℕ) → length n < 256 → entry_of n ≡ entry n
unfolding entry_of
entry_short n h = rw (lt-ltb (length n) 256 h)

all_short : {ns : List (List ℕ)} → All (λ n. length n < 256) ns → flatten (map entry_of ns) ≡ entries ns
all_short all_nil = refl
all_short (all_cons {x} h more) = rw (entry_short x h, all_short more)

pub entries_short : (ns : List (List ℕ)) → All (λ n. length n < 256) ns → entries_of ns ≡ entries ns
unfolding entries_of
entries_short ns h = all_short h
