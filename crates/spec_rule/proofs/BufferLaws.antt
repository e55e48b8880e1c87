-- The caller's buffer after an accepted call: the list, if it fits, and the list can be read back.
use Rattle.std.proofs.lemmas.Option.{none-some}
use Rattle.std.specs.Prelude.{None}
use Prim.Native.Nat.{ℕ, ◌≤◌}
use native.Mathlib.Omega.{arith}
use mathlib.Core.Path.{◌≡◌, refl, sym, ap}
use mathlib.Core.Logic.{◌↔◌, ⊎_elim}
use mathlib.Core.List.{List, [], ◌∷◌, ◌++◌}
use lib.Dec.{leb}
use lib.ListN.{length, length-append}
use borrow.Author.Tests.{leb-true, le-leb}
use Rattle.spec_octets.specs.Items.{follow}
use Rattle.spec_octets.proofs.ListLaws.{true_or_false}
use Rattle.spec_octets.proofs.ReaderLaws.{octets_some}
use Rattle.spec_rule.specs.IssuerLists.{listed, entries, read_entry}
use Rattle.spec_rule.specs.Calls.{room_refusal, list_issuers}
use Rattle.spec_rule.specs.Theorems.{total, ListInTheBuffer, EntriesReadBack}
use Rattle.spec_rule.specs.Pinned.{EntriesLaidOut}

pub entries_laid_out : EntriesLaidOut
entries_laid_out = (refl, λ n ns. refl)

pub entries_read_back : EntriesReadBack
unfolding read_entry
entries_read_back [] = refl
entries_read_back (n ∷ ns) =
    rw ((octets_some (length n) (n ++ entries ns) n (entries ns)).1 (refl, refl)) (ap (follow n) (entries_read_back ns))

pub entries_length : (ns : List (List ℕ)) → length (entries ns) ≡ total ns
entries_length [] = refl
entries_length (n ∷ ns) = omega (arith, length-append n (entries ns), entries_length ns)

-- "room is enough when the buffer has that many"
pub room_exactly : (ns : List (List ℕ)) (buffer : List ℕ) → (room_refusal (listed ns) buffer ≡ None) ↔ (total ns ≤ length buffer)
room_exactly ns buffer = rw (← entries_length ns) (
  λ e. ⊎_elim (leb-true _ _) (λ k. absurd (none-some _ (sym (rw k at e)))) (true_or_false (leb (length (entries ns)) (length buffer))),
  λ h. rw (le-leb (length (entries ns)) (length buffer) h) refl,
)

pub list_in_the_buffer : ListInTheBuffer
unfolding list_issuers
list_in_the_buffer request who book buffer r a b = (
  λ e. rw (r, a, b, e),
  λ ns e fits. rw (r, a, b, e, (room_exactly ns buffer).1 fits, entries_length ns),
)
