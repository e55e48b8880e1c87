-- What the definitions of this crate mean. Each statement is proved under its name in proofs/.
use Rattle.std.specs.Prelude.{ℕ, ◌≡◌, ◌↔◌, List, None}
use Rattle.spec_refusal.specs.declared.Refusal.{Refusal}
use Rattle.spec_octets.specs.Lists.{All}
use Rattle.spec_octets.specs.Octets.{Octets}
use Rattle.spec_name.specs.Names.{Name, wire, GoodName}
use Rattle.spec_request.specs.Request.{requested_names, request_refusal}
use Rattle.spec_record.specs.Records.{records, book_refusal}
use Rattle.spec_rule.specs.RelevantSet.{as_book}
use Rattle.spec_rule.specs.Theorems.{FirstRow}
use Rattle.spec_edit.specs.declared.Edited.TheVariants.{MayBeLeft, Redo, Refused, BadOwner}
use Rattle.spec_edit.specs.Edits.{edited}
use Rattle.spec_edit.specs.Meaning.{Untouched, DifferOnlyAt, SameAnswers, EditRow, Row17}

-- "shows yes only in this case and always in this case": for an accepted request and book and a valid owner, the verdict may be left exactly
-- when the owner touches no name. Otherwise it is to be made again.
abbrev pub EditedExactly : Type 0
EditedExactly =
    (request book : List ℕ) (o : Name) → request_refusal request ≡ None → book_refusal book ≡ None → GoodName o →
    ((edited request book (wire o) ≡ MayBeLeft) ↔ All (Untouched (as_book (records book)) o) (requested_names request))
    × ((edited request book (wire o) ≡ Redo) ↔ (All (Untouched (as_book (records book)) o) (requested_names request) → ⊥))

-- Each refusal is returned exactly when the table says so. 17 comes last: where no other row holds.
abbrev pub EditRefusals : Type 0
EditRefusals =
    (request book owner : List ℕ) → Octets request → Octets book →
    ((r : Refusal) → (edited request book owner ≡ Refused r) ↔ FirstRow (EditRow request book) r)
    × ((edited request book owner ≡ BadOwner) ↔ (Row17 owner × ((r : Refusal) → EditRow request book r → ⊥)))

-- An edit elsewhere: of two accepted books that differ only at an owner which touches no name of the request by the old book, both give the same
-- answers.
abbrev pub EditElsewhere : Type 0
EditElsewhere =
    (request old new : List ℕ) (o : Name) → book_refusal old ≡ None → book_refusal new ≡ None → DifferOnlyAt o (records old) (records new) →
    All (Untouched (as_book (records old)) o) (requested_names request) → SameAnswers request old new

-- The call and that statement put together: where the call says that the verdict may be left, the owner is one valid name, and every accepted book
-- that differs from the old one only there gives the same answers.
abbrev pub YesLeaves : Type 0
YesLeaves =
    (request old owner : List ℕ) → edited request old owner ≡ MayBeLeft →
    (o : Name) × (owner ≡ wire o) × GoodName o
    × ((new : List ℕ) → book_refusal new ≡ None → DifferOnlyAt o (records old) (records new) → SameAnswers request old new)
