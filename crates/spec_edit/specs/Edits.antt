-- "What an edit can touch": whether the verdict on a request may be left as it is when a hotel edits the records of one owner.
use Rattle.std.specs.Prelude.{ℕ, Bool, cond, not, List, [], ◌∷◌, Option, None, Some}
use Rattle.spec_limits.specs.Limits.{max_aliases}
use Rattle.spec_refusal.specs.declared.Refusal.{Refusal}
use Rattle.spec_octets.specs.Lists.{any}
use Rattle.spec_name.specs.Names.{Name, name, same_name, ancestors}
use Rattle.spec_request.specs.Request.{base, requested_names, request_refusal}
use Rattle.spec_record.specs.Records.{filling, records, book_refusal}
use Rattle.spec_rule.specs.Aliases.{Alias}
use Rattle.spec_rule.specs.RelevantSet.{Book, as_book}
use Rattle.spec_rule.specs.Calls.{first_refusal, AnswerCode, refusal_code}
use Rattle.spec_session.specs.Meaning.{targets}
use Rattle.spec_edit.specs.declared.Edited.{Edited}
use Rattle.spec_edit.specs.declared.Edited.TheVariants.{MayBeLeft, Redo, Refused, BadOwner}

-- Whether the owner o is x, or the target of one of the first 8 aliases from x on.
unfoldable pub touches_from : List Alias → Name → Name → Bool
touches_from al o x = any (same_name o) (x ∷ targets max_aliases al x)

-- The same from X or from a name above it, whether the climb comes there or not. "the root isn't counted as above"
unfoldable pub touches : Book → Name → Name → Bool
touches book o n = any (touches_from book.aliases o) (ancestors (base n))

-- The verdict on these names may be left if the owner touches none of them.
unfoldable pub may_leave : Book → Name → List Name → Bool
may_leave book o ns = not (any (touches book o) ns)

-- An owner is one name, and no octet comes after it.
unfoldable pub owner_name : List ℕ → Option Name
owner_name owner = filling (name owner)

-- For an accepted request and book. An owner that is no such name is refused, "checked last".
abbrev pub by_owner : Book → List Name → Option Name → Edited
by_owner book ns None = BadOwner
by_owner book ns (Some o) = cond (may_leave book o ns) MayBeLeft Redo

abbrev pub edit_checks : List ℕ → List ℕ → List (Option Refusal)
edit_checks request book = request_refusal request ∷ book_refusal book ∷ []

abbrev pub edited_or : Option Refusal → Edited → Edited
edited_or None e = e
edited_or (Some r) e = Refused r

-- The call: the request, the old book, and the owner whose records are edited. Neither issuer domain name, account nor method is asked for.
unfoldable pub edited : List ℕ → List ℕ → List ℕ → Edited
edited request book owner =
    edited_or (first_refusal (edit_checks request book)) (by_owner (as_book (records book)) (requested_names request) (owner_name owner))

-- The number and the values of each answer. 17 is the requirements' own; 50 and 51 are this project's.
unfoldable pub edited_code : Edited → AnswerCode
edited_code MayBeLeft = record { number = 50; values = [] }
edited_code Redo = record { number = 51; values = [] }
edited_code (Refused r) = refusal_code r
edited_code BadOwner = record { number = 17; values = 0 ∷ [] }
