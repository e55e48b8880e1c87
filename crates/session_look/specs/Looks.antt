-- A lookup of one name in a book by its table and chains, and the verdict by what is found.
use Rattle.spec_rule.specs.declared.Judgement.{Judgement}
use Rattle.spec_refusal.specs.declared.RecordNo.{RecordNo}
use Rattle.std.specs.Prelude.{ℕ, ◌≡◌, Bool, List, Option, Some, None}
use Rattle.spec_applicant.specs.Applicant.{Applicant}
use Rattle.book_places.specs.Table.{table_of}
use Rattle.book_places.specs.Chains.{chains_of}
use Rattle.book_places.specs.Sets.{looked_up_at}
use Rattle.book_places.specs.Onward.{onward_of}
use Rattle.judge_set.specs.BySet.{verdict_by_set}

-- The table, the chains and the column of aliases are those of the book.
pub record Made (book table links heads onward : List ℕ) : Type 0 where
  pub rows : table ≡ table_of book
  pub chained : links ≡ (chains_of book).links
  pub headed : heads ≡ (chains_of book).heads
  pub pointed : onward ≡ onward_of book

-- The first record that was found names the set that decides. The one name of a session has the number 0.
abbrev pub looked_by : Applicant → (issuer book table links : List ℕ) → ℕ → Bool → Option RecordNo → Option Judgement
looked_by who issuer book table links up wildcard None = None
looked_by who issuer book table links up wildcard (Some set) = Some (verdict_by_set who issuer book table links 0 set up wildcard)

-- The name x is in wire form.
unfoldable pub looked_at : Applicant → (issuer book : List ℕ) → ℕ → Bool → List ℕ → Option Judgement
looked_at who issuer book up wildcard x =
    looked_by who issuer book (table_of book) (chains_of book).links up wildcard
    (looked_up_at book (table_of book) (chains_of book).links (chains_of book).heads (onward_of book) x)
