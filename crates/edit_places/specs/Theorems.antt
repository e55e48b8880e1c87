-- What the definition by offset means, in terms of the rule. The statement is proved under its name in proofs/.
use Rattle.std.specs.Prelude.{ℕ, ◌≡◌, List, None}
use Rattle.spec_octets.specs.Lists.{any}
use Rattle.spec_name.specs.Names.{Name, wire, ancestors, GoodName}
use Rattle.spec_record.specs.Records.{records, book_refusal}
use Rattle.spec_rule.specs.Aliases.{aliases}
use Rattle.spec_edit.specs.Edits.{touches_from}
use Rattle.book_places.specs.Table.{table_of}
use Rattle.book_places.specs.Chains.{chains_of}
use Rattle.book_places.specs.Onward.{onward_of}
use Rattle.edit_places.specs.Reach.{name_touched}

-- For an accepted book, an owner touches a name by table and chains exactly when it does so by the rule.
abbrev pub TouchedByOffset : Type 0
TouchedByOffset =
    (book : List ℕ) (o x : Name) → book_refusal book ≡ None → GoodName o → GoodName x →
    name_touched book (table_of book) (chains_of book).links (onward_of book) (wire o) (chains_of book).heads (wire x)
    ≡ any (touches_from (aliases (records book)) o) (ancestors x)
