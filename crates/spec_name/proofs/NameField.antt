-- A name as a field that a reader reads; it has at least one octet.
use mathlib.Core.Logic.{◌≢◌}
use mathlib.Core.List.{[], ◌∷◌, cons≢nil}
use Rattle.spec_octets.proofs.Fields.{Field}
use Rattle.spec_name.specs.Names.{Name, wire, name, GoodName}
use Rattle.spec_name.proofs.NameLaws.{name_is_its_labels}

abbrev pub name_field : Field Name
name_field = record { read = name; wire = wire; Good = GoodName; reads = λ s o. name_is_its_labels s }

pub wire_full : (n : Name) → wire n ≢ []
wire_full [] = cons≢nil
wire_full (l ∷ n) = cons≢nil
