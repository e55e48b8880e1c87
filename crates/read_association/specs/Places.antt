-- TLSA data as the code returns it: its three fields, and the association data as a slice.
use Rattle.read_association.specs.declared.AssociationAt.{AssociationAt}
use Rattle.std.specs.Prelude.{ℕ, List, [], Option, None, Some}
use Rattle.spec_tlsa.specs.Association.{Association, association}

abbrev pub fields_of : Option Association → Option AssociationAt
fields_of None = None
fields_of (Some a) = Some (record { usage = a.usage; selector = a.selector; matching = a.matching })

unfoldable pub association_at : List ℕ → Option AssociationAt
association_at d = fields_of (association d)

abbrev pub octets_in : Option Association → List ℕ
octets_in None = []
octets_in (Some a) = a.octets

unfoldable pub association_part : List ℕ → List ℕ
association_part d = octets_in (association d)
