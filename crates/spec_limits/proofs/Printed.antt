-- The limits, by computing.
use mathlib.Core.Path.{refl}
use Rattle.spec_limits.specs.Limits.{max_label_octets, max_name_octets, max_issuer_octets, max_request_octets, max_names, max_book_octets, max_records, max_data_octets, max_line_octets, max_tag_octets, max_account_octets, max_aliases}
use Rattle.spec_limits.specs.Theorems.{LimitsPrinted}

pub limits_printed : LimitsPrinted
unfolding max_label_octets max_name_octets max_issuer_octets max_request_octets max_names max_book_octets max_records max_data_octets max_line_octets max_tag_octets
    max_account_octets max_aliases
limits_printed = (refl, refl, refl, refl, refl, refl, refl, refl, refl, refl, refl, refl)
