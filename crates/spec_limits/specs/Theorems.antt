-- The limits as the requirements print them. Each statement is proved under its name in proofs/.
use Rattle.std.specs.Prelude.{◌≡◌}
use Rattle.spec_limits.specs.Limits.{max_label_octets, max_name_octets, max_issuer_octets, max_request_octets, max_names, max_book_octets, max_records, max_data_octets, max_line_octets, max_tag_octets, max_account_octets, max_aliases}

abbrev pub LimitsPrinted : Type 0
LimitsPrinted =
    (max_label_octets ≡ 63) × (max_name_octets ≡ 255) × (max_issuer_octets ≡ 253) × (max_request_octets ≡ 16384) × (max_names ≡ 250)
    × (max_book_octets ≡ 49152) × (max_records ≡ 1024) × (max_data_octets ≡ 4096) × (max_line_octets ≡ 16384) × (max_tag_octets ≡ 255)
    × (max_account_octets ≡ 255) × (max_aliases ≡ 8)
