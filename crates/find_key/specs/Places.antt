-- The key of a certificate by offsets, for code that walks a slice.
use Rattle.read_tbs.specs.declared.KeyAt.{KeyAt}
use Rattle.std.specs.Prelude.{ℕ, ◌+◌, Bool, true, false, List, length, Option, None, Some}
use Rattle.spec_octets.specs.Reader.{◌>>=◌}
use Rattle.spec_der.specs.Elements.{Element, wire_element, element}
use Rattle.spec_der.specs.Certificate.{Certificate, filling, certificate}
use Rattle.spec_der.specs.Key.{before_key}

-- Whether octets are two elements, and nothing else.
abbrev pub was_read : Option Element → Bool
was_read None = false
was_read (Some e) = true

unfoldable pub two_elements : List ℕ → Bool
two_elements s = was_read (filling ((element >>= (λ e. element)) s))

-- The key is what comes after the octets before it.
abbrev pub key_places : Option Certificate → Option KeyAt
key_places None = None
key_places (Some c) =
    Some (record { from = length (before_key c); to = length (before_key c) + length (wire_element c.tbs_certificate.subject_public_key_info) })

unfoldable pub key_at : List ℕ → Option KeyAt
key_at s = key_places (certificate s)
