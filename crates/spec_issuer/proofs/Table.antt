-- The table of issuer names, by computing.
use mathlib.Core.Path.{refl}
use Rattle.spec_limits.specs.Limits.{max_label_octets, max_issuer_octets}
use Rattle.spec_octets.specs.Octets.{is_digit, is_upper, is_lower, is_letter_or_digit}
use Rattle.spec_octets.specs.Label.{is_letter_digit_hyphen, is_label, is_host_label}
use Rattle.spec_issuer.specs.Issuer.{is_issuer}
use Rattle.spec_issuer.specs.Theorems.{IssuerEdges}

pub issuer_edges_lem : IssuerEdges
unfolding max_label_octets max_issuer_octets is_digit is_upper is_lower is_letter_or_digit is_letter_digit_hyphen is_label is_host_label is_issuer
issuer_edges_lem = refl
