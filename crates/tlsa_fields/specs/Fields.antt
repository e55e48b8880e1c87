-- A field from its octet, as the code returns it: known with this value, or unknown.
use Rattle.tlsa_fields.specs.declared.Usage.{Usage}
use Rattle.tlsa_fields.specs.declared.MatchingType.{MatchingType}
use Rattle.tlsa_fields.specs.declared.Selector.{Selector}
use Rattle.std.specs.Prelude.{ℕ, cond, Option, Some, None}
use Rattle.spec_tlsa.specs.Association.{is_usage, is_selector, is_matching_type}

unfoldable pub usage_of : ℕ → Option Usage
usage_of x = cond (is_usage x) (Some (record { 0 = x })) None

unfoldable pub selector_of : ℕ → Option Selector
selector_of x = cond (is_selector x) (Some (record { 0 = x })) None

unfoldable pub matching_type_of : ℕ → Option MatchingType
matching_type_of x = cond (is_matching_type x) (Some (record { 0 = x })) None
