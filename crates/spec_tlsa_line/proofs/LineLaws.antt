-- A TLSA line is read exactly when the productions match it, as the one association that it stands for.
use Rattle.std.proofs.lemmas.Option.{none-some, same_Some}
use Rattle.std.specs.Prelude.{Option, None, Some}
use Prim.Native.Nat.{ℕ}
use mathlib.Core.Path.{◌≡◌, refl, ap}
use mathlib.Core.List.{List, ◌++◌}
use Rattle.spec_octets.specs.Decimal.{decimal_octet}
use Rattle.spec_line.specs.Read.{field}
use Rattle.spec_line.specs.Grammar.{some_blanks, OctetField}
use Rattle.spec_line.proofs.Fields.{field_apart}
use Rattle.spec_line.proofs.Lines.{flags_field, flags_blankless, unblank, fields_some}
use Rattle.spec_tlsa.specs.Association.{Association}
use Rattle.spec_tlsa_line.specs.Hex.{hex_octets}
use Rattle.spec_tlsa_line.specs.Lines.{association_of, read_tlsa_line}
use Rattle.spec_tlsa_line.specs.Grammar.{HexField, TlsaLineOf}
use Rattle.spec_tlsa_line.specs.Theorems.{TlsaLineIsTheGrammar}
use Rattle.spec_tlsa_line.proofs.HexLaws.{hex_field}

pub record Fields (u s m : Option ℕ) (d : Option (List ℕ)) (a : Association) : Type 0 where
  pub usage : u ≡ Some a.usage
  pub selector : s ≡ Some a.selector
  pub matching : m ≡ Some a.matching
  pub octets : d ≡ Some a.octets

association_some : (u s m : Option ℕ) (d : Option (List ℕ)) (a : Association) → association_of u s m d ≡ Some a → Fields u s m d a
association_some None s m d a e = absurd (none-some a e)
association_some (Some u) None m d a e = absurd (none-some a e)
association_some (Some u) (Some s) None d a e = absurd (none-some a e)
association_some (Some u) (Some s) (Some m) None a e = absurd (none-some a e)
association_some (Some u) (Some s) (Some m) (Some d) a e = let same = same_Some _ a e in record {
  usage = ap (λ (b : Association). Some b.usage) same;
  selector = ap (λ (b : Association). Some b.selector) same;
  matching = ap (λ (b : Association). Some b.matching) same;
  octets = ap (λ (b : Association). Some b.octets) same;
}

pub tlsa_line_is_the_grammar : TlsaLineIsTheGrammar
unfolding read_tlsa_line
tlsa_line_is_the_grammar s a = (
  read,
  λ (f₁, r₁, e₁, usage, (b₁, s₁, e₂, blanks₁, (f₂, r₂, e₃, selector, (b₂, s₂, e₄, blanks₂, (f₃, r₃, e₅, matching, (b₃, s₃, e₆, blanks₃, hex)))))).
      stand f₁ b₁ f₂ b₂ f₃ b₃ s₁ s₂ s₃ (cc) (cc) (cc) usage blanks₁ selector blanks₂ matching blanks₃ hex,
)
  where
    read : read_tlsa_line s ≡ Some a → TlsaLineOf a s
    read h =
        let (f₁, s₁, h₁, k₁) = fields_some (field s) _ a h in
        let (f₂, s₂, h₂, k₂) = fields_some (field s₁) _ a k₁ in
        let (f₃, s₃, h₃, k₃) = fields_some (field s₂) _ a k₂ in
        let found = association_some (decimal_octet f₁) (decimal_octet f₂) (decimal_octet f₃) (hex_octets s₃) a k₃ in
        let (b₁, e₁, clean₁, blanks₁, n₁) = (field_apart s f₁ s₁).0 h₁ in
        let (b₂, e₂, clean₂, blanks₂, n₂) = (field_apart s₁ f₂ s₂).0 h₂ in
        let (b₃, e₃, clean₃, blanks₃, n₃) = (field_apart s₂ f₃ s₃).0 h₃ in (
          f₁,
          b₁ ++ s₁,
          e₁,
          (flags_field f₁ a.usage).0 found.usage,
          (b₁, s₁, refl, blanks₁, (f₂, b₂ ++ s₂, e₂, (flags_field f₂ a.selector).0 found.selector, (b₂, s₂, refl, blanks₂, (f₃, b₃ ++ s₃, e₃, (flags_field f₃ a.matching).0 found.matching, (b₃, s₃, refl, blanks₃, (hex_field s₃ a.octets n₃).0 found.octets))))),
        )

    stand :
        (f₁ b₁ f₂ b₂ f₃ b₃ s₁ s₂ s₃ : List ℕ) → s ≡ f₁ ++ (b₁ ++ s₁) → s₁ ≡ f₂ ++ (b₂ ++ s₂) → s₂ ≡ f₃ ++ (b₃ ++ s₃) → OctetField a.usage f₁ →
        some_blanks b₁ → OctetField a.selector f₂ → some_blanks b₂ → OctetField a.matching f₃ → some_blanks b₃ → HexField a.octets s₃ →
        read_tlsa_line s ≡ Some a
    stand f₁ b₁ f₂ b₂ f₃ b₃ s₁ s₂ s₃ e₁ e₂ e₃ usage blanks₁ selector blanks₂ matching blanks₃ hex =
        rw (
          (field_apart s f₁ s₁).1 (b₁, e₁, flags_blankless usage, blanks₁, rw e₂ (unblank f₂ selector.0 (flags_blankless selector) (b₂ ++ s₂))),
          (field_apart s₁ f₂ s₂).1 (b₂, e₂, flags_blankless selector, blanks₂, rw e₃ (unblank f₃ matching.0 (flags_blankless matching) (b₃ ++ s₃))),
          (field_apart s₂ f₃ s₃).1 (b₃, e₃, flags_blankless matching, blanks₃, hex.1),
          (flags_field f₁ a.usage).1 usage,
          (flags_field f₂ a.selector).1 selector,
          (flags_field f₃ a.matching).1 matching,
          (hex_field s₃ a.octets hex.1).1 hex,
        )
